-- What the command `span` answers for a book.
use Rattle.std.specs.Prelude.{◌≡◌, ◌≤◌, ◌<◌, ◌+◌, ◌++◌, ℕ, List, [], length, Option, Some, Vec, Result, Ok, Err}
use Rattle.ql_base.specs.Outside.{Appends, AppendsFront}
use Rattle.ql_world.specs.Event.{Journal}
use Rattle.ql_journal.specs.Grammar.{Judges, spells, bad_line, no_stop}
use Rattle.ql_replay.specs.Following.{feeds}
use Rattle.ql_span.specs.Chain.{Span, IsSpanOf}
use Rattle.ql_span.specs.Text.{span_text}
use Rattle.ql_top.specs.Book.{most}
use Rattle.ql_top.specs.declared.status.Status.{Status}
use Rattle.ql_top.specs.declared.status.Status.TheVariants.{Done, Refused, NoMemory, ReadFault, WriteFault}

-- What refuses a book, by kind and place: its length, or else its first line outside the grammar of journals, or else that its last
-- line, which ends like all lines with a line feed, is no stop line.
pub data BadBook : List ℕ → (kind at : ℕ) → Type 0 where
  big_book : {book : List ℕ} → most < length book → BadBook book 22 most
  by_line : {book : List ℕ} {line : ℕ} → length book ≤ most → Judges book (bad_line line) → BadBook book 20 line
  by_end : {book : List ℕ} → length book ≤ most → Judges book no_stop → BadBook book 21 (feeds book)

-- this refuses the book, and nothing else does
pub record IsOnlyBad (book : List ℕ) (kind at : ℕ) : Type 0 where
  pub bad : BadBook book kind at
  pub only : (k n : ℕ) → BadBook book k n → (k ≡ kind) × (n ≡ at)

-- This refuses the book. Of one that is too long at most 4,096 bytes more are read than may be held; any other is read to its end.
pub record IsRefusedBook (kind at : ℕ) (book : List ℕ) (left : Option (List ℕ)) : Type 0 where
  pub is : IsOnlyBad book kind at
  pub taken : List ℕ
  pub rest : List ℕ
  pub parts : book ≡ taken ++ rest
  pub is_left : left ≡ Some rest
  pub near : length taken ≤ most + 4096
  pub whole : kind ≤ 21 → rest ≡ []

-- a call of the book failed, before more bytes were taken than may be held
pub record IsBrokenOff (book : List ℕ) (left : Option (List ℕ)) : Type 0 where
  pub taken : List ℕ
  pub rest : List ℕ
  pub parts : book ≡ taken ++ rest
  pub is_left : left ≡ Some rest
  pub few : length taken ≤ most

-- these are the lines of the journal's span
abbrev pub IsSpanText : Journal → (text : List ℕ) → Type 0
IsSpanText journal text = (span : Span) × IsSpanOf journal span × (text ≡ span_text span)

-- the book spells a journal, nothing refuses it, and these are the lines of its span
pub record HasSpan (book : List ℕ) (text : List ℕ) : Type 0 where
  pub journal : Journal
  pub spells : Judges book (spells journal)
  pub accepted : (kind at : ℕ) → BadBook book kind at → Prim.⊥
  pub is : IsSpanText journal text

-- what is wrong with a whole book, or want of memory
abbrev pub StopsSpan : Status → (book : List ℕ) → Type 0
StopsSpan (Refused kind at) book = IsOnlyBad book kind at
StopsSpan NoMemory book = Prim.Unit {0}
StopsSpan status book = Prim.⊥

-- the lines of the span, or why there are none
abbrev pub Finds : {A : Type 0} → Result (Vec ℕ A) Status → (book : List ℕ) → Type 0
Finds (Ok text) book = HasSpan book text.items
Finds (Err status) book = StopsSpan status book

-- the whole book was read, and of the lines of its span this holds
pub record IsSpanned (book : List ℕ) (left : Option (List ℕ)) (Shown : (text : List ℕ) → Type 0) : Type 0 where
  pub text : List ℕ
  pub has_span : HasSpan book text
  pub none_left : left ≡ Some []
  pub shown : Shown text

abbrev pub AnswersSpan : Status → (book : List ℕ) → (left out out' : Option (List ℕ)) → Type 0
AnswersSpan Done book left out out' = IsSpanned book left (λ text. Appends text out out')
AnswersSpan WriteFault book left out out' = IsSpanned book left (λ text. AppendsFront text out out')
AnswersSpan (Refused kind at) book left out out' = IsRefusedBook kind at book left
AnswersSpan ReadFault book left out out' = IsBrokenOff book left
AnswersSpan NoMemory book left out out' = Prim.Unit {0}
AnswersSpan status book left out out' = Prim.⊥
