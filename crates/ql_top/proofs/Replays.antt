-- What following a book along a source's program answers.
use Rattle.std.proofs.Common.{◌≡◌, ◌≤◌, ◌∙◌, ℕ, true, List, [], Option, Some, refl, sym, ap, subst, inl, inr}
use Rattle.std.specs.Prelude.{Result, Ok, Err}
use Rattle.ql_base.specs.declared.limits.Limits.{Limits}
use Rattle.ql_forms.specs.Form.{Forms}
use Rattle.ql_forms.specs.View.{forms_of}
use Rattle.ql_forms.specs.declared.text.Text.{Text}
use Rattle.ql_expand.specs.Core.{Program}
use Rattle.ql_expand.specs.Expands.{ExpandsTo}
use Rattle.ql_scope.specs.Compilable.{is_compilable}
use Rattle.ql_scope.specs.Scope.{InScope}
use Rattle.ql_code.specs.Code.{Code}
use Rattle.ql_code.specs.Machine.{code_told}
use Rattle.ql_meaning.specs.Meaning.{program_told}
use Rattle.ql_compile.specs.Laws.{CodeFollows}
use Rattle.ql_replay.specs.Answer.{AnswersTaken, IsRightOn, IsReadOutOn, IsNotPast, IsCutOff}
use Rattle.ql_replay.specs.FirstDiff.{FirstDiff}
use Rattle.ql_replay.specs.Law.{IsRight, IsSameElsewhere}
use Rattle.ql_replay.specs.Replay.{same, differs}
use Rattle.ql_replay.specs.declared.verdict.ReplayFault.{ReplayFault}
use Rattle.ql_replay.specs.declared.verdict.Verdict.{Verdict}
use Rattle.ql_replay.specs.declared.verdict.Verdict.TheVariants.{Same, Differs as Differ}
use Rattle.ql_top.specs.Acts.{IsCodeOf, StopsText, HoldsOfBook, ReplaysSome}
use Rattle.ql_top.specs.Reading.{ReadsAll, StopsReading}
use Rattle.ql_top.specs.Replay.{Telling, EndsFollowing, AnswersReplay}
use Rattle.ql_top.specs.Top.{Unfit, Refusal, IsSource, IsAccepted, Shows}
use Rattle.ql_top.specs.declared.status.Status.{Status}
use Rattle.ql_top.specs.declared.status.Status.TheVariants.{Done, Refused, Words, Fault, Budget, Deadlock, Limit, NoMemory, ReadFault, WriteFault, Differs}
use Rattle.ql_top.proofs.Answering.{stopped_source, stopped_text, holds_at_end, accepted_text, same_refusal, RefusedOrFailed}
use Rattle.ql_top.proofs.Pieces.{takes_nothing}

-- ---- a source that is refused, or read no further

-- the book was left alone
untouched : {Holds : List ℕ → Option (List ℕ) → Type 0} (book : Option (List ℕ)) → ((held : List ℕ) → Holds held (Some held)) → HoldsOfBook Holds book book
untouched {Holds} book h = record {
  told = λ held e. subst (λ rest. Holds held rest) (sym e) (h held);
  taken = record { taken = []; takes = takes_nothing book; holds = h [] };
}

module _ (book o : Option (List ℕ)) where
  -- the answer where the book was left alone, and nothing is written
  abbrev Unread : Status → List ℕ → Option (List ℕ) → Type 0
  Unread status b left = HoldsOfBook (λ held rest. AnswersReplay status b left held rest o o) book book

  pub stopped_replay : (status : Status) (left left' : Option (List ℕ)) → StopsReading status left left' → ReplaysSome status left left' book book o o
  stopped_replay =
      stopped_source Unread (λ kind at b left r. untouched book (λ held. (r, refl))) (λ b left. untouched book (λ held. tt))
      (λ b left c. untouched book (λ held. inl (c, refl)))

  pub unfit_replay : ((b : List ℕ) (k n kind at : ℕ) → Refusal b k n → Refusal b kind at → (k ≡ kind) × (n ≡ at))
      → ((names : List (List ℕ)) (forms : Forms) (kind at : ℕ) → Unfit names forms kind at → 9 ≤ kind)
      → (text : Text) (left left' : Option (List ℕ)) → ReadsAll text left left' → (status : Status) → StopsText status text.names (forms_of text.forms)
      → ReplaysSome status left left' book book o o
  unfit_replay =
      stopped_text Unread (λ kind at b left r. untouched book (λ held. (r, refl))) (λ b left. untouched book (λ held. tt))
      (λ b left c. untouched book (λ held. inl (c, refl)))

-- there wasn't memory for the words
pub no_memory_replay : (status : Status) → status ≡ NoMemory → (left book o : Option (List ℕ)) → ReplaysSome status left left book book o o
no_memory_replay status e left book o = subst (λ s. ReplaysSome s left left book book o o) (sym e) (record {
  taken = [];
  takes = takes_nothing left;
  holds = λ rest h. untouched book (λ held. tt);
})

-- ---- code that a book is followed along

-- for every book
pub of_book : (tells : Telling) (answer : Result Verdict ReplayFault) (status : Status) (book book' o o' : Option (List ℕ))
    → ((bytes : List ℕ) → book ≡ Some bytes → IsRightOn tells bytes answer) → ((bytes : List ℕ) → book ≡ Some bytes → IsReadOutOn answer book')
    → ((bytes : List ℕ) → book ≡ Some bytes → IsNotPast tells bytes answer book') → AnswersTaken tells answer book book'
    → ((held : List ℕ) (rest : Option (List ℕ)) → IsRightOn tells held answer → IsReadOutOn answer rest → IsNotPast tells held answer rest
    → EndsFollowing status tells held rest o o')
    → HoldsOfBook (λ held rest. EndsFollowing status tells held rest o o') book book'
of_book tells answer status book book' o o' right end early every comes = record {
  told = λ held e. comes held book' (right held e) (end held e) (early held e);
  taken = record { taken = every.taken; takes = every.takes; holds = comes every.taken (Some []) every.right (at_end answer) every.early };
}
  where
    at_end : (answer : Result Verdict ReplayFault) → IsReadOutOn answer (Some [])
    at_end (Ok (Same output)) = refl
    at_end (Ok (Differ line)) = tt
    at_end (Err e) = tt

-- the output of a book that is one of the journals was shown
pub same_shown : (tells : Telling) (held output : List ℕ) (rest o o' : Option (List ℕ)) (status : Status) → IsRight tells held (same output)
    → rest ≡ Some [] → Shows status output o o' → EndsFollowing status tells held rest o o'
same_shown tells held output rest o o' Done right e w = record { output = output; right = right; read_out = e; shown = w }
same_shown tells held output rest o o' WriteFault right e w = record { output = output; right = right; read_out = e; shown = w }
same_shown tells held output rest o o' (Refused kind at) right e w = absurd w
same_shown tells held output rest o o' Words right e w = absurd w
same_shown tells held output rest o o' (Fault kind p at) right e w = absurd w
same_shown tells held output rest o o' Budget right e w = absurd w
same_shown tells held output rest o o' Deadlock right e w = absurd w
same_shown tells held output rest o o' (Limit kind) right e w = absurd w
same_shown tells held output rest o o' NoMemory right e w = absurd w
same_shown tells held output rest o o' ReadFault right e w = absurd w
same_shown tells held output rest o o' (Differs line) right e w = absurd w

-- ---- from the code to the program

-- two that tell the same
module _ (carries : IsSameElsewhere) (told also : Telling) (alike : (limits : Limits) (schedule : List ℕ) → told limits schedule ≡ also limits schedule) where
  first_back : (book : List ℕ) (k : ℕ) → FirstDiff also book (Some k) → FirstDiff told book (Some k)
  first_back book k f =
      (carries also told (λ limits schedule. sym (alike limits schedule)) book (differs k) (record { first = f; output = λ out e. absurd cc })).first

  cut_carried : (held : List ℕ) (rest : Option (List ℕ)) → IsCutOff told held rest → IsCutOff also held rest
  cut_carried held rest h =
      record { taken = h.taken; rest = h.rest; whole = h.whole; left = h.left; later = λ k f. h.later k (first_back held k f) }

  pub carried : (held : List ℕ) (rest o o' : Option (List ℕ)) (status : Status) → EndsFollowing status told held rest o o' → EndsFollowing status also held rest o o'
  carried held rest o o' Done h =
      record { output = h.output; right = carries told also alike held (same h.output) h.right; read_out = h.read_out; shown = h.shown }
  carried held rest o o' WriteFault h =
      record { output = h.output; right = carries told also alike held (same h.output) h.right; read_out = h.read_out; shown = h.shown }
  carried held rest o o' (Differs line) h = carries told also alike held (differs line) h
  carried held rest o o' ReadFault h = cut_carried held rest h
  carried held rest o o' NoMemory h = tt
  carried held rest o o' (Refused kind at) h = absurd h
  carried held rest o o' Words h = absurd h
  carried held rest o o' (Fault kind p at) h = absurd h
  carried held rest o o' Budget h = absurd h
  carried held rest o o' Deadlock h = absurd h
  carried held rest o o' (Limit kind) h = absurd h

-- the answer for a source that is accepted
answers_following : (b : List ℕ) (a : IsAccepted b (Some [])) (held : List ℕ) (rest o o' : Option (List ℕ)) (status : Status)
    → EndsFollowing status (program_told a.source.names a.program) held rest o o' → AnswersReplay status b (Some []) held rest o o'
answers_following b a held rest o o' Done h = record { of = a; holds = h }
answers_following b a held rest o o' WriteFault h = record { of = a; holds = h }
answers_following b a held rest o o' (Differs line) h = record { of = a; holds = h }
answers_following b a held rest o o' ReadFault h = inr (record { of = a; holds = h })
answers_following b a held rest o o' NoMemory h = tt
answers_following b a held rest o o' (Refused kind at) h = absurd h
answers_following b a held rest o o' Words h = absurd h
answers_following b a held rest o o' (Fault kind p at) h = absurd h
answers_following b a held rest o o' Budget h = absurd h
answers_following b a held rest o o' Deadlock h = absurd h
answers_following b a held rest o o' (Limit kind) h = absurd h

pub followed_replay : ((b : List ℕ) (p : Program) → IsSource b p → (kind at : ℕ) → Refusal b kind at → Prim.⊥)
    → ((forms : Forms) (p : Program) → ExpandsTo forms p → InScope p → is_compilable p ≡ true)
    → ((p : Program) → is_compilable p ≡ true → (names : List (List ℕ)) (limits : Limits) → CodeFollows names p limits) → IsSameElsewhere
    → (text : Text) (left left' book book' o o' : Option (List ℕ)) → ReadsAll text left left' → (code : Code)
    → IsCodeOf code text.names (forms_of text.forms) → (status : Status)
    → HoldsOfBook (λ held rest. EndsFollowing status (code_told text.names code) held rest o o') book book' → ReplaysSome status left left' book book' o o'
followed_replay not_refused compilable follows carries text left left' book book' o o' r code c status h =
    let m = c.makes in
    let a = accepted_text not_refused text left left' r c.program m in
    let alike = λ (limits : Limits) (schedule : List ℕ). ap (λ k. code_told text.names k limits schedule) c.code_is
    ∙ follows c.program (compilable (forms_of text.forms) c.program m.expands m.in_scope) text.names limits schedule in
    let answer = λ (held : List ℕ) (rest : Option (List ℕ)) (e : EndsFollowing status (code_told text.names code) held rest o o').
    answers_following r.taken a held rest o o' status (carried carries (code_told text.names code) (program_told text.names c.program) alike held rest o o' status e) in
    holds_at_end r.taken left left' r.takes r.at_end (record {
      told = λ held e. answer held book' (h.told held e);
      taken = record { taken = h.taken.taken; takes = h.taken.takes; holds = answer h.taken.taken (Some []) h.taken.holds };
    })

-- what must be refused is
pub must_refuse_replay : (status : Status) (b : List ℕ) (left : Option (List ℕ)) (held : List ℕ) (rest o o' : Option (List ℕ)) (kind at : ℕ)
    → AnswersReplay status b left held rest o o' → Refusal b kind at → RefusedOrFailed status kind at
must_refuse_replay (Refused k n) b left held rest o o' kind at h f = inl (same_refusal b left k n kind at h.0 f)
must_refuse_replay NoMemory b left held rest o o' kind at h f = inr (inl refl)
must_refuse_replay ReadFault b left held rest o o' kind at h f = inr (inr refl)
must_refuse_replay Done b left held rest o o' kind at h f = absurd (h.of.accepted kind at f)
must_refuse_replay WriteFault b left held rest o o' kind at h f = absurd (h.of.accepted kind at f)
must_refuse_replay (Differs line) b left held rest o o' kind at h f = absurd (h.of.accepted kind at f)
must_refuse_replay Words b left held rest o o' kind at h f = absurd (h.of.accepted kind at f)
must_refuse_replay (Fault k p n) b left held rest o o' kind at h f = absurd (h.of.accepted kind at f)
must_refuse_replay Budget b left held rest o o' kind at h f = absurd (h.of.accepted kind at f)
must_refuse_replay Deadlock b left held rest o o' kind at h f = absurd (h.of.accepted kind at f)
must_refuse_replay (Limit k) b left held rest o o' kind at h f = absurd (h.of.accepted kind at f)
