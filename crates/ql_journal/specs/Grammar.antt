-- Which texts are journals. Nothing here reads: a line is what an event is written as.
use Rattle.std.specs.Prelude.{◌≡◌, ◌≢◌, ℕ, ◌+◌, ◌==◌, ◌≤◌, Bool, true, false, not, ◌&&◌, List, [], ◌∷◌, ◌++◌, length, Option, Some, None}
use Rattle.ql_world.specs.declared.event.Stop.{Stop}
use Rattle.ql_world.specs.declared.event.Stop.TheVariants.{Fault as fault}
use Rattle.ql_world.specs.declared.event.Mode.{Mode}
use Rattle.ql_world.specs.declared.event.Mode.TheVariants.{Let as binding, Call as called, Eager as eager}
use Rattle.ql_world.specs.declared.event.Event.{Event}
use Rattle.ql_world.specs.declared.event.Event.TheVariants.{Turn as turn, Spawn as spawn, Opened as opened, Exit as exit, Throw as throw, Land as land, Kill as kill, Protect as protect, Begin as begin, Finish as finish, Send as send, Take as take, Reply as reply, EndOk as end_ok, EndKilled as end_killed, Stopped as stopped}
use Rattle.ql_world.specs.declared.event.Head.{Head}
use Rattle.ql_world.specs.Event.{Journal}
use Rattle.ql_world.specs.Short.{IsShort}
use Rattle.ql_world.specs.Text.{line_of, head_text, journal_text}
pub use Rattle.ql_journal.specs.declared.order.Before.{Before}
pub use Rattle.ql_journal.specs.declared.order.Before.TheVariants.{Other as other_line, Turn as turn_line, Stop as stop_line}

-- the greatest number of a process, a catch or a process closure
abbrev pub most_id : ℕ
most_id = 4294967295

abbrev pub most_count : ℕ
most_count = 18446744073709551615

abbrev pub IsId : ℕ → Type 0
IsId n = n ≤ most_id

abbrev pub IsCount : ℕ → Type 0
IsCount n = n ≤ most_count

-- a text stands there, or none
abbrev pub HasText : Bool → Option (List ℕ) → Type 0
HasText true (Some text) = IsShort text
HasText true None = Prim.⊥
HasText false (Some text) = Prim.⊥
HasText false None = Unit {0}

-- whether a process that ends hands a text on, in a journal with texts or in one without
abbrev pub hands_on : Bool → ℕ → Bool
hands_on texts p = texts && not (p == 1)

abbrev pub IsMode : Mode → Type 0
IsMode binding = Unit {0}
IsMode (called k) = IsId k
IsMode (eager k) = IsId k

abbrev pub IsStop : Stop → Type 0
IsStop (fault kind p at) = IsId p × IsCount at
IsStop _ = Unit {0}

-- what can stand in a journal with texts, or in one without
abbrev pub IsEvent : (texts : Bool) → Event → Type 0
IsEvent texts (turn p n) = IsId p × (1 ≤ n) × IsCount n
IsEvent texts (spawn p q c mode) = IsId p × IsId q × IsId c × IsMode mode
IsEvent texts (opened p c d) = IsId p × IsId c × IsId d
IsEvent texts (exit p c) = IsId p × IsId c
IsEvent texts (throw p c) = IsId p × IsId c
IsEvent texts (land p c) = IsId p × IsId c
IsEvent texts (kill c q) = IsId c × IsId q
IsEvent texts (protect p u) = IsId p × IsCount u
IsEvent texts (begin p u) = IsId p × IsCount u
IsEvent texts (finish p u) = IsId p × IsCount u
IsEvent texts (send p k n) = IsId p × IsId k × IsCount n
IsEvent texts (take q k n) = IsId q × IsId k × IsCount n
IsEvent texts (reply q k n text) = IsId q × IsId k × IsCount n × HasText texts text
IsEvent texts (end_ok p text) = IsId p × HasText (hands_on texts p) text
IsEvent texts (end_killed p) = IsId p
IsEvent texts (stopped stop) = IsStop stop

-- what a line is for the one after it
abbrev pub ending : Event → Before
ending (turn p n) = turn_line p
ending (stopped stop) = stop_line
ending _ = other_line

-- No line comes after a stop line, and no turn after one of the same process.
abbrev pub may_follow : Before → Before → Bool
may_follow stop_line next = false
may_follow (turn_line p) (turn_line q) = not (p == q)
may_follow _ _ = true

-- these events can stand in a journal after such a line
abbrev pub AreEvents : (texts : Bool) → Before → List Event → Type 0
AreEvents texts before [] = Unit {0}
AreEvents texts before (e ∷ es) = IsEvent texts e × (may_follow before (ending e) ≡ true) × AreEvents texts (ending e) es

-- what the last line is
abbrev pub after_all : Before → List Event → Before
after_all before [] = before
after_all before (e ∷ es) = after_all (ending e) es

-- a journal with a head has texts
abbrev pub has_texts : Option Head → Bool
has_texts None = false
has_texts (Some h) = true

abbrev pub IsHead : Option Head → Type 0
IsHead None = Unit {0}
IsHead (Some h) = IsCount h.budget × IsCount h.cells × IsCount h.procs × IsCount h.output

-- a journal, of a run that may go on
pub record IsJournal (j : Journal) : Type 0 where
  pub head : IsHead j.head
  pub events : AreEvents (has_texts j.head) other_line j.events

-- a journal whose last line is a stop line
pub record IsWhole (j : Journal) : Type 0 where
  pub journal : IsJournal j
  pub stop : after_all other_line j.events ≡ stop_line

-- the text begins with a head line, or with none
abbrev pub BeginsWith : Option Head → List ℕ → Type 0
BeginsWith (Some h) text = (rest : List ℕ) × IsHead (Some h) × (text ≡ head_text (Some h) ++ rest)
BeginsWith None text = (h : Head) (rest : List ℕ) → IsHead (Some h) → text ≡ head_text (Some h) ++ rest → Prim.⊥

-- the text begins with lines of a journal, and this rest follows
pub record Begins (text : List ℕ) (j : Journal) (rest : List ℕ) : Type 0 where
  pub opening : BeginsWith j.head text
  pub journal : IsJournal j
  pub whole : text ≡ journal_text j ++ rest

-- no line of a journal is next, after such a line
abbrev pub NoneIsNext : (texts : Bool) → Before → List ℕ → Type 0
NoneIsNext texts before rest = (e : Event) (u : List ℕ) → IsEvent texts e → may_follow before (ending e) ≡ true → rest ≡ line_of e ++ 10 ∷ u → Prim.⊥

abbrev pub head_lines : Option Head → ℕ
head_lines None = 0
head_lines (Some h) = 1

-- what is said of a text: the journal that it spells, its first line outside the grammar, or that its last line is no stop
-- line
pub data Verdict : Type 0 where
  spells : Journal → Verdict
  bad_line : ℕ → Verdict
  no_stop : Verdict

-- this line, from 1, is the first one outside the grammar
pub record IsFirstOutside (text : List ℕ) (line : ℕ) : Type 0 where
  pub before : Journal
  pub rest : List ℕ
  pub begins : Begins text before rest
  pub some : rest ≢ []
  pub outside : NoneIsNext (has_texts before.head) (after_all other_line before.events) rest
  pub place : line ≡ head_lines before.head + length before.events + 1

-- all lines are in the grammar, and the last is no stop line
pub record LacksStop (text : List ℕ) : Type 0 where
  pub before : Journal
  pub begins : Begins text before []
  pub no_stop : after_all other_line before.events ≢ stop_line

abbrev pub Judges : List ℕ → Verdict → Type 0
Judges text (spells j) = IsWhole j × (text ≡ journal_text j)
Judges text (bad_line line) = IsFirstOutside text line
Judges text no_stop = LacksStop text
