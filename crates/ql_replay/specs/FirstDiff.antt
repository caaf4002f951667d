-- Whether a book is a journal of a program, and else the first line at which it differs from all of them.
use Rattle.std.specs.Prelude.{◌≡◌, ℕ, ◌+◌, ◌<◌, ◌≤◌, List, [], ◌∷◌, length, take, Option, Some, None}
use Rattle.ql_base.specs.declared.limits.Limits.{Limits}
use Rattle.ql_base.specs.Limits.{usual}
use Rattle.ql_world.specs.Event.{Journal, plain}
use Rattle.ql_world.specs.declared.event.Head.{Head}
use Rattle.ql_world.specs.Text.{journal_text}
use Rattle.ql_world.specs.Run.{Story}
use Rattle.ql_replay.specs.Book.{lines_in, TextBegins, head_line, AreLow}

-- the limits that a head line tells; a journal does not tell the quantum and the policy, on which no run rests
abbrev pub limits_of : Head → Limits
limits_of h = record { budget = h.budget; cells = h.cells; procs = h.procs; output = h.output; quantum = usual.quantum; policy = usual.policy }

-- the numbers that the words of `run` can give
pub record IsUsable (h : Head) : Type 0 where
  pub budget_low : 1 ≤ h.budget
  pub budget_high : h.budget ≤ 20000000
  pub cells_low : 1 ≤ h.cells
  pub cells_high : h.cells ≤ 4000000
  pub procs : h.procs ≡ 65535
  pub output : h.output ≡ 16777216

-- the first line of the book is the head line of these numbers, each of 64 bits
pub record HasHead (book : List ℕ) (h : Head) : Type 0 where
  pub first : take 1 (lines_in book) ≡ Some (head_line h) ∷ []
  pub low : AreLow h

-- There is a text of which this is told.
module _ (IsText : List ℕ → Type 0) (book : List ℕ) where
  -- no such text begins with lines 1 to i of the book
  abbrev pub HasDiff : ℕ → Type 0
  HasDiff i = ¬ ((text : List ℕ) × (IsText text × TextBegins text (take i (lines_in book))))

  -- no difference up to any line, from 1
  abbrev pub HasNone : Type 0
  HasNone = (i : ℕ) → 1 ≤ i → i ≤ length (lines_in book) → ¬ HasDiff i

  pub data FirstAmong : Option ℕ → Type 0 where
    -- the least such line
    least : (i : ℕ) → 1 ≤ i → i ≤ length (lines_in book) → HasDiff i → ((j : ℕ) → 1 ≤ j → j < i → ¬ HasDiff j) → FirstAmong (Some i)
    -- the book stops short of such a text
    short : HasNone → ¬ IsText book → FirstAmong (Some (length (lines_in book) + 1))
    -- the book is such a text
    whole : HasNone → IsText book → FirstAmong None

-- what is told of a program under limits, along a schedule
module _ (told : Limits → List ℕ → Option Story) where
  -- the journal of a run of the program
  pub record IsJournal (limits : Limits) (journal : Journal) : Type 0 where
    pub schedule : List ℕ
    pub story : Story
    pub is_told : told limits schedule ≡ Some story
    pub is : journal ≡ story.journal

  -- its text, in version 2
  abbrev pub IsTextOf : Limits → List ℕ → Type 0
  IsTextOf limits text = (j : Journal) × (IsJournal limits j × (text ≡ journal_text j))

  -- the same in version 1
  abbrev pub IsPlainTextOf : Limits → List ℕ → Type 0
  IsPlainTextOf limits text = (j : Journal) × (IsJournal limits j × (text ≡ journal_text (plain j)))

  -- the first line at which the book differs, if it does
  pub data FirstDiff (book : List ℕ) : Option ℕ → Type 0 where
    -- the book tells its limits
    headed : (h : Head) → HasHead book h → IsUsable h → (d : Option ℕ) → FirstAmong (IsTextOf (limits_of h)) book d → FirstDiff book d
    -- it tells other limits
    beyond : (h : Head) → HasHead book h → ¬ IsUsable h → FirstDiff book (Some 1)
    -- it is of version 1
    headless : ((h : Head) → ¬ HasHead book h) → (d : Option ℕ) → FirstAmong (IsPlainTextOf usual) book d → FirstDiff book d
