-- What a process can do by itself, with a look at nothing but the top of its stack.
use Rattle.std.specs.Prelude.{ℕ, zero, suc, ◌+◌, ◌==◌, leb, Bool, true, if◌then◌else◌, List, [], ◌∷◌, length, drop as without_first, Option, Some, None, is_none, is_some, slice_get, option_map, option_and_then, IsTrue, ◌≤◌, ◌≡◌}
use Rattle.ql_world.specs.Word.{is_nil, first_future}
use Rattle.ql_world.specs.declared.word.Word.{Word}
use Rattle.ql_world.specs.declared.word.Slot.{Slot}
use Rattle.ql_world.specs.declared.word.Slot.TheVariants.{Val as plain}
use Rattle.ql_world.specs.Operator.{operator_of, takes_apart, computed}
use Rattle.ql_world.specs.declared.operator.Operator.{Operator}
use Rattle.ql_world.specs.declared.operator.Computed.{Computed as Result}
use Rattle.ql_world.specs.declared.operator.Computed.TheVariants.{Gives as gives}
use Rattle.ql_world.specs.declared.world.Aim.{Aim}
use Rattle.ql_world.specs.declared.world.Process.{Process}
use Rattle.ql_code.specs.Code.{Op, lit, local, branch, drop, slide, bind, call, return, touch, join, prim, Instruction}
use Rattle.ql_code.specs.Machine.{Mark, returning, base, Item, slot, mark, State, running, over, Point, word, words, push, slot_at, top_mark, below_mark, silent, operand_count}

-- What is known of a process without the rest of its stack.
pub record Window : Type 0 where
  pub place : ℕ
  pub aim : Aim
  pub state : State
  -- the topmost first
  pub items : List Item

-- from the n-th mark upward, or all where there are fewer
abbrev pub topmost : ℕ → List Item → List Item
topmost zero st = []
topmost (suc n) [] = []
topmost (suc n) (slot s ∷ st) = slot s ∷ topmost (suc n) st
topmost (suc n) (mark k ∷ st) = mark k ∷ topmost n st

-- what is under these
abbrev pub beneath : ℕ → List Item → List Item
beneath zero st = st
beneath (suc n) [] = []
beneath (suc n) (slot s ∷ st) = beneath (suc n) st
beneath (suc n) (mark k ∷ st) = beneath n st

abbrev pub window_of : Process Point → Window
window_of q = record { place = q.thread.place; aim = q.aim; state = if q.ended then over else q.thread.state; items = topmost 64 q.thread.stack }

-- the n words on top, the topmost one last, where there are so many
abbrev pub operands : ℕ → List Item → Option (List Word)
operands n st = if length (words n st) == n then Some (words n st) else None

-- the same where none is a future
abbrev pub untouched : ℕ → List Item → Option (List Word)
untouched n st = if is_none (first_future (words n st)) then operands n st else None

-- the slots of the topmost frame, where its bottom is there
abbrev pub whole_frame : List Item → Option (List Slot)
whole_frame [] = None
whole_frame (slot s ∷ st) = option_map (λ ss. s ∷ ss) (whole_frame st)
whole_frame (mark (returning pc) ∷ st) = Some []
whole_frame (mark (base j) ∷ st) = Some []
whole_frame (mark k ∷ st) = whole_frame st

abbrev pub word_in : Option Slot → Option Word
word_in (Some (plain w)) = Some w
word_in _ = None

-- the pairs that can be seen, the first ones of the run; with none not even nil is taken apart
abbrev pub Seen : Type 0
Seen = Option (List (Word × Word))

abbrev pub result_in : Seen → Operator → List Word → Option Result
result_in None o ws = if takes_apart o then None else computed [] o ws
result_in (Some pairs) o ws = computed pairs o ws

-- what a primitive gives by itself, without an error or a new pair
abbrev pub given : Option Result → Option Word
given (Some (gives w)) = Some w
given _ = None

abbrev pub branched : ℕ → ℕ → List Item → List Word → Option (ℕ × List Item)
branched l pc st (w ∷ []) = Some (if is_nil w then l else pc + 1, st)
branched l pc st ws = None

abbrev pub returned : Option Mark → List Item → List Word → Option (ℕ × List Item)
returned (Some (returning pc)) st (w ∷ []) = Some (pc, word w ∷ st)
returned k st ws = None

abbrev pub computed_by : Seen → Option Operator → ℕ → List Item → Option (ℕ × List Item)
computed_by seen None pc st = None
computed_by seen (Some o) pc st =
    option_and_then (λ ws. option_map (λ w. (pc + 1, word w ∷ without_first (operand_count (Some o)) st)) (given (result_in seen o ws))) (untouched (operand_count (Some o)) st)

-- Where a local tick goes on, and with which items, before the silent instructions that follow. There is none where the
-- tick isn't local.
abbrev pub local_op : Seen → Op → ℕ → List Item → Option (ℕ × List Item)
local_op seen (lit w) pc st = Some (pc + 1, word w ∷ st)
local_op seen (local i) pc st = option_map (λ w. (pc + 1, word w ∷ st)) (option_and_then (λ ss. word_in (slot_at ss i)) (whole_frame st))
local_op seen (branch l) pc st = option_and_then (branched l pc (without_first 1 st)) (untouched 1 st)
local_op seen (prim s) pc st = computed_by seen (operator_of s) pc st
local_op seen (bind n mask) pc st = if mask == 0 then option_map (λ ws. (pc + 1, st)) (operands n st) else None
local_op seen (call l n mask) pc st = if mask == 0 then option_map (λ ws. (l, push ws (mark (returning (pc + 1)) ∷ without_first n st))) (operands n st) else None
local_op seen return pc st = option_and_then (returned (top_mark st) (below_mark st)) (operands 1 st)
local_op seen op pc st = None

-- how many slots stand above the topmost mark
abbrev pub loose : List Item → ℕ
loose [] = 0
loose (slot s ∷ st) = suc (loose st)
loose (mark k ∷ st) = 0

-- whether a silent instruction finds all that it looks at among these items
abbrev pub is_within : Op → List Item → Bool
is_within drop st = leb 1 (loose st)
is_within (slide n) st = leb (n + 1) (loose st)
is_within join st = is_some (top_mark st)
is_within (touch n) st = is_some (operands n st)
is_within op st = true

abbrev pub past : (ℕ → List Item → Option (ℕ × List Item)) → Option (ℕ × List Item) → ℕ → List Item → Option (ℕ × List Item)
past next None pc st = Some (pc, st)
past next (Some x) pc st = next x.0 x.1

abbrev pub settle_in_at : (ℕ → List Item → Option (ℕ × List Item)) → Option Instruction → ℕ → List Item → Option (ℕ × List Item)
settle_in_at next None pc st = Some (pc, st)
settle_in_at next (Some i) pc st = if is_within i.op st then past next (silent i.op pc st) pc st else None

abbrev pub or_here : Window → Option (ℕ × Window) → ℕ × Window
or_here a None = (0, a)
or_here a (Some x) = (suc x.0, x.1)

module _ (code : List Instruction) where
  -- past at most so many silent instructions, if they all stay within these items
  abbrev pub settle_in : ℕ → ℕ → List Item → Option (ℕ × List Item)
  settle_in zero pc st = Some (pc, st)
  settle_in (suc n) pc st = settle_in_at (settle_in n) (slice_get code pc) pc st

  abbrev pub local_tick : Seen → State → Option Instruction → ℕ → List Item → Option (ℕ × List Item)
  local_tick seen running (Some i) pc st = option_and_then (λ x. settle_in (length code) x.0 x.1) (local_op seen i.op pc st)
  local_tick seen _ _ pc st = None

  -- the window after its next tick, where that is local
  abbrev pub local_step : Seen → Window → Option Window
  local_step seen a = option_map (λ x. record a { place = x.0; items = x.1 }) (local_tick seen a.state (slice_get code a.place) a.place a.items)

  -- after n local ticks
  abbrev pub local_steps : Seen → ℕ → Window → Option Window
  local_steps seen zero a = Some a
  local_steps seen (suc n) a = option_and_then (local_steps seen n) (local_step seen a)

  -- n local ticks lead from window a to window b
  abbrev pub LocalPath : Window → ℕ → Window → Type 0
  LocalPath a n b = local_steps None n a ≡ Some b

  -- the same where these pairs can be seen
  abbrev pub LocalPathIn : List (Word × Word) → Window → ℕ → Window → Type 0
  LocalPathIn pairs a n b = local_steps (Some pairs) n a ≡ Some b

  abbrev pub is_next_local : Seen → Window → Bool
  is_next_local seen a = is_some (local_step seen a)

  -- The greatest number of local ticks from a window, of numbers that are at most so great.
  pub record IsGreatest (seen : Seen) (a : Window) (most n : ℕ) : Type 0 where
    pub within : n ≤ most
    pub is_path : IsTrue (is_some (local_steps seen n a))
    pub greatest : (k : ℕ) → k ≤ most → IsTrue (is_some (local_steps seen k a)) → k ≤ n

  -- as far as local ticks lead, at most so many
  abbrev pub farthest : Seen → ℕ → Window → ℕ × Window
  farthest seen zero a = (0, a)
  farthest seen (suc most) a = or_here a (option_map (farthest seen most) (local_step seen a))
