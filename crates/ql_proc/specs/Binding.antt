-- Variables made of words in place, for proofs.
use Rattle.std.specs.Prelude.{ℕ, ◌+◌, ◌-◌, List, ◌++◌, length, take, drop}
use Rattle.ql_world.specs.declared.word.Slot.{Slot}
use Rattle.ql_world.specs.Tick.{slots_of, words_boxed}
use Rattle.ql_code.specs.Code.{unmasked}
use Rattle.ql_proc.specs.Slots.{words_of}

-- the slots with variables from this place on, of which these bits are stored
abbrev pub bound_from : (from mask first : ℕ) → List Slot → List Slot
bound_from from mask first ss = take from ss ++ slots_of (unmasked (length ss - from) mask) (words_of (drop from ss)) first

-- the number of the box after theirs
abbrev pub boxes_from : (from mask first : ℕ) → List Slot → ℕ
boxes_from from mask first ss = first + length (words_boxed (unmasked (length ss - from) mask) (words_of (drop from ss)))
