-- Whether silent instructions stay above a place in a stack.
use Rattle.std.specs.Prelude.{◌++◌, option_to_list, reverse, ℕ, zero, suc, ◌+◌, ◌==◌, leb, ◌&&◌, Bool, true, false, if◌then◌else◌, List, [], ◌∷◌, length, map, drop as without_first, Option, Some, None, is_none, slice_get}
use Rattle.ql_world.specs.declared.word.Slot.{Slot}
use Rattle.ql_world.specs.Word.{first_future}
use Rattle.ql_code.specs.declared.code.Op.{Op}
use Rattle.ql_code.specs.declared.code.Op.TheVariants.{Jump as jump, Drop as drop, Slide as slide, Touch as touch, Join as join}
use Rattle.ql_code.specs.declared.mark.Mark.{Mark}
use Rattle.ql_code.specs.Code.{Instruction}
use Rattle.ql_code.specs.Machine.{slot, words, joins_at}
use Rattle.ql_proc.specs.declared.inside.Next.{Next}
use Rattle.ql_proc.specs.declared.inside.Next.TheVariants.{Known as known, At as next_at}

abbrev pub stays_past_join : (ℕ → List Slot → Bool) → Option Mark → ℕ → List Slot → Bool
stays_past_join next None pc ss = false
stays_past_join next (Some k) pc ss = if joins_at pc (Some k) then true else next (pc + 1) ss

abbrev pub stays_past : (ℕ → List Slot → Bool) → Option Mark → Op → ℕ → List Slot → Bool
stays_past next k (jump l) pc ss = next l ss
stays_past next k drop pc [] = false
stays_past next k drop pc (s ∷ ss) = next (pc + 1) ss
stays_past next k (slide n) pc [] = false
stays_past next k (slide n) pc (s ∷ ss) = leb n (length ss) && next (pc + 1) (s ∷ without_first n ss)
stays_past next k join pc ss = stays_past_join next k pc ss
stays_past next k (touch n) pc ss =
    (length (words n (map slot ss)) == n) && (if is_none (first_future (words n (map slot ss))) then next (pc + 1) ss else true)
stays_past next k op pc ss = true

abbrev pub stays_at : (ℕ → List Slot → Bool) → Option Mark → Option Instruction → ℕ → List Slot → Bool
stays_at next k None pc ss = true
stays_at next k (Some i) pc ss = stays_past next k i.op pc ss

module _ (code : List Instruction) (k : Option Mark) where
  -- Whether at most so many silent instructions, from a place on, find all that they look at, where these slots, the topmost
  -- first, stand on mark k, or on nothing.
  abbrev pub stays : (left pc : ℕ) → List Slot → Bool
  stays zero pc ss = true
  stays (suc n) pc ss = stays_at (stays n) k (slice_get code pc) pc ss

-- The rest is for proofs.

-- whether they stay, by what follows an instruction
abbrev pub then_stays : (ℕ → List Slot → Bool) → Next → Bool
then_stays next (known b) = b
then_stays next (next_at pc top under) = next pc (option_to_list top ++ reverse under.now)
