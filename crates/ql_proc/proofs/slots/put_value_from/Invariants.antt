use Rattle.std.proofs.Common.{◌≡◌, ◌++◌, true, map, take, drop}
use Rattle.std.specs.List.{list_all}
use Rattle.ql_world.specs.declared.word.Slot.TheVariants.{Val as plain}
use Rattle.ql_world.specs.Word.{with_value}
use Rattle.ql_proc.specs.Slots.{is_plain, words_of}
use Rattle.ql_proc.proofs.slots.put_value_from.Given as goal

abbrev pub invariant-slots : goal.invariant-slots
invariant-slots l =
    (list_all is_plain (drop l.at l.slots) ≡ true)
    × (take l.at l.slots ++ map plain (with_value l.value (words_of (drop l.at l.slots))) ≡ take l.from l.fn.slots ++ map plain (with_value l.value (words_of (drop l.from l.fn.slots))))
