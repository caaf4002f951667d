use Rattle.std.proofs.Common.{◌≡◌, drop}
use Rattle.std.specs.List.{list_all}
use Rattle.ql_proc.specs.Slots.{is_plain}
use Rattle.ql_proc.proofs.slots.are_plain.Given as goal

abbrev pub invariant-loop-slot : goal.invariant-loop-slot
invariant-loop-slot l = list_all is_plain (drop l.slot-index l.slots) ≡ list_all is_plain l.fn.slots
