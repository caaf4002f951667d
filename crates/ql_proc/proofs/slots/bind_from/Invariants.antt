use Rattle.std.proofs.Common.{◌≡◌, ◌≤◌, true, drop}
use Rattle.std.specs.List.{list_all}
use Rattle.ql_proc.specs.Slots.{is_plain}
use Rattle.ql_proc.specs.Binding.{bound_from, boxes_from}
use Rattle.ql_proc.proofs.slots.bind_from.Given as goal

abbrev pub invariant-slots : goal.invariant-slots
invariant-slots l =
    (list_all is_plain (drop l.at l.slots) ≡ true)
    × ((boxes_from l.at l.rest l.next l.slots ≤ 4294967295)
    × (bound_from l.at l.rest l.next l.slots ≡ bound_from l.from l.mask l.first l.fn.slots))
