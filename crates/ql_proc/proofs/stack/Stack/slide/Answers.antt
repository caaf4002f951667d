use Rattle.std.proofs.Common.{arith}
use Rattle.ql_proc.proofs.stack.Stack.slide.Goals as goal

pub slide_slots-requires : goal.slide_slots-requires
slide_slots-requires c =
    omega (arith, c.if-count-slots_above.true, c.slots_above.ensures)
