use Rattle.ql_proc.proofs.Codes.{sum_is_sound}
use Rattle.ql_proc.proofs.tests.sum.Goals as goal

pub new-requires-3-clause-sound : goal.new-requires-3-clause-sound
new-requires-3-clause-sound c =
    sum_is_sound c.walk_decides.ensures c.in_ok-ops.ops.items c.in_ok-offsets.offsets.items c.new.result.items c.new-2.result.items c.in_ok-ops.ensures.items c.in_ok-offsets.ensures.items
    c.new.ensures.items c.new-2.ensures.items
