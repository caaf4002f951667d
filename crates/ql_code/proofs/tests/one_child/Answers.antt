use Rattle.std.proofs.Common.{◌∙◌}
use Rattle.ql_code.proofs.Listed.{one_child_is_sound}
use Rattle.ql_code.proofs.tests.one_child.Goals as goal

pub new-requires-3-clause-sound : goal.new-requires-3-clause-sound
new-requires-3-clause-sound c =
    one_child_is_sound c.from_vec.result (c.from_vec.ensures ∙ c.in_ok-starts.ensures.items) c.in_ok-ops.ops.items c.in_ok-offsets.offsets.items c.new.result.items c.new-2.result.items c.in_ok-ops.ensures.items c.in_ok-offsets.ensures.items
    c.new.ensures.items c.new-2.ensures.items
