use Rattle.std.proofs.Common.{◌∙◌}
use Rattle.ql_host.proofs.Hosts.{one_more}
use Rattle.ql_host.proofs.host.without_values.Goals as goal

pub globals-preserved : goal.globals-preserved
globals-preserved c = rw (c.in_ok-push.ensures.items) (one_more c.globals.globals.items c.globals.left c.globals-test.true ∙ c.globals.invariant)
