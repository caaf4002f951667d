use Rattle.std.proofs.Common.{◌≡◌, suc}
use Rattle.ql_code.specs.Machine.{words}
use Rattle.ql_host.proofs.waits.called.Given as goal

abbrev pub invariant-down : goal.invariant-down
invariant-down l = words (suc l.under) l.proc.stack.items ≡ words (suc l.count) l.proc.stack.items

abbrev pub decreases-down : goal.decreases-down
decreases-down l = l.under
