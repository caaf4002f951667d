use Rattle.std.proofs.Common.{◌≡◌}
use Rattle.ql_top.proofs.worker.tests.go_on_for.Given as goal

-- it is a run of the same code, and the same are away
abbrev pub invariant-loop : goal.invariant-loop
invariant-loop l = (l.host.code ≡ l.fn.host.code) × (l.host.away ≡ l.fn.host.away)
