use Rattle.std.proofs.Common.{◌≡◌, []}
use Rattle.std.specs.Arc.{arc_value}
use Rattle.ql_top.proofs.worker.tests.late.Given as goal

-- it is a run of this code, and nobody is away
abbrev pub invariant-loop : goal.invariant-loop
invariant-loop l = (l.host.code ≡ arc_value l.code) × (l.host.away ≡ [])
