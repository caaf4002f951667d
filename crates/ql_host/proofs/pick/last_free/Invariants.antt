use Rattle.std.proofs.Common.{◌≡◌, drop, suc, []}
use Rattle.ql_host.specs.Ready.{world}
use Rattle.ql_host.proofs.Picks.{free_from}
use Rattle.ql_host.proofs.pick.last_free.Given as goal

abbrev pub invariant-scan : goal.invariant-scan
invariant-scan l =
    let w = world l.s l.shared l.procs in
    free_from l.s w l.away (suc l.at) (drop l.at w.procs) ≡ []

abbrev pub decreases-scan : goal.decreases-scan
decreases-scan l = l.at
