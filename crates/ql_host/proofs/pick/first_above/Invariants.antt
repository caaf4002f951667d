use Rattle.std.proofs.Common.{◌≡◌, ◌-◌, drop, suc}
use Rattle.ql_world.specs.Run.{least, least_above}
use Rattle.ql_host.specs.Ready.{world, those_free}
use Rattle.ql_host.proofs.Picks.{free_from}
use Rattle.ql_host.proofs.pick.first_above.Given as goal

abbrev pub invariant-scan : goal.invariant-scan
invariant-scan l =
    let w = world l.s l.shared l.procs in
    least (free_from l.s w l.away (suc l.at) (drop l.at w.procs)) ≡ least_above l.fn.last (those_free l.s l.shared l.procs l.away)

abbrev pub decreases-scan : goal.decreases-scan
decreases-scan l = l.count - l.at
