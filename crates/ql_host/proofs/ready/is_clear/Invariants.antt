use Rattle.std.proofs.Common.{◌≡◌, ◌-◌, drop, map, suc, List}
use Rattle.ql_world.specs.declared.world.Process.{Process}
use Rattle.ql_world.specs.Within.{all_from}
use Rattle.ql_tree.specs.Persons.{joined}
use Rattle.ql_code.specs.Machine.{Point}
use Rattle.ql_proc.specs.Points.{point_of}
use Rattle.ql_host.specs.Ready.{machine, world}
use Rattle.ql_host.specs.Waiting.{is_away}
use Rattle.ql_host.proofs.ready.is_clear.Given as goal

abbrev pub invariant-scan : goal.invariant-scan
invariant-scan l =
    let qs : List (Process Point) = joined l.shared.tree.persons (map point_of l.procs) in
    let away = is_away (machine l.s) (world l.s l.shared l.procs) l.enough l.p l.c in
    all_from away (suc l.seen) (drop l.seen qs) ≡ all_from away 1 qs

abbrev pub decreases-scan : goal.decreases-scan
decreases-scan l = l.count - l.seen
