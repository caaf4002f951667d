use Rattle.std.proofs.Common.{◌≡◌, ◌++◌, drop, map, length}
use Rattle.ql_code.specs.Machine.{frame_of, children_from}
use Rattle.ql_proc.specs.Points.{point_of}
use Rattle.ql_host.proofs.ticks.spawns.children.Given as goal

abbrev pub invariant-starts : goal.invariant-starts
invariant-starts l =
    (map point_of l.made.items ++ children_from l.s.code.now.instructions l.n (drop l.n l.starts) l.touched (frame_of (drop 1 l.parent.items))
    ≡ children_from l.s.code.now.instructions 0 l.starts l.touched (frame_of (drop 1 l.parent.items)))
    × (length l.made.items ≡ l.n)
