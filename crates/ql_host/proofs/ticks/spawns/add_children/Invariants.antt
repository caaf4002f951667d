use Rattle.std.proofs.Common.{◌≡◌, ◌≤◌, ◌+◌, ◌++◌, List, length, take, drop, map}
use Rattle.ql_world.specs.Tick.{with_children}
use Rattle.ql_code.specs.Machine.{Point}
use Rattle.ql_proc.specs.Points.{point_of}
use Rattle.ql_host.specs.World.{world_of}
use Rattle.ql_host.specs.Making.{Grows}
use Rattle.ql_host.proofs.ticks.spawns.add_children.Given as goal

abbrev pub invariant-children : goal.invariant-children
invariant-children l =
    ((threads : List Point) → length threads ≡ length l.fn.shared.tree.persons
    → with_children (world_of l.shared (threads ++ take l.n (map point_of l.made))) l.p l.home (drop l.n (map point_of l.made)) ≡ with_children (world_of l.fn.shared threads) l.p l.home (map point_of l.made))
    × (length l.shared.tree.persons ≡ length l.fn.shared.tree.persons + l.n)
    × Grows l.fn.shared l.shared
    × (l.fn.shared.futures.spare ≤ l.shared.futures.spare + l.n)
    × (l.fn.shared.tree.spare ≤ l.shared.tree.spare + l.n)
    × (l.fn.shared.history.spare ≤ l.shared.history.spare + l.n)
