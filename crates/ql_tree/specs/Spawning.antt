-- Why a process is not made.
use Rattle.std.specs.Prelude.{◌≡◌, ◌<◌, ◌≤◌, length}
use Rattle.ql_tree.specs.Tree.{Tree}
use Rattle.ql_tree.specs.declared.tree.TreeFault.{TreeFault}
use Rattle.ql_tree.specs.declared.tree.TreeFault.TheVariants.{Full, Memory}

-- It is full exactly where as many were made as may be, and want of memory comes only where there is no room.
abbrev pub Explains : TreeFault → Tree → Type 0
Explains Full t = t.limit ≤ length t.persons
Explains (Memory e) t = (length t.persons < t.limit) × (t.spare ≡ 0)
