use Rattle.std.proofs.Common.{◌≡◌, ◌++◌}
use Rattle.ql_world.specs.World.{without_values}
use Rattle.ql_host.proofs.host.without_values.Given as goal

abbrev pub invariant-globals : goal.invariant-globals
invariant-globals l = l.globals.items ++ without_values l.left ≡ without_values l.count

abbrev pub decreases-globals : goal.decreases-globals
decreases-globals l = l.left
