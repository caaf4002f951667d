use Rattle.std.proofs.Common.{◌≡◌, ◌≤◌, ◌++◌, length, map}
use Rattle.ql_compile.specs.Compile.{caught}
use Rattle.ql_compile.specs.Free.{caught_of}
use Rattle.ql_compile.proofs.Capturing.{lowest}
use Rattle.ql_compile.proofs.captured.take_named.Given as goal

abbrev pub invariant-loop-at : goal.invariant-loop-at
invariant-loop-at l = (l.at ≤ length l.frame) × (map caught_of l.taken.items ++ caught (lowest l.at l.frame) l.names ≡ caught l.frame l.fn.names)

abbrev pub decreases-loop-at : goal.decreases-loop-at
decreases-loop-at l = l.at
