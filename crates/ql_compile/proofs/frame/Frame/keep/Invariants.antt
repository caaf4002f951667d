use Rattle.std.proofs.Common.{◌≡◌, ◌++◌, length}
use Rattle.ql_compile.specs.Compile.{Scope}
use Rattle.ql_compile.proofs.frame.Frame.keep.Given as goal

abbrev pub invariant-loop-self : goal.invariant-loop-self
invariant-loop-self l = (above below : Scope) → l.fn.self ≡ above ++ below → l.len ≡ length below → (more : Scope) × (l.self ≡ more ++ below)

abbrev pub decreases-loop-self : goal.decreases-loop-self
decreases-loop-self l = length l.self
