use Rattle.std.proofs.Common.{◌≡◌, length, reverse}
use Rattle.ql_expand.specs.Assembly.{folded}
use Rattle.ql_expand.specs.View.{core_of, cores_of}
use Rattle.ql_expand.proofs.assemble.Maker.folded.Given as goal

abbrev pub invariant-loop-core : goal.invariant-loop-core
invariant-loop-core l = folded l.self.at.0 l.op (core_of l.sum) (cores_of (reverse l.reversed.items)) ≡ folded l.self.at.0 l.op (core_of l.fn.sum) (cores_of (reverse l.fn.reversed.items))

abbrev pub decreases-loop-core : goal.decreases-loop-core
decreases-loop-core l = length l.reversed.items
