use Rattle.std.proofs.Common.{◌≡◌, length}
use Rattle.ql_expand.specs.Assembly.{chain}
use Rattle.ql_expand.specs.View.{core_of, cores_of}
use Rattle.ql_expand.proofs.assemble.Maker.chain.Given as goal

abbrev pub invariant-loop-core : goal.invariant-loop-core
invariant-loop-core l = chain l.operator l.self.at.0 (cores_of l.before.items) (core_of l.rest) ≡ chain l.operator l.self.at.0 (cores_of l.fn.cores.items) (core_of l.fn.rest)

abbrev pub decreases-loop-core : goal.decreases-loop-core
decreases-loop-core l = length l.before.items
