use Rattle.std.proofs.Common.{◌≡◌, length}
use Rattle.ql_expand.specs.Assembly.{under, nested}
use Rattle.ql_expand.specs.View.{core_of, bounds_of}
use Rattle.ql_expand.proofs.assemble.Maker.nested.Given as goal

abbrev pub invariant-loop-bind : goal.invariant-loop-bind
invariant-loop-bind l = under l.self.at.0 (bounds_of l.binds) (core_of l.body) ≡ nested l.self.at.0 (bounds_of l.fn.binds) (core_of l.fn.body)

abbrev pub decreases-loop-bind : goal.decreases-loop-bind
decreases-loop-bind l = length l.binds
