use Rattle.std.proofs.Common.{◌+◌, ◌-◌, ◌*◌}
use Rattle.ql_expand.specs.ExpandFault.{all_faults, faults}
use Rattle.ql_expand.specs.Searching.{Going}
use Rattle.ql_expand.proofs.search.Search.+search.Given as goal

abbrev pub invariant-all-loop-form : goal.invariant-all-loop-form
invariant-all-loop-form l = Going l.fn.self l.self (all_faults (faults l.fn.self.names.now l.level l.role)) l.forms l.form-index

abbrev pub decreases-form : goal.decreases-form
decreases-form l = 6 * (402 - l.level) + 2

abbrev pub decreases-inside : goal.decreases-inside
decreases-inside l = 6 * (402 - l.level) + 1

abbrev pub decreases-all : goal.decreases-all
decreases-all l = 6 * (402 - l.level) + 3

abbrev pub decreases-parts : goal.decreases-parts
decreases-parts l = 6 * (402 - l.level) + 4
