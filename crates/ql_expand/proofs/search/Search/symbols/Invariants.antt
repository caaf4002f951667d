use Rattle.ql_expand.specs.ExpandFault.{symbols_faults}
use Rattle.ql_expand.specs.Searching.{Going}
use Rattle.ql_expand.proofs.search.Search.symbols.Given as goal

abbrev pub invariant-loop-form : goal.invariant-loop-form
invariant-loop-form l = Going l.fn.self l.self (symbols_faults l.fn.self.names.now) l.forms l.form-index
