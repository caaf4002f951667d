use Rattle.std.proofs.Common.{take}
use Rattle.std.specs.List.{AllZip}
use Rattle.ql_expand.proofs.Gathering.{IsNamed}
use Rattle.ql_expand.proofs.build.all_binders.Given as goal

abbrev pub invariant-loop-form : goal.invariant-loop-form
invariant-loop-form l = AllZip IsNamed (take l.form-index l.forms) l.binders.items
