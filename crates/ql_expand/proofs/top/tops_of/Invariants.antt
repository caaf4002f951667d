use Rattle.std.proofs.Common.{drop}
use Rattle.ql_forms.specs.View.{forms_of}
use Rattle.ql_expand.specs.Tops.{Made}
use Rattle.ql_expand.proofs.top.tops_of.Given as goal

abbrev pub invariant-loop-form : goal.invariant-loop-form
invariant-loop-form l = Made (forms_of l.forms) (forms_of (drop l.form-index l.forms)) l.tops
