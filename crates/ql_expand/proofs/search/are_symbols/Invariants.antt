use Rattle.std.proofs.Common.{◌≡◌, drop, is_some}
use Rattle.ql_forms.specs.View.{forms_of}
use Rattle.ql_expand.specs.Expands.{binders_in}
use Rattle.ql_expand.proofs.search.are_symbols.Given as goal

abbrev pub invariant-loop-form : goal.invariant-loop-form
invariant-loop-form l = is_some (binders_in (forms_of (drop l.form-index l.forms))) ≡ is_some (binders_in (forms_of l.forms))
