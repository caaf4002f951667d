use Rattle.std.proofs.Common.{◌+◌, ◌*◌, take}
use Rattle.std.specs.List.{AllZip}
use Rattle.ql_forms.specs.View.{form_of, forms_of}
use Rattle.ql_expand.proofs.Gathering.{IsCore, IsBound}
use Rattle.ql_expand.specs.Building.{weight, weights}
use Rattle.ql_expand.proofs.build.+build.Given as goal

abbrev pub invariant-each-loop-form : goal.invariant-each-loop-form
invariant-each-loop-form l = AllZip (IsCore l.dropped) (take l.form-index l.forms) l.cores.items

abbrev pub invariant-all_bound-loop-form : goal.invariant-all_bound-loop-form
invariant-all_bound-loop-form l = AllZip IsBound (take l.form-index l.forms) l.bounds.items

abbrev pub decreases-expanded : goal.decreases-expanded
decreases-expanded l = 8 * weight (form_of l.form.now) + 7

abbrev pub decreases-boxed : goal.decreases-boxed
decreases-boxed l = 8 * weight (form_of l.form.now) + 8

abbrev pub decreases-bind : goal.decreases-bind
decreases-bind l = 8 * weight (form_of l.form.now) + 7

abbrev pub decreases-clause : goal.decreases-clause
decreases-clause l = 8 * weight (form_of l.form.now) + 7

abbrev pub decreases-applied : goal.decreases-applied
decreases-applied l = 8 * weights (forms_of l.parts.now) + 20

abbrev pub decreases-of_forms : goal.decreases-of_forms
decreases-of_forms l = 8 * weights (forms_of l.forms.now) + 19

abbrev pub decreases-boxed_body : goal.decreases-boxed_body
decreases-boxed_body l = 8 * weights (forms_of l.forms.now) + 14

abbrev pub decreases-body : goal.decreases-body
decreases-body l = 8 * weights (forms_of l.forms.now) + 13

abbrev pub decreases-each : goal.decreases-each
decreases-each l = 8 * weights (forms_of l.forms.now) + 11

abbrev pub decreases-all_bound : goal.decreases-all_bound
decreases-all_bound l = 8 * weights (forms_of l.forms.now) + 11

abbrev pub decreases-cond : goal.decreases-cond
decreases-cond l = 8 * weights (forms_of l.clauses.now) + 11
