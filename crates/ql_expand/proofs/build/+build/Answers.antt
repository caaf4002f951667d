-- That the core of forms is what they expand to.
use Rattle.std.proofs.Common.{arith, sym, ap, subst, ◌∙◌}
use Rattle.ql_forms.specs.View.{form_of, forms_of}
use Rattle.ql_expand.specs.Building.{weight, IsFine}
use Rattle.ql_expand.specs.Expands.{applied}
use Rattle.ql_expand.proofs.Fine.{operation_shape, bind_alone, bind_value, ends}
use Rattle.ql_expand.proofs.Gathering.{IsCore, IsBound, made_next, made_all, cores_made, bounds_made}
use Rattle.ql_expand.proofs.Making.{tested_made, clause_made}
use Rattle.ql_expand.proofs.build.+build.Goals as goal

pub all_bound-loop-form-preserved : goal.all_bound-loop-form-preserved
all_bound-loop-form-preserved t c =
    made_next IsBound c.args.forms.now c.loop-form.form-index c.form-item.result c.loop-form.bounds.items c.push.new.self.items c.in_ok-bound.bound
    c.loop-form-test.true c.form-item.is c.loop-form.invariant c.in_ok-bound.ensures c.in_ok-push.ensures.items

pub all_bound-returns : goal.all_bound-returns
all_bound-returns t c = rw c.from_vec.ensures (bounds_made _ _ (made_all IsBound c.args.forms.now c.loop-form.form-index c.loop-form.bounds.items c.loop-form-test.false c.loop-form.invariant))

pub each-loop-form-preserved : goal.each-loop-form-preserved
each-loop-form-preserved t c =
    made_next (IsCore c.args.dropped) c.args.forms.now c.loop-form.form-index c.form-item.result c.loop-form.cores.items c.push.new.self.items c.in_ok-core.core
    c.loop-form-test.true c.form-item.is c.loop-form.invariant c.in_ok-core.ensures c.in_ok-push.ensures.items

pub each-returns : goal.each-returns
each-returns t c = cores_made _ _ (made_all (IsCore c.args.dropped) c.args.forms.now c.loop-form.form-index c.loop-form.cores.items c.loop-form-test.false c.loop-form.invariant)

pub expanded-applied-requires : goal.expanded-applied-requires
expanded-applied-requires t c =
    let f = form_of c.args.form.now in
    let o = c.in-Some-operation.head.at.0 in
    let w = c.in-Some-operation.head.number in
    let fs = forms_of c.in-Some-operation.parts.now in
    let e = operation_shape f o w fs c.in-Some-operation.ensures in (
      omega (arith, ap weight e),
      subst IsFine (e ∙ ap (λ at. applied at o w fs) (sym c.offset-at.ensures)) c.requires,
    )

pub bind-expanded-requires : goal.bind-expanded-requires
bind-expanded-requires t c =
    let found = bind_value (form_of c.args.form.now) (rw c.in-Some-value.is at c.in-Some.ensures) in (omega (arith, found.0), found.2 c.requires)

pub bind-returns-in-None : goal.bind-returns-in-None
bind-returns-in-None t c = rw (c.bound_to.ensures, c.nil.ensures) (bind_alone (form_of c.args.form.now) (rw c.in-None.is at c.in-Some.ensures))

pub bind-returns-in_ok-value-in-Some-value : goal.bind-returns-in_ok-value-in-Some-value
bind-returns-in_ok-value-in-Some-value t c =
    rw c.bound_to-in-Some-value.ensures ((bind_value (form_of c.args.form.now) (rw c.in-Some-value.is at c.in-Some.ensures)).1 _ c.in_ok-value-in-Some-value.ensures)

pub clause-returns-in_ok-body-in-Some-first_of : goal.clause-returns-in_ok-body-in-Some-first_of
clause-returns-in_ok-body-in-Some-first_of t c others h =
    rw c.conditional.ensures
    (clause_made c.in-Some.ensures c.in-Some-first_of.ensures c.in_ok-test-in-Some-first_of.ensures c.in_ok-body-in-Some-first_of.ensures h)

pub body-each-requires : goal.body-each-requires
body-each-requires t c =
    let end = ends c.in-Some.before.now c.in-Some.last.now c.in-Some.ensures.cases.0 c.requires in (omega (arith, end.1), end.0.0)

pub body-expanded-requires-2 : goal.body-expanded-requires-2
body-expanded-requires-2 t c =
    let end = ends c.in-Some.before.now c.in-Some.last.now c.in-Some.ensures.cases.0 c.requires in (omega (arith, end.1), end.0.1)

pub of_forms-returns-in_ok-other-in-If : goal.of_forms-returns-in_ok-other-in-If
of_forms-returns-in_ok-other-in-If t c =
    rw c.conditional.ensures
    (tested_made c.args.operator (sym c.requires.operator) c.in-If.is c.split_first.ensures.shape c.split_first-in-If.ensures.shape c.requires.fits c.in_ok-test-in-If.ensures
    c.in_ok-then-in-If.ensures c.in_ok-other-in-If.ensures)
