-- That the binders are those of the forms, one after another.
use Rattle.std.proofs.Common.{◌≡◌, None, refl}
use Rattle.ql_forms.specs.Form.{symbol_in}
use Rattle.ql_expand.specs.Building.{HasBinders}
use Rattle.ql_expand.proofs.Gathering.{IsNamed, made_next, made_all, binders_made, first_named}
use Rattle.ql_expand.proofs.Fine.{at_place}
use Rattle.ql_expand.proofs.build.all_binders.Goals as goal

pub unreachable-requires : goal.unreachable-requires
unreachable-requires c =
    at_place HasBinders (λ f. symbol_in f ≡ None → ⊥) first_named c.args.forms.now c.loop-form.form-index c.form-item.result c.requires c.loop-form-test.true c.form-item.is c.in-None.ensures

pub loop-form-preserved : goal.loop-form-preserved
loop-form-preserved c =
    made_next IsNamed c.args.forms.now c.loop-form.form-index c.form-item.result c.loop-form.binders.items c.push.new.self.items _
    c.loop-form-test.true c.form-item.is c.loop-form.invariant (c.in-Some.symbol.number, c.in-Some.ensures, refl) c.in_ok-push-in-Some.ensures.items

pub returns : goal.returns
returns c = rw c.from_vec.ensures (binders_made _ _ (made_all IsNamed c.args.forms.now c.loop-form.form-index c.loop-form.binders.items c.loop-form-test.false c.loop-form.invariant))
