use Rattle.std.proofs.Common.{◌≡◌, ◌++◌, sym, ap, ◌∙◌, ◌∷◌, refl, is_some, reverse, arith}
use Rattle.std.specs.Prelude.{option_to_list}
use Rattle.ql_world.specs.declared.word.Slot.TheVariants.{Val}
use Rattle.ql_proc.proofs.Insides
use Rattle.ql_proc.proofs.inside.has_future.Goals as goal

pub returns-then-is_future : goal.returns-then-is_future
returns-then-is_future c =
    let a = c.in-Some-Val-default in
    let e : option_to_list c.args.top ++ reverse c.args.under.now ≡ Val a.w ∷ reverse a.rest.now = rw a.field-0-0-is at a.ensures in
    c.if-is_future.true ∙ sym (Insides.future-on c.args.count a.w _ _ (omega arith) e ∙ rw (← c.is_future.ensures, c.if-is_future.true) refl)

pub returns-else-is_future : goal.returns-else-is_future
returns-else-is_future c =
    let a = c.in-Some-Val-default in
    let e : option_to_list c.args.top ++ reverse c.args.under.now ≡ Val a.w ∷ reverse a.rest.now = rw a.field-0-0-is at a.ensures in
    c.is_some.ensures ∙ (ap is_some c.future_in.ensures ∙ sym (Insides.future-on c.args.count a.w _ _ (omega arith) e ∙ rw (← c.is_future.ensures, c.if-is_future.false) refl))
