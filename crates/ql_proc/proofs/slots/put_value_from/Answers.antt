use Rattle.std.proofs.Common.{◌<◌, length, ◌∙◌, arith, sym}
use Rattle.ql_proc.proofs.Binding
use Rattle.ql_proc.proofs.slots.put_value_from.Goals as goal

pub slots-preserved : goal.slots-preserved
slots-preserved c =
    let h : c.slots.at < length c.slots.slots = omega (arith, c.slots-test.true, c.slots.auto.slots) in (
      (Binding.still-plain c.slots.at c.slots.slots h c.slots.invariant.0).1,
      Binding.value-later c.slots.at c.slots.slots h c.args.value c.slots.invariant.0 (sym c.if-is_future_in.ensures) ∙ c.slots.invariant.1,
    )

pub returns-then-is_future_in : goal.returns-then-is_future_in
returns-then-is_future_in c =
    let h : c.slots.at < length c.slots.slots = omega (arith, c.slots-test.true, c.slots.auto.slots) in
    Binding.value-found c.slots.at c.slots.slots h c.args.value c.slots.invariant.0 (sym c.if-is_future_in.ensures) ∙ c.slots.invariant.1
