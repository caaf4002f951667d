use Rattle.std.proofs.Common.{◌≡◌, [], ◌∙◌, ap, arith, Some, None, Option, Bool}
use Rattle.std.specs.Prelude.{option_map, slice_get}
use Rattle.ql_expand.specs.Core.{Name}
use Rattle.ql_compile.specs.Slots.{variable_of}
use Rattle.ql_compile.specs.declared.frame.Row.{Row}
use Rattle.ql_compile.proofs.Slotted.{slot_is}
use Rattle.ql_compile.proofs.frame.Frame.slot.Goals as goal

pub returns-in-Some : goal.returns-in-Some
returns-in-Some c above below v e at =
    let there = slot_is c.self.inside.rows.items [] above below v c.args.at (c.self.view_is ∙ e) (omega (arith, at)) in
    let found : Some (variable_of c.in-Some.row.now.variable) ≡ Some v =
    ap (option_map (λ (r : Row). variable_of r.variable)) (c.in-Some.ensures ∙ ap (λ rows. slice_get rows c.args.at) c.as_slice.ensures.value) ∙ there in
    cc

pub returns-in-None : goal.returns-in-None
returns-in-None c above below v e at =
    let there = slot_is c.self.inside.rows.items [] above below v c.args.at (c.self.view_is ∙ e) (omega (arith, at)) in
    let found : ◌≡◌ {A = Option (Option (Name × Bool))} None (Some v) =
    ap (option_map (λ (r : Row). variable_of r.variable)) (c.in-None.ensures ∙ ap (λ rows. slice_get rows c.args.at) c.as_slice.ensures.value) ∙ there in
    absurd cc
