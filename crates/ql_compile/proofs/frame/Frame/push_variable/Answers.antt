use Rattle.std.proofs.Common.{[], ◌∷◌, ◌∙◌, ap, arith, length, Some}
use Rattle.ql_compile.specs.Slots.{stacked}
use Rattle.ql_expand.specs.View.{name_of}
use Rattle.ql_compile.proofs.Slotted.{pushed_variable, rows_length, stacked_last}
use Rattle.ql_compile.proofs.frame.Frame.push_variable.Goals as goal

pub invariant_of-self-in-Ok : goal.invariant_of-self-in-Ok
invariant_of-self-in-Ok c =
    rw c.in_ok-push.ensures.items
    (pushed_variable c.self.inside.rows.items c.args.name c.args.stored c.place_at.result c.self.inside.places.entries c.put.new.places.entries c.key_of-key.result c.in_ok-slot.slot
    c.self.invariant c.key_of-key.ensures (omega (arith, c.in_ok-slot.ensures, c.len.ensures, ap length c.self.view_is, rows_length c.self.inside.rows.items)) c.place_at.ensures c.in-Ok.ensures.put)

pub returns-in-Ok : goal.returns-in-Ok
returns-in-Ok c =
    ap (λ rows. stacked rows []) c.in_ok-push.ensures.items
    ∙ (stacked_last c.self.inside.rows.items (record { variable = Some (c.args.name, c.args.stored); hides = c.place_at.result }) [] ∙ ap (λ sc. Some (name_of c.args.name, c.args.stored) ∷ sc) c.self.view_is)
