use Rattle.std.proofs.Common.{◌≡◌, rules, sym}
use Rattle.std.specs.Bool.{Decides}
use Rattle.std.proofs.lemmas.Slice.Eq.{slice_eq-Decides}
use Rattle.ql_world.specs.declared.word.Slot.{Slot}
use Rattle.ql_world.specs.contracts.word.SlotPartialEq.TheImpl.{eq-value}
use Rattle.ql_proc.proofs.cuts.are_same_slots.Goals as goal

decides : (a b : Slot) → Decides (eq-value.it a b) (a ≡ b)
decides a b = search rules

pub returns : goal.returns
returns c =
    let d : Decides c.eq.result (c.args.slots.now ≡ c.args.window.now) = slice_eq-Decides decides c.args.slots.now c.args.window.now c.eq.result c.eq.ensures in
    (λ t. sym (d.0 t), λ e. d.1 (sym e))
