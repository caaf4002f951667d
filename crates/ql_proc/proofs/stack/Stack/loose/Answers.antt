use Rattle.std.proofs.Common.{refl, ◌≡◌, ap, ◌∙◌, ◌≤◌, length, reverse}
use Rattle.ql_proc.specs.Stacked.{Stacked, items_of, floor_of}
use Rattle.ql_proc.proofs.Stacks
use Rattle.ql_proc.proofs.stack.Stack.loose.Goals as goal

pub returns : goal.returns
returns c =
    let ss = reverse c.self.inside.slots.items in
    let ms = reverse c.self.inside.marks.items in
    let v : items_of ss ms ≡ c.args.self.now.items = ap (λ (x : Stacked). x.items) c.self.view_is in
    let f : floor_of ms ≤ length ss = Stacks.floor-within _ _ c.self.invariant.rises in
    rw (← v, Stacks.slots_on-items ss ms f) (c.above.ensures ∙ rw (c.deref.ensures.value, c.self.invariant.floor) refl)
