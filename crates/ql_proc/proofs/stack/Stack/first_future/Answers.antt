use Rattle.std.proofs.Common.{◌≡◌, ap, ◌≤◌, length, reverse, arith}
use Rattle.std.proofs.lemmas.List.{length-reverse}
use Rattle.ql_proc.specs.Stacked.{Stacked, floor_of, items_of}
use Rattle.ql_proc.proofs.Tops
use Rattle.ql_proc.proofs.Stacks
use Rattle.ql_proc.proofs.stack.Stack.first_future.Goals as goal

pub returns : goal.returns
returns c =
    let ss = reverse c.self.inside.slots.items in
    let ms = reverse c.self.inside.marks.items in
    let v : items_of ss ms ≡ c.args.self.now.items = ap (λ (x : Stacked). x.items) c.self.view_is in
    let f : c.self.inside.floor ≤ length c.self.inside.slots.items = (let g : floor_of ms ≤ length ss = Stacks.floor-within _ _ c.self.invariant.rises in omega (arith, g, c.self.invariant.floor, length-reverse c.self.inside.slots.items)) in
    let e = rw (c.deref.ensures.value, Tops.slots-above c.self.inside.floor c.self.inside.slots.items f, c.self.invariant.floor) at c.future_above.ensures in
    rw (← v, Tops.words-items c.args.count ss ms) e
