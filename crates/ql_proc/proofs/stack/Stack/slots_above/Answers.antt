use Rattle.std.proofs.Common.{◌≡◌, refl, ap, reverse}
use Rattle.ql_proc.specs.Stacked.{Stacked, items_of}
use Rattle.ql_proc.proofs.Stacks
use Rattle.ql_proc.proofs.stack.Stack.slots_above.Goals as goal

pub returns : goal.returns
returns c =
    let ss = reverse c.self.inside.slots.items in
    let ms = reverse c.self.inside.marks.items in
    let v : items_of ss ms ≡ c.args.self.now.items = ap (λ (x : Stacked). x.items) c.self.view_is in
    rw (← v, Stacks.length-slots_on ss ms (Stacks.floor-within _ _ c.self.invariant.rises), c.height.ensures, c.self.invariant.floor) refl
