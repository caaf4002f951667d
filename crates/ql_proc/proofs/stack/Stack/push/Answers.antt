use Rattle.std.proofs.Common.{◌≡◌, ap, reverse}
use Rattle.ql_proc.specs.Stacked.{Stacked, items_of}
use Rattle.ql_proc.proofs.Stacks
use Rattle.ql_proc.proofs.stack.Stack.push.Goals as goal

pub returns-clause-items : goal.returns-clause-items
returns-clause-items c =
    let ss = reverse c.self.inside.slots.items in
    let ms = reverse c.self.inside.marks.items in
    let v : items_of ss ms ≡ c.args.self.now.items = ap (λ (x : Stacked). x.items) c.self.view_is in
    rw (← v, c.add.ensures.slots) (Stacks.items-push c.args.pushed ss ms (Stacks.floor-within _ _ c.self.invariant.rises))
