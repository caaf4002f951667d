use Rattle.std.proofs.Common.{◌≡◌, ap, reverse}
use Rattle.ql_proc.specs.Stacked.{Stacked, items_of}
use Rattle.ql_proc.proofs.Tops
use Rattle.ql_proc.proofs.stack.Stack.aim.Goals as goal

pub invariant_of-self : goal.invariant_of-self
invariant_of-self c =
    let ss = reverse c.self.inside.slots.items in
    let ms = reverse c.self.inside.marks.items in
    let v : items_of ss ms ≡ c.args.self.now.items = ap (λ (x : Stacked). x.items) c.self.view_is in
    rw c.aim_in.ensures.marks (Tops.stays-aimed c.args.aim ss ms _ _ c.self.invariant)

pub returns-clause-items : goal.returns-clause-items
returns-clause-items c =
    let ss = reverse c.self.inside.slots.items in
    let ms = reverse c.self.inside.marks.items in
    let v : items_of ss ms ≡ c.args.self.now.items = ap (λ (x : Stacked). x.items) c.self.view_is in
    rw (c.aim_in.ensures.marks, ← v) (Tops.aim-items c.args.aim ss ms)
