use Rattle.std.proofs.Common.{◌≡◌, ap, [], ◌∷◌, reverse}
use Rattle.ql_proc.specs.Stacked.{Stacked, IsStack, items_of}
use Rattle.ql_proc.proofs.Stacks
use Rattle.ql_proc.proofs.stack.Stack.leave_mark.Goals as goal

pub returns-in-Some-clause-items : goal.returns-in-Some-clause-items
returns-in-Some-clause-items c =
    let ss = reverse c.self.inside.slots.items in
    let ms = reverse c.self.inside.marks.items in
    let v : items_of ss ms ≡ c.args.self.now.items = ap (λ (x : Stacked). x.items) c.self.view_is in
    let m = c.in-Some.marker in
    let under = reverse c.take_mark.new.marks.items in
    let i : IsStack ss (m ∷ under) _ _ = rw c.in-Some.ensures.marks.0 at c.self.invariant in
    let x : items_of ss (m ∷ under) ≡ c.args.self.now.items = rw c.in-Some.ensures.marks.0 at v in
    rw (← x) (Stacks.left-mark ss m under i.rises)

pub returns-in_default-clause-items : goal.returns-in_default-clause-items
returns-in_default-clause-items c =
    let ss = reverse c.self.inside.slots.items in
    let ms = reverse c.self.inside.marks.items in
    let v : items_of ss ms ≡ c.args.self.now.items = ap (λ (x : Stacked). x.items) c.self.view_is in
    let x : items_of ss [] ≡ c.args.self.now.items = rw c.in_default.ensures.marks.0 at v in rw (c.in_default.ensures.marks.1, ← x) (Stacks.left-none ss)
