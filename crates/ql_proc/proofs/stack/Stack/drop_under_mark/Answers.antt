use Rattle.std.proofs.Common.{◌≡◌, sym, ap, ◌∙◌, [], ◌∷◌, length, List, reverse}
use Rattle.ql_code.specs.Machine.{Item, mark}
use Rattle.ql_proc.specs.Stacked.{Stacked, IsStack, items_of}
use Rattle.ql_proc.proofs.Stacks
use Rattle.ql_proc.proofs.stack.Stack.drop_under_mark.Goals as goal

pub returns-in_default-clause-items : goal.returns-in_default-clause-items
returns-in_default-clause-items c =
    let ss = reverse c.self.inside.slots.items in
    let ms = reverse c.self.inside.marks.items in
    let v : items_of ss ms ≡ c.args.self.now.items = ap (λ (x : Stacked). x.items) c.self.view_is in
    let x : items_of ss [] ≡ c.args.self.now.items = rw c.in_default.ensures.marks.0 at v in
    rw (c.in_default.ensures.marks.1, ← x) (Stacks.no-items ss (rw (← x) at c.requires))

pub returns-clause-items : goal.returns-clause-items
returns-clause-items c =
    let ss = reverse c.self.inside.slots.items in
    let ms = reverse c.self.inside.marks.items in
    let v : items_of ss ms ≡ c.args.self.now.items = ap (λ (x : Stacked). x.items) c.self.view_is in
    let m = c.in-Some.top in
    let under = reverse c.take_mark.new.marks.items in
    let i : IsStack ss (m ∷ under) _ _ = rw c.in-Some.ensures.marks.0 at c.self.invariant in
    let x : items_of ss (m ∷ under) ≡ c.args.self.now.items = rw c.in-Some.ensures.marks.0 at v in
    let z : m.height ≡ length ss = Stacks.no-slots ss m under i.rises.0 (rw (← x) at c.requires) in
    rw (c.put_mark-self-inside.ensures.marks, c.height-self-inside.ensures, ← x)
    (Stacks.at-mark-items (reverse c.drop_item-base.new.slots.items) m.mark c.drop_item-base.result (reverse c.drop_item-base.new.marks.items) ∙ (ap (λ (y : List Item). mark m.mark ∷ y) c.drop_item-base.ensures.items ∙ sym (Stacks.slid-mark ss m under z)))
