use Rattle.std.proofs.Common.{◌≡◌, ap, ◌∷◌, reverse}
use Rattle.ql_proc.specs.Stacked.{Stacked, IsStack, items_of}
use Rattle.ql_proc.proofs.Stacks
use Rattle.ql_proc.proofs.stack.Stack.leave_call.Goals as goal

pub shorten-requires : goal.shorten-requires
shorten-requires c =
    let ss = reverse c.self.inside.slots.items in
    let ms = reverse c.self.inside.marks.items in
    let v : items_of ss ms ≡ c.args.self.now.items = ap (λ (x : Stacked). x.items) c.self.view_is in
    let m = c.in-Some.marker in
    let i : IsStack ss (m ∷ reverse c.take_mark.new.marks.items) _ _ = rw c.in-Some.ensures.marks.0 at c.self.invariant in i.rises.0

pub returns-in-Some-clause-items : goal.returns-in-Some-clause-items
returns-in-Some-clause-items c =
    let ss = reverse c.self.inside.slots.items in
    let ms = reverse c.self.inside.marks.items in
    let v : items_of ss ms ≡ c.args.self.now.items = ap (λ (x : Stacked). x.items) c.self.view_is in
    let m = c.in-Some.marker in
    let under = reverse c.take_mark.new.marks.items in
    let i : IsStack ss (m ∷ under) _ _ = rw c.in-Some.ensures.marks.0 at c.self.invariant in
    let x : items_of ss (m ∷ under) ≡ c.args.self.now.items = rw c.in-Some.ensures.marks.0 at v in
    rw (← x, c.shorten.ensures.slots) (Stacks.below-is ss m under _ _ i).0

pub invariant_of-self : goal.invariant_of-self
invariant_of-self c =
    let ss = reverse c.self.inside.slots.items in
    let ms = reverse c.self.inside.marks.items in
    let v : items_of ss ms ≡ c.args.self.now.items = ap (λ (x : Stacked). x.items) c.self.view_is in
    let m = c.in-Some.marker in
    let under = reverse c.take_mark.new.marks.items in
    let i : IsStack ss (m ∷ under) _ _ = rw c.in-Some.ensures.marks.0 at c.self.invariant in
    let x : items_of ss (m ∷ under) ≡ c.args.self.now.items = rw c.in-Some.ensures.marks.0 at v in
    rw (c.shorten.ensures.slots, c.floor_under-self-inside.ensures, c.deref.ensures.value) (Stacks.below-is ss m under _ _ i).1

pub returns-in_default-clause-items : goal.returns-in_default-clause-items
returns-in_default-clause-items c =
    let ss = reverse c.self.inside.slots.items in
    let ms = reverse c.self.inside.marks.items in
    let v : items_of ss ms ≡ c.args.self.now.items = ap (λ (x : Stacked). x.items) c.self.view_is in
    Stacks.without-marks ss ms _ v c.requires c.in_default.ensures.marks.0
