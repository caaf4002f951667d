use Rattle.std.proofs.Common.{◌≡◌, ap, ◌∷◌, ◌<◌, ◌≤◌, ◌+◌, length, reverse, arith}
use Rattle.ql_world.specs.declared.word.Slot.TheVariants.{Val}
use Rattle.ql_proc.specs.Stacked.{Stacked, IsStack, items_of, Rises}
use Rattle.ql_proc.proofs.Stacks
use Rattle.ql_proc.proofs.Words
use Rattle.ql_proc.proofs.stack.Stack.give.Goals as goal

pub returns-in_default-clause-items : goal.returns-in_default-clause-items
returns-in_default-clause-items c =
    let ss = reverse c.self.inside.slots.items in
    let ms = reverse c.self.inside.marks.items in
    let v : items_of ss ms ≡ c.args.self.now.items = ap (λ (x : Stacked). x.items) c.self.view_is in
    Stacks.without-marks ss ms _ v c.requires.mark c.in_default.ensures.marks.0

pub returns-clause-items : goal.returns-clause-items
returns-clause-items c =
    let ss = reverse c.self.inside.slots.items in
    let ms = reverse c.self.inside.marks.items in
    let v : items_of ss ms ≡ c.args.self.now.items = ap (λ (x : Stacked). x.items) c.self.view_is in
    let m = c.in-Some.marker in
    let under = reverse c.take_mark.new.marks.items in
    let r : Rises (length ss) (m ∷ under) = rw c.in-Some.ensures.marks.0 at c.self.invariant.rises in
    let x : items_of ss (m ∷ under) ≡ c.args.self.now.items = rw c.in-Some.ensures.marks.0 at v in
    let i : IsStack ss (m ∷ under) _ _ = rw c.in-Some.ensures.marks.0 at c.self.invariant in
    let a : m.height + 1 ≤ length ss = Stacks.height-above ss (m ∷ under) _ _ 1 _ i x (Words.within 1 c.args.self.now.items c.requires.top) in
    let h : m.height < length ss = omega (arith, a) in
    rw (← x, c.put.ensures.slots) (Stacks.items-give (Val c.args.w) ss m under r h)
