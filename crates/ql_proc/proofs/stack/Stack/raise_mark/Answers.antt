use Rattle.std.proofs.Common.{◌≡◌, refl, ap, ◌∙◌, ◌∷◌, true, List, reverse, is_some}
use Rattle.ql_code.specs.Machine.{Item, mark, top_mark}
use Rattle.ql_proc.specs.Stacked.{Stacked, IsStack, items_of}
use Rattle.ql_proc.proofs.Stacks
use Rattle.ql_proc.proofs.stack.Stack.raise_mark.Goals as goal

pub returns-in_default-clause-items : goal.returns-in_default-clause-items
returns-in_default-clause-items c =
    let ss = reverse c.self.inside.slots.items in
    let ms = reverse c.self.inside.marks.items in
    let v : items_of ss ms ≡ c.args.self.now.items = ap (λ (x : Stacked). x.items) c.self.view_is in
    λ (h : is_some (top_mark c.args.self.now.items) ≡ true). Stacks.without-marks ss ms _ v h c.in_default.ensures.marks.0

pub returns-clause-items : goal.returns-clause-items
returns-clause-items c =
    let ss = reverse c.self.inside.slots.items in
    let ms = reverse c.self.inside.marks.items in
    let v : items_of ss ms ≡ c.args.self.now.items = ap (λ (x : Stacked). x.items) c.self.view_is in
    let m = c.in-Some.under in
    let under = reverse c.take_mark.new.marks.items in
    let i : IsStack ss (m ∷ under) _ _ = rw c.in-Some.ensures.marks.0 at c.self.invariant in
    let x : items_of ss (m ∷ under) ≡ c.args.self.now.items = rw c.in-Some.ensures.marks.0 at v in
    λ (h : is_some (top_mark c.args.self.now.items) ≡ true).
    rw (c.put_mark-self-inside.ensures.marks, c.height-self-inside.ensures, ← x) (Stacks.at-mark-items ss c.args.raised m.base under ∙ ap (λ (y : List Item). mark c.args.raised ∷ y) (Stacks.left-mark ss m under i.rises))

pub invariant_of-self-2 : goal.invariant_of-self-2
invariant_of-self-2 c =
    let ss = reverse c.self.inside.slots.items in
    let under = reverse c.take_mark.new.marks.items in
    let i : IsStack ss (c.in-Some.under ∷ under) _ _ = rw c.in-Some.ensures.marks.0 at c.self.invariant in
    rw (c.put_mark-self-inside.ensures.marks, c.height-self-inside.ensures)
    (Stacks.marked c.args.raised c.in-Some.under.base _ ss under (Stacks.stays-left ss c.in-Some.under under _ _ i) (rw (c.put_mark-self-inside.ensures.base, c.height-self-inside.ensures) refl))
