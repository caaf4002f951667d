use Rattle.std.proofs.Common.{◌≡◌, refl, ap, ◌≤◌, ◌+◌, length, reverse, arith}
use Rattle.ql_proc.specs.Stacked.{Stacked, floor_of, items_of}
use Rattle.ql_proc.specs.Slots.{slots_on}
use Rattle.ql_proc.proofs.Stacks
use Rattle.ql_proc.proofs.Words
use Rattle.ql_proc.proofs.stack.Stack.enter.Goals as goal

pub overflow_sub-height : goal.overflow_sub-height
overflow_sub-height c =
    let ss = reverse c.self.inside.slots.items in
    let ms = reverse c.self.inside.marks.items in
    let v : items_of ss ms ≡ c.args.self.now.items = ap (λ (x : Stacked). x.items) c.self.view_is in
    let a : c.args.count ≤ length (slots_on c.args.self.now.items) = Words.within c.args.count c.args.self.now.items c.requires.words in
    let h : floor_of ms + c.args.count ≤ length ss = Stacks.height-above ss ms _ _ c.args.count _ c.self.invariant v a in omega (arith, h, c.height.ensures)

pub invariant_of-self : goal.invariant_of-self
invariant_of-self c =
    let ss = reverse c.self.inside.slots.items in
    let ms = reverse c.self.inside.marks.items in
    let v : items_of ss ms ≡ c.args.self.now.items = ap (λ (x : Stacked). x.items) c.self.view_is in
    let a : c.args.count ≤ length (slots_on c.args.self.now.items) = Words.within c.args.count c.args.self.now.items c.requires.words in
    rw (c.put_mark-self-inside.ensures.marks, c.height.ensures) (Stacks.stays-entered c.args.pushed c.args.count _ _ _ ss ms _ c.self.invariant v a (rw (c.put_mark-self-inside.ensures.base, c.height.ensures) refl))

pub returns-clause-items : goal.returns-clause-items
returns-clause-items c =
    let ss = reverse c.self.inside.slots.items in
    let ms = reverse c.self.inside.marks.items in
    let v : items_of ss ms ≡ c.args.self.now.items = ap (λ (x : Stacked). x.items) c.self.view_is in
    let a : c.args.count ≤ length (slots_on c.args.self.now.items) = Words.within c.args.count c.args.self.now.items c.requires.words in
    rw (c.put_mark-self-inside.ensures.marks, c.height.ensures) (Stacks.entered c.args.pushed c.args.count _ _ ss ms _ c.self.invariant v a)
