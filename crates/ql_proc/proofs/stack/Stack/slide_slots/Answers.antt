use Rattle.std.proofs.Common.{◌≡◌, ap, ◌≤◌, ◌+◌, ◌-◌, length, reverse, suc, arith}
use Rattle.ql_proc.specs.Stacked.{Stacked, floor_of, items_of}
use Rattle.ql_proc.proofs.Stacks
use Rattle.ql_proc.proofs.stack.Stack.slide_slots.Goals as goal

pub overflow_sub-at-2 : goal.overflow_sub-at-2
overflow_sub-at-2 c =
    let ss = reverse c.self.inside.slots.items in
    let ms = reverse c.self.inside.marks.items in
    let v : items_of ss ms ≡ c.args.self.now.items = ap (λ (x : Stacked). x.items) c.self.view_is in
    let h : floor_of ms + suc c.args.count ≤ length ss = Stacks.height-above ss ms _ _ (suc c.args.count) _ c.self.invariant v c.requires in omega (arith, h, c.height.ensures)

pub invariant_of-self : goal.invariant_of-self
invariant_of-self c =
    let ss = reverse c.self.inside.slots.items in
    let ms = reverse c.self.inside.marks.items in
    let v : items_of ss ms ≡ c.args.self.now.items = ap (λ (x : Stacked). x.items) c.self.view_is in
    let e : length ss - 1 - c.args.count ≡ length ss - suc c.args.count = omega arith in
    rw (c.put.ensures.slots, c.height.ensures, e) (Stacks.stays-replaced c.newest-top.result (suc c.args.count) _ _ ss ms _ c.self.invariant v c.requires)

pub returns-clause-items : goal.returns-clause-items
returns-clause-items c =
    let ss = reverse c.self.inside.slots.items in
    let ms = reverse c.self.inside.marks.items in
    let v : items_of ss ms ≡ c.args.self.now.items = ap (λ (x : Stacked). x.items) c.self.view_is in
    rw (c.put.ensures.slots, c.height.ensures) (Stacks.slides c.newest-top.result c.args.count _ _ ss ms _ c.self.invariant v c.requires c.newest-top.ensures)
