use Rattle.std.proofs.Common.{◌≡◌, ap, ◌≤◌, ◌+◌, length, reverse, suc, arith}
use Rattle.ql_proc.specs.Stacked.{Stacked, floor_of, items_of}
use Rattle.ql_proc.specs.Slots.{slots_on}
use Rattle.ql_proc.proofs.Stacks
use Rattle.ql_proc.proofs.Words
use Rattle.ql_proc.proofs.stack.Stack.remove_under.Goals as goal

pub take_out-requires : goal.take_out-requires
take_out-requires c =
    let ss = reverse c.self.inside.slots.items in
    let ms = reverse c.self.inside.marks.items in
    let v : items_of ss ms ≡ c.args.self.now.items = ap (λ (x : Stacked). x.items) c.self.view_is in
    let a : suc c.args.count ≤ length (slots_on c.args.self.now.items) = Words.within (suc c.args.count) c.args.self.now.items c.requires in
    let h : floor_of ms + suc c.args.count ≤ length ss = Stacks.height-above ss ms _ _ (suc c.args.count) _ c.self.invariant v a in omega (arith, h)

pub invariant_of-self : goal.invariant_of-self
invariant_of-self c =
    let ss = reverse c.self.inside.slots.items in
    let ms = reverse c.self.inside.marks.items in
    let v : items_of ss ms ≡ c.args.self.now.items = ap (λ (x : Stacked). x.items) c.self.view_is in
    let a : suc c.args.count ≤ length (slots_on c.args.self.now.items) = Words.within (suc c.args.count) c.args.self.now.items c.requires in
    rw c.take_out.ensures.slots (Stacks.stays-taken-out c.args.count _ _ ss ms _ c.self.invariant v a)

pub returns-clause-items : goal.returns-clause-items
returns-clause-items c =
    let ss = reverse c.self.inside.slots.items in
    let ms = reverse c.self.inside.marks.items in
    let v : items_of ss ms ≡ c.args.self.now.items = ap (λ (x : Stacked). x.items) c.self.view_is in
    let a : suc c.args.count ≤ length (slots_on c.args.self.now.items) = Words.within (suc c.args.count) c.args.self.now.items c.requires in
    rw c.take_out.ensures.slots (Stacks.taken-out c.args.count _ _ ss ms _ c.self.invariant v a)
