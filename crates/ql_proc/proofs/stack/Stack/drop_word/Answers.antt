use Rattle.std.proofs.Common.{◌≡◌, ◌≤◌, ◌+◌, ap, ◌∙◌, reverse, length, drop, arith}
use Rattle.ql_proc.specs.Stacked.{Stacked, items_of, floor_of}
use Rattle.ql_proc.proofs.Stacks
use Rattle.ql_proc.proofs.Words
use Rattle.ql_proc.proofs.stack.Stack.drop_word.Goals as goal

pub returns-clause-items : goal.returns-clause-items
returns-clause-items c =
    let ss = reverse c.self.inside.slots.items in
    let ms = reverse c.self.inside.marks.items in
    let v : items_of ss ms ≡ c.args.self.now.items = ap (λ (x : Stacked). x.items) c.self.view_is in
    let a : floor_of ms + 1 ≤ length ss = Stacks.height-above ss ms _ _ 1 _ c.self.invariant v (Words.within 1 c.args.self.now.items c.requires) in
    rw c.cut.ensures.slots ((Stacks.dropped-slot _ _ ss ms (omega (arith, a)) c.self.invariant).0 ∙ ap (drop 1) v)
