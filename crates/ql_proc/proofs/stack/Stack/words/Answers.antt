use Rattle.std.proofs.Common.{◌≡◌, ap, ◌≤◌, true, length, reverse, arith}
use Rattle.std.proofs.lemmas.List.{length-reverse}
use Rattle.ql_proc.specs.Stacked.{Stacked, items_of}
use Rattle.ql_proc.specs.Slots.{are_words}
use Rattle.ql_proc.proofs.Stacks
use Rattle.ql_proc.proofs.Words
use Rattle.ql_proc.proofs.stack.Stack.words.Goals as goal

pub last_words-requires : goal.last_words-requires
last_words-requires c =
    let ss = reverse c.self.inside.slots.items in
    let ms = reverse c.self.inside.marks.items in
    let v : items_of ss ms ≡ c.args.self.now.items = ap (λ (x : Stacked). x.items) c.self.view_is in
    let n = c.args.count in
    let st = c.args.self.now.items in
    let a : are_words n st ≡ true = Words.there n st c.requires in
    let h : n ≤ length ss = Stacks.within-last n _ _ ss ms _ c.self.invariant v (Words.words-within n st a) in
    rw c.deref.ensures.value (omega (arith, h, length-reverse c.self.inside.slots.items))

pub returns : goal.returns
returns c =
    let ss = reverse c.self.inside.slots.items in
    let ms = reverse c.self.inside.marks.items in
    let v : items_of ss ms ≡ c.args.self.now.items = ap (λ (x : Stacked). x.items) c.self.view_is in
    let n = c.args.count in
    let st = c.args.self.now.items in
    rw (← Stacks.words-last n _ _ ss ms st c.self.invariant v (Words.there n st c.requires)) (rw c.deref.ensures.value at c.last_words.ensures)
