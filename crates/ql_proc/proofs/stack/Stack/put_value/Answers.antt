use Rattle.std.proofs.Common.{◌≡◌, ap, ◌∙◌, ◌≤◌, true, length, map, drop, reverse}
use Rattle.ql_world.specs.declared.word.Slot.TheVariants.{Val}
use Rattle.ql_world.specs.Word.{with_value}
use Rattle.ql_code.specs.Machine.{words}
use Rattle.ql_proc.specs.Stacked.{Stacked, items_of}
use Rattle.ql_proc.specs.Slots.{slots_on, are_words}
use Rattle.ql_proc.proofs.Stacks
use Rattle.ql_proc.proofs.Words
use Rattle.ql_proc.proofs.stack.Stack.put_value.Goals as goal

pub put_value-requires-clause-within : goal.put_value-requires-clause-within
put_value-requires-clause-within c =
    let ss = reverse c.self.inside.slots.items in
    let ms = reverse c.self.inside.marks.items in
    let v : items_of ss ms ≡ c.args.self.now.items = ap (λ (x : Stacked). x.items) c.self.view_is in
    let w : are_words c.args.count c.args.self.now.items ≡ true = Words.there c.args.count c.args.self.now.items c.requires in
    let a : c.args.count ≤ length (slots_on c.args.self.now.items) = Words.words-within c.args.count c.args.self.now.items w in
    Stacks.within-last c.args.count _ _ ss ms _ c.self.invariant v a

pub put_value-requires-clause-words : goal.put_value-requires-clause-words
put_value-requires-clause-words c =
    let ss = reverse c.self.inside.slots.items in
    let ms = reverse c.self.inside.marks.items in
    let v : items_of ss ms ≡ c.args.self.now.items = ap (λ (x : Stacked). x.items) c.self.view_is in
    let w : are_words c.args.count c.args.self.now.items ≡ true = Words.there c.args.count c.args.self.now.items c.requires in
    let a : c.args.count ≤ length (slots_on c.args.self.now.items) = Words.words-within c.args.count c.args.self.now.items w in
    Stacks.plain-last c.args.count _ _ ss ms _ c.self.invariant v w

pub invariant_of-self : goal.invariant_of-self
invariant_of-self c =
    let ss = reverse c.self.inside.slots.items in
    let ms = reverse c.self.inside.marks.items in
    let v : items_of ss ms ≡ c.args.self.now.items = ap (λ (x : Stacked). x.items) c.self.view_is in
    let w : are_words c.args.count c.args.self.now.items ≡ true = Words.there c.args.count c.args.self.now.items c.requires in
    let a : c.args.count ≤ length (slots_on c.args.self.now.items) = Words.words-within c.args.count c.args.self.now.items w in
    let ws = with_value c.args.value (words c.args.count c.args.self.now.items) in
    rw (c.put_value.ensures.slots, Stacks.words-last c.args.count _ _ ss ms _ c.self.invariant v w) (Stacks.stays-changed c.args.count _ _ (map Val ws) ss ms _ c.self.invariant v a)

pub returns-clause-items : goal.returns-clause-items
returns-clause-items c =
    let ss = reverse c.self.inside.slots.items in
    let ms = reverse c.self.inside.marks.items in
    let v : items_of ss ms ≡ c.args.self.now.items = ap (λ (x : Stacked). x.items) c.self.view_is in
    let w : are_words c.args.count c.args.self.now.items ≡ true = Words.there c.args.count c.args.self.now.items c.requires in
    let a : c.args.count ≤ length (slots_on c.args.self.now.items) = Words.words-within c.args.count c.args.self.now.items w in
    let ws = with_value c.args.value (words c.args.count c.args.self.now.items) in
    rw (c.put_value.ensures.slots, Stacks.words-last c.args.count _ _ ss ms _ c.self.invariant v w)
    (Stacks.changed c.args.count _ _ (map Val ws) ss ms _ c.self.invariant v a ∙ Words.push-plain ws (drop c.args.count c.args.self.now.items))
