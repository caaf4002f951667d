use Rattle.std.proofs.Common.{◌≡◌, sym, ap, ◌≤◌, true, length, reverse}
use Rattle.ql_world.specs.Tick.{slots_of}
use Rattle.ql_code.specs.Code.{unmasked}
use Rattle.ql_code.specs.Machine.{words}
use Rattle.ql_proc.specs.Stacked.{Stacked, items_of}
use Rattle.ql_proc.specs.Slots.{slots_on, are_words}
use Rattle.ql_proc.proofs.Stacks
use Rattle.ql_proc.proofs.Words
use Rattle.ql_proc.proofs.stack.Stack.bind.Goals as goal

pub returns-then-mask-eq0-clause-items : goal.returns-then-mask-eq0-clause-items
returns-then-mask-eq0-clause-items c =
    let st = c.args.self.now.items in
    let w : are_words c.args.count st ≡ true = Words.there c.args.count st c.requires.words in
    rw (c.if-mask-eq0.true, Words.words-plain c.args.count st c.args.first w) (sym (Words.push-back c.args.count st w))

pub bind_last-requires-clause-within : goal.bind_last-requires-clause-within
bind_last-requires-clause-within c =
    let ss = reverse c.self.inside.slots.items in
    let ms = reverse c.self.inside.marks.items in
    let v : items_of ss ms ≡ c.args.self.now.items = ap (λ (x : Stacked). x.items) c.self.view_is in
    let w : are_words c.args.count c.args.self.now.items ≡ true = Words.there c.args.count c.args.self.now.items c.requires.words in
    let a : c.args.count ≤ length (slots_on c.args.self.now.items) = Words.words-within c.args.count c.args.self.now.items w in
    Stacks.within-last c.args.count _ _ ss ms _ c.self.invariant v a

pub bind_last-requires-clause-words : goal.bind_last-requires-clause-words
bind_last-requires-clause-words c =
    let ss = reverse c.self.inside.slots.items in
    let ms = reverse c.self.inside.marks.items in
    let v : items_of ss ms ≡ c.args.self.now.items = ap (λ (x : Stacked). x.items) c.self.view_is in
    let w : are_words c.args.count c.args.self.now.items ≡ true = Words.there c.args.count c.args.self.now.items c.requires.words in
    let a : c.args.count ≤ length (slots_on c.args.self.now.items) = Words.words-within c.args.count c.args.self.now.items w in
    Stacks.plain-last c.args.count _ _ ss ms _ c.self.invariant v w

pub bind_last-requires-clause-boxes : goal.bind_last-requires-clause-boxes
bind_last-requires-clause-boxes c =
    let ss = reverse c.self.inside.slots.items in
    let ms = reverse c.self.inside.marks.items in
    let v : items_of ss ms ≡ c.args.self.now.items = ap (λ (x : Stacked). x.items) c.self.view_is in
    let w : are_words c.args.count c.args.self.now.items ≡ true = Words.there c.args.count c.args.self.now.items c.requires.words in
    let a : c.args.count ≤ length (slots_on c.args.self.now.items) = Words.words-within c.args.count c.args.self.now.items w in
    rw (Stacks.words-last c.args.count _ _ ss ms _ c.self.invariant v w) c.requires.boxes

pub invariant_of-self : goal.invariant_of-self
invariant_of-self c =
    let ss = reverse c.self.inside.slots.items in
    let ms = reverse c.self.inside.marks.items in
    let v : items_of ss ms ≡ c.args.self.now.items = ap (λ (x : Stacked). x.items) c.self.view_is in
    let w : are_words c.args.count c.args.self.now.items ≡ true = Words.there c.args.count c.args.self.now.items c.requires.words in
    let a : c.args.count ≤ length (slots_on c.args.self.now.items) = Words.words-within c.args.count c.args.self.now.items w in
    let xs = slots_of (unmasked c.args.count c.args.mask) (words c.args.count c.args.self.now.items) c.args.first in
    rw (c.bind_last.ensures.slots, Stacks.words-last c.args.count _ _ ss ms _ c.self.invariant v w) (Stacks.stays-changed c.args.count _ _ xs ss ms _ c.self.invariant v a)

pub returns-clause-items : goal.returns-clause-items
returns-clause-items c =
    let ss = reverse c.self.inside.slots.items in
    let ms = reverse c.self.inside.marks.items in
    let v : items_of ss ms ≡ c.args.self.now.items = ap (λ (x : Stacked). x.items) c.self.view_is in
    let w : are_words c.args.count c.args.self.now.items ≡ true = Words.there c.args.count c.args.self.now.items c.requires.words in
    let a : c.args.count ≤ length (slots_on c.args.self.now.items) = Words.words-within c.args.count c.args.self.now.items w in
    let xs = slots_of (unmasked c.args.count c.args.mask) (words c.args.count c.args.self.now.items) c.args.first in
    rw (c.bind_last.ensures.slots, Stacks.words-last c.args.count _ _ ss ms _ c.self.invariant v w)
    (Stacks.changed c.args.count _ _ xs ss ms _ c.self.invariant v a)
