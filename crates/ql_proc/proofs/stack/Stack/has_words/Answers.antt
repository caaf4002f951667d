use Rattle.std.proofs.Common.{◌≡◌, refl, sym, ap, ◌∙◌, ◌≤◌, ◌+◌, length, reverse, arith}
use Rattle.std.proofs.lemmas.List.{length-reverse}
use Rattle.ql_proc.specs.Stacked.{Stacked, floor_of, items_of}
use Rattle.ql_proc.proofs.Stacks
use Rattle.ql_proc.proofs.Words
use Rattle.ql_proc.proofs.stack.Stack.has_words.Goals as goal

pub returns-then-slots_above-count : goal.returns-then-slots_above-count
returns-then-slots_above-count c =
    sym (Stacks.words-short c.args.count c.args.self.now.items (omega (arith, c.if-slots_above-count.true, c.slots_above.ensures))) ∙ Words.told c.args.count c.args.self.now.items

pub last_are_plain-requires : goal.last_are_plain-requires
last_are_plain-requires c =
    let ss = reverse c.self.inside.slots.items in
    let ms = reverse c.self.inside.marks.items in
    let v : items_of ss ms ≡ c.args.self.now.items = ap (λ (x : Stacked). x.items) c.self.view_is in
    let h : floor_of ms + c.args.count ≤ length ss = Stacks.height-above ss ms _ _ c.args.count _ c.self.invariant v (omega (arith, c.if-slots_above-count.false, c.slots_above.ensures)) in
    rw c.deref.ensures.value (omega (arith, h, length-reverse c.self.inside.slots.items))

pub returns : goal.returns
returns c =
    let ss = reverse c.self.inside.slots.items in
    let ms = reverse c.self.inside.marks.items in
    let v : items_of ss ms ≡ c.args.self.now.items = ap (λ (x : Stacked). x.items) c.self.view_is in
    let h : floor_of ms + c.args.count ≤ length ss = Stacks.height-above ss ms _ _ c.args.count _ c.self.invariant v (omega (arith, c.if-slots_above-count.false, c.slots_above.ensures)) in
    rw (← Words.told c.args.count c.args.self.now.items, ← v, Stacks.words-are c.args.count ss ms h) (c.last_are_plain.ensures ∙ rw c.deref.ensures.value refl)
