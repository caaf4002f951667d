use Rattle.std.proofs.Common.{◌≡◌, sym, ap, ◌∙◌, ◌≤◌, ◌+◌, true, length, List, reverse, suc, arith, Some, slice_get}
use Rattle.ql_code.specs.Machine.{Item}
use Rattle.ql_proc.specs.Stacked.{Stacked, floor_of, items_of}
use Rattle.ql_proc.specs.Slots.{slots_on, are_words}
use Rattle.ql_proc.proofs.Stacks
use Rattle.ql_proc.proofs.Words
use Rattle.ql_proc.proofs.stack.Stack.word_under.Goals as goal

pub returns-then-slots_above-count : goal.returns-then-slots_above-count
returns-then-slots_above-count c =
    let n = c.args.count in
    let st = c.args.self.now.items in
    let a : are_words n st ≡ true = Words.there n st c.requires in
    sym (Words.none-under n st a (omega (arith, c.if-slots_above-count.true, c.slots_above.ensures)))

pub newest-requires : goal.newest-requires
newest-requires c =
    let ss = reverse c.self.inside.slots.items in
    let ms = reverse c.self.inside.marks.items in
    let v : items_of ss ms ≡ c.args.self.now.items = ap (λ (x : Stacked). x.items) c.self.view_is in
    let n = c.args.count in
    let st = c.args.self.now.items in
    let a : are_words n st ≡ true = Words.there n st c.requires in
    let f : floor_of ms ≤ length ss = Stacks.floor-within _ _ c.self.invariant.rises in
    let h : floor_of ms + suc n ≤ length ss = Stacks.height-above ss ms _ _ (suc n) _ c.self.invariant v (omega (arith, c.if-slots_above-count.false, c.slots_above.ensures)) in
    let g = sym (ap (λ (x : List Item). slice_get (slots_on x) n) v) ∙ Stacks.slot-under n ss ms h in
    omega (arith, h)

pub returns-in-Val : goal.returns-in-Val
returns-in-Val c =
    let ss = reverse c.self.inside.slots.items in
    let ms = reverse c.self.inside.marks.items in
    let v : items_of ss ms ≡ c.args.self.now.items = ap (λ (x : Stacked). x.items) c.self.view_is in
    let n = c.args.count in
    let st = c.args.self.now.items in
    let a : are_words n st ≡ true = Words.there n st c.requires in
    let f : floor_of ms ≤ length ss = Stacks.floor-within _ _ c.self.invariant.rises in
    let h : floor_of ms + suc n ≤ length ss = Stacks.height-above ss ms _ _ (suc n) _ c.self.invariant v (omega (arith, c.if-slots_above-count.false, c.slots_above.ensures)) in
    let g = sym (ap (λ (x : List Item). slice_get (slots_on x) n) v) ∙ Stacks.slot-under n ss ms h in
    sym (Words.words-under n st c.in-Val.w a (g ∙ (c.newest.ensures ∙ ap Some c.in-Val.is)))

pub returns-in-Cell : goal.returns-in-Cell
returns-in-Cell c =
    let ss = reverse c.self.inside.slots.items in
    let ms = reverse c.self.inside.marks.items in
    let v : items_of ss ms ≡ c.args.self.now.items = ap (λ (x : Stacked). x.items) c.self.view_is in
    let n = c.args.count in
    let st = c.args.self.now.items in
    let a : are_words n st ≡ true = Words.there n st c.requires in
    let f : floor_of ms ≤ length ss = Stacks.floor-within _ _ c.self.invariant.rises in
    let h : floor_of ms + suc n ≤ length ss = Stacks.height-above ss ms _ _ (suc n) _ c.self.invariant v (omega (arith, c.if-slots_above-count.false, c.slots_above.ensures)) in
    let g = sym (ap (λ (x : List Item). slice_get (slots_on x) n) v) ∙ Stacks.slot-under n ss ms h in
    sym (Words.box-under n c.in-Cell.field-0 st a (g ∙ (c.newest.ensures ∙ ap Some c.in-Cell.is)))
