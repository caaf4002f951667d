use Rattle.std.proofs.Common.{◌≡◌, ◌≤◌, ◌+◌, ◌++◌, refl, ap, ◌∙◌, ◌-◌, length, reverse, drop}
use Rattle.std.proofs.lemmas.List.{length-reverse}
use Rattle.ql_proc.specs.Stacked.{Stacked, items_of, floor_of}
use Rattle.ql_proc.specs.Windowed.{shifted}
use Rattle.ql_proc.proofs.Windowed
use Rattle.ql_proc.proofs.Windowed.{puts}
use Rattle.ql_proc.proofs.stack.Stack.put_upper.Goals as goal

pub reserve_over-requires : goal.reserve_over-requires
reserve_over-requires c =
    let ss = reverse c.self.inside.slots.items in
    let ms = reverse c.self.inside.marks.items in
    let u : c.height_under-under.result ≡ floor_of (drop 63 ms) = c.height_under-under.ensures ∙ rw c.deref.ensures.value refl in
    rw u (Windowed.under-within 63 ss ms c.self.invariant.rises)

pub replace_over-requires-clause-within : goal.replace_over-requires-clause-within
replace_over-requires-clause-within c =
    let ss = reverse c.self.inside.slots.items in
    let ms = reverse c.self.inside.marks.items in
    let u : c.height_under-under.result ≡ floor_of (drop 63 ms) = c.height_under-under.ensures ∙ rw c.deref.ensures.value refl in
    rw (c.reserve_over.ensures.items, u) (Windowed.under-within 63 ss ms c.self.invariant.rises)

pub invariant_of-self-2 : goal.invariant_of-self-2
invariant_of-self-2 c =
    let ss = reverse c.self.inside.slots.items in
    let ms = reverse c.self.inside.marks.items in
    let ws = reverse c.window.inside.slots.items in
    let ns = reverse c.window.inside.marks.items in
    let h = c.height_under-under.result in
    let u : h ≡ floor_of (drop 63 ms) = c.height_under-under.ensures ∙ rw c.deref.ensures.value refl in
    let fits : h + length ws ≤ 18446744073709551615 = rw (length-reverse c.window.inside.slots.items) (rw c.deref-3.ensures.value at c.in_ok-reserve_over.ensures.fits) in
    let slots : reverse c.replace_over.new.items.items ≡ ws ++ drop (length ss - floor_of (drop 63 ms)) ss = c.replace_over.ensures ∙ rw (c.deref-5.ensures.value, c.reserve_over.ensures.items, u) refl in
    let marks : reverse c.replace_marks-self-inside.new.marks.items ≡ puts (shifted h 0) (drop 64 ms) ns =
    c.replace_marks-self-inside.ensures.marks ∙ (Windowed.puts-of (shifted h 0) _ c.deref-6.result.now ∙ rw (c.reserve_over-2.ensures.items, c.deref-6.ensures.value) refl) in
    Windowed.stack-is _ _ _ _ _ _ slots marks (c.floor_under-self-inside.ensures ∙ rw c.deref-7.ensures.value refl) c.replace_marks-self-inside.ensures.base
    (Windowed.put-stack 63 ss ms c.self.invariant.rises ws ns c.window.invariant.rises (shifted h 0) (Windowed.shifted-up h _ (length ws) u fits) c.self.invariant.links)

pub returns-clause-items : goal.returns-clause-items
returns-clause-items c =
    let ss = reverse c.self.inside.slots.items in
    let ms = reverse c.self.inside.marks.items in
    let v : items_of ss ms ≡ c.args.self.now.items = ap (λ (x : Stacked). x.items) c.self.view_is in
    let ws = reverse c.window.inside.slots.items in
    let ns = reverse c.window.inside.marks.items in
    let w : items_of ws ns ≡ c.args.window.now.items = ap (λ (x : Stacked). x.items) c.window.view_is in
    let h = c.height_under-under.result in
    let u : h ≡ floor_of (drop 63 ms) = c.height_under-under.ensures ∙ rw c.deref.ensures.value refl in
    let fits : h + length ws ≤ 18446744073709551615 = rw (length-reverse c.window.inside.slots.items) (rw c.deref-3.ensures.value at c.in_ok-reserve_over.ensures.fits) in
    let slots : reverse c.replace_over.new.items.items ≡ ws ++ drop (length ss - floor_of (drop 63 ms)) ss = c.replace_over.ensures ∙ rw (c.deref-5.ensures.value, c.reserve_over.ensures.items, u) refl in
    let marks : reverse c.replace_marks-self-inside.new.marks.items ≡ puts (shifted h 0) (drop 64 ms) ns =
    c.replace_marks-self-inside.ensures.marks ∙ (Windowed.puts-of (shifted h 0) _ c.deref-6.result.now ∙ rw (c.reserve_over-2.ensures.items, c.deref-6.ensures.value) refl) in
    rw (slots, marks, ← w, ← v) (Windowed.put-items 63 ss ms c.self.invariant.rises ws ns c.window.invariant.rises (shifted h 0) (Windowed.shifted-up h _ (length ws) u fits))
