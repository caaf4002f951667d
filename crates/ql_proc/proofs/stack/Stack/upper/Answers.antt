use Rattle.std.proofs.Common.{◌≡◌, ◌≤◌, refl, ap, ◌∙◌, ◌-◌, [], length, reverse, take, drop}
use Rattle.ql_code.specs.LocalPath.{topmost}
use Rattle.ql_proc.specs.Stacked.{Stacked, items_of, floor_of}
use Rattle.ql_proc.specs.Windowed.{shifted}
use Rattle.ql_proc.proofs.Windowed
use Rattle.ql_proc.proofs.Windowed.{puts}
use Rattle.ql_proc.proofs.stack.Stack.upper.Goals as goal

pub upper_slots-requires : goal.upper_slots-requires
upper_slots-requires c =
    let ss = reverse c.self.inside.slots.items in
    let ms = reverse c.self.inside.marks.items in
    let u : c.height_under-under.result ≡ floor_of (drop 63 ms) = c.height_under-under.ensures ∙ rw c.deref.ensures.value refl in
    rw (c.deref-2.ensures.value, u) (Windowed.under-within 63 ss ms c.self.invariant.rises)

pub invariant_of-result : goal.invariant_of-result
invariant_of-result c =
    let ss = reverse c.self.inside.slots.items in
    let ms = reverse c.self.inside.marks.items in
    let h = c.height_under-under.result in
    let u : h ≡ floor_of (drop 63 ms) = c.height_under-under.ensures ∙ rw c.deref.ensures.value refl in
    let um : reverse c.upper_marks.result.now ≡ take 64 ms = c.upper_marks.ensures ∙ rw c.deref-3.ensures.value refl in
    let us : reverse c.upper_slots.result.now ≡ take (length ss - floor_of (drop 63 ms)) ss = c.upper_slots.ensures.slots ∙ rw (c.deref-2.ensures.value, u) refl in
    let fits : length ss ≤ 18446744073709551615 = rw c.deref-2.ensures.value at c.upper_slots.ensures.fits in
    let marks : reverse c.in_ok-marks.marks.items ≡ puts (shifted 0 h) [] (take 64 ms) =
    c.in_ok-marks.ensures.marks ∙ (Windowed.puts-of (shifted 0 h) [] c.upper_marks.result.now ∙ rw um refl) in
    Windowed.stack-is _ _ _ _ _ _ (ap reverse c.in_ok-slots.ensures.items ∙ us) marks (c.floor_under.ensures ∙ rw c.deref-4.ensures.value refl) c.in_ok-marks.ensures.base
    (Windowed.window-stack 63 ss ms c.self.invariant.rises (shifted 0 h) (Windowed.shifted-down h _ (length ss) u fits))

pub returns-clause-items : goal.returns-clause-items
returns-clause-items c =
    let ss = reverse c.self.inside.slots.items in
    let ms = reverse c.self.inside.marks.items in
    let v : items_of ss ms ≡ c.args.self.now.items = ap (λ (x : Stacked). x.items) c.self.view_is in
    let h = c.height_under-under.result in
    let u : h ≡ floor_of (drop 63 ms) = c.height_under-under.ensures ∙ rw c.deref.ensures.value refl in
    let um : reverse c.upper_marks.result.now ≡ take 64 ms = c.upper_marks.ensures ∙ rw c.deref-3.ensures.value refl in
    let us : reverse c.upper_slots.result.now ≡ take (length ss - floor_of (drop 63 ms)) ss = c.upper_slots.ensures.slots ∙ rw (c.deref-2.ensures.value, u) refl in
    let fits : length ss ≤ 18446744073709551615 = rw c.deref-2.ensures.value at c.upper_slots.ensures.fits in
    let slots : reverse c.in_ok-slots.slots.items ≡ take (length ss - floor_of (drop 63 ms)) ss = ap reverse c.in_ok-slots.ensures.items ∙ us in
    let marks : reverse c.in_ok-marks.marks.items ≡ puts (shifted 0 h) [] (take 64 ms) =
    c.in_ok-marks.ensures.marks ∙ (Windowed.puts-of (shifted 0 h) [] c.upper_marks.result.now ∙ rw um refl) in
    rw (slots, marks) (Windowed.window-items 63 ss ms c.self.invariant.rises (shifted 0 h) (Windowed.shifted-down h _ (length ss) u fits) ∙ ap (topmost 64) v)
