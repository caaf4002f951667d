use Rattle.std.proofs.Common.{◌≡◌, refl, sym, ap, ◌∙◌, ◌-◌, length, reverse, take, drop}
use Rattle.ql_code.specs.LocalPath.{topmost}
use Rattle.ql_proc.specs.Stacked.{Stacked, items_of, floor_of}
use Rattle.ql_proc.proofs.Windowed
use Rattle.ql_proc.proofs.stack.Stack.has_window.Goals as goal

pub upper_slots-requires : goal.upper_slots-requires
upper_slots-requires c =
    let ss = reverse c.self.inside.slots.items in
    let ms = reverse c.self.inside.marks.items in
    let u : c.height_under-under.result ≡ floor_of (drop 63 ms) = c.height_under-under.ensures ∙ rw c.deref.ensures.value refl in
    rw (c.deref-then-are_same_marks.ensures.value, u) (Windowed.under-within 63 ss ms c.self.invariant.rises)

pub returns-then-are_same_marks : goal.returns-then-are_same_marks
returns-then-are_same_marks c =
    let ss = reverse c.self.inside.slots.items in
    let ms = reverse c.self.inside.marks.items in
    let v : items_of ss ms ≡ c.args.self.now.items = ap (λ (x : Stacked). x.items) c.self.view_is in
    let ts = reverse c.window.inside.slots.items in
    let ns = reverse c.window.inside.marks.items in
    let w : items_of ts ns ≡ c.args.window.now.items = ap (λ (x : Stacked). x.items) c.window.view_is in
    let u : c.height_under-under.result ≡ floor_of (drop 63 ms) = c.height_under-under.ensures ∙ rw c.deref.ensures.value refl in
    let um : reverse c.upper_marks.result.now ≡ take 64 ms = c.upper_marks.ensures ∙ rw c.deref-2.ensures.value refl in
    let us : reverse c.upper_slots.result.now ≡ take (length ss - floor_of (drop 63 ms)) ss = c.upper_slots.ensures.slots ∙ rw (c.deref-then-are_same_marks.ensures.value, u) refl in
    let tops = Windowed.upward-tops _ _ c.window.inside.marks.items c.upper_marks.result.now c.deref-3.result.now _ u c.deref-3.ensures.value um (c.are_same_marks.ensures.0 c.if-are_same_marks.true) in (
      λ t. sym w
          ∙ (Windowed.same-window 63 ss ms c.self.invariant.rises ts ns (Windowed.upward-slots c.window.inside.slots.items c.upper_slots.result.now c.deref-then-are_same_marks-2.result.now _ c.deref-then-are_same_marks-2.ensures.value us (c.are_same_slots.ensures.0 t)) tops
          ∙ ap (topmost 64) v),
      λ e. c.are_same_slots.ensures.1
          (Windowed.forward-slots c.window.inside.slots.items c.upper_slots.result.now c.deref-then-are_same_marks-2.result.now _ c.deref-then-are_same_marks-2.ensures.value us (Windowed.window-slots 63 ss ms c.self.invariant.rises ts ns (w ∙ (e ∙ sym (ap (topmost 64) v))))),
    )

pub returns-else-are_same_marks : goal.returns-else-are_same_marks
returns-else-are_same_marks c =
    let ss = reverse c.self.inside.slots.items in
    let ms = reverse c.self.inside.marks.items in
    let v : items_of ss ms ≡ c.args.self.now.items = ap (λ (x : Stacked). x.items) c.self.view_is in
    let ts = reverse c.window.inside.slots.items in
    let ns = reverse c.window.inside.marks.items in
    let w : items_of ts ns ≡ c.args.window.now.items = ap (λ (x : Stacked). x.items) c.window.view_is in
    let u : c.height_under-under.result ≡ floor_of (drop 63 ms) = c.height_under-under.ensures ∙ rw c.deref.ensures.value refl in
    let um : reverse c.upper_marks.result.now ≡ take 64 ms = c.upper_marks.ensures ∙ rw c.deref-2.ensures.value refl in (
      λ t. absurd cc,
      λ e. c.are_same_marks.ensures.1
          (Windowed.forward-tops _ _ c.window.inside.marks.items c.upper_marks.result.now c.deref-3.result.now _ u c.deref-3.ensures.value um
          (Windowed.window-marks 63 ss ms c.self.invariant.rises ts ns c.window.invariant.rises (w ∙ (e ∙ sym (ap (topmost 64) v))))),
    )
