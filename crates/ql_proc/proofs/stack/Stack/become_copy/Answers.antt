use Rattle.std.proofs.Common.{◌≡◌, refl, ap, ◌∙◌, reverse}
use Rattle.ql_proc.specs.Stacked.{Stacked, items_of}
use Rattle.ql_proc.proofs.Windowed
use Rattle.ql_proc.proofs.stack.Stack.become_copy.Goals as goal

pub invariant_of-self-2 : goal.invariant_of-self-2
invariant_of-self-2 c =
    let slots : reverse c.replace_over.new.items.items ≡ reverse c.window.inside.slots.items = c.replace_over.ensures ∙ (Windowed.over-nothing (reverse c.deref-3.result.now) (reverse c.reserve_over.new.items.items) ∙ rw c.deref-3.ensures.value refl) in
    let marks : reverse c.replace_over-2.new.items.items ≡ reverse c.window.inside.marks.items = c.replace_over-2.ensures ∙ (Windowed.over-nothing (reverse c.deref-4.result.now) (reverse c.reserve_over-2.new.items.items) ∙ rw c.deref-4.ensures.value refl) in
    rw (slots, marks) c.window.invariant

pub returns-clause-items : goal.returns-clause-items
returns-clause-items c =
    let w : items_of (reverse c.window.inside.slots.items) (reverse c.window.inside.marks.items) ≡ c.args.window.now.items = ap (λ (x : Stacked). x.items) c.window.view_is in
    let slots : reverse c.replace_over.new.items.items ≡ reverse c.window.inside.slots.items = c.replace_over.ensures ∙ (Windowed.over-nothing (reverse c.deref-3.result.now) (reverse c.reserve_over.new.items.items) ∙ rw c.deref-3.ensures.value refl) in
    let marks : reverse c.replace_over-2.new.items.items ≡ reverse c.window.inside.marks.items = c.replace_over-2.ensures ∙ (Windowed.over-nothing (reverse c.deref-4.result.now) (reverse c.reserve_over-2.new.items.items) ∙ rw c.deref-4.ensures.value refl) in
    rw (slots, marks) w
