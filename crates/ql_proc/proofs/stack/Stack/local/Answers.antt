use Rattle.std.proofs.Common.{◌≡◌, refl, sym, ap, ◌∙◌, ◌+◌, length, reverse, arith, slice_get}
use Rattle.std.proofs.lemmas.List.{length-reverse}
use Rattle.ql_proc.specs.Stacked.{Stacked, base_of, items_of}
use Rattle.ql_proc.proofs.Stacks
use Rattle.ql_proc.proofs.stack.Stack.local.Goals as goal

pub overflow_add-self-inside : goal.overflow_add-self-inside
overflow_add-self-inside c =
    let ss = reverse c.self.inside.slots.items in
    let ms = reverse c.self.inside.marks.items in
    let v : items_of ss ms ≡ c.args.self.now.items = ap (λ (x : Stacked). x.items) c.self.view_is in
    let h = Stacks.base-within _ _ c.self.invariant.rises in omega (arith, h, c.self.invariant.base, length-reverse c.self.inside.slots.items, ap length c.deref.ensures.value)

pub returns : goal.returns
returns c =
    let ss = reverse c.self.inside.slots.items in
    let ms = reverse c.self.inside.marks.items in
    let v : items_of ss ms ≡ c.args.self.now.items = ap (λ (x : Stacked). x.items) c.self.view_is in
    let e : c.slot_in.result ≡ slice_get c.self.inside.slots.items (base_of ms + c.args.at) = c.slot_in.ensures ∙ rw (c.deref.ensures.value, c.self.invariant.base) refl in rw (← v, e) (sym (Stacks.local-slot c.self.inside.slots.items ms c.args.at c.self.invariant.rises))
