use Rattle.std.proofs.Common.{◌≡◌, sym, ap, ◌∙◌, false, List, reverse}
use Rattle.ql_code.specs.Machine.{Item, top_mark}
use Rattle.ql_proc.specs.Stacked.{Stacked, items_of, mark_of}
use Rattle.ql_proc.specs.Slots.{is_call}
use Rattle.ql_proc.proofs.Stacks
use Rattle.ql_proc.proofs.Unwinds
use Rattle.ql_proc.proofs.stack.Stack.leave_slots.Goals as goal

pub shorten-requires : goal.shorten-requires
shorten-requires c =
    let ss = reverse c.self.inside.slots.items in
    let ms = reverse c.self.inside.marks.items in
    let v : items_of ss ms ≡ c.args.self.now.items = ap (λ (x : Stacked). x.items) c.self.view_is in
    rw c.self.invariant.floor (Stacks.floor-within _ _ c.self.invariant.rises)

pub invariant_of-self : goal.invariant_of-self
invariant_of-self c =
    let ss = reverse c.self.inside.slots.items in
    let ms = reverse c.self.inside.marks.items in
    let v : items_of ss ms ≡ c.args.self.now.items = ap (λ (x : Stacked). x.items) c.self.view_is in
    rw (c.shorten.ensures.slots, c.self.invariant.floor) (rw c.self.invariant.floor at (Unwinds.stays-unwound ss ms _ _ c.self.invariant))

pub returns-clause-items : goal.returns-clause-items
returns-clause-items c =
    let ss = reverse c.self.inside.slots.items in
    let ms = reverse c.self.inside.marks.items in
    let v : items_of ss ms ≡ c.args.self.now.items = ap (λ (x : Stacked). x.items) c.self.view_is in
    let k : is_call (mark_of ms) ≡ false = sym (ap is_call (Stacks.top_mark-of ss ms)) ∙ (ap (λ (x : List Item). is_call (top_mark x)) v ∙ c.requires) in
    rw (c.shorten.ensures.slots, c.self.invariant.floor, ← v) (Unwinds.unwound ss ms (Stacks.floor-within _ _ c.self.invariant.rises) k)
