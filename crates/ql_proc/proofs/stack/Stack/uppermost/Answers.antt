use Rattle.std.proofs.Common.{◌≡◌, refl, ap, ◌∙◌, ◌≤◌, ◌+◌, length, reverse, arith}
use Rattle.ql_proc.specs.Stacked.{Stacked, floor_of, items_of}
use Rattle.ql_proc.proofs.Stacks
use Rattle.ql_proc.proofs.stack.Stack.uppermost.Goals as goal

pub last_slots-requires : goal.last_slots-requires
last_slots-requires c =
    let ss = reverse c.self.inside.slots.items in
    let ms = reverse c.self.inside.marks.items in
    let v : items_of ss ms ≡ c.args.self.now.items = ap (λ (x : Stacked). x.items) c.self.view_is in
    let h : floor_of ms + c.args.count ≤ length ss = Stacks.height-above ss ms _ _ c.args.count _ c.self.invariant v c.requires in
    rw c.deref.ensures.value (omega (arith, h))

pub returns : goal.returns
returns c =
    let ss = reverse c.self.inside.slots.items in
    let ms = reverse c.self.inside.marks.items in
    let v : items_of ss ms ≡ c.args.self.now.items = ap (λ (x : Stacked). x.items) c.self.view_is in
    let h : floor_of ms + c.args.count ≤ length ss = Stacks.height-above ss ms _ _ c.args.count _ c.self.invariant v c.requires in
    rw (← v, Stacks.take-slots_on c.args.count ss ms h) (c.last_slots.ensures ∙ rw c.deref.ensures.value refl)
