use Rattle.std.proofs.Common.{refl, ◌≡◌, ap, ◌∙◌, length, ◌-◌, reverse, drop}
use Rattle.ql_proc.specs.Stacked.{Stacked, items_of, floor_of}
use Rattle.ql_proc.proofs.Topmost
use Rattle.ql_proc.proofs.stack.Stack.loose_below.Goals as goal

pub returns : goal.returns
returns c =
    let ss = reverse c.self.inside.slots.items in
    let ms = reverse c.self.inside.marks.items in
    let v : items_of ss ms ≡ c.args.self.now.items = ap (λ (x : Stacked). x.items) c.self.view_is in
    let e : reverse c.below.result.now ≡ drop (length ss - floor_of ms) ss = c.below.ensures ∙ rw (c.deref-2.ensures.value, c.self.invariant.floor) refl in
    let l : c.floor_under-lower.result ≡ floor_of (drop 1 ms) = c.floor_under-lower.ensures ∙ (ap floor_of c.all_but_one.ensures ∙ rw c.deref.ensures.value refl) in
    rw (← v, Topmost.slots-below ss ms c.self.invariant.rises, ← e, ← l) c.above.ensures
