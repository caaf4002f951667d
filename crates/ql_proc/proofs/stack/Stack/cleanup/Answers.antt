use Rattle.std.proofs.Common.{◌≡◌, ap, ◌∙◌, refl, reverse}
use Rattle.ql_proc.specs.Stacked.{Stacked, items_of}
use Rattle.ql_proc.proofs.Tops
use Rattle.ql_proc.proofs.stack.Stack.cleanup.Goals as goal

pub returns : goal.returns
returns c =
    let ss = reverse c.self.inside.slots.items in
    let ms = reverse c.self.inside.marks.items in
    let v : items_of ss ms ≡ c.args.self.now.items = ap (λ (x : Stacked). x.items) c.self.view_is in
    rw (← v, Tops.cleanups-items ss ms) (c.cleanup_in.ensures ∙ rw c.deref.ensures.value refl)
