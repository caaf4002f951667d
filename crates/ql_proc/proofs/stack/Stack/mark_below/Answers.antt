use Rattle.std.proofs.Common.{refl, ◌≡◌, ap, ◌∙◌, reverse}
use Rattle.ql_proc.specs.Stacked.{Stacked, items_of, mark_of}
use Rattle.ql_proc.proofs.Topmost
use Rattle.ql_proc.proofs.stack.Stack.mark_below.Goals as goal

pub returns : goal.returns
returns c =
    let ss = reverse c.self.inside.slots.items in
    let ms = reverse c.self.inside.marks.items in
    let v : items_of ss ms ≡ c.args.self.now.items = ap (λ (x : Stacked). x.items) c.self.view_is in
    rw (← v, Topmost.mark-below ss ms) (c.topmost.ensures ∙ ap mark_of (c.all_but_one.ensures ∙ rw c.deref.ensures.value refl))
