use Rattle.std.proofs.Common.{List, ◌≡◌, ap, ◌∙◌, reverse, take}
use Rattle.ql_proc.specs.declared.stack.Marker.{Marker}
use Rattle.ql_proc.specs.Stacked.{Stacked, items_of}
use Rattle.ql_proc.proofs.Topmost
use Rattle.ql_proc.proofs.stack.Stack.has_frame_in_window.Goals as goal

pub returns : goal.returns
returns c =
    let ss = reverse c.self.inside.slots.items in
    let ms = reverse c.self.inside.marks.items in
    let v : items_of ss ms ≡ c.args.self.now.items = ap (λ (x : Stacked). x.items) c.self.view_is in
    let e : reverse c.last_marks.result.now ≡ take 64 ms = c.last_marks.ensures ∙ ap (λ (x : List Marker). take 64 (reverse x)) c.deref.ensures.value in
    rw (← v, Topmost.whole-topmost 64 ss ms, ← e, Topmost.frame_among-reverse c.last_marks.result.now) c.has_frame.ensures
