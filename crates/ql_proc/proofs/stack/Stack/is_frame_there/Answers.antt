use Rattle.std.proofs.Common.{◌≡◌, ◌<◌, sym, ap, ◌∙◌, reverse, arith}
use Rattle.ql_proc.specs.Stacked.{Stacked, items_of, base_of}
use Rattle.ql_proc.proofs.Ticks
use Rattle.ql_proc.proofs.Topmost
use Rattle.ql_proc.proofs.stack.Stack.is_frame_there.Goals as goal

pub returns-then-self-gt0 : goal.returns-then-self-gt0
returns-then-self-gt0 c =
    let ss = reverse c.self.inside.slots.items in
    let ms = reverse c.self.inside.marks.items in
    let v : items_of ss ms ≡ c.args.self.now.items = ap (λ (x : Stacked). x.items) c.self.view_is in
    let h : 0 < base_of ms = omega (arith, c.if-self-gt0.true, c.self.invariant.base) in
    rw (← v) (sym (Topmost.whole-items ss ms ∙ Ticks.based ms h))
