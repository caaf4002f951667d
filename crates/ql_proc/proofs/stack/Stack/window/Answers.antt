use Rattle.std.proofs.Common.{◌≡◌, ◌<◌, ap, length, reverse}
use Rattle.ql_code.specs.LocalPath.{topmost}
use Rattle.ql_proc.specs.Stacked.{Stacked, items_of}
use Rattle.ql_proc.proofs.Windowed
use Rattle.ql_proc.proofs.stack.Stack.window.Goals as goal

pub returns-then-are_few-clause-items : goal.returns-then-are_few-clause-items
returns-then-are_few-clause-items c =
    let ss = reverse c.self.inside.slots.items in
    let ms = reverse c.self.inside.marks.items in
    let v : items_of ss ms ≡ c.args.self.now.items = ap (λ (x : Stacked). x.items) c.self.view_is in
    let few : length ms < 64 = rw c.deref.ensures.value at (c.are_few.ensures c.if-are_few.true) in
    let e : topmost 64 c.args.self.now.items ≡ c.args.self.now.items = rw (← v) (Windowed.topmost-few 64 ss ms few) in
    rw e c.copy.ensures.items
