use Rattle.std.proofs.Common.{◌≡◌, ◌≤◌, ◌+◌, ◌-◌, Some, None}
use Rattle.ql_code.specs.declared.mark.State.TheVariants.{Running}
use Rattle.ql_code.specs.LocalPath.{local_steps}
use Rattle.ql_proc.specs.Windows.{window_in}
use Rattle.ql_proc.proofs.window.Window.run.Given as goal

abbrev pub invariant-ticks : goal.invariant-ticks
invariant-ticks l =
    (local_steps l.code.instructions None l.steps (window_in l.fn.self) ≡ Some (window_in l.self))
    × ((l.self.top.state ≡ Running)
    × ((l.steps ≤ l.most)
    × (l.most ≤ l.steps + l.self.top.stack.room)))

abbrev pub decreases-ticks : goal.decreases-ticks
decreases-ticks l = l.most - l.steps
