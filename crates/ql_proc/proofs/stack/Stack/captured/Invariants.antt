use Rattle.std.proofs.Common.{◌≡◌, ◌++◌, drop}
use Rattle.ql_code.specs.Machine.{frame_of, slots_at}
use Rattle.ql_proc.proofs.stack.Stack.captured.Given as goal

abbrev pub invariant-places : goal.invariant-places
invariant-places l = l.slots.items ++ slots_at (frame_of l.self.items) (drop l.place-index l.places) ≡ slots_at (frame_of l.fn.self.items) l.fn.places
