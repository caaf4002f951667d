-- What was killed so far and what is left come to the whole.
use Rattle.std.proofs.Common.{◌≡◌, drop}
use Rattle.ql_world.specs.Idle.{all_killed}
use Rattle.ql_future.proofs.futures.Futures.kill_all.Given as goal

abbrev pub invariant-loop-f : goal.invariant-loop-f
invariant-loop-f l = (record l.self { states = all_killed (drop l.f-index l.fs) l.self.states }) ≡ (record l.fn.self { states = all_killed l.fs l.fn.self.states })
