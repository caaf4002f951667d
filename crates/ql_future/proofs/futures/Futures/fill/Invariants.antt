-- What was filled so far and what is left come to the whole.
use Rattle.std.proofs.Common.{◌≡◌, ◌-◌, drop, length}
use Rattle.ql_world.specs.Tick.{filled}
use Rattle.ql_future.proofs.futures.Futures.fill.Given as goal

abbrev pub invariant-fills : goal.invariant-fills
invariant-fills l = (record l.self { states = filled (drop l.at l.fs) (drop l.at l.ws) l.self.states }) ≡ (record l.fn.self { states = filled l.fs l.ws l.fn.self.states })

abbrev pub decreases-fills : goal.decreases-fills
decreases-fills l = length l.fs - l.at
