use Rattle.std.proofs.Common.{◌≡◌, drop}
use Rattle.ql_world.specs.Idle.{is_number_among}
use Rattle.ql_host.proofs.ready.is_among.Given as goal

abbrev pub invariant-loop-g : goal.invariant-loop-g
invariant-loop-g l = is_number_among l.f (drop l.g-index l.turn) ≡ is_number_among l.fn.f l.turn
