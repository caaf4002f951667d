use Rattle.std.proofs.Common.{◌≡◌, drop}
use Rattle.ql_world.specs.Run.{is_in}
use Rattle.ql_host.proofs.pick.is_among.Given as goal

abbrev pub invariant-loop-m : goal.invariant-loop-m
invariant-loop-m l = is_in l.n (drop l.m-index l.numbers) ≡ is_in l.fn.n l.numbers
