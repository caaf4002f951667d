use Rattle.ql_host.proofs.TurnNumbers.{numbers_more}
use Rattle.ql_host.proofs.turns.numbers_from.Goals as goal

pub numbers-preserved : goal.numbers-preserved
numbers-preserved c = rw (c.in_ok-push.ensures.items) (numbers_more c.args.first c.args.count c.numbers.n c.numbers.made.items c.numbers-test.true c.numbers.invariant)
