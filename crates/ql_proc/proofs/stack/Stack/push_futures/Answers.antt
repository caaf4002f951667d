use Rattle.std.proofs.Common.{◌∙◌, arith}
use Rattle.ql_proc.proofs.Words
use Rattle.ql_proc.proofs.stack.Stack.push_futures.Goals as goal

pub futures-preserved : goal.futures-preserved
futures-preserved c =
    (rw (c.push.ensures.items) (Words.push-more c.args.first c.args.count c.futures.n c.futures.self.items c.futures-test.true ∙ c.futures.invariant.0), omega (arith, c.futures.invariant.1, c.push.ensures.room))
