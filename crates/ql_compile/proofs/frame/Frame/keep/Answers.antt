use Rattle.std.proofs.Common.{arith}
use Rattle.ql_compile.proofs.Slotted.{popped_less, still_above, none_above}
use Rattle.ql_compile.proofs.frame.Frame.keep.Goals as goal

pub loop-self-smaller : goal.loop-self-smaller
loop-self-smaller c = popped_less c.loop-self.self c.pop.new.self (omega (arith, c.loop-self-test.true, c.len.ensures)) c.pop.ensures

pub loop-self-preserved : goal.loop-self-preserved
loop-self-preserved c above below e at =
    still_above c.loop-self.self c.pop.new.self below (omega (arith, c.loop-self-test.true, c.len.ensures, at)) (c.loop-self.invariant above below e at) c.pop.ensures

pub returns : goal.returns
returns c above below e at = none_above c.loop-self.self below (omega (arith, c.loop-self-test.false, c.len.ensures, at)) (c.loop-self.invariant above below e at)
