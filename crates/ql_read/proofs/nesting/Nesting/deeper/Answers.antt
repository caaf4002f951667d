use Rattle.std.proofs.Common.{arith}
use Rattle.ql_read.proofs.Views.{deeper_fits, deeper_not}
use Rattle.ql_read.proofs.nesting.Nesting.deeper.Goals as goal

pub returns-in_ok-push-clause-ok : goal.returns-in_ok-push-clause-ok
returns-in_ok-push-clause-ok c = λ later. deeper_fits later c.args.at c.args.frame c.args.self.now.frames.items c.push.new.self.items c.args.self.now.top.items (omega (arith, c.if-len-lt-LEVELS.true, c.len.ensures, c.args.self.now.frames.ok.0)) c.in_ok-push.ensures.items

pub returns-else-len-lt-LEVELS-clause-ok : goal.returns-else-len-lt-LEVELS-clause-ok
returns-else-len-lt-LEVELS-clause-ok c = λ later. deeper_not later c.args.at c.args.frame c.args.self.now.frames.items c.args.self.now.top.items (omega (arith, c.if-len-lt-LEVELS.false, c.len.ensures, c.args.self.now.frames.ok.0))
