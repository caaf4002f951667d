use Rattle.std.proofs.Common.{sym}
use Rattle.ql_replay.proofs.Singles.{turn_is_read}
use Rattle.ql_replay.proofs.lines.read_turn.Goals as goal

pub returns-in-Some : goal.returns-in-Some
returns-in-Some c = sym (turn_is_read c.args.line.now c.in-Some.p.0 c.in-Some.n c.in-Some.ensures.is)
