use Rattle.std.proofs.Common.{[]}
use Rattle.ql_replay.proofs.Begun.{alone}
use Rattle.ql_replay.proofs.replay.first_line_alone.Goals as goal

pub returns-in-Ok : goal.returns-in-Ok
returns-in-Ok c = alone c.args.names c.args.code c.args.held.items _ c.at_end.result c.requires.clean (c.in-Ok.ensures.verdict []) c.at_end.ensures
