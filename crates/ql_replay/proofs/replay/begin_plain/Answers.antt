use Rattle.std.proofs.Common.{◌∙◌}
use Rattle.ql_replay.proofs.Begun.{plain_there}
use Rattle.ql_replay.proofs.replay.begin_plain.Goals as goal

pub returns-clause-verdict : goal.returns-clause-verdict
returns-clause-verdict c =
    let r = c.in_ok-run.run' in
    plain_there r c.args.code c.args.names c.in_ok-run.ensures.code c.in_ok-run.ensures.names (c.in_ok-run.ensures.limits ∙ c.usual.ensures) c.in_ok-run.ensures.world c.in_ok-run.ensures.texts c.args.held.items
