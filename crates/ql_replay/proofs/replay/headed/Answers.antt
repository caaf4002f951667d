use Rattle.std.proofs.Common.{◌∙◌}
use Rattle.ql_replay.proofs.Begun.{headed_answers}
use Rattle.ql_replay.proofs.replay.headed.Goals as goal

pub returns-clause-answers : goal.returns-clause-answers
returns-clause-answers g c =
    let r = c.in-Ok.run' in
    headed_answers r c.args.code c.args.names c.args.head c.in-Ok.ensures.code c.in-Ok.ensures.names (c.in-Ok.ensures.limits ∙ c.limits_of.ensures) c.in-Ok.ensures.world c.in-Ok.ensures.texts c.requires.usable
    c.new.result.items c.new.ensures.items c.follow.result c.args.page.now (g.B.Source.left c.args.book.now) (g.B.Source.left c.follow.new.book) c.follow.ensures.answers
