use Rattle.ql_replay.proofs.Begun.{same_answers}
use Rattle.ql_replay.proofs.replay.headless.Goals as goal

pub returns-in-Ok-clause-answers : goal.returns-in-Ok-clause-answers
returns-in-Ok-clause-answers g c =
    same_answers _ _ 1 _ c.in-Ok.ensures.at c.in-Ok.ensures.verdict c.follow.result c.args.page.now (g.B.Source.left c.args.book.now) (g.B.Source.left c.follow.new.book) c.follow.ensures.answers
