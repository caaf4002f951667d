use Rattle.ql_top.proofs.Refusals.{kind_beyond}
use Rattle.ql_top.proofs.Replays.{unfit_replay, followed_replay}
use Rattle.ql_top.proofs.replay.replay_text.Goals as goal

pub returns-in-Ok-clause-answer : goal.returns-in-Ok-clause-answer
returns-in-Ok-clause-answer g c old new read =
    followed_replay c.programs_are_accepted.ensures c.scoped_is_compilable.ensures c.code_follows_program.ensures c.verdicts_carry_over.ensures
    c.args.text old new _ _ _ _ read c.in-Ok.code c.in-Ok.ensures c.follow_code.result c.follow_code.ensures.answer

pub returns-in-Err-clause-answer : goal.returns-in-Err-clause-answer
returns-in-Err-clause-answer g c old new read =
    unfit_replay _ _ c.refused_at_most_once.ensures (kind_beyond c.forms_have_kinds_of_their_own.ensures c.names_have_kinds_of_their_own.ensures)
    c.args.text old new read c.in-Err.status c.in-Err.ensures
