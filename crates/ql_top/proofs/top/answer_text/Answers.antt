use Rattle.ql_top.proofs.Answering.{written_answer, no_texts_answer, tells_texts}
use Rattle.ql_top.proofs.Refusals.{kind_beyond}
use Rattle.ql_top.proofs.top.answer_text.Goals as goal

pub returns-in-Ok-clause-answer : goal.returns-in-Ok-clause-answer
returns-in-Ok-clause-answer g c old new read =
    written_answer c.programs_are_accepted.ensures c.args.command c.args.text old new _ _ _ _ read
    c.in-Ok.texts c.write_texts.result c.in-Ok.ensures.texts c.write_texts.ensures.told c.write_texts.ensures.loud c.write_texts.ensures.written

pub returns-in-Err-clause-answer : goal.returns-in-Err-clause-answer
returns-in-Err-clause-answer g c old new read =
    no_texts_answer c.refused_at_most_once.ensures (kind_beyond c.forms_have_kinds_of_their_own.ensures c.names_have_kinds_of_their_own.ensures)
    c.args.command c.args.text old new _ _ _ _ read c.untold.result c.in-Err.status c.untold.ensures.status c.in-Err.ensures.texts

pub returns-in-Ok-clause-told : goal.returns-in-Ok-clause-told
returns-in-Ok-clause-told g c = tells_texts c.args.command c.in-Ok.texts c.write_texts.result _ _ c.in-Ok.ensures.texts c.write_texts.ensures.told c.write_texts.ensures.loud
