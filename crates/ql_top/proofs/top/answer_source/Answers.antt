use Rattle.ql_forms.specs.View.{forms_of}
use Rattle.ql_top.proofs.Answering.{is_text, stopped_answer}
use Rattle.ql_top.proofs.top.answer_source.Goals as goal

pub answer_text-requires-clause-names : goal.answer_text-requires-clause-names
answer_text-requires-clause-names g c =
    let read = c.in-Ok.ensures.bytes.is_read in
    c.names_can_be_printed.ensures c.in-Ok.ensures.bytes.taken c.in-Ok.text.names (forms_of c.in-Ok.text.forms) (is_text _ _ _ read)

pub returns-in-Err-clause-answer : goal.returns-in-Err-clause-answer
returns-in-Err-clause-answer g c = stopped_answer c.args.command c.untold.result c.in-Err.status _ _ _ _ _ _ c.untold.ensures.status c.in-Err.ensures.bytes
