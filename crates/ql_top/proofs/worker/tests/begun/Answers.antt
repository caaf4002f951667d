use Rattle.ql_forms.specs.View.{forms_of}
use Rattle.ql_top.proofs.Answering.{is_text}
use Rattle.ql_top.proofs.worker.tests.begun.Goals as goal

pub begin-requires-clause-names : goal.begin-requires-clause-names
begin-requires-clause-names c =
    let read = c.in-Ok.ensures.bytes.is_read in
    c.names_can_be_printed.ensures c.in-Ok.ensures.bytes.taken c.in-Ok.text.names (forms_of c.in-Ok.text.forms) (is_text _ _ _ read)
