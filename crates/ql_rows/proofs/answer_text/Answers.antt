use Rattle.std.proofs.Common.{sym}
use Rattle.ql_forms.specs.View.{forms_of}
use Rattle.ql_rows.proofs.answer_text.Goals as goal

pub answer_program-requires : goal.answer_program-requires
answer_program-requires c = record {
  names = c.args.text.now.names;
  forms = forms_of c.args.text.now.forms;
  expands = c.in-Ok.ensures.ok;
  no_fault = c.in-Ok.ensures.no_fault;
  counted = sym c.in-Ok.ensures.names;
}
