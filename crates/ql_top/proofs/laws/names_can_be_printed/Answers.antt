use Rattle.ql_top.proofs.Printable.{names_are_printed}
use Rattle.ql_top.proofs.laws.names_can_be_printed.Goals as goal

pub returns : goal.returns
returns c = names_are_printed c.spelled_forms_can_be_spelled.ensures
