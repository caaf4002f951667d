use Rattle.ql_forms.proofs.ReadsBack.{all_read_back}
use Rattle.ql_forms.proofs.laws.forms_written_read_back.Goals as goal

pub returns : goal.returns
returns c = all_read_back 0
