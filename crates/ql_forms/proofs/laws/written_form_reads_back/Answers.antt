use Rattle.ql_forms.proofs.ReadsBack.{alone_reads_back}
use Rattle.ql_forms.proofs.laws.written_form_reads_back.Goals as goal

pub returns : goal.returns
returns c = alone_reads_back
