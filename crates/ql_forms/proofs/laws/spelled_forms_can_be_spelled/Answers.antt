use Rattle.ql_forms.proofs.Spelled.{all_fit}
use Rattle.ql_forms.proofs.laws.spelled_forms_can_be_spelled.Goals as goal

pub returns : goal.returns
returns c = λ b fs h. all_fit h
