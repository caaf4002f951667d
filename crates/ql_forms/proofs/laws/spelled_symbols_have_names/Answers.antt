use Rattle.ql_forms.proofs.Below.{forms_have}
use Rattle.ql_forms.proofs.Spelled.{all_fit}
use Rattle.ql_forms.proofs.laws.spelled_symbols_have_names.Goals as goal

pub returns : goal.returns
returns c = λ b names fs h. forms_have names 0 fs (all_fit h)
