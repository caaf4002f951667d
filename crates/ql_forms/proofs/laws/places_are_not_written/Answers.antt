use Rattle.ql_forms.proofs.Alike.{same_text}
use Rattle.ql_forms.proofs.laws.places_are_not_written.Goals as goal

pub returns : goal.returns
returns c = same_text
