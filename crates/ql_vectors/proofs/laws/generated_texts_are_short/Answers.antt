use Rattle.ql_vectors.proofs.Lengths.{text_is_short}
use Rattle.ql_vectors.proofs.laws.generated_texts_are_short.Goals as goal

pub returns : goal.returns
returns c = record { short = text_is_short }
