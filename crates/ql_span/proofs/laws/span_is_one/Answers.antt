use Rattle.ql_span.proofs.Right.{only_span}
use Rattle.ql_span.proofs.laws.span_is_one.Goals as goal

pub returns : goal.returns
returns c = only_span
