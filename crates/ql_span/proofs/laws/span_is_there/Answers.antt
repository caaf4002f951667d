use Rattle.ql_span.specs.Walk.{span_of}
use Rattle.ql_span.proofs.Right.{right}
use Rattle.ql_span.proofs.laws.span_is_there.Goals as goal

pub returns : goal.returns
returns c = λ j. (span_of j, right j)
