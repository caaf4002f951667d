use Rattle.ql_top.proofs.Answering.{holds_at_end}
use Rattle.ql_top.proofs.Spans.{stopped_span}
use Rattle.ql_top.proofs.span.answer_span.Goals as goal

pub returns-in-Ok-clause-answer : goal.returns-in-Ok-clause-answer
returns-in-Ok-clause-answer g c =
    holds_at_end c.in-Ok.bytes.items _ _ c.in-Ok.ensures.bytes.0.takes c.in-Ok.ensures.bytes.1 (rw c.as_slice.ensures.value at c.show_span.ensures.answer)

pub returns-in-Err-clause-answer : goal.returns-in-Err-clause-answer
returns-in-Err-clause-answer g c = stopped_span c.in-Err.status _ _ _ c.in-Err.ensures.bytes
