use Rattle.ql_top.proofs.Spans.{bad_whole, shown_whole}
use Rattle.ql_top.proofs.span.show_span.Goals as goal

pub returns-in-Ok-clause-answer : goal.returns-in-Ok-clause-answer
returns-in-Ok-clause-answer g c =
    shown_whole c.args.bytes.now c.in-Ok.lines.items _ _ c.write_output.result c.in-Ok.ensures (rw c.as_slice.ensures.value at c.write_output.ensures.shows)

pub returns-in-Err-clause-answer : goal.returns-in-Err-clause-answer
returns-in-Err-clause-answer g c = bad_whole c.args.bytes.now c.requires.few _ c.in-Err.status c.in-Err.ensures
