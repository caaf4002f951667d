use Rattle.std.proofs.Common.{ap, refl, Err}
use Rattle.ql_journal.specs.Grammar.{spells, bad_line, no_stop}
use Rattle.ql_journal.specs.Verdicts.{verdict_of}
use Rattle.ql_top.specs.Span.{by_line, by_end}
use Rattle.ql_top.proofs.Spans.{none_bad, one_line, one_end}
use Rattle.ql_top.proofs.span.lines_of.Goals as goal

pub returns-in-Ok-span_lines : goal.returns-in-Ok-span_lines
returns-in-Ok-span_lines c =
    let is = c.in-Ok.ensures.judged (spells _) refl in
    record { journal = _; spells = is; accepted = none_bad c.one_verdict.ensures _ c.requires.few _ is; is = c.in-Ok-span_lines.ensures }

pub returns-in-Err-BadLine : goal.returns-in-Err-BadLine
returns-in-Err-BadLine c =
    let is = c.in-Err-BadLine.ensures.judged (bad_line c.in-Err-BadLine.line) (ap (λ e. verdict_of (Err e)) c.in-Err-BadLine.field-0-is) in
    rw c.in-Err-BadLine.line-is (record { bad = by_line c.requires.few is; only = one_line c.one_verdict.ensures _ c.requires.few _ is })

pub returns-in-Err-NoStop : goal.returns-in-Err-NoStop
returns-in-Err-NoStop c =
    let is = c.in-Err-NoStop.ensures.judged no_stop (ap (λ e. verdict_of (Err e)) c.in-Err-NoStop.field-0-is) in
    rw c.count_feeds.ensures (record { bad = by_end c.requires.few is; only = one_end c.one_verdict.ensures _ c.requires.few is })
