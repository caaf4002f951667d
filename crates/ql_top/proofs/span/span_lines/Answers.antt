use Rattle.std.proofs.Common.{◌∙◌, ◌++◌, ap}
use Rattle.ql_span.specs.Text.{span_text}
use Rattle.ql_top.proofs.span.span_lines.Goals as goal

pub returns : goal.returns
returns c = (c.in_ok-span.span, c.in_ok-span.ensures, c.in_ok-write_span.ensures.ok ∙ ap (λ t. t ++ span_text c.in_ok-span.span) c.new-lines.ensures.items)
