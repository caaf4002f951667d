use Rattle.std.proofs.Common.{◌∙◌, ap, ◌++◌}
use Rattle.ql_world.specs.Text.{journal_text}
use Rattle.ql_top.proofs.Telling.{host_range}
use Rattle.ql_top.proofs.top.run_code.Goals as goal

pub run-requires-clause-limits : goal.run-requires-clause-limits
run-requires-clause-limits c = host_range c.args.limits c.requires.limits

pub returns : goal.returns
returns c = record {
  code_is = c.in_ok-told.ensures.code;
  names_are = c.in_ok-told.ensures.names;
  limits_are = c.in_ok-told.ensures.limits;
  is_told = c.in_ok-told.ensures.told;
  planned = c.in_ok-told.ensures.planned;
  lines_are = c.in_ok-write_journal.ensures.ok ∙ ap (λ t. t ++ journal_text c.journal.result.now.journal) c.new-lines.ensures.items ∙ ap journal_text c.journal.ensures;
}
