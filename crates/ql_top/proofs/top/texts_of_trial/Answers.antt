use Rattle.std.proofs.Common.{◌∙◌, ◌++◌, ap₂}
use Rattle.ql_top.specs.Summary.{summary}
use Rattle.ql_top.proofs.Telling.{run_told, writes_trial}
use Rattle.ql_top.proofs.top.texts_of_trial.Goals as goal

pub returns-in-Ok-with_summary : goal.returns-in-Ok-with_summary
returns-in-Ok-with_summary c forms p made same =
    writes_trial c.args.seed c.args.size c.args.options c.args.names forms p made _ c.in-Ok.told.story.output
    (c.in-Ok-with_summary.ensures ∙ ap₂ (λ t s. t ++ summary c.args.seed c.args.size s) c.output.ensures c.stop.ensures)
    (run_told c.scoped_is_compilable.ensures c.code_follows_program.ensures c.code_is_planned_as_program.ensures c.journals_are_legal.ensures c.killed_only_clean_up.ensures
    c.args.names forms p made c.args.options.limits c.args.code _ _ same c.in-Ok.ensures)
