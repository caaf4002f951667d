use Rattle.ql_top.proofs.Telling.{run_told, writes_run}
use Rattle.ql_top.proofs.top.texts_of_run.Goals as goal

pub returns-in-Ok : goal.returns-in-Ok
returns-in-Ok c forms p made same =
    writes_run c.args.options c.args.names forms p made _
    (run_told c.scoped_is_compilable.ensures c.code_follows_program.ensures c.code_is_planned_as_program.ensures c.journals_are_legal.ensures c.killed_only_clean_up.ensures
    c.args.names forms p made c.args.options.limits c.args.code _ _ same c.in-Ok.ensures)
