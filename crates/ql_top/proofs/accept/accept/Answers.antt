use Rattle.std.proofs.Common.{ap, Err}
use Rattle.ql_expand.specs.ProgramView.{program_of}
use Rattle.ql_top.specs.Top.{by_forms, by_scope}
use Rattle.ql_top.proofs.accept.accept.Goals as goal

pub returns-in-Err-Bad-check : goal.returns-in-Err-Bad-check
returns-in-Err-Bad-check c =
    rw (c.in-Err-Bad-check.kind-is, c.in-Err-Bad-check.at-is)
    (by_scope (program_of c.in-Ok.program) c.in-Ok.ensures.no_fault c.in-Ok.ensures.ok
    (c.in-Err-Bad-check.ensures.bad c.in-Err-Bad-check.kind c.in-Err-Bad-check.at (ap Err c.in-Err-Bad-check.field-0-is)))

pub returns-in-Err-Bad : goal.returns-in-Err-Bad
returns-in-Err-Bad c =
    rw (c.in-Err-Bad.kind-is, c.in-Err-Bad.at-is) (by_forms (c.in-Err-Bad.ensures.bad c.in-Err-Bad.kind c.in-Err-Bad.at (ap Err c.in-Err-Bad.field-0-is)))
