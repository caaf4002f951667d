use Rattle.std.proofs.Common.{◌≤◌, ap, subst, length, Err}
use Rattle.ql_expand.specs.ProgramView.{program_of}
use Rattle.ql_code.specs.Code.{Code}
use Rattle.ql_top.specs.Top.{by_code}
use Rattle.ql_top.proofs.accept.code_of.Goals as goal

pub returns-in-Ok : goal.returns-in-Ok
returns-in-Ok c names forms none expands in_scope = record {
  program = program_of c.args.scoped.now.program;
  makes = record { no_fault = none; expands = expands; in_scope = in_scope; short = subst (λ (k : Code). length k.instructions ≤ 65535) c.in-Ok.ensures.ok c.in-Ok.ensures.short };
  code_is = c.in-Ok.ensures.ok;
}

pub returns-in-Err-TooLong : goal.returns-in-Err-TooLong
returns-in-Err-TooLong c names forms none expands in_scope =
    rw (c.number.ensures, c.in-Err-TooLong.at-is)
    (by_code (program_of c.args.scoped.now.program) none expands in_scope
    (c.in-Err-TooLong.ensures.too_long c.in-Err-TooLong.at (ap Err c.in-Err-TooLong.field-0-is)))
