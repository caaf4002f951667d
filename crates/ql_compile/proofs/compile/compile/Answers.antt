use Rattle.std.proofs.Common.{◌≡◌, ◌∙◌, true, ap}
use Rattle.std.proofs.Math.Bool.{Bool-set}
use Rattle.std.proofs.Math.Logic.{∥∥₁_elim}
use Rattle.ql_expand.specs.ProgramView.{program_of}
use Rattle.ql_scope.specs.Compilable.{is_compilable}
use Rattle.ql_scope.specs.Scoped.{HasScope}
use Rattle.ql_code.specs.Machine.{code_told}
use Rattle.ql_compile.proofs.compile.compile.Goals as goal

-- The program is in scope, so it can be compiled, and its code follows it.
pub returns-in-Ok-clause-simulation : goal.returns-in-Ok-clause-simulation
returns-in-Ok-clause-simulation c names limits schedule =
    let s = c.args.scoped.now in
    let p = program_of s.program in
    let right : is_compilable p ≡ true =
    ∥∥₁_elim s.scoped (Bool-set _ _) (λ (h : HasScope p s.program.names s.stored.keys). c.scoped_is_compilable.ensures h.expanded.forms p h.expanded.expands h.in_scope) in
    ap (λ code. code_told names code limits schedule) c.in-Ok.ensures ∙ c.code_follows_program.ensures p right names limits schedule
