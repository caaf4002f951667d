use Rattle.std.proofs.Common.{◌≡◌, drop}
use Rattle.ql_expand.specs.ProgramView.{program_of}
use Rattle.ql_expand.specs.View.{binders_of}
use Rattle.ql_meaning.specs.Context.{context_of, stored_among}
use Rattle.ql_compile.specs.Compile.{with_variables}
use Rattle.ql_compile.proofs.captured.push_variables.Given as goal

abbrev pub invariant-loop-binder : goal.invariant-loop-binder
invariant-loop-binder l =
    let x = context_of (program_of l.scoped.program) in
    let rest = binders_of (drop l.binder-index l.binders) in
    with_variables rest (stored_among x rest) l.frame ≡ with_variables (binders_of l.binders) (stored_among x (binders_of l.binders)) l.fn.frame
