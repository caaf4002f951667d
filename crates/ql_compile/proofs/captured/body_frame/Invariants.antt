use Rattle.std.proofs.Common.{◌≡◌, [], drop, map}
use Rattle.ql_expand.specs.ProgramView.{program_of}
use Rattle.ql_expand.specs.View.{binders_of}
use Rattle.ql_meaning.specs.Context.{context_of, stored_among}
use Rattle.ql_compile.specs.Compile.{with_variables}
use Rattle.ql_compile.specs.Free.{caught_of}
use Rattle.ql_compile.proofs.Capturing.{pushed}
use Rattle.ql_compile.proofs.captured.body_frame.Given as goal

abbrev pub invariant-loop-variable : goal.invariant-loop-variable
invariant-loop-variable l =
    let x = context_of (program_of l.scoped.program) in
    let bs = binders_of l.params in
    pushed (map caught_of (drop l.variable-index l.taken)) l.frame ≡ pushed (map caught_of l.taken) (with_variables bs (stored_among x bs) [])
