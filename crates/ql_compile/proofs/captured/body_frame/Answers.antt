use Rattle.std.proofs.Common.{◌≡◌, ◌∙◌, [], ap, sym, drop, map}
use Rattle.std.proofs.lemmas.List.{drop_all}
use Rattle.ql_expand.specs.ProgramView.{program_of}
use Rattle.ql_expand.specs.View.{binders_of}
use Rattle.ql_meaning.specs.Context.{context_of, stored_among}
use Rattle.ql_compile.specs.Compile.{with_variables}
use Rattle.ql_compile.specs.Free.{caught_of}
use Rattle.ql_compile.proofs.Capturing.{pushed, pushed_all}
use Rattle.ql_compile.proofs.captured.body_frame.Goals as goal

pub returns : goal.returns
returns c =
    let none : drop c.loop-variable.variable-index c.args.taken.now ≡ [] = drop_all c.loop-variable.variable-index c.args.taken.now c.loop-variable-test.false in
    let bs = binders_of c.args.params.now in
    ap (λ l. pushed (map caught_of l) c.loop-variable.frame) (sym none)
    ∙ (c.loop-variable.invariant ∙ pushed_all (map caught_of c.args.taken.now) (with_variables bs (stored_among (context_of (program_of c.args.scoped.now.program)) bs) []))
