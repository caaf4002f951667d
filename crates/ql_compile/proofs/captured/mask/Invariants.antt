use Rattle.std.proofs.Common.{◌≡◌, drop}
use Rattle.ql_expand.specs.ProgramView.{program_of}
use Rattle.ql_expand.specs.View.{binders_of}
use Rattle.ql_meaning.specs.Context.{context_of}
use Rattle.ql_compile.specs.Compile.{mask}
use Rattle.ql_compile.proofs.captured.mask.Given as goal

abbrev pub invariant-loop-i : goal.invariant-loop-i
invariant-loop-i l = l.mask ≡ mask (context_of (program_of l.scoped.program)) (binders_of (drop l.i l.binders))
