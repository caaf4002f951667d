use Rattle.std.proofs.Common.{◌≡◌, ◌++◌, drop, map}
use Rattle.ql_expand.specs.ProgramView.{program_of}
use Rattle.ql_expand.specs.View.{function_of}
use Rattle.ql_meaning.specs.Context.{context_of}
use Rattle.ql_compile.specs.Compile.{entry_of}
use Rattle.ql_compile.specs.Named.{with_places}
use Rattle.ql_compile.proofs.compile.entries_of.Given as goal

-- These entries, with those of the functions that are left, are all.
abbrev pub invariant-loop-i : goal.invariant-loop-i
invariant-loop-i l =
    let p = l.scoped.program in
    l.entries.items ++ map (entry_of (context_of (program_of p))) (with_places (map function_of (drop l.i p.functions)) (drop l.i l.places))
    ≡ map (entry_of (context_of (program_of p))) (with_places (map function_of p.functions) l.places)
