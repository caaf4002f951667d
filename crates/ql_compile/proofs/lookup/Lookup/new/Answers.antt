use Rattle.std.proofs.Common.{◌≡◌, ◌∙◌, sym, ap, map, subst}
use Rattle.ql_expand.specs.View.{function_of}
use Rattle.ql_expand.specs.ProgramView.{program_of}
use Rattle.ql_meaning.specs.Context.{context_of}
use Rattle.ql_compile.specs.Compile.{places_of}
use Rattle.ql_compile.specs.Emission.{HasGlobals}
use Rattle.ql_compile.proofs.Counts.{functions_placed}
use Rattle.ql_compile.proofs.lookup.Lookup.new.Goals as goal

pub invariant_of-result : goal.invariant_of-result
invariant_of-result c =
    let p = program_of c.args.scoped.now.program in
    let here : map function_of c.as_slice.result.now ≡ map function_of c.args.scoped.now.program.functions = ap (map function_of) c.as_slice.ensures ∙ ap (λ q. map function_of q.functions) c.program-program.ensures in
    record {
      has_functions = c.in_ok-functions.ensures (context_of p) (places_of p) (functions_placed _ _ ∙ sym here) (sym c.requires.entries);
      has_globals = subst (λ gs. HasGlobals gs c.in_ok-globals.globals.items) (c.as_slice-2.ensures ∙ ap (λ q. q.globals) c.program-program.ensures) c.in_ok-globals.ensures;
      has_words = c.requires.words;
    }
