use Rattle.std.proofs.Common.{◌≡◌, ◌∙◌, sym, Some, None, get_or}
use Rattle.std.specs.Prelude.{option_map}
use Rattle.ql_expand.specs.ProgramView.{program_of}
use Rattle.ql_expand.specs.View.{cores_of}
use Rattle.ql_meaning.specs.Context.{context_of}
use Rattle.ql_compile.specs.Compile.{entry_of, place_called, places_of}
use Rattle.ql_compile.proofs.Counts.{call_is, count_is}
use Rattle.ql_compile.proofs.lookup.Lookup.call.Goals as goal

pub returns : goal.returns
returns c =
    let p = program_of c.args.self.now.scoped.now.program in
    let found : Some c.in-Some.entry ≡ get_or c.args.self.now.functions.items c.args.name None = rw c.deref.ensures.value at c.in-Some.ensures in
    let known : option_map (entry_of (context_of p)) (place_called (places_of p) c.args.name) ≡ Some c.in-Some.entry = sym (c.args.self.now.has_functions c.args.name) ∙ sym found in
    call_is (context_of p) (place_called (places_of p) c.args.name) c.in-Some.entry (cores_of c.args.args.now) c.in_ok-args.args known (c.in_ok-args.ensures ∙ sym (count_is c.args.args.now))
