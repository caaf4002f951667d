use Rattle.std.proofs.Common.{◌≡◌, ◌∙◌, ap, arith, length, subst, sym}
use Rattle.std.proofs.Math.Logic.{∥∥₁_map}
use Rattle.ql_expand.specs.ProgramView.{program_of}
use Rattle.ql_scope.specs.Scoped.{HasScope}
use Rattle.ql_meaning.specs.Context.{globals_of}
use Rattle.ql_code.specs.Code as code
use Rattle.ql_code.specs.Sound.{Sound}
use Rattle.ql_compile.specs.Compile.{compiled}
use Rattle.ql_compile.proofs.Instructions.{as_long}
use Rattle.ql_compile.proofs.compile.code_of.Goals as goal

pub new-requires-2-clause-few : goal.new-requires-2-clause-few
new-requires-2-clause-few c =
    let e = c.in_ok-ops.field-0 in
    let long = as_long e.ops.items e.offsets.items c.in_ok-ops.ensures.as_many in
    let same = ap length c.in_ok-ops.ensures.instructions in
    let short = c.requires.short in
    omega (arith, long, same, short)

-- The code has the parts that it is to have, and is that of a program in scope.
pub new-requires-2-clause-sound : goal.new-requires-2-clause-sound
new-requires-2-clause-sound c =
    let s = c.args.scoped.now in
    let p = program_of s.program in
    let e = c.in_ok-ops.field-0 in
    let globals : c.in_ok-globals.globals ≡ length (globals_of p) = c.in_ok-globals.ensures ∙ (c.len.ensures ∙ ap (λ q. length q.globals) c.program-2.ensures) in
    let pairs = rw c.program.ensures at c.in_ok-quotes.ensures.pairs in
    let instructions = c.in_ok-ops.ensures.instructions in
    let entries = c.in_ok-entries.ensures in
    let is : code.code_of e.ops.items e.offsets.items c.in_ok-quotes.quotes.pairs.items c.in_ok-entries.entries.items c.in_ok-globals.globals ≡ compiled p =
    λ i. record { instructions = instructions i; quoted = pairs i; entries = entries i; globals = globals i } in
    ∥∥₁_map s.scoped (λ (h : HasScope p s.program.names s.stored.keys).
    let right = c.scoped_is_compilable.ensures h.expanded.forms p h.expanded.expands h.in_scope in
    subst Sound (sym is) (c.compiled_code_is_valid.ensures h.expanded.forms p h.expanded.expands h.in_scope right).sound)
