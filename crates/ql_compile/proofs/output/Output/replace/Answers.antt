use Rattle.std.proofs.Common.{◌≡◌, ◌∙◌, ◌++◌, ◌∷◌, length, ap, arith, length-append}
use Rattle.ql_code.specs.Code.{Instruction, instructions_of}
use Rattle.ql_compile.proofs.Instructions.{as_long, changed}
use Rattle.ql_compile.proofs.output.Output.replace.Goals as goal

pub returns-then-place-len : goal.returns-then-place-len
returns-then-place-len c before after i e place =
    rw (c.put.ensures, place) (changed c.self.inside.ops.items c.self.inside.offsets.items before after i c.args.op c.self.invariant (c.self.view_is ∙ e))

pub returns-else-place-len : goal.returns-else-place-len
returns-else-place-len c before after i e place =
    let os = c.self.inside.ops.items in
    let ns = c.self.inside.offsets.items in
    let long : length (instructions_of os ns) ≡ length os = as_long os ns c.self.invariant in
    let seen : length (instructions_of os ns) ≡ length (before ++ i ∷ after) = ap length (c.self.view_is ∙ e) in
    absurd (omega (arith, c.len.ensures, c.self.inside.ops.ok.0, long, seen, place, length-append {A = Instruction}))
