use Rattle.std.proofs.Common.{◌≡◌, length, ap, arith}
use Rattle.ql_code.specs.Code.{instructions_of}
use Rattle.ql_compile.proofs.Instructions.{as_long}
use Rattle.ql_compile.proofs.output.Output.len.Goals as goal

pub returns : goal.returns
returns c =
    let os = c.self.inside.ops.items in
    let ns = c.self.inside.offsets.items in
    let long : length (instructions_of os ns) ≡ length os = as_long os ns c.self.invariant in
    let seen : length (instructions_of os ns) ≡ length c.args.self.now = ap length c.self.view_is in
    omega (arith, c.len.ensures, c.self.inside.ops.ok.0, long, seen)
