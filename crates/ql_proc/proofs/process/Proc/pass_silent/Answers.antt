use Rattle.std.proofs.Common.{sym, ◌∙◌, arith}
use Rattle.ql_proc.proofs.Settles
use Rattle.ql_proc.proofs.process.Proc.pass_silent.Goals as goal

pub silent-preserved : goal.silent-preserved
silent-preserved c =
    let i = c.silent.self in
    let e = Settles.settle-pass c.args.code.now.instructions c.silent.left i.place i.stack.items c.silent-test.true c.in-Some.op.now _ _ c.in-Some.ensures.found c.if-not-pass.ensures.passes.0 in
    (sym e ∙ c.silent.invariant.0, (c.if-not-pass.ensures.passes.1 ∙ c.silent.invariant.1.0, omega (arith, c.silent.invariant.1.1, c.if-not-pass.ensures.room)))
