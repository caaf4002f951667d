use Rattle.std.proofs.Common.{◌-◌, sym, ◌∙◌}
use Rattle.ql_proc.specs.Inside.{stays}
use Rattle.ql_proc.proofs.Insides
use Rattle.ql_proc.proofs.inside.stays.Goals as goal

pub silent-preserved : goal.silent-preserved
silent-preserved c =
    let code = c.args.code.now.instructions in
    c.in-At.ensures (stays code c.args.mark (c.silent.left - 1))
    ∙ (sym (Insides.stays-on code c.args.mark c.silent.left c.silent.place _ c.in-Some.op.now c.silent-test.true c.in-Some.ensures.found) ∙ c.silent.invariant)
