use Rattle.ql_host.proofs.Steps.{rests_at}
use Rattle.ql_host.proofs.step.out_of_code.Goals as goal

pub take-requires : goal.take-requires
take-requires c =
    rests_at c.args.s c.args.p c.args.person c.args.shared.now c.requires.able.0 c.args.proc.now c.requires.able.1.can
    c.requires.fit c.requires.counted c.in-Resting.is
