use Rattle.std.proofs.Common.{◌∙◌}
use Rattle.ql_host.specs.Ready.{world}
use Rattle.ql_host.proofs.Picks.{first_is}
use Rattle.ql_host.proofs.pick.pick.Goals as goal

pub returns-in-Old-clause-picked : goal.returns-in-Old-clause-picked
returns-in-Old-clause-picked c =
    let w = world c.args.s c.args.shared.now c.args.procs.now in
    rw c.in-Old.is (c.first_above.ensures.picked ∙ first_is c.args.s w c.args.away.now w.procs)
