use Rattle.std.proofs.Common.{sym, ap, ◌∙◌}
use Rattle.ql_world.specs.Run.{least, first_of}
use Rattle.ql_host.specs.Ready.{world, those_free}
use Rattle.ql_host.proofs.Picks.{first_is}
use Rattle.ql_host.proofs.pick.next_after.Goals as goal

pub returns-in-None-clause-picked : goal.returns-in-None-clause-picked
returns-in-None-clause-picked c =
    let w = world c.args.s c.args.shared.now c.args.procs.now in
    c.first_above-in-None.ensures.picked
    ∙ first_is c.args.s w c.args.away.now w.procs
    ∙ ap (λ o. first_of o (least (those_free c.args.s c.args.shared.now c.args.procs.now c.args.away.now))) (sym c.in-None.is ∙ c.first_above.ensures.picked)
