use Rattle.std.proofs.Common.{subst}
use Rattle.ql_replay.specs.Following.{TakesTicks}
use Rattle.ql_replay.specs.Running.{Run, host_in}
use Rattle.ql_replay.proofs.Quiet.{takes_them}
use Rattle.ql_replay.proofs.run.RunFollowed.ticks.Goals as goal

pub returns-clause-took : goal.returns-clause-took
returns-clause-took c =
    let v = c.take_some.new.host.world in
    subst (λ (r : Run). TakesTicks (host_in r) c.args.p c.in_ok-taken.taken r.host.world v) c.self.view_is
    (takes_them (record { host = c.self.inside.host; texts = c.self.inside.texts }) c.args.p c.in_ok-taken.taken v c.in_ok-taken.ensures.some c.in_ok-taken.ensures.worked c.in_ok-taken.ensures.quiet)
