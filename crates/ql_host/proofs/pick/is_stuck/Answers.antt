use Rattle.std.proofs.Common.{sym, ap, ◌∙◌}
use Rattle.std.specs.Prelude.{is_none}
use Rattle.ql_host.specs.Ready.{world}
use Rattle.ql_host.proofs.Picks.{stuck_is}
use Rattle.ql_host.proofs.pick.is_stuck.Goals as goal

pub returns-in-Some : goal.returns-in-Some
returns-in-Some c = ap is_none (sym c.in-Some.is ∙ c.next_after.ensures.picked) ∙ stuck_is c.args.s (world c.args.s c.args.shared.now c.args.procs.now) c.saturating_sub.result

pub returns-in-None : goal.returns-in-None
returns-in-None c = ap is_none (sym c.in-None.is ∙ c.next_after.ensures.picked) ∙ stuck_is c.args.s (world c.args.s c.args.shared.now c.args.procs.now) c.saturating_sub.result
