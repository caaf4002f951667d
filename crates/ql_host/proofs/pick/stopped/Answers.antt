use Rattle.std.proofs.Common.{◌≡◌, refl, sym, ap, ◌∙◌, ◌==◌, true, false, arith}
use Rattle.ql_world.specs.Run.{mark_or, stuck_or_spent}
use Rattle.ql_host.specs.Ready.{machine, world}
use Rattle.ql_host.proofs.Picks.{stop_is, stop_else, stop_of_stuck}
use Rattle.ql_host.proofs.pick.stopped.Goals as goal

pub returns-then-all_ended : goal.returns-then-all_ended
returns-then-all_ended c = stop_is c.args.s c.args.shared.now c.args.procs.now c.requires (sym c.all_ended.ensures ∙ c.if-all_ended.true)

pub returns-in-Some : goal.returns-in-Some
returns-in-Some c =
    let s = c.args.s in
    let h = c.args.shared.now in
    sym (ap (λ o. mark_or o (stuck_or_spent (machine s) s.names.now s.limits (world s h c.args.procs.now))) c.in-Some.is)
    ∙ stop_else s h c.args.procs.now c.requires (sym c.all_ended.ensures ∙ c.if-all_ended.false)

pub returns-then-is_stuck : goal.returns-then-is_stuck
returns-then-is_stuck c =
    stop_of_stuck c.args.s c.args.shared.now c.args.procs.now c.requires (sym c.all_ended.ensures ∙ c.if-all_ended.false) c.in_default.is true
    (c.args.shared.now.history.ticks == c.args.s.limits.budget) (sym c.is_stuck.ensures ∙ c.if-is_stuck.true) refl

pub returns-then-ticks-s : goal.returns-then-ticks-s
returns-then-ticks-s c =
    let e : (c.args.shared.now.history.ticks == c.args.s.limits.budget) ≡ true = grind (arith, c.if-ticks-s.true, c.ticks.ensures) in
    stop_of_stuck c.args.s c.args.shared.now c.args.procs.now c.requires (sym c.all_ended.ensures ∙ c.if-all_ended.false) c.in_default.is false true (sym c.is_stuck.ensures ∙ c.if-is_stuck.false) e

pub returns : goal.returns
returns c =
    let e : (c.args.shared.now.history.ticks == c.args.s.limits.budget) ≡ false = grind (arith, c.if-ticks-s.false, c.ticks.ensures) in
    stop_of_stuck c.args.s c.args.shared.now c.args.procs.now c.requires (sym c.all_ended.ensures ∙ c.if-all_ended.false) c.in_default.is false false (sym c.is_stuck.ensures ∙ c.if-is_stuck.false) e
