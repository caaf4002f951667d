use Rattle.std.proofs.Common.{◌≡◌, true, drop, refl, sym, subst, arith}
use Rattle.ql_world.specs.declared.event.Event.{Event}
use Rattle.ql_replay.specs.Replay.{is_turn}
use Rattle.ql_replay.proofs.Dues.{NoTurns, newest_turn, none_before, is_no_turn, no_turn_there}
use Rattle.ql_replay.proofs.run.up_to_turn.Goals as goal

pub returns-in-Turn-clause-since : goal.returns-in-Turn-clause-since
returns-in-Turn-clause-since c =
    newest_turn c.args.events.now c.events.at c.index-events-at.result c.events-test.true c.events.invariant.within c.index-events-at.is
    (subst (λ (e : Event). is_turn e ≡ true) (sym c.in-Turn.is) refl) c.events.invariant.none

pub events-preserved : goal.events-preserved
events-preserved c =
    let w = c.events.invariant.within in
    record {
      within = omega (arith, w);
      none = none_before c.args.events.now c.events.at c.index-events-at.result c.events-test.true c.events.invariant.within c.index-events-at.is
          (is_no_turn c.index-events-at.result c.in_default.not-Turn) c.events.invariant.none;
    }

pub returns-clause-since : goal.returns-clause-since
returns-clause-since c =
    let t = c.events-test.false in
    let z : c.events.at ≡ 0 = omega (arith, t) in
    no_turn_there c.args.events.now (subst (λ i. NoTurns (drop i c.args.events.now)) z c.events.invariant.none)
