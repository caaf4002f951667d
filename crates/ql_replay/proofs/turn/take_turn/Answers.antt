use Rattle.std.proofs.Common.{◌≡◌, ◌<◌, Some, false, sym, ap, ◌∙◌, subst, arith, ne_eqb}
use Rattle.ql_replay.specs.Replay.{goes_on, of_turn, turned, can_end}
use Rattle.ql_replay.specs.Following.{Tells, TakesMore}
use Rattle.ql_replay.proofs.TakesTurns.{none_on, more_on, no_turn, whole_turn}
use Rattle.ql_replay.proofs.turn.take_turn.Goals as goal

pub returns-then-more-eq0-clause-took : goal.returns-then-more-eq0-clause-took
returns-then-more-eq0-clause-took g c =
    let host = g.H.Followed.host c.args.host.now in
    let w = g.H.Followed.world c.args.host.now in
    let u = g.H.Followed.world c.ticks.host in
    let v = g.H.Followed.world c.take_more.new.host in
    let took : TakesMore host c.args.p c.ticks.taken c.in_ok-more.more u v =
    subst (λ h. TakesMore h c.args.p c.ticks.taken c.in_ok-more.more u v) c.ticks.invariant.same.0 c.in_ok-more.ensures.took in
    no_turn host w c.args.p c.args.n
    (none_on host w u v c.args.p c.ticks.taken c.in_ok-more.more c.args.n c.ticks.invariant.so_far took c.if-more-eq0.true c.ticks-test.true)

pub ticks-preserved : goal.ticks-preserved
ticks-preserved g c =
    let host = g.H.Followed.host c.args.host.now in
    let w = g.H.Followed.world c.args.host.now in
    let u = g.H.Followed.world c.ticks.host in
    let v = g.H.Followed.world c.take_more.new.host in
    let took : TakesMore host c.args.p c.ticks.taken c.in_ok-more.more u v =
    subst (λ h. TakesMore h c.args.p c.ticks.taken c.in_ok-more.more u v) c.ticks.invariant.same.0 c.in_ok-more.ensures.took in
    let few = c.in_ok-more.ensures.few in
    let low : c.ticks.taken < c.args.n = c.ticks-test.true in
    record {
      same = (c.in_ok-more.ensures.same.0 ∙ c.ticks.invariant.same.0, c.in_ok-more.ensures.same.1 ∙ c.ticks.invariant.same.1);
      within = omega (arith, few, low);
      so_far = more_on host w u v c.args.p c.ticks.taken c.in_ok-more.more c.ticks.invariant.so_far took (ne_eqb c.in_ok-more.more 0 c.if-more-eq0.false);
    }

pub returns-clause-took : goal.returns-clause-took
returns-clause-took g c =
    let host = g.H.Followed.host c.args.host.now in
    let w = g.H.Followed.world c.args.host.now in
    let u = g.H.Followed.world c.ticks.host in
    let v = g.H.Followed.world c.can_end.new.host in
    let low = c.ticks.invariant.within in
    let e : c.ticks.taken ≡ c.args.n = omega (arith, c.ticks-test.false, low) in
    let t : turned host w c.args.p c.args.n ≡ Some u = subst (λ i. turned host w c.args.p i ≡ Some u) e c.ticks.invariant.so_far in
    let r : c.can_end.result ≡ can_end host u c.args.p = c.can_end.ensures.can ∙ ap (λ h. can_end h u c.args.p) c.ticks.invariant.same.0 in
    let o : goes_on c.args.p (host.events w) ≡ false = sym c.goes_on.ensures ∙ c.if-goes_on.false in
    subst (λ z. Tells c.can_end.result (of_turn host w c.args.p c.args.n) z) (sym c.can_end.ensures.same.1.1)
    (subst (λ b. Tells b (of_turn host w c.args.p c.args.n) u) (sym r) (whole_turn host w u c.args.p c.args.n (omega (arith, c.if-n-eq0.false)) o t))
