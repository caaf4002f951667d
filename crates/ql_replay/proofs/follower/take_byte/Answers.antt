use Rattle.std.proofs.Common.{◌≡◌, ℕ, suc, List, [], Option, Some, None, false, sym, ap, ◌∙◌, subst, arith, ne_eqb}
use Rattle.ql_replay.specs.Book.{turn_in, has_feed}
use Rattle.ql_replay.specs.Replay.{ahead}
use Rattle.ql_replay.specs.Following.{Follows}
use Rattle.ql_replay.proofs.TakesBytes.{byte_ends, byte_differs, byte_too_many, clean_held}
use Rattle.ql_replay.proofs.follower.take_byte.Goals as goal

pub returns-in_default-2-clause-takes : goal.returns-in_default-2-clause-takes
returns-in_default-2-clause-takes g c =
    let f : Follows (g.H.Followed.host c.args.follower.now.host) (g.H.Followed.line c.args.follower.now.host) turn_in (g.H.Followed.world c.args.follower.now.host) c.args.follower.now.seen c.args.follower.now.held.items (g.H.Followed.world c.take_line.new.host) c.in_ok-seen.field-0 = subst (λ (l : List ℕ). Follows (g.H.Followed.host c.args.follower.now.host) (g.H.Followed.line c.args.follower.now.host) turn_in (g.H.Followed.world c.args.follower.now.host) c.args.follower.now.seen l (g.H.Followed.world c.take_line.new.host) c.in_ok-seen.field-0) c.as_slice.ensures.value c.in_ok-seen.ensures.follows in
    let n : Follows (g.H.Followed.host c.args.follower.now.host) (g.H.Followed.line c.args.follower.now.host) turn_in (g.H.Followed.world c.args.follower.now.host) c.args.follower.now.seen c.args.follower.now.held.items (g.H.Followed.world c.take_line.new.host) None = subst (λ (o : Option ℕ). Follows (g.H.Followed.host c.args.follower.now.host) (g.H.Followed.line c.args.follower.now.host) turn_in (g.H.Followed.world c.args.follower.now.host) c.args.follower.now.seen c.args.follower.now.held.items (g.H.Followed.world c.take_line.new.host) o) c.in_default-2.is f in
    byte_differs (g.H.Followed.host c.args.follower.now.host) (g.H.Followed.line c.args.follower.now.host) (g.H.Followed.world c.args.follower.now.host) c.args.follower.now.seen c.args.follower.now.held.items c.args.follower.now.at c.requires.clean c.args.b (g.H.Followed.world c.take_line.new.host) (g.H.Followed.world c.take_line.new.host) 0 [] c.if-b-eq10.true n

pub returns-then-b-eq10-clause-takes : goal.returns-then-b-eq10-clause-takes
returns-then-b-eq10-clause-takes g c = λ rest.
    let f : Follows (g.H.Followed.host c.args.follower.now.host) (g.H.Followed.line c.args.follower.now.host) turn_in (g.H.Followed.world c.args.follower.now.host) c.args.follower.now.seen c.args.follower.now.held.items (g.H.Followed.world c.take_line.new.host) c.in_ok-seen.field-0 = subst (λ (l : List ℕ). Follows (g.H.Followed.host c.args.follower.now.host) (g.H.Followed.line c.args.follower.now.host) turn_in (g.H.Followed.world c.args.follower.now.host) c.args.follower.now.seen l (g.H.Followed.world c.take_line.new.host) c.in_ok-seen.field-0) c.as_slice.ensures.value c.in_ok-seen.ensures.follows in
    let n : Follows (g.H.Followed.host c.args.follower.now.host) (g.H.Followed.line c.args.follower.now.host) turn_in (g.H.Followed.world c.args.follower.now.host) c.args.follower.now.seen c.args.follower.now.held.items (g.H.Followed.world c.take_line.new.host) (Some c.in-Some-2.seen) = subst (λ (o : Option ℕ). Follows (g.H.Followed.host c.args.follower.now.host) (g.H.Followed.line c.args.follower.now.host) turn_in (g.H.Followed.world c.args.follower.now.host) c.args.follower.now.seen c.args.follower.now.held.items (g.H.Followed.world c.take_line.new.host) o) c.in-Some-2.is f in
    let e : suc c.args.follower.now.at ≡ c.in-Some.next = (let n = c.in-Some.ensures in omega (arith, n)) in
    byte_ends (g.H.Followed.host c.args.follower.now.host) (g.H.Followed.line c.args.follower.now.host) (g.H.Followed.world c.args.follower.now.host) c.args.follower.now.seen c.args.follower.now.held.items c.args.follower.now.at c.requires.clean c.args.b (g.H.Followed.world c.take_line.new.host) c.in-Some-2.seen c.if-b-eq10.true n rest
    ∙ (ap (λ (h : List ℕ). ahead (g.H.Followed.host c.args.follower.now.host) (g.H.Followed.line c.args.follower.now.host) turn_in (g.H.Followed.world c.take_line.new.host) c.in-Some-2.seen h rest (suc c.args.follower.now.at)) (sym c.clear.ensures.items)
    ∙ ap (λ (i : ℕ). ahead (g.H.Followed.host c.args.follower.now.host) (g.H.Followed.line c.args.follower.now.host) turn_in (g.H.Followed.world c.take_line.new.host) c.in-Some-2.seen c.clear.new.self.items rest i) e)

pub returns-then-len-ge200-clause-takes : goal.returns-then-len-ge200-clause-takes
returns-then-len-ge200-clause-takes g c =
    byte_too_many (g.H.Followed.host c.args.follower.now.host) (g.H.Followed.line c.args.follower.now.host) (g.H.Followed.world c.args.follower.now.host) c.args.follower.now.seen c.args.follower.now.held.items c.args.follower.now.at c.requires.clean c.args.b c.due_line.new.to.items c.in_ok-due_line.field-0 (g.H.Followed.world c.args.follower.now.host) 0 [] (ne_eqb c.args.b 10 c.if-b-eq10.false) (omega (arith, c.if-len-ge200.true, c.len.ensures)) c.in_ok-due_line.ensures.found

pub returns-clause-clean : goal.returns-clause-clean
returns-clause-clean g c =
    subst (λ (l : List ℕ). has_feed l ≡ false) (sym c.in_ok-push.ensures.items) (clean_held (g.H.Followed.host c.args.follower.now.host) (g.H.Followed.line c.args.follower.now.host) (g.H.Followed.world c.args.follower.now.host) c.args.follower.now.seen c.args.follower.now.held.items c.args.follower.now.at c.requires.clean c.args.b (ne_eqb c.args.b 10 c.if-b-eq10.false))
