use Rattle.std.proofs.Common.{◌≡◌, true, false, sym, ◌∙◌}
use Rattle.std.specs.Str.{bytes_eq}
use Rattle.std.proofs.lemmas.Slice.Eq.{bytes_eq-Decides}
use Rattle.ql_replay.specs.Book.{turn_in}
use Rattle.ql_replay.proofs.TakesLines.{due_same, due_other, stopped_here, no_turn_line, turn_taken, turn_refused}
use Rattle.ql_replay.proofs.follower.take_line.Goals as goal

pub returns-then-is_same-clause-follows : goal.returns-then-is_same-clause-follows
returns-then-is_same-clause-follows g c = λ rest at.
    due_same (g.H.Followed.host c.args.host.now) (g.H.Followed.line c.args.host.now) turn_in (g.H.Followed.world c.args.host.now) c.args.seen c.args.line.now rest at
    c.due_line.new.to.items c.in_ok-due_line.field-0 c.in_ok-due_line.ensures.found c.if-branch.true (sym c.as_slice.ensures.value ∙ (bytes_eq-Decides c.as_slice.result.now c.args.line.now).0 (sym c.is_same.ensures ∙ c.if-is_same.true))

pub returns-then-branch-clause-follows : goal.returns-then-branch-clause-follows
returns-then-branch-clause-follows g c = λ rest at.
    due_other (g.H.Followed.host c.args.host.now) (g.H.Followed.line c.args.host.now) turn_in (g.H.Followed.world c.args.host.now) c.args.seen c.args.line.now rest at
    c.due_line.new.to.items c.in_ok-due_line.field-0 c.in_ok-due_line.ensures.found c.if-branch.true (λ e. let yes = (bytes_eq-Decides c.as_slice.result.now c.args.line.now).1 (c.as_slice.ensures.value ∙ e) in let no : bytes_eq c.as_slice.result.now c.args.line.now ≡ false = sym c.is_same.ensures ∙ c.if-is_same.false in let bad : false ≡ true = sym no ∙ yes in absurd cc)

pub returns-then-has_stopped-clause-follows : goal.returns-then-has_stopped-clause-follows
returns-then-has_stopped-clause-follows g c = λ rest at.
    stopped_here (g.H.Followed.host c.args.host.now) (g.H.Followed.line c.args.host.now) turn_in (g.H.Followed.world c.args.host.now) c.args.seen c.args.line.now rest at
    c.due_line.new.to.items c.in_ok-due_line.field-0 c.in_ok-due_line.ensures.found c.if-branch.false c.has_stopped.result c.has_stopped.ensures c.if-has_stopped.true

pub returns-in_default-clause-follows : goal.returns-in_default-clause-follows
returns-in_default-clause-follows g c = λ rest at.
    no_turn_line (g.H.Followed.host c.args.host.now) (g.H.Followed.line c.args.host.now) turn_in (g.H.Followed.world c.args.host.now) c.args.seen c.args.line.now rest at
    c.due_line.new.to.items c.in_ok-due_line.field-0 c.in_ok-due_line.ensures.found c.if-branch.false (sym c.read_turn.ensures ∙ c.in_default.is)

pub returns-then-branch-2-clause-follows : goal.returns-then-branch-2-clause-follows
returns-then-branch-2-clause-follows g c = λ rest at.
    turn_taken (g.H.Followed.host c.args.host.now) (g.H.Followed.line c.args.host.now) turn_in (g.H.Followed.world c.args.host.now) c.args.seen c.args.line.now rest at
    c.due_line.new.to.items c.in_ok-due_line.field-0 c.in_ok-due_line.ensures.found c.if-branch.false (g.H.Followed.world c.take_turn.new.host) c.has_stopped.result c.in_ok-take_turn.field-0 c.in-Some.p c.in-Some.n c.has_stopped.ensures c.if-has_stopped.false (sym c.read_turn.ensures ∙ c.in-Some.is) c.in_ok-take_turn.ensures.took c.if-branch-2.true

pub returns-clause-follows : goal.returns-clause-follows
returns-clause-follows g c = λ rest at.
    turn_refused (g.H.Followed.host c.args.host.now) (g.H.Followed.line c.args.host.now) turn_in (g.H.Followed.world c.args.host.now) c.args.seen c.args.line.now rest at
    c.due_line.new.to.items c.in_ok-due_line.field-0 c.in_ok-due_line.ensures.found c.if-branch.false (g.H.Followed.world c.take_turn.new.host) c.has_stopped.result c.in_ok-take_turn.field-0 c.in-Some.p c.in-Some.n c.has_stopped.ensures c.if-has_stopped.false (sym c.read_turn.ensures ∙ c.in-Some.is) c.in_ok-take_turn.ensures.took c.if-branch-2.false
