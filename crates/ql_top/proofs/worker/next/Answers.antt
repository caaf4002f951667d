use Rattle.std.proofs.Common.{◌≡◌, true, sym, ◌∙◌, subst}
use Rattle.ql_host.specs.Host.{Host, can_step}
use Rattle.ql_top.specs.Worker.{picked_of}
use Rattle.ql_top.proofs.Working.{keeps_on, picks, one_is_ready, first_true}
use Rattle.ql_top.proofs.worker.next.Goals as goal

pub returns-then-goes_on-clause-next : goal.returns-then-goes_on-clause-next
returns-then-goes_on-clause-next c = keeps_on c.args.host.now (picked_of c.args.last) c.args.quantum c.requires.quantum (sym c.goes_on.ensures ∙ c.if-goes_on.true)

pub returns-then-goes_on-clause-can : goal.returns-then-goes_on-clause-can
returns-then-goes_on-clause-can c = first_true _ _ (sym c.goes_on.ensures ∙ c.if-goes_on.true)

pub unreachable-requires : goal.unreachable-requires
unreachable-requires c = one_is_ready c.args.host.now c.requires.goes_on c.requires.home (sym c.in-None.ensures.picked)

pub returns-clause-next : goal.returns-clause-next
returns-clause-next c =
    picks c.args.host.now (picked_of c.args.last) c.args.quantum c.requires.quantum c.in-Some.process (sym c.goes_on.ensures ∙ c.if-goes_on.false) c.requires.last c.requires.home
    (sym c.in-Some.ensures.picked)

pub returns-clause-can : goal.returns-clause-can
returns-clause-can c = subst (λ (h : Host). can_step h c.in-Some.process ≡ true) (sym c.in-Some.ensures.last) c.in-Some.ensures.can
