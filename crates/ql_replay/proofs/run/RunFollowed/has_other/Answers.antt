use Rattle.std.proofs.Common.{◌≡◌, ◌∙◌, true, false, sym, subst, ne_eqb}
use Rattle.ql_replay.specs.Running.{Run, host_in}
use Rattle.ql_replay.proofs.Picking.{no_other, one_other, again}
use Rattle.ql_replay.proofs.run.RunFollowed.has_other.Goals as goal

pub returns-in_default-clause-other : goal.returns-in_default-clause-other
returns-in_default-clause-other c =
    subst (λ (r : Run). false ≡ (host_in r).has_other r.host.world c.args.p) c.self.view_is
    (sym (no_other (record { host = c.self.inside.host; texts = c.self.inside.texts }) c.self.invariant.home c.self.invariant.policy c.args.p (sym c.pick.ensures.picked ∙ c.in_default.is)))

pub returns-then-first-p-clause-other : goal.returns-then-first-p-clause-other
returns-then-first-p-clause-other c =
    subst (λ (r : Run). true ≡ (host_in r).has_other r.host.world c.args.p) c.self.view_is
    (sym (one_other (record { host = c.self.inside.host; texts = c.self.inside.texts }) c.self.invariant.home c.self.invariant.policy c.args.p c.in-Some.first c.in-Some.ensures.can
    (ne_eqb c.in-Some.first c.args.p c.if-first-p.true)))

pub returns-clause-other : goal.returns-clause-other
returns-clause-other c =
    let h = c.self.inside.host in
    subst (λ (r : Run). c.is_another.result ≡ (host_in r).has_other r.host.world c.args.p) c.self.view_is
    (again (record { host = h; texts = c.self.inside.texts }) c.self.invariant.home c.self.invariant.policy c.args.p c.in-Some.first c.pick.new.self c.pick-2.result c.is_another.result
    c.if-first-p.false c.in-Some.ensures.last c.pick-2.ensures.picked c.is_another.ensures)
