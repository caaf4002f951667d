use Rattle.std.proofs.Common.{refl, sym, subst}
use Rattle.std.specs.Prelude.{IfOk}
use Rattle.std.specs.Arc.{arc_value}
use Rattle.ql_code.specs.Code.{Code}
use Rattle.ql_code.specs.LocalPath.{LocalPath}
use Rattle.ql_proc.specs.Windows.{window_in}
use Rattle.ql_host.specs.Host.{Host, Comes}
use Rattle.ql_host.specs.Acts.{world_in}
use Rattle.ql_host.specs.Hosted.{IsHosted}
use Rattle.ql_host.proofs.Commits.{hosted_anyhow, comes}
use Rattle.ql_host.proofs.host.Host.commit.Goals as goal

pub invariant_of-self : goal.invariant_of-self
invariant_of-self c =
    let d = c.args.done in
    let path : LocalPath (arc_value c.self.inside.code).instructions (window_in d.start) d.steps (window_in d.window) =
    subst (λ (h : Host). LocalPath h.code.instructions (window_in d.start) d.steps (window_in d.window)) (sym c.self.view_is) c.requires in
    subst (λ (z : Code). IsHosted z c.self.inside.names c.self.inside.limits c.take_in.new.shared c.take_in.new.procs.items) c.deref.ensures
    (hosted_anyhow c.commits_are_ticks.ensures.ticks _ c.self.inside.shared c.take_in.new.shared c.self.inside.procs.items c.take_in.new.procs.items d
    (subst (λ (z : Code). IsHosted z c.self.inside.names c.self.inside.limits c.self.inside.shared c.self.inside.procs.items) (sym c.deref.ensures) c.self.invariant)
    (subst (λ (z : Code). LocalPath z.instructions (window_in d.start) d.steps (window_in d.window)) (sym c.deref.ensures) path)
    c.take_in.result c.take_in.ensures.ends c.take_in.ensures.left)

pub returns-clause-comes : goal.returns-clause-comes
returns-clause-comes c =
    let d = c.args.done in
    let path : LocalPath (arc_value c.self.inside.code).instructions (window_in d.start) d.steps (window_in d.window) =
    subst (λ (h : Host). LocalPath h.code.instructions (window_in d.start) d.steps (window_in d.window)) (sym c.self.view_is) c.requires in
    let after : Host = record {
      code = arc_value c.self.inside.code;
      names = c.self.inside.names;
      limits = c.self.inside.limits;
      world = world_in c.take_in.new.shared c.take_in.new.procs.items;
      last = c.self.inside.last;
      away = c.remove.new.numbers.items;
    } in
    subst (λ (o : Host). IfOk c.take_in.result (λ c'. Comes c' o after d.proc (window_in d.start) d.steps)) c.self.view_is
    (comes c.commits_are_ticks.ensures.ticks _ c.self.inside.shared c.take_in.new.shared c.self.inside.procs.items c.take_in.new.procs.items d
    (subst (λ (z : Code). IsHosted z c.self.inside.names c.self.inside.limits c.self.inside.shared c.self.inside.procs.items) (sym c.deref.ensures) c.self.invariant)
    (subst (λ (z : Code). LocalPath z.instructions (window_in d.start) d.steps (window_in d.window)) (sym c.deref.ensures) path)
    (arc_value c.self.inside.code) c.deref.ensures c.self.inside.last c.self.inside.away.items after refl
    c.take_in.result c.take_in.ensures.ends)
