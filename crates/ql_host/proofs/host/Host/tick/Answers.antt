use Rattle.std.proofs.Common.{◌≡◌, sym, subst, true, None}
use Rattle.std.specs.Arc.{arc_value}
use Rattle.ql_code.specs.Code.{Code}
use Rattle.ql_code.specs.Sound.{Sound}
use Rattle.ql_host.specs.Host.{Host, can_step, stop}
use Rattle.ql_host.proofs.Hosts.{can_act, hosted_either}
use Rattle.ql_host.proofs.host.Host.tick.Goals as goal

pub act-requires : goal.act-requires
act-requires c =
    rw (c.deref-2.ensures)
    (can_act _ c.args.p c.self.inside.shared c.self.inside.procs.items c.self.invariant
    (subst (λ (z : Code). ∥ Sound z ∥₁) c.deref.ensures c.len.ensures.sound)
    c.runs_are_sound.ensures.asked c.runs_are_sound.ensures.operands c.worlds_are_sound.ensures
    (subst (λ (h : Host). can_step h c.args.p ≡ true) (sym c.self.view_is) c.requires.can))

pub invariant_of-self : goal.invariant_of-self
invariant_of-self c =
    hosted_either (arc_value c.self.inside.code) c.self.inside.names c.self.inside.limits c.act.result c.deref-2.result.now c.args.p c.self.inside.shared c.act.new.shared c.self.inside.procs.items c.act.new.procs.items
    c.deref-2.ensures c.self.invariant (subst (λ (h : Host). stop h ≡ None) (sym c.self.view_is) c.requires.goes_on)
    c.act.ensures.ticks c.act.ensures.keeps c.act.ensures.long c.act.ensures.left
