use Rattle.std.proofs.Common.{◌≡◌, sym, ◌∙◌, ap, subst, Some}
use Rattle.std.specs.Arc.{arc_value}
use Rattle.ql_host.specs.Host.{Host, stop, story}
use Rattle.ql_host.proofs.Hosts.{told_journal, story_is}
use Rattle.ql_host.proofs.host.Host.told.Goals as goal

pub invariant_of-result : goal.invariant_of-result
invariant_of-result c =
    let i = c.self.inside in
    told_journal (arc_value i.code) i.names i.limits i.shared i.procs.items c.args.why c.into_bytes.result.items c.ended.result.journal.head c.ended.result.journal.events c.self.invariant
    (subst (λ (h : Host). stop h ≡ Some c.args.why) (sym c.self.view_is) c.requires) c.into_bytes.ensures c.ended.ensures.head c.ended.ensures.events

pub returns-clause-told : goal.returns-clause-told
returns-clause-told c = invariant_of-result c

pub returns-clause-story : goal.returns-clause-story
returns-clause-story c =
    let i = c.self.inside in
    story_is (arc_value i.code) i.names i.limits i.shared i.procs.items c.args.why c.into_bytes.result.items c.ended.result.journal.head c.ended.result.journal.events c.self.invariant
    c.into_bytes.ensures c.ended.ensures.head c.ended.ensures.events
    ∙ ap (λ (h : Host). story h c.args.why) c.self.view_is
