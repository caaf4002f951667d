use Rattle.std.proofs.Common.{◌≡◌, refl, sym, ap, ◌∙◌, List, length, map, true, Some}
use Rattle.ql_world.specs.declared.event.Event.TheVariants.{Exit as exit_event}
use Rattle.ql_world.specs.World.{counted, with_event, with_thread}
use Rattle.ql_world.specs.Machine.{done}
use Rattle.ql_world.specs.Idle.{killed_within}
use Rattle.ql_tree.specs.declared.person.Person.{Person}
use Rattle.ql_code.specs.declared.code.Op.TheVariants as ops
use Rattle.ql_code.specs.Machine.{Point, ended, code_machine}
use Rattle.ql_proc.specs.Points.{point_of}
use Rattle.ql_host.specs.declared.shared.Shared.{Shared}
use Rattle.ql_host.specs.World.{world_of}
use Rattle.ql_host.proofs.RowTicks.{go_at}
use Rattle.ql_host.proofs.Killing.{length_changed}
use Rattle.ql_host.proofs.CatchRows.{acts_among, last_is, ended_world, ended_after}
use Rattle.ql_host.proofs.ticks.catches.last.Goals as goal

pub returns-clause-takes : goal.returns-clause-takes
returns-clause-takes c =
    let s = c.args.s in
    let p = c.args.p in
    let m = code_machine s.code.now.instructions in
    let old : Shared = c.args.shared.now in
    let told : Shared = record c.take_events.new.shared { history = c.tell.new.self } in
    let killed : Shared = c.kill_within.new.shared in
    let new : Shared = record killed { tree = c.set_ended.new.self; history = c.tell-2.new.self } in
    let t = c.requires.thread in
    let ts : List Point = map point_of c.args.procs.now in
    let us : List Point = map point_of c.kill_within.new.procs in
    let vs : List Point = map point_of c.end_at.new.procs in
    let u : Point = ended t.place in
    let begun : world_of told ts ≡ with_event (counted (world_of old ts) p) (exit_event p 0) = rw (c.tell.ensures.same, c.tick.ensures.same, c.take_events.ensures.tables) refl in
    let is : world_of new vs ≡ with_thread (ended_world p (killed_within m (world_of told ts) 0 p)) p u =
    last_is killed new us vs p u (killed_within m (world_of told ts) 0 p) (c.kill_within.ensures.world s.code.now.instructions)
    (λ threads. rw (c.set_ended.ensures, c.tell-2.ensures.same, c.leave.ensures) (ended_after killed threads p))
    (c.end_at.ensures.points t (c.kill_within.ensures.spared ∙ c.requires.there)) in
    acts_among s p c.args.person old new c.args.procs.now c.end_at.new.procs t ops.End c.args.at c.requires.there c.requires.stands
    (λ can. ap Some (sym (is
    ∙ ap (λ w. with_thread (ended_world p (killed_within m w 0 p)) p u) begun
    ∙ ap (with_thread (ended_world p (killed_within m (with_event (counted (world_of old ts) p) (exit_event p 0)) 0 p)) p)
    (sym (go_at s.code.now s.names.now s.limits p (point_of t) ops.End c.args.at c.requires.stands.runs c.requires.stands.here done)))))

pub returns-clause-long : goal.returns-clause-long
returns-clause-long c =
    let killed : Shared = c.kill_within.new.shared in
    c.end_at.ensures.count ∙ c.kill_within.ensures.count ∙ c.requires.threads
    ∙ sym (rw (c.set_ended.ensures, c.leave.ensures)
    (length_changed (λ (r : Person). record r { ended = true }) killed.tree.persons c.args.p
    ∙ c.kill_within.ensures.persons
    ∙ ap (λ (h : Shared). length h.tree.persons) c.take_events.ensures.tables))
