use Rattle.std.proofs.Common.{◌≡◌, refl, sym, ap, subst, ◌∙◌, ◌+◌, ◌∷◌, List, map, Some}
use Rattle.ql_world.specs.declared.event.Event.TheVariants.{Exit as exit_event}
use Rattle.ql_world.specs.World.{counted, with_event, with_thread, without_catch}
use Rattle.ql_world.specs.Machine.{done}
use Rattle.ql_world.specs.Idle.{killed_within}
use Rattle.ql_tree.specs.Persons.{process_of_person}
use Rattle.ql_code.specs.declared.code.Op.TheVariants as ops
use Rattle.ql_code.specs.declared.mark.Mark.TheVariants.{Catching as catching}
use Rattle.ql_code.specs.Standing.{IsAsked}
use Rattle.ql_code.specs.Machine.{Point, slot, settled, exit_want, exit_go, code_machine}
use Rattle.ql_proc.specs.Points.{point_of}
use Rattle.ql_host.specs.declared.shared.Shared.{Shared}
use Rattle.ql_host.specs.World.{world_of, made_in}
use Rattle.ql_host.proofs.RowTicks.{go_at}
use Rattle.ql_host.proofs.CatchRows.{acts_among, left_is, left_known, catch_under, catch_there, exit_is, thread_within}
use Rattle.ql_host.proofs.ticks.catches.exit.Goals as goal

pub returns-in_default-catch_at-clause-keeps : goal.returns-in_default-catch_at-clause-keeps
returns-in_default-catch_at-clause-keeps c =
    let st = c.requires.thread.stack.items in
    let want = left_known c.catch_left.result c.in-Some.c (exit_want st) (c.catch_left.ensures c.requires.thread c.requires.there) c.in-Some.is in
    absurd (catch_there c.args.shared.now.tree.catches c.in-Some.c (subst (IsAsked (made_in c.args.shared.now) c.args.person.kind) want c.requires.stands.asked) (sym c.catch_at.ensures ∙ c.in_default-catch_at.is))

pub exit_at-requires : goal.exit_at-requires
exit_at-requires c t e =
    thread_within c.args.s c.args.p c.args.shared.now c.args.person ops.Exit c.args.at c.args.procs.now c.kill_within.new.procs c.requires.thread t c.requires.stands c.requires.there c.kill_within.ensures.spared e

pub returns-clause-takes : goal.returns-clause-takes
returns-clause-takes c =
    let s = c.args.s in
    let p = c.args.p in
    let d = c.in-Some.c in
    let k = c.in-Some-catch_at.catch in
    let m = code_machine s.code.now.instructions in
    let old : Shared = c.args.shared.now in
    let told : Shared = record c.take_events.new.shared { history = c.tell.new.self } in
    let killed : Shared = c.kill_within.new.shared in
    let new : Shared = record killed { tree = c.leave.new.self } in
    let t = c.requires.thread in
    let ts : List Point = map point_of c.args.procs.now in
    let us : List Point = map point_of c.kill_within.new.procs in
    let vs : List Point = map point_of c.exit_at.new.procs in
    let want = left_known c.catch_left.result d (exit_want t.stack.items) (c.catch_left.ensures t c.requires.there) c.in-Some.is in
    let under = catch_under t.stack.items d want in
    let u : Point = settled s.code.now.instructions (t.place + 1) (slot under.0 ∷ under.2) in
    let begun : world_of told ts ≡ with_event (counted (world_of old ts) p) (exit_event p d) = rw (c.tell.ensures.same, c.tick.ensures.same, c.take_events.ensures.tables) refl in
    let is : world_of new vs ≡ with_thread (without_catch (killed_within m (world_of told ts) d k.owner) d) p u =
    left_is killed new us vs p d u (killed_within m (world_of told ts) d k.owner) (c.kill_within.ensures.world s.code.now.instructions)
    (λ threads. rw c.leave.ensures refl)
    (c.exit_at.ensures.points t under.0 (catching d under.1) under.2 (c.kill_within.ensures.spared ∙ c.requires.there) under.3) in
    acts_among s p c.args.person old new c.args.procs.now c.exit_at.new.procs t ops.Exit c.args.at c.requires.there c.requires.stands
    (λ can.
    exit_is s p (process_of_person c.args.person (point_of t)) (counted (world_of old ts) p) d k (exit_want t.stack.items) u want (sym c.catch_at.ensures ∙ c.in-Some-catch_at.is)
    (go_at s.code.now s.names.now s.limits p (point_of t) ops.Exit c.args.at c.requires.stands.runs c.requires.stands.here done ∙ ap (exit_go s.code.now.instructions t.place) under.3)
    ∙ ap Some (sym (is ∙ ap (λ w. with_thread (without_catch (killed_within m w d k.owner) d) p u) begun)))
