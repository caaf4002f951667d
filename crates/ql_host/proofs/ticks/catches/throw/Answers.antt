use Rattle.std.proofs.Common.{◌≡◌, refl, sym, ap, ◌∙◌, List, map, true, false, Some}
use Rattle.std.specs.Prelude.{drop as without_first}
use Rattle.ql_world.specs.declared.event.Event.TheVariants.{Throw as throw_event}
use Rattle.ql_world.specs.declared.world.Aim.TheVariants.{To as to}
use Rattle.ql_world.specs.World.{counted, with_event, with_thread}
use Rattle.ql_world.specs.Idle.{killed_within}
use Rattle.ql_world.specs.Tick.{is_seen, or_home}
use Rattle.ql_tree.specs.Persons.{process_of_person}
use Rattle.ql_code.specs.declared.code.Op.TheVariants as ops
use Rattle.ql_code.specs.Machine.{Point, words, cleanups_on, innermost_on, throw_want, unwind_point, aim_cleanup, code_machine}
use Rattle.ql_proc.specs.Points.{point_of}
use Rattle.ql_host.specs.declared.shared.Shared.{Shared}
use Rattle.ql_host.specs.World.{world_of}
use Rattle.ql_host.specs.Killing.{owner_aimed}
use Rattle.ql_host.proofs.CatchRows.{acts_among, known_two, on_ok, throws_calmly, aimed_calmly, found_there, nowhere_is, throw_is}
use Rattle.ql_host.proofs.ticks.catches.throw.Goals as goal

pub returns-in_default-seen_catch-clause-takes : goal.returns-in_default-seen_catch-clause-takes
returns-in_default-seen_catch-clause-takes c =
    let s = c.args.s in
    let p = c.args.p in
    let old : Shared = c.args.shared.now in
    let new : Shared = c.throw_nowhere.new.shared in
    let t = c.requires.stands.thread in
    let there = c.requires.stands.there in
    let ts : List Point = map point_of c.args.procs.now in
    let want = throws_calmly (words 2 t.stack.items) c.in-Some.tag c.in-Some.w c.args.at (known_two c.thrown.result c.in-Some.tag c.in-Some.w (words 2 t.stack.items) (c.thrown.ensures t there) c.in-Some.is) (c.requires.calm t there) in
    on_ok c.throw_nowhere.result c.throw_nowhere.ensures.world
    (λ h.
    acts_among s p c.args.person old new c.args.procs.now c.args.procs.now t ops.Throw c.args.at there c.requires.stands.stands
    (λ can.
    nowhere_is s p (process_of_person c.args.person (point_of t)) (counted (world_of old ts) p) c.in-Some.tag c.in-Some.w c.args.at (throw_want (words 2 t.stack.items) c.args.at) want
    (sym (c.seen_catch.ensures t there) ∙ c.in_default-seen_catch.is)
    ∙ ap Some (sym (h ts))))

pub returns-in_default-catch_at-clause-takes : goal.returns-in_default-catch_at-clause-takes
returns-in_default-catch_at-clause-takes c =
    let t = c.requires.stands.thread in
    let st = t.stack.items in
    absurd (found_there (is_seen (cleanups_on st)) c.args.shared.now.tree.catches c.in-Some.tag (or_home (innermost_on st) c.args.person.home) c.in-Some-seen_catch.c
    (sym (c.seen_catch.ensures t c.requires.stands.there) ∙ c.in-Some-seen_catch.is) (sym c.catch_at.ensures ∙ c.in_default-catch_at.is))

pub returns-in_default-catch_at-clause-keeps : goal.returns-in_default-catch_at-clause-keeps
returns-in_default-catch_at-clause-keeps c =
    let t = c.requires.stands.thread in
    let st = t.stack.items in
    absurd (found_there (is_seen (cleanups_on st)) c.args.shared.now.tree.catches c.in-Some.tag (or_home (innermost_on st) c.args.person.home) c.in-Some-seen_catch.c
    (sym (c.seen_catch.ensures t c.requires.stands.there) ∙ c.in-Some-seen_catch.is) (sym c.catch_at.ensures ∙ c.in_default-catch_at.is))

pub returns-then-runs_cleanup-clause-takes : goal.returns-then-runs_cleanup-clause-takes
returns-then-runs_cleanup-clause-takes c =
    let s = c.args.s in
    let p = c.args.p in
    let m = code_machine s.code.now.instructions in
    let d = c.in-Some-seen_catch.c in
    let k = c.in-Some-catch_at.catch in
    let old : Shared = c.args.shared.now in
    let told : Shared = record c.take_events.new.shared { history = c.tell.new.self } in
    let new : Shared = c.throw_within.new.shared in
    let t = c.requires.stands.thread in
    let there = c.requires.stands.there in
    let ts : List Point = map point_of c.args.procs.now in
    let a = to d c.in-Some.w in
    let want = throws_calmly (words 2 t.stack.items) c.in-Some.tag c.in-Some.w c.args.at (known_two c.thrown.result c.in-Some.tag c.in-Some.w (words 2 t.stack.items) (c.thrown.ensures t there) c.in-Some.is) (c.requires.calm t there) in
    let begun : world_of told ts ≡ with_event (counted (world_of old ts) p) (throw_event p d) = rw (c.tell.ensures.same, c.tick.ensures.same, c.take_events.ensures.tables) refl in
    let u : Point = unwind_point t.place (aim_cleanup a (without_first 2 t.stack.items)) in
    acts_among s p c.args.person old new c.args.procs.now c.throw_within.new.procs t ops.Throw c.args.at there c.requires.stands.stands
    (λ can.
    throw_is s p (process_of_person c.args.person (point_of t)) (counted (world_of old ts) p) c.in-Some.tag c.in-Some.w c.args.at (throw_want (words 2 t.stack.items) c.args.at) want d k true
    (sym (c.seen_catch.ensures t there) ∙ c.in-Some-seen_catch.is) (sym c.catch_at.ensures ∙ c.in-Some-catch_at.is) (sym (c.runs_cleanup.ensures t there) ∙ c.if-runs_cleanup.true)
    ∙ ap (λ v. Some (with_thread (killed_within m (with_event (counted (world_of old ts) p) (throw_event p d)) d k.owner) p v))
    (aimed_calmly s p old c.args.person (point_of t) c.args.at a c.requires.stands.stands (c.requires.calm t there))
    ∙ ap Some (sym (c.throw_within.ensures.world s.code.now.instructions t there ∙ ap (λ w. with_thread (killed_within m w d k.owner) p u) begun)))

pub returns-clause-takes : goal.returns-clause-takes
returns-clause-takes c =
    let s = c.args.s in
    let p = c.args.p in
    let m = code_machine s.code.now.instructions in
    let d = c.in-Some-seen_catch.c in
    let k = c.in-Some-catch_at.catch in
    let old : Shared = c.args.shared.now in
    let told : Shared = record c.take_events.new.shared { history = c.tell.new.self } in
    let new : Shared = c.throw_to.new.shared in
    let t = c.requires.stands.thread in
    let there = c.requires.stands.there in
    let ts : List Point = map point_of c.args.procs.now in
    let a = to d c.in-Some.w in
    let want = throws_calmly (words 2 t.stack.items) c.in-Some.tag c.in-Some.w c.args.at (known_two c.thrown.result c.in-Some.tag c.in-Some.w (words 2 t.stack.items) (c.thrown.ensures t there) c.in-Some.is) (c.requires.calm t there) in
    let begun : world_of told ts ≡ with_event (counted (world_of old ts) p) (throw_event p d) = rw (c.tell.ensures.same, c.tick.ensures.same, c.take_events.ensures.tables) refl in
    acts_among s p c.args.person old new c.args.procs.now c.throw_to.new.procs t ops.Throw c.args.at there c.requires.stands.stands
    (λ can.
    throw_is s p (process_of_person c.args.person (point_of t)) (counted (world_of old ts) p) c.in-Some.tag c.in-Some.w c.args.at (throw_want (words 2 t.stack.items) c.args.at) want d k false
    (sym (c.seen_catch.ensures t there) ∙ c.in-Some-seen_catch.is) (sym c.catch_at.ensures ∙ c.in-Some-catch_at.is) (sym (c.runs_cleanup.ensures t there) ∙ c.if-runs_cleanup.false)
    ∙ ap Some (sym (c.throw_to.ensures.world s.code.now.instructions ∙ ap (λ w. owner_aimed m (killed_within m w d k.owner) k.owner a) begun)))
