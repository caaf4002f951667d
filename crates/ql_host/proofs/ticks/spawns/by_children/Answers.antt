use Rattle.std.proofs.Common.{◌≡◌, ◌≤◌, ◌+◌, length, map, List, ◌++◌, if◌then◌else◌, refl, sym, ap, ◌∙◌, arith}
use Rattle.std.specs.Prelude.{drop}
use Rattle.std.proofs.lemmas.List.{length-map}
use Rattle.ql_world.specs.Word.{is_eager}
use Rattle.ql_world.specs.declared.word.Word.TheVariants.{Fut as future}
use Rattle.ql_world.specs.World.{counted, numbers}
use Rattle.ql_world.specs.Tick.{with_children, or_home}
use Rattle.ql_proc.specs.Points.{point_of}
use Rattle.ql_proc.specs.declared.process.Proc.{Proc}
use Rattle.ql_code.specs.declared.code.Op.TheVariants as ops
use Rattle.ql_code.specs.Machine.{Point, innermost_on, push, settled}
use Rattle.ql_host.specs.declared.shared.Shared.{Shared}
use Rattle.ql_host.specs.World.{world_of}
use Rattle.ql_host.proofs.Rooms.{at_still}
use Rattle.ql_host.proofs.Making.{made_from_room}
use Rattle.ql_host.proofs.SpawnRows.{qlet_spawned}
use Rattle.ql_host.proofs.ticks.spawns.by_children.Goals as goal

pub returns-clause-makes : goal.returns-clause-makes
returns-clause-makes c =
    let m : Shared = c.take_room.new.shared in
    let s = c.args.s in
    let p = c.args.p in
    let made = c.in_ok-made.made.items in
    let old : Shared = c.args.shared.now in
    let mid : Shared = record m { history = c.tick.new.self } in
    let new : Shared = c.add_children.new.shared in
    let t = point_of c.args.proc.now in
    let u = point_of c.push_futures.new.self in
    let home = c.around-home.result in
    let few : length old.tree.persons + length c.args.starts.now ≤ old.tree.limit = c.requires.few in
    let count : length made ≡ length c.args.starts.now = c.in_ok-made.ensures.count in
    let mapped : length (map point_of made) ≡ length made = length-map made point_of in
    let told : (threads : List Point) → world_of mid threads ≡ counted (world_of m threads) p = λ threads. rw (c.tick.ensures.same) refl in
    made_from_room s.code.now s.names.now s.limits p c.args.person old m c.take_room.ensures.shared new t u (map point_of made)
    (qlet_spawned s.code.now s.names.now s.limits p c.args.person m new t u c.args.starts.now c.args.touched c.args.bound c.args.at c.args.x
    (at_still s.code.now s.names.now s.limits p c.args.person old m c.take_room.ensures.shared t (ops.Qlet c.args.starts.now c.args.touched c.args.bound) c.args.at c.requires.stands)
    c.requires.calm c.requires.top
    (map point_of made) c.in_ok-first.first c.in_ok-count.count c.requires.spawns
    c.in_ok-made.ensures.made
    (rw (c.take_room.ensures.shared) (omega (arith, few, count, mapped)))
    (rw (c.take_room.ensures.shared) c.in_ok-first.ensures)
    (c.in_ok-count.ensures.count ∙ ap length c.deref.ensures.value ∙ sym mapped)
    (λ threads l.
    ap (λ ts. world_of new (threads ++ map point_of ts)) (sym c.deref-2.ensures.value)
    ∙ c.add_children.ensures.world threads l
    ∙ ap (λ ts. with_children (world_of mid threads) p home (map point_of ts)) c.deref-2.ensures.value
    ∙ ap (λ w. with_children w p home (map point_of made)) (told threads)
    ∙ ap (λ k. with_children (counted (world_of m threads) p) p k (map point_of made))
    (c.around-home.ensures ∙ ap (λ (q : Proc). or_home (innermost_on q.stack.items) c.args.person.home) c.take_room.ensures.proc))
    (c.push_futures.ensures.point
    ∙ ap (λ k. settled s.code.now.instructions k (push (map future (numbers c.in_ok-first.first c.in_ok-count.count)) (drop 1 c.take_room.new.proc.stack.items))) c.place_after-place.ensures
    ∙ ap (λ (q : Proc). settled s.code.now.instructions (if is_eager c.args.x then c.args.bound else c.args.touched) (push (map future (numbers c.in_ok-first.first c.in_ok-count.count)) (drop 1 q.stack.items))) c.take_room.ensures.proc))
