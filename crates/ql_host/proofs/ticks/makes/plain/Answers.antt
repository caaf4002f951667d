use Rattle.std.proofs.Common.{◌≡◌, ◌+◌, false, List, map, refl, ap, ◌∙◌}
use Rattle.ql_world.specs.World.{counted}
use Rattle.ql_world.specs.Tick.{with_server_made, or_home}
use Rattle.ql_proc.specs.Points.{point_of}
use Rattle.ql_proc.specs.declared.process.Proc.{Proc}
use Rattle.ql_world.specs.declared.world.Closure.{Closure}
use Rattle.ql_code.specs.declared.code.Op.TheVariants as ops
use Rattle.ql_code.specs.Machine.{Point, frame_of, slots_at, innermost_on}
use Rattle.ql_host.specs.declared.shared.Shared.{Shared}
use Rattle.ql_host.specs.World.{world_of}
use Rattle.ql_host.proofs.Rooms.{at_still}
use Rattle.ql_host.proofs.Making.{made_from_room}
use Rattle.ql_host.proofs.MakeRows.{lambda_plain}
use Rattle.ql_host.proofs.ticks.makes.plain.Goals as goal

pub returns-clause-makes : goal.returns-clause-makes
returns-clause-makes c =
    let m : Shared = c.take_server_room.new.shared in
    let s = c.args.s in
    let p = c.args.p in
    let old : Shared = c.args.shared.now in
    let mid : Shared = record m { history = c.tick.new.self } in
    let new : Shared = c.add_server.new.shared in
    let t = point_of c.args.proc.now in
    let u = point_of c.replace_one.new.self in
    let d = point_of c.in_ok-thread.thread in
    let body : Closure = record { place = t.place + 1; count = c.args.params; mask = c.args.mask; captured = slots_at (frame_of t.stack) c.args.slots.now } in
    let home = or_home (innermost_on t.stack) c.args.person.home in
    let told : (threads : List Point) → world_of mid threads ≡ counted (world_of m threads) p = λ threads. rw (c.tick.ensures.same) refl in
    made_from_room s.code.now s.names.now s.limits p c.args.person old m c.take_server_room.ensures.shared new t u (map point_of c.in_ok-made.made.items)
    (rw (c.in_ok-made.ensures)
    (lambda_plain s.code.now s.names.now s.limits p c.args.person m t c.args.params c.args.mask c.args.slots.now c.args.next c.args.at c.args.x
    (at_still s.code.now s.names.now s.limits p c.args.person old m c.take_server_room.ensures.shared t (ops.Qlambda c.args.params c.args.mask c.args.slots.now c.args.next) c.args.at c.requires.stands)
    c.requires.calm c.requires.top
    new u d c.requires.spawns c.requires.rests
    (rw (c.take_server_room.ensures.shared) c.requires.few)
    (c.in_ok-thread.ensures ∙ rw (c.in_ok-body.ensures) refl)
    (λ threads l.
    c.add_server.ensures.world threads d l
    ∙ ap (λ w. with_server_made w p c.around-home.result c.in_ok-body.body false c.new.result.items d) (told threads)
    ∙ ap (λ h. with_server_made (counted (world_of m threads) p) p h c.in_ok-body.body false c.new.result.items d)
    (c.around-home.ensures ∙ ap (λ (q : Proc). or_home (innermost_on q.stack.items) c.args.person.home) c.take_server_room.ensures.proc)
    ∙ ap (λ k. with_server_made (counted (world_of m threads) p) p home k false c.new.result.items d) c.in_ok-body.ensures
    ∙ ap (λ fs. with_server_made (counted (world_of m threads) p) p home body false fs d) c.new.ensures.items)
    (c.replace_one.ensures.point ∙ rw (c.in_ok-k.ensures, c.take_server_room.ensures.proc, c.take_server_room.ensures.shared) refl)))
