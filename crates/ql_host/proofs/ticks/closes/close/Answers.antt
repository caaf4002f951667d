use Rattle.std.proofs.Common.{◌+◌, refl, sym, ◌∙◌, ap}
use Rattle.std.specs.Prelude.{leb}
use Rattle.ql_code.specs.declared.code.Op.TheVariants as ops
use Rattle.ql_world.specs.declared.world.Closure.{Closure}
use Rattle.ql_proc.specs.Points.{point_of}
use Rattle.ql_host.specs.declared.shared.Shared.{Shared}
use Rattle.ql_host.proofs.Rooms.{from_room, at_still, at_within}
use Rattle.ql_host.proofs.Primitives.{one_within}
use Rattle.ql_host.proofs.Closes.{closure_made, closure_refused}
use Rattle.ql_host.proofs.ticks.closes.close.Goals as goal

pub returns-then-room-eq0-clause-takes : goal.returns-then-room-eq0-clause-takes
returns-then-room-eq0-clause-takes c =
    let m : Shared = c.take_room.new.shared in
    let s = c.args.s in
    let old : Shared = c.args.shared.now in
    let t = point_of c.args.proc.now in
    let new : Shared = c.stop.new.shared in
    let k : Closure = record { place = t.place + 1; count = c.args.params; mask = c.args.mask; captured = c.in_ok-captured.captured } in
    from_room s.code.now s.names.now s.limits c.args.p c.args.person old m c.take_room.ensures.shared new t (point_of c.take_room.new.proc)
    (rw (c.take_room.ensures.proc)
    (closure_refused s.code.now s.names.now s.limits c.args.p c.args.person m t c.args.params c.args.mask c.args.slots.now c.args.next c.args.at k
    (at_still s.code.now s.names.now s.limits c.args.p c.args.person old m c.take_room.ensures.shared t (ops.Close c.args.params c.args.mask c.args.slots.now c.args.next) c.args.at c.requires)
    (rw (c.in_ok-captured.ensures, c.take_room.ensures.proc) refl)
    new (sym (c.room.ensures.allowed 1) ∙ ap (leb 1) c.if-room-eq0.true)
    c.stop.ensures.marked))

pub next_place-requires : goal.next_place-requires
next_place-requires c =
    rw (c.take_room.ensures.proc) (at_within c.args.s.code.now c.args.s.names.now c.args.s.limits c.args.p c.args.shared.now c.args.person (point_of c.args.proc.now) (ops.Close c.args.params c.args.mask c.args.slots.now c.args.next) c.args.at c.requires)

pub returns-clause-takes : goal.returns-clause-takes
returns-clause-takes c =
    let m : Shared = c.take_room.new.shared in
    let s = c.args.s in
    let old : Shared = c.args.shared.now in
    let t = point_of c.args.proc.now in
    let new : Shared = record m { cells = c.put_closure-w.new.self; history = c.tick.new.self } in
    let u = point_of c.push_at.new.self in
    let k : Closure = record { place = c.next_place.result; count = c.args.params; mask = c.args.mask; captured = c.in_ok-captured.captured } in
    from_room s.code.now s.names.now s.limits c.args.p c.args.person old m c.take_room.ensures.shared new t u
    (closure_made s.code.now s.names.now s.limits c.args.p c.args.person m t c.args.params c.args.mask c.args.slots.now c.args.next c.args.at k
    (at_still s.code.now s.names.now s.limits c.args.p c.args.person old m c.take_room.ensures.shared t (ops.Close c.args.params c.args.mask c.args.slots.now c.args.next) c.args.at c.requires)
    (rw (c.next_place.ensures, c.in_ok-captured.ensures, c.take_room.ensures.proc) refl)
    new u (sym (c.room.ensures.allowed 1) ∙ one_within c.room.result c.if-room-eq0.false)
    (λ threads. rw (c.tick.ensures.same, c.put_closure-w.ensures.made) refl)
    (c.push_at.ensures.point ∙ rw (c.take_room.ensures.proc, c.put_closure-w.ensures.word) refl))
