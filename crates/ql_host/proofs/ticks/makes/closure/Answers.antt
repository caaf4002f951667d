use Rattle.std.proofs.Common.{[], refl, sym, ap, ◌∙◌}
use Rattle.std.specs.Prelude.{leb}
use Rattle.ql_proc.specs.Points.{point_of}
use Rattle.ql_code.specs.declared.code.Op.TheVariants as ops
use Rattle.ql_host.specs.declared.shared.Shared.{Shared}
use Rattle.ql_host.proofs.Rooms.{at_still}
use Rattle.ql_host.proofs.Primitives.{one_within}
use Rattle.ql_host.proofs.Making.{made_from_room}
use Rattle.ql_host.proofs.MakeRows.{lambda_closed, lambda_refused}
use Rattle.ql_host.proofs.ticks.makes.closure.Goals as goal

pub returns-then-room-eq0-clause-makes : goal.returns-then-room-eq0-clause-makes
returns-then-room-eq0-clause-makes c =
    let m : Shared = c.take_room.new.shared in
    let s = c.args.s in
    let p = c.args.p in
    let old : Shared = c.args.shared.now in
    let new : Shared = c.stop.new.shared in
    let t = point_of c.args.proc.now in
    made_from_room s.code.now s.names.now s.limits p c.args.person old m c.take_room.ensures.shared new t (point_of c.take_room.new.proc) []
    (rw (c.take_room.ensures.proc)
    (lambda_refused s.code.now s.names.now s.limits p c.args.person m t c.args.params c.args.mask c.args.slots.now c.args.next c.args.at c.args.x
    (at_still s.code.now s.names.now s.limits p c.args.person old m c.take_room.ensures.shared t (ops.Qlambda c.args.params c.args.mask c.args.slots.now c.args.next) c.args.at c.requires.stands)
    c.requires.calm c.requires.top
    new c.requires.in_line (sym (c.room.ensures.allowed 1) ∙ ap (leb 1) c.if-room-eq0.true)
    c.stop.ensures.marked))

pub returns-clause-makes : goal.returns-clause-makes
returns-clause-makes c =
    let m : Shared = c.take_room.new.shared in
    let s = c.args.s in
    let p = c.args.p in
    let old : Shared = c.args.shared.now in
    let new : Shared = record m { cells = c.put_closure-w.new.self; history = c.tick.new.self } in
    let t = point_of c.args.proc.now in
    let u = point_of c.replace_one.new.self in
    made_from_room s.code.now s.names.now s.limits p c.args.person old m c.take_room.ensures.shared new t u []
    (lambda_closed s.code.now s.names.now s.limits p c.args.person m t c.args.params c.args.mask c.args.slots.now c.args.next c.args.at c.args.x
    (at_still s.code.now s.names.now s.limits p c.args.person old m c.take_room.ensures.shared t (ops.Qlambda c.args.params c.args.mask c.args.slots.now c.args.next) c.args.at c.requires.stands)
    c.requires.calm c.requires.top
    new u c.requires.in_line (sym (c.room.ensures.allowed 1) ∙ one_within c.room.result c.if-room-eq0.false)
    (λ threads. rw (c.tick.ensures.same, c.put_closure-w.ensures.made, c.in_ok-body.ensures) refl)
    (c.replace_one.ensures.point ∙ rw (c.take_room.ensures.proc, c.put_closure-w.ensures.word) refl))
