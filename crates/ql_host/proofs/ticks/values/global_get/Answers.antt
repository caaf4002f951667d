use Rattle.std.proofs.Common.{refl, ◌∙◌}
use Rattle.ql_proc.specs.Points.{point_of}
use Rattle.ql_code.specs.declared.code.Op.TheVariants as ops
use Rattle.ql_host.specs.declared.shared.Shared.{Shared}
use Rattle.ql_host.proofs.Rooms.{from_room, at_still, at_within}
use Rattle.ql_host.proofs.Values.{global_got, global_without}
use Rattle.ql_host.proofs.ticks.values.global_get.Goals as goal

pub returns-in_default-held-clause-takes : goal.returns-in_default-held-clause-takes
returns-in_default-held-clause-takes c =
    let m : Shared = c.take_room.new.shared in
    let s = c.args.s in
    let old : Shared = c.args.shared.now in
    let t = point_of c.args.proc.now in
    from_room s.code.now s.names.now s.limits c.args.p c.args.person old m c.take_room.ensures.shared c.stop.new.shared t (point_of c.take_room.new.proc)
    (rw (c.take_room.ensures.proc)
    (global_without s.code.now s.names.now s.limits c.args.p c.args.person m c.stop.new.shared t t c.args.global c.args.at
    (at_still s.code.now s.names.now s.limits c.args.p c.args.person old m c.take_room.ensures.shared t (ops.GlobalGet c.args.global) c.args.at c.requires)
    (let a = c.word_at.ensures in let b = c.in-Some.is in let d = c.in_default-held.is in let v = c.deref.ensures.value in cc) c.stop.ensures.marked))

pub push_word-requires-clause-place : goal.push_word-requires-clause-place
push_word-requires-clause-place c =
    rw (c.take_room.ensures.proc) (at_within c.args.s.code.now c.args.s.names.now c.args.s.limits c.args.p c.args.shared.now c.args.person (point_of c.args.proc.now) (ops.GlobalGet c.args.global) c.args.at c.requires)

pub returns-clause-takes : goal.returns-clause-takes
returns-clause-takes c =
    let m : Shared = c.take_room.new.shared in
    let s = c.args.s in
    let old : Shared = c.args.shared.now in
    let new : Shared = record m { history = c.tick.new.self } in
    let t = point_of c.args.proc.now in
    let u = point_of c.push_word.new.self in
    from_room s.code.now s.names.now s.limits c.args.p c.args.person old m c.take_room.ensures.shared new t u
    (global_got s.code.now s.names.now s.limits c.args.p c.args.person m new t u c.args.global c.args.at c.in-Some-held.w
    (at_still s.code.now s.names.now s.limits c.args.p c.args.person old m c.take_room.ensures.shared t (ops.GlobalGet c.args.global) c.args.at c.requires)
    (let a = c.word_at.ensures in let b = c.in-Some.is in let d = c.in-Some-held.is in let v = c.deref.ensures.value in cc)
    (λ threads. rw (c.tick.ensures.same) refl)
    (c.push_word.ensures.point ∙ rw (c.take_room.ensures.proc) refl))
