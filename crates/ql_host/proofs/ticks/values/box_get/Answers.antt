use Rattle.std.proofs.Common.{refl, sym, ◌∙◌, ap}
use Rattle.ql_proc.specs.Points.{point_of}
use Rattle.ql_proc.specs.declared.process.Proc.{Proc}
use Rattle.ql_code.specs.Machine.{frame_of, slot_at, place_of_slot}
use Rattle.ql_code.specs.declared.code.Op.TheVariants as ops
use Rattle.ql_host.specs.declared.shared.Shared.{Shared}
use Rattle.ql_host.proofs.Rooms.{from_room, at_still, at_within}
use Rattle.ql_host.proofs.Values.{box_got, box_lacking, box_there}
use Rattle.ql_host.proofs.ticks.values.box_get.Goals as goal

pub returns-in_default-clause-takes : goal.returns-in_default-clause-takes
returns-in_default-clause-takes c =
    let m : Shared = c.take_room.new.shared in
    let s = c.args.s in
    let old : Shared = c.args.shared.now in
    let new : Shared = record m { history = c.tick.new.self } in
    let t = point_of c.args.proc.now in
    let u = point_of c.end.new.self in
    from_room s.code.now s.names.now s.limits c.args.p c.args.person old m c.take_room.ensures.shared new t u
    (box_lacking s.code.now s.names.now s.limits c.args.p c.args.person m new t u c.args.slot c.args.at
    (at_still s.code.now s.names.now s.limits c.args.p c.args.person old m c.take_room.ensures.shared t (ops.BoxGet c.args.slot) c.args.at c.requires)
    (ap (λ (q : Proc). place_of_slot (slot_at (frame_of q.stack.items) c.args.slot)) (sym c.take_room.ensures.proc) ∙ ap place_of_slot (sym c.local.ensures) ∙ c.in_default.ensures)
    (λ threads. rw (c.tick.ensures.same) refl)
    (c.end.ensures.point ∙ rw (c.take_room.ensures.proc) refl))

pub returns-in_default-get_box-clause-takes : goal.returns-in_default-get_box-clause-takes
returns-in_default-get_box-clause-takes c =
    let m : Shared = c.take_room.new.shared in
    let s = c.args.s in
    let old : Shared = c.args.shared.now in
    let t = point_of c.args.proc.now in
    absurd (box_there s.code.now s.names.now s.limits c.args.p c.args.person m m t t c.args.slot c.args.at c.in-Some.b
    (at_still s.code.now s.names.now s.limits c.args.p c.args.person old m c.take_room.ensures.shared t (ops.BoxGet c.args.slot) c.args.at c.requires)
    (ap (λ (q : Proc). place_of_slot (slot_at (frame_of q.stack.items) c.args.slot)) (sym c.take_room.ensures.proc) ∙ ap place_of_slot (sym c.local.ensures) ∙ c.in-Some.ensures)
    (sym c.get_box.ensures ∙ c.in_default-get_box.is))

pub returns-in_default-get_box-clause-keeps : goal.returns-in_default-get_box-clause-keeps
returns-in_default-get_box-clause-keeps c =
    let m : Shared = c.take_room.new.shared in
    let s = c.args.s in
    let old : Shared = c.args.shared.now in
    let t = point_of c.args.proc.now in
    absurd (box_there s.code.now s.names.now s.limits c.args.p c.args.person m m t t c.args.slot c.args.at c.in-Some.b
    (at_still s.code.now s.names.now s.limits c.args.p c.args.person old m c.take_room.ensures.shared t (ops.BoxGet c.args.slot) c.args.at c.requires)
    (ap (λ (q : Proc). place_of_slot (slot_at (frame_of q.stack.items) c.args.slot)) (sym c.take_room.ensures.proc) ∙ ap place_of_slot (sym c.local.ensures) ∙ c.in-Some.ensures)
    (sym c.get_box.ensures ∙ c.in_default-get_box.is))

pub push_word-requires-clause-place : goal.push_word-requires-clause-place
push_word-requires-clause-place c =
    rw (c.take_room.ensures.proc) (at_within c.args.s.code.now c.args.s.names.now c.args.s.limits c.args.p c.args.shared.now c.args.person (point_of c.args.proc.now) (ops.BoxGet c.args.slot) c.args.at c.requires)

pub returns-clause-takes : goal.returns-clause-takes
returns-clause-takes c =
    let m : Shared = c.take_room.new.shared in
    let s = c.args.s in
    let old : Shared = c.args.shared.now in
    let new : Shared = record m { history = c.tick-2.new.self } in
    let t = point_of c.args.proc.now in
    let u = point_of c.push_word.new.self in
    from_room s.code.now s.names.now s.limits c.args.p c.args.person old m c.take_room.ensures.shared new t u
    (box_got s.code.now s.names.now s.limits c.args.p c.args.person m new t u c.args.slot c.args.at c.in-Some.b c.in-Some-get_box.w
    (at_still s.code.now s.names.now s.limits c.args.p c.args.person old m c.take_room.ensures.shared t (ops.BoxGet c.args.slot) c.args.at c.requires)
    (ap (λ (q : Proc). place_of_slot (slot_at (frame_of q.stack.items) c.args.slot)) (sym c.take_room.ensures.proc) ∙ ap place_of_slot (sym c.local.ensures) ∙ c.in-Some.ensures)
    (sym c.get_box.ensures ∙ c.in-Some-get_box.is)
    (λ threads. rw (c.tick-2.ensures.same) refl)
    (c.push_word.ensures.point ∙ rw (c.take_room.ensures.proc) refl))
