use Rattle.std.proofs.Common.{refl, sym, ◌∙◌, ap}
use Rattle.ql_proc.specs.Points.{point_of}
use Rattle.std.specs.Prelude.{option_to_list}
use Rattle.ql_proc.specs.declared.process.Proc.{Proc}
use Rattle.ql_code.specs.Machine.{frame_of, slot_at, place_of_slot, words}
use Rattle.ql_code.specs.declared.code.Op.TheVariants as ops
use Rattle.ql_host.specs.declared.shared.Shared.{Shared}
use Rattle.ql_host.proofs.Rooms.{from_room, at_still}
use Rattle.ql_host.proofs.Values.{box_put}
use Rattle.ql_host.proofs.ticks.values.box_set.Goals as goal

pub returns-clause-takes : goal.returns-clause-takes
returns-clause-takes c =
    let m : Shared = c.take_room.new.shared in
    let s = c.args.s in
    let old : Shared = c.args.shared.now in
    let new : Shared = record m { cells = c.set_box.new.self; history = c.tick.new.self } in
    let t = point_of c.args.proc.now in
    let u = point_of c.pass_on.new.self in
    from_room s.code.now s.names.now s.limits c.args.p c.args.person old m c.take_room.ensures.shared new t u
    (box_put s.code.now s.names.now s.limits c.args.p c.args.person m new t u c.args.slot c.args.at c.in-Some-box_of.b c.in-Some.w
    (at_still s.code.now s.names.now s.limits c.args.p c.args.person old m c.take_room.ensures.shared t (ops.BoxSet c.args.slot) c.args.at c.requires)
    (ap (λ (q : Proc). words 1 q.stack.items) (sym c.take_room.ensures.proc) ∙ sym c.top_word.ensures.words ∙ ap option_to_list c.in-Some.is)
    (ap (λ (q : Proc). place_of_slot (slot_at (frame_of q.stack.items) c.args.slot)) (sym c.take_room.ensures.proc) ∙ ap place_of_slot (sym c.local.ensures) ∙ c.in-Some-box_of.ensures)
    (λ threads. rw (c.tick.ensures.same, c.set_box.ensures) refl)
    (c.pass_on.ensures.point ∙ rw (c.take_room.ensures.proc) refl))
