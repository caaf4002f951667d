use Rattle.std.proofs.Common.{refl, ap, ◌∙◌}
use Rattle.ql_proc.specs.Points.{point_of}
use Rattle.ql_code.specs.declared.mark.Mark.TheVariants.{Cleaning as cleaning}
use Rattle.ql_code.specs.declared.code.Op.TheVariants as ops
use Rattle.ql_host.specs.declared.shared.Shared.{Shared}
use Rattle.ql_host.proofs.Rooms.{from_room, at_still}
use Rattle.ql_host.proofs.MarkRows.{cleanup_passed, cleanup_unwound, marked_under}
use Rattle.ql_host.proofs.ticks.marks.end_clean.Goals.{in-Free, in_default-outer_aim}
use Rattle.ql_host.proofs.ticks.marks.end_clean.Goals as goal

pub returns-clause-takes : goal.returns-clause-takes
returns-clause-takes c =
    let m : Shared = c.take_room.new.shared in
    let s = c.args.s in
    let old : Shared = c.args.shared.now in
    let new : Shared = record m { history = c.tell.new.self } in
    let t = point_of c.args.proc.now in
    let u = point_of c.match-outer_aim.proc in
    let k = c.in-Some-Cleaning in
    let shape = k.ensures.shape in
    let stack = marked_under _ shape.1 shape.0 k.field-0 (cleaning k.u k.field-0-1) shape.2 k.field-0-is in
    let here = at_still s.code.now s.names.now s.limits c.args.p c.args.person old m c.take_room.ensures.shared t ops.EndClean c.args.at c.requires in
    from_room s.code.now s.names.now s.limits c.args.p c.args.person old m c.take_room.ensures.shared new t u
    (elim c.match-outer_aim.branch [
      | in-Free w ↦
          cleanup_passed s.code.now s.names.now s.limits c.args.p c.args.person m new t u k.u c.args.at k.field-0-1 shape.0 shape.1 here (rw (c.take_room.ensures.proc) at stack)
          (λ threads. rw (c.tell.ensures.same, c.tick.ensures.same) refl)
          (rw (c.take_room.ensures.proc) at w.in-Free.ensures)
          (ap point_of w.proc-is ∙ (w.finish.ensures.point ∙ rw (c.take_room.ensures.proc) refl))
      | in_default-outer_aim w ↦
          cleanup_unwound s.code.now s.names.now s.limits c.args.p c.args.person m new t u k.u c.args.at k.field-0-1 shape.0 shape.1 here (rw (c.take_room.ensures.proc) at stack)
          (λ threads. rw (c.tell.ensures.same, c.tick.ensures.same) refl)
          c.outer_aim.result (rw (c.take_room.ensures.proc) at c.outer_aim.ensures) w.in_default-outer_aim.not-Free
          (ap point_of w.proc-is ∙ (w.finish_unwinding.ensures.point ∙ rw (c.take_room.ensures.proc) refl))
    ])
