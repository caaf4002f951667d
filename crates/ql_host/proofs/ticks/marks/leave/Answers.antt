use Rattle.std.proofs.Common.{refl, ◌∙◌}
use Rattle.ql_proc.specs.Points.{point_of}
use Rattle.ql_code.specs.declared.mark.Mark.TheVariants.{Protecting as protecting}
use Rattle.ql_code.specs.declared.code.Op.TheVariants as ops
use Rattle.ql_host.specs.declared.shared.Shared.{Shared}
use Rattle.ql_host.proofs.Rooms.{from_room, at_still}
use Rattle.ql_host.proofs.MarkRows.{protect_left, marked_under}
use Rattle.ql_host.proofs.ticks.marks.leave.Goals as goal

pub returns-clause-takes : goal.returns-clause-takes
returns-clause-takes c =
    let m : Shared = c.take_room.new.shared in
    let s = c.args.s in
    let old : Shared = c.args.shared.now in
    let new : Shared = record m { history = c.tell.new.self } in
    let t = point_of c.args.proc.now in
    let u = point_of c.begin.new.self in
    let k = c.in-Some-Protecting in
    let shape = k.ensures.shape in
    let stack = marked_under _ shape.1 shape.0 k.field-0 (protecting k.u k.field-0-1) shape.2 k.field-0-is in
    from_room s.code.now s.names.now s.limits c.args.p c.args.person old m c.take_room.ensures.shared new t u
    (protect_left s.code.now s.names.now s.limits c.args.p c.args.person m new t u k.u k.field-0-1 c.args.at shape.0 shape.1
    (at_still s.code.now s.names.now s.limits c.args.p c.args.person old m c.take_room.ensures.shared t ops.Leave c.args.at c.requires)
    (rw (c.take_room.ensures.proc) at stack)
    (λ threads. rw (c.tell.ensures.same, c.tick.ensures.same) refl)
    (c.begin.ensures.point shape.0 k.field-0-1 shape.1 stack ∙ rw (c.newest_catch.ensures, c.take_room.ensures.proc) refl))
