use Rattle.std.proofs.Common.{refl, ◌∙◌}
use Rattle.ql_proc.specs.Points.{point_of}
use Rattle.ql_host.specs.declared.shared.Shared.{Shared}
use Rattle.ql_host.proofs.Rooms.{from_room}
use Rattle.ql_host.proofs.UnwindRows.{unwinding_still, unwinding_landed}
use Rattle.ql_host.proofs.ticks.unwinding.land.Goals as goal

pub returns-clause-takes : goal.returns-clause-takes
returns-clause-takes c =
    let m : Shared = c.take_room.new.shared in
    let s = c.args.s in
    let old : Shared = c.args.shared.now in
    let new : Shared = record m { tree = c.close_landed.new.tree; history = c.tell.new.self } in
    let t = point_of c.args.proc.now in
    let u = point_of c.land.new.self in
    from_room s.code.now s.names.now s.limits c.args.p c.args.person old m c.take_room.ensures.shared new t u
    (unwinding_landed s.code.now s.names.now s.limits c.args.p c.args.person m new t u
    (unwinding_still s.names.now s.limits c.args.person old m c.take_room.ensures.shared t c.requires.here)
    c.args.c c.args.place c.requires.top c.args.w c.requires.aim
    (λ threads. rw (c.tell.ensures.same, c.tick.ensures.same, c.close_landed.ensures.landed, c.is_in_cleanup.ensures, c.take_room.ensures.proc) refl)
    (c.land.ensures.point ∙ rw (c.take_room.ensures.proc) refl))
