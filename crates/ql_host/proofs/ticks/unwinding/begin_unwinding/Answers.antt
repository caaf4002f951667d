use Rattle.std.proofs.Common.{refl, ◌∙◌}
use Rattle.std.specs.Prelude.{drop as without_first}
use Rattle.ql_proc.specs.Points.{point_of}
use Rattle.ql_code.specs.declared.mark.Mark.TheVariants.{Protecting as protecting}
use Rattle.ql_host.specs.declared.shared.Shared.{Shared}
use Rattle.ql_host.proofs.Rooms.{from_room}
use Rattle.ql_host.proofs.UnwindRows.{topmost, unwinding_still, unwinding_begun}
use Rattle.ql_host.proofs.ticks.unwinding.begin_unwinding.Goals as goal

pub returns-clause-takes : goal.returns-clause-takes
returns-clause-takes c =
    let m : Shared = c.take_room.new.shared in
    let s = c.args.s in
    let old : Shared = c.args.shared.now in
    let new : Shared = record m { history = c.tell.new.self } in
    let t = point_of c.args.proc.now in
    let u = point_of c.begin_unwinding.new.self in
    from_room s.code.now s.names.now s.limits c.args.p c.args.person old m c.take_room.ensures.shared new t u
    (unwinding_begun s.code.now s.names.now s.limits c.args.p c.args.person m new t u
    (unwinding_still s.names.now s.limits c.args.person old m c.take_room.ensures.shared t c.requires.here)
    c.args.u c.args.place c.requires.top
    (λ threads. rw (c.tell.ensures.same, c.tick.ensures.same) refl)
    (c.begin_unwinding.ensures.point (without_first 1 t.stack) (rw (c.take_room.ensures.proc) (topmost t.stack (protecting c.args.u c.args.place) c.requires.top)) ∙ rw (c.newest_catch.ensures) refl))
