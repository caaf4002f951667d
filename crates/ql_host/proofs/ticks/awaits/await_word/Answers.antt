use Rattle.std.proofs.Common.{refl, sym, ◌∙◌}
use Rattle.ql_proc.specs.Points.{point_of}
use Rattle.ql_host.specs.declared.shared.Shared.{Shared}
use Rattle.ql_host.proofs.Rooms.{from_room, at_still}
use Rattle.ql_host.proofs.Awaiting.{word_taken, word_dead, word_pending}
use Rattle.ql_host.proofs.ticks.awaits.await_word.Goals as goal

pub returns-in-Pending-clause-takes : goal.returns-in-Pending-clause-takes
returns-in-Pending-clause-takes c =
    let m : Shared = c.take_room.new.shared in
    let s = c.args.s in
    let old : Shared = c.args.shared.now in
    let t = point_of c.args.proc.now in
    from_room s.code.now s.names.now s.limits c.args.p c.args.person old m c.take_room.ensures.shared m t (point_of c.take_room.new.proc)
    (word_pending s.code.now s.names.now s.limits c.args.p c.args.person m t c.args.op.now c.args.future c.args.at
    (at_still s.code.now s.names.now s.limits c.args.p c.args.person old m c.take_room.ensures.shared t c.args.op.now c.args.at c.requires.here) c.requires.waits
    m (point_of c.take_room.new.proc) (sym c.in-Pending.is ∙ c.state.ensures))

pub returns-in-Value-clause-takes : goal.returns-in-Value-clause-takes
returns-in-Value-clause-takes c =
    let m : Shared = c.take_room.new.shared in
    let s = c.args.s in
    let old : Shared = c.args.shared.now in
    let t = point_of c.args.proc.now in
    let new : Shared = record m { history = c.tick.new.self } in
    let u = point_of c.replace_future.new.self in
    from_room s.code.now s.names.now s.limits c.args.p c.args.person old m c.take_room.ensures.shared new t u
    (word_taken s.code.now s.names.now s.limits c.args.p c.args.person m t c.args.op.now c.args.future c.args.at
    (at_still s.code.now s.names.now s.limits c.args.p c.args.person old m c.take_room.ensures.shared t c.args.op.now c.args.at c.requires.here) c.requires.waits
    new u c.in-Value.w (sym c.in-Value.is ∙ c.state.ensures)
    (λ threads. rw (c.tick.ensures.same) refl)
    (c.replace_future.ensures.point ∙ rw (c.awaited_among.ensures, c.take_room.ensures.proc) refl))

pub returns-in-Dead-clause-takes : goal.returns-in-Dead-clause-takes
returns-in-Dead-clause-takes c =
    let m : Shared = c.take_room.new.shared in
    let s = c.args.s in
    let old : Shared = c.args.shared.now in
    let t = point_of c.args.proc.now in
    let new : Shared = c.stop.new.shared in
    from_room s.code.now s.names.now s.limits c.args.p c.args.person old m c.take_room.ensures.shared new t (point_of c.take_room.new.proc)
    (rw (c.take_room.ensures.proc)
    (word_dead s.code.now s.names.now s.limits c.args.p c.args.person m t c.args.op.now c.args.future c.args.at
    (at_still s.code.now s.names.now s.limits c.args.p c.args.person old m c.take_room.ensures.shared t c.args.op.now c.args.at c.requires.here) c.requires.waits
    new (sym c.in-Dead.is ∙ c.state.ensures) c.stop.ensures.marked))
