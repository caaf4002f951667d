use Rattle.std.proofs.Common.{refl, sym, ap, ◌∙◌}
use Rattle.std.specs.Option.{option_to_list}
use Rattle.ql_proc.specs.Points.{point_of}
use Rattle.ql_host.specs.Marked.{catch_op}
use Rattle.ql_host.specs.declared.shared.Shared.{Shared}
use Rattle.ql_host.proofs.Rooms.{from_room, at_still}
use Rattle.ql_host.proofs.MarkRows.{catch_opened}
use Rattle.ql_host.proofs.ticks.marks.open.Goals as goal

pub returns-clause-takes : goal.returns-clause-takes
returns-clause-takes c =
    let m : Shared = c.take_room.new.shared in
    let s = c.args.s in
    let old : Shared = c.args.shared.now in
    let new : Shared = record m { tree = c.open-c.new.self; history = c.tell.new.self } in
    let t = point_of c.args.proc.now in
    let u = point_of c.open.new.self in
    from_room s.code.now s.names.now s.limits c.args.p c.args.person old m c.take_room.ensures.shared new t u
    (catch_opened s.code.now s.names.now s.limits c.args.p c.args.person m new t u c.args.waits c.args.place c.in-Some.tag c.args.at c.unwrap_or-d.result
    (at_still s.code.now s.names.now s.limits c.args.p c.args.person old m c.take_room.ensures.shared t (catch_op c.args.waits c.args.place) c.args.at c.requires.here)
    (rw (c.take_room.ensures.proc) at (sym c.top_word.ensures.words ∙ ap option_to_list c.in-Some.is))
    c.requires.calm
    (rw (c.take_room.ensures.proc) at (rw (c.innermost.ensures) at c.unwrap_or-d.ensures))
    (λ threads. rw (c.tell.ensures.same, c.tick.ensures.same, c.open-c.ensures.new, c.open-c.ensures.number) refl)
    (c.open.ensures.point ∙ rw (c.open-c.ensures.number, c.take_room.ensures.proc) refl))
