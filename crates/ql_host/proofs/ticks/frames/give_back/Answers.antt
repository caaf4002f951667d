use Rattle.std.proofs.Common.{refl, sym, ap, ◌∙◌}
use Rattle.std.specs.Option.{option_to_list}
use Rattle.ql_proc.specs.Points.{point_of}
use Rattle.ql_code.specs.declared.code.Op.TheVariants as ops
use Rattle.ql_host.specs.declared.shared.Shared.{Shared}
use Rattle.ql_host.proofs.Rooms.{from_room, at_still}
use Rattle.ql_host.proofs.FrameRows.{given_back}
use Rattle.ql_host.proofs.ticks.frames.give_back.Goals as goal

pub returns-clause-takes : goal.returns-clause-takes
returns-clause-takes c =
    let m : Shared = c.take_room.new.shared in
    let s = c.args.s in
    let old : Shared = c.args.shared.now in
    let new : Shared = record m { history = c.tick.new.self } in
    let t = point_of c.args.proc.now in
    let u = point_of c.give.new.self in
    from_room s.code.now s.names.now s.limits c.args.p c.args.person old m c.take_room.ensures.shared new t u
    (given_back s.code.now s.names.now s.limits c.args.p c.args.person m t c.args.back c.args.at c.in-Some.w
    (at_still s.code.now s.names.now s.limits c.args.p c.args.person old m c.take_room.ensures.shared t ops.Return c.args.at c.requires.here)
    c.requires.caller
    (rw (c.take_room.ensures.proc) at (sym c.top_word.ensures.words ∙ ap option_to_list c.in-Some.is))
    new u
    (λ threads. rw (c.tick.ensures.same) refl)
    (c.give.ensures.point ∙ rw (c.take_room.ensures.proc) refl))
