use Rattle.std.proofs.Common.{refl, ◌∙◌}
use Rattle.ql_proc.specs.Points.{point_of}
use Rattle.ql_code.specs.declared.code.Op.TheVariants as ops
use Rattle.ql_host.specs.declared.shared.Shared.{Shared}
use Rattle.ql_host.proofs.Rooms.{from_room, at_still}
use Rattle.ql_host.proofs.Values.{literal_taken}
use Rattle.ql_host.proofs.ticks.values.lit.Goals as goal

pub returns-clause-takes : goal.returns-clause-takes
returns-clause-takes c =
    let m : Shared = c.take_room.new.shared in
    let s = c.args.s in
    let old : Shared = c.args.shared.now in
    let new : Shared = record m { history = c.tick.new.self } in
    let t = point_of c.args.proc.now in
    let u = point_of c.push_word.new.self in
    from_room s.code.now s.names.now s.limits c.args.p c.args.person old m c.take_room.ensures.shared new t u
    (literal_taken s.code.now s.names.now s.limits c.args.p c.args.person m new t u c.args.w c.args.at
    (at_still s.code.now s.names.now s.limits c.args.p c.args.person old m c.take_room.ensures.shared t (ops.Lit c.args.w) c.args.at c.requires)
    (λ threads. rw (c.tick.ensures.same) refl)
    (c.push_word.ensures.point ∙ rw (c.take_room.ensures.proc) refl))
