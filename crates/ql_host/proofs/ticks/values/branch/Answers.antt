use Rattle.std.proofs.Common.{refl, sym, ◌∙◌, ap}
use Rattle.ql_proc.specs.Points.{point_of}
use Rattle.std.specs.Prelude.{option_to_list}
use Rattle.ql_proc.specs.declared.process.Proc.{Proc}
use Rattle.ql_code.specs.Machine.{words}
use Rattle.ql_code.specs.declared.code.Op.TheVariants as ops
use Rattle.ql_host.specs.declared.shared.Shared.{Shared}
use Rattle.ql_host.proofs.Rooms.{from_room, at_still}
use Rattle.ql_host.proofs.Values.{branched}
use Rattle.ql_host.proofs.ticks.values.branch.Goals as goal

pub returns-clause-takes : goal.returns-clause-takes
returns-clause-takes c =
    let m : Shared = c.take_room.new.shared in
    let s = c.args.s in
    let old : Shared = c.args.shared.now in
    let new : Shared = record m { history = c.tick.new.self } in
    let t = point_of c.args.proc.now in
    let u = point_of c.drop_to.new.self in
    from_room s.code.now s.names.now s.limits c.args.p c.args.person old m c.take_room.ensures.shared new t u
    (branched s.code.now s.names.now s.limits c.args.p c.args.person m new t u c.args.place c.args.at c.in-Some.w
    (at_still s.code.now s.names.now s.limits c.args.p c.args.person old m c.take_room.ensures.shared t (ops.Branch c.args.place) c.args.at c.requires.here)
    c.requires.calm
    (ap (λ (q : Proc). words 1 q.stack.items) (sym c.take_room.ensures.proc) ∙ sym c.top_word.ensures.words ∙ ap option_to_list c.in-Some.is)
    (λ threads. rw (c.tick.ensures.same) refl)
    (c.drop_to.ensures.point ∙ rw (c.way.ensures, c.next_place-next.ensures, c.take_room.ensures.proc) refl))
