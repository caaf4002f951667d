use Rattle.std.proofs.Common.{refl, sym, ◌∙◌, ap}
use Rattle.ql_proc.specs.Points.{point_of}
use Rattle.std.specs.Prelude.{option_to_list}
use Rattle.ql_proc.specs.declared.process.Proc.{Proc}
use Rattle.ql_code.specs.Machine.{words}
use Rattle.ql_code.specs.declared.code.Op.TheVariants as ops
use Rattle.ql_host.specs.declared.shared.Shared.{Shared}
use Rattle.ql_host.proofs.Rooms.{from_room, at_still}
use Rattle.ql_host.proofs.Values.{global_put}
use Rattle.ql_host.proofs.ticks.values.global_set.Goals as goal

pub returns-clause-takes : goal.returns-clause-takes
returns-clause-takes c =
    let m : Shared = c.take_room.new.shared in
    let s = c.args.s in
    let old : Shared = c.args.shared.now in
    let new : Shared = record m { globals = c.put_global.new.globals; history = c.tick.new.self } in
    let t = point_of c.args.proc.now in
    let u = point_of c.pass_on.new.self in
    from_room s.code.now s.names.now s.limits c.args.p c.args.person old m c.take_room.ensures.shared new t u
    (global_put s.code.now s.names.now s.limits c.args.p c.args.person m new t u c.args.global c.args.at c.in-Some.w
    (at_still s.code.now s.names.now s.limits c.args.p c.args.person old m c.take_room.ensures.shared t (ops.GlobalSet c.args.global) c.args.at c.requires)
    (ap (λ (q : Proc). words 1 q.stack.items) (sym c.take_room.ensures.proc) ∙ sym c.top_word.ensures.words ∙ ap option_to_list c.in-Some.is)
    (λ threads. rw (c.tick.ensures.same, c.put_global.ensures) refl)
    (c.pass_on.ensures.point ∙ rw (c.take_room.ensures.proc) refl))
