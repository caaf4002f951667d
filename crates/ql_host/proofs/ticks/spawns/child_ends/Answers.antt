use Rattle.std.proofs.Common.{Some, refl, sym, ap, ◌∙◌}
use Rattle.std.specs.Prelude.{option_to_list}
use Rattle.ql_proc.specs.Points.{point_of}
use Rattle.ql_proc.specs.declared.process.Proc.{Proc}
use Rattle.ql_code.specs.Machine.{words}
use Rattle.ql_world.specs.declared.world.FutState.TheVariants.{Value as valued}
use Rattle.ql_world.specs.declared.event.Event.TheVariants.{EndOk as end_ok}
use Rattle.ql_world.specs.World.{counted, with_event, with_future, with_end}
use Rattle.ql_code.specs.declared.code.Op.TheVariants as ops
use Rattle.ql_host.specs.declared.shared.Shared.{Shared}
use Rattle.ql_host.specs.World.{world_of}
use Rattle.ql_host.proofs.Rooms.{from_room, at_still}
use Rattle.ql_host.proofs.SpawnRows.{child_ended}
use Rattle.ql_host.proofs.ticks.spawns.child_ends.Goals as goal

pub returns-clause-takes : goal.returns-clause-takes
returns-clause-takes c =
    let m : Shared = c.take_room.new.shared in
    let s = c.args.s in
    let p = c.args.p in
    let f = c.in-Child.f in
    let w = c.in-Some.w in
    let old : Shared = c.args.shared.now in
    let new : Shared = c.end_child.new.shared in
    let t = point_of c.args.proc.now in
    let u = point_of c.end.new.self in
    from_room s.code.now s.names.now s.limits p c.args.person old m c.take_room.ensures.shared new t u
    (child_ended s.code.now s.names.now s.limits p c.args.person m new t u c.args.at f w
    (at_still s.code.now s.names.now s.limits p c.args.person old m c.take_room.ensures.shared t ops.Join c.args.at c.requires.stands)
    c.requires.calm
    (sym (ap (λ (q : Proc). words 1 q.stack.items) c.take_room.ensures.proc) ∙ sym c.top_word.ensures.words ∙ ap option_to_list c.in-Some.is)
    c.in-Child.is
    (λ threads. c.end_child.ensures.world threads ∙ ap (λ x. with_end (with_event (with_future (counted (world_of m threads) p) f (valued w)) (end_ok p (Some x))) p) c.in_ok-text.ensures.text)
    (c.end.ensures.point ∙ rw (c.take_room.ensures.proc) refl))
