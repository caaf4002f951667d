use Rattle.std.proofs.Common.{refl, sym, ◌∙◌, ap}
use Rattle.std.specs.Prelude.{option_to_list}
use Rattle.ql_code.specs.declared.code.Op.TheVariants as ops
use Rattle.ql_code.specs.Machine.{words}
use Rattle.ql_proc.specs.declared.process.Proc.{Proc}
use Rattle.ql_proc.specs.Points.{point_of}
use Rattle.ql_host.specs.declared.shared.Shared.{Shared}
use Rattle.ql_host.proofs.Rooms.{from_room, at_still, at_within}
use Rattle.ql_host.proofs.Prints.{printed, unprinted}
use Rattle.ql_host.proofs.ticks.prints.print.Goals as goal

pub returns-in_default-2-clause-takes : goal.returns-in_default-2-clause-takes
returns-in_default-2-clause-takes c =
    let m : Shared = c.take_room.new.shared in
    let s = c.args.s in
    let old : Shared = c.args.shared.now in
    let t = point_of c.args.proc.now in
    let new : Shared = c.stop.new.shared in
    from_room s.code.now s.names.now s.limits c.args.p c.args.person old m c.take_room.ensures.shared new t (point_of c.take_room.new.proc)
    (rw (c.take_room.ensures.proc)
    (unprinted s.code.now s.names.now s.limits c.args.p c.args.person m t c.args.at c.in-Some.w
    (at_still s.code.now s.names.now s.limits c.args.p c.args.person old m c.take_room.ensures.shared t ops.Print c.args.at c.requires.here) c.requires.calm
    (ap (λ (q : Proc). words 1 q.stack.items) (sym c.take_room.ensures.proc) ∙ sym c.top_word.ensures.words ∙ ap option_to_list c.in-Some.is)
    new (rw c.in_default-2.is at c.in_ok-text.ensures)
    c.stop.ensures.marked))

pub pass_on-requires : goal.pass_on-requires
pass_on-requires c =
    rw (c.take_room.ensures.proc) (at_within c.args.s.code.now c.args.s.names.now c.args.s.limits c.args.p c.args.shared.now c.args.person (point_of c.args.proc.now) (ops.Print) c.args.at c.requires.here)

pub returns-clause-takes : goal.returns-clause-takes
returns-clause-takes c =
    let m : Shared = c.take_room.new.shared in
    let s = c.args.s in
    let old : Shared = c.args.shared.now in
    let t = point_of c.args.proc.now in
    let new : Shared = record m { output = c.print.new.self; history = c.tick.new.self } in
    let u = point_of c.pass_on.new.self in
    from_room s.code.now s.names.now s.limits c.args.p c.args.person old m c.take_room.ensures.shared new t u
    (printed s.code.now s.names.now s.limits c.args.p c.args.person m t c.args.at c.in-Some.w
    (at_still s.code.now s.names.now s.limits c.args.p c.args.person old m c.take_room.ensures.shared t ops.Print c.args.at c.requires.here) c.requires.calm
    (ap (λ (q : Proc). words 1 q.stack.items) (sym c.take_room.ensures.proc) ∙ sym c.top_word.ensures.words ∙ ap option_to_list c.in-Some.is)
    new u c.in-Some-2.text.items (rw c.in-Some-2.is at c.in_ok-text.ensures)
    (λ threads. rw (c.tick.ensures.same, c.print.ensures, c.deref.ensures.value, c.reserve.ensures.same) refl)
    (c.pass_on.ensures.point ∙ rw (c.take_room.ensures.proc) refl))
