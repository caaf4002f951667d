use Rattle.std.proofs.Common.{Some, refl, sym, ◌∙◌, ap}
use Rattle.std.specs.Prelude.{leb}
use Rattle.ql_world.specs.Operator.{computed}
use Rattle.ql_code.specs.declared.code.Op.{Op}
use Rattle.ql_code.specs.Machine.{words, operand_count}
use Rattle.ql_proc.specs.declared.process.Proc.{Proc}
use Rattle.ql_proc.specs.Points.{point_of}
use Rattle.ql_host.specs.declared.shared.Shared.{Shared}
use Rattle.ql_host.specs.World.{made_in}
use Rattle.ql_host.proofs.Rooms.{from_room, at_still, at_within}
use Rattle.ql_host.proofs.Primitives.{one_within, joined_before, operands_asked, result_found, fails_with, pair_refused, gives_word, pair_made}
use Rattle.ql_host.proofs.ticks.primitives.compute.Goals as goal

pub returns-in_default-clause-takes : goal.returns-in_default-clause-takes
returns-in_default-clause-takes c =
    let m : Shared = c.take_room.new.shared in
    let s = c.args.s in
    let old : Shared = c.args.shared.now in
    let t = point_of c.args.proc.now in
    let op : Op = c.requires.0 in
    let o = c.args.operator in
    let h = at_still s.code.now s.names.now s.limits c.args.p c.args.person old m c.take_room.ensures.shared t op c.args.at c.requires.1.stands in
    absurd (result_found s.code.now s.names.now s.limits c.args.p c.args.person m t op c.args.at o h c.requires.1.wants
    (sym c.in_default.is ∙ c.compute_on.ensures ∙ ap (λ (q : Proc). computed m.cells.pairs o (words (operand_count (Some o)) q.stack.items)) c.take_room.ensures.proc))

pub returns-in_default-clause-keeps : goal.returns-in_default-clause-keeps
returns-in_default-clause-keeps c =
    let m : Shared = c.take_room.new.shared in
    let s = c.args.s in
    let old : Shared = c.args.shared.now in
    let t = point_of c.args.proc.now in
    let op : Op = c.requires.0 in
    let o = c.args.operator in
    let h = at_still s.code.now s.names.now s.limits c.args.p c.args.person old m c.take_room.ensures.shared t op c.args.at c.requires.1.stands in
    absurd (result_found s.code.now s.names.now s.limits c.args.p c.args.person m t op c.args.at o h c.requires.1.wants
    (sym c.in_default.is ∙ c.compute_on.ensures ∙ ap (λ (q : Proc). computed m.cells.pairs o (words (operand_count (Some o)) q.stack.items)) c.take_room.ensures.proc))

pub give-requires-clause-place : goal.give-requires-clause-place
give-requires-clause-place c =
    rw (c.take_room.ensures.proc) (at_within c.args.s.code.now c.args.s.names.now c.args.s.limits c.args.p c.args.shared.now c.args.person (point_of c.args.proc.now) c.requires.0 c.args.at c.requires.1.stands)

pub give-requires-in-Joins-clause-place : goal.give-requires-in-Joins-clause-place
give-requires-in-Joins-clause-place c =
    rw (c.take_room.ensures.proc) (at_within c.args.s.code.now c.args.s.names.now c.args.s.limits c.args.p c.args.shared.now c.args.person (point_of c.args.proc.now) c.requires.0 c.args.at c.requires.1.stands)

pub returns-then-room-eq0-clause-takes : goal.returns-then-room-eq0-clause-takes
returns-then-room-eq0-clause-takes c =
    let m : Shared = c.take_room.new.shared in
    let s = c.args.s in
    let old : Shared = c.args.shared.now in
    let t = point_of c.args.proc.now in
    let op : Op = c.requires.0 in
    let o = c.args.operator in
    let h = at_still s.code.now s.names.now s.limits c.args.p c.args.person old m c.take_room.ensures.shared t op c.args.at c.requires.1.stands in
    let new : Shared = c.stop-then-room-eq0.new.shared in
    from_room s.code.now s.names.now s.limits c.args.p c.args.person old m c.take_room.ensures.shared new t (point_of c.take_room.new.proc)
    (rw (c.take_room.ensures.proc)
    (pair_refused s.code.now s.names.now s.limits c.args.p c.args.person m t op c.args.at o h c.requires.1.wants new c.in-Joins.a c.in-Joins.d
    (sym (c.in-Some.is ∙ ap Some c.in-Joins.is) ∙ c.compute_on.ensures ∙ ap (λ (q : Proc). computed m.cells.pairs o (words (operand_count (Some o)) q.stack.items)) c.take_room.ensures.proc)
    (sym (c.room.ensures.allowed 1) ∙ ap (leb 1) c.if-room-eq0.true)
    c.stop-then-room-eq0.ensures.marked))

pub put_pair-pair-requires-clause-first : goal.put_pair-pair-requires-clause-first
put_pair-pair-requires-clause-first c =
    let m : Shared = c.take_room.new.shared in
    let s = c.args.s in
    let old : Shared = c.args.shared.now in
    let t = point_of c.args.proc.now in
    let op : Op = c.requires.0 in
    let o = c.args.operator in
    let h = at_still s.code.now s.names.now s.limits c.args.p c.args.person old m c.take_room.ensures.shared t op c.args.at c.requires.1.stands in
    (joined_before (made_in m) m.cells.pairs o (words (operand_count (Some o)) t.stack) c.in-Joins.a c.in-Joins.d
    (operands_asked s.code.now s.names.now s.limits c.args.p c.args.person m t op c.args.at o h c.requires.1.wants).1
    (sym (c.in-Some.is ∙ ap Some c.in-Joins.is) ∙ c.compute_on.ensures ∙ ap (λ (q : Proc). computed m.cells.pairs o (words (operand_count (Some o)) q.stack.items)) c.take_room.ensures.proc)).0

pub put_pair-pair-requires-clause-second : goal.put_pair-pair-requires-clause-second
put_pair-pair-requires-clause-second c =
    let m : Shared = c.take_room.new.shared in
    let s = c.args.s in
    let old : Shared = c.args.shared.now in
    let t = point_of c.args.proc.now in
    let op : Op = c.requires.0 in
    let o = c.args.operator in
    let h = at_still s.code.now s.names.now s.limits c.args.p c.args.person old m c.take_room.ensures.shared t op c.args.at c.requires.1.stands in
    (joined_before (made_in m) m.cells.pairs o (words (operand_count (Some o)) t.stack) c.in-Joins.a c.in-Joins.d
    (operands_asked s.code.now s.names.now s.limits c.args.p c.args.person m t op c.args.at o h c.requires.1.wants).1
    (sym (c.in-Some.is ∙ ap Some c.in-Joins.is) ∙ c.compute_on.ensures ∙ ap (λ (q : Proc). computed m.cells.pairs o (words (operand_count (Some o)) q.stack.items)) c.take_room.ensures.proc)).1

pub returns-in-Gives-clause-takes : goal.returns-in-Gives-clause-takes
returns-in-Gives-clause-takes c =
    let m : Shared = c.take_room.new.shared in
    let s = c.args.s in
    let old : Shared = c.args.shared.now in
    let t = point_of c.args.proc.now in
    let op : Op = c.requires.0 in
    let o = c.args.operator in
    let h = at_still s.code.now s.names.now s.limits c.args.p c.args.person old m c.take_room.ensures.shared t op c.args.at c.requires.1.stands in
    let new : Shared = record m { history = c.tick.new.self } in
    let u = point_of c.give.new.proc in
    from_room s.code.now s.names.now s.limits c.args.p c.args.person old m c.take_room.ensures.shared new t u
    (gives_word s.code.now s.names.now s.limits c.args.p c.args.person m t op c.args.at o h c.requires.1.wants new u c.requires.1.goes c.in-Gives.w
    (sym (c.in-Some.is ∙ ap Some c.in-Gives.is) ∙ c.compute_on.ensures ∙ ap (λ (q : Proc). computed m.cells.pairs o (words (operand_count (Some o)) q.stack.items)) c.take_room.ensures.proc)
    (λ threads. rw (c.tick.ensures.same) refl)
    (c.give.ensures ∙ rw (c.take_room.ensures.proc) refl))

pub returns-in-Fails-clause-takes : goal.returns-in-Fails-clause-takes
returns-in-Fails-clause-takes c =
    let m : Shared = c.take_room.new.shared in
    let s = c.args.s in
    let old : Shared = c.args.shared.now in
    let t = point_of c.args.proc.now in
    let op : Op = c.requires.0 in
    let o = c.args.operator in
    let h = at_still s.code.now s.names.now s.limits c.args.p c.args.person old m c.take_room.ensures.shared t op c.args.at c.requires.1.stands in
    let new : Shared = c.stop.new.shared in
    from_room s.code.now s.names.now s.limits c.args.p c.args.person old m c.take_room.ensures.shared new t (point_of c.take_room.new.proc)
    (rw (c.take_room.ensures.proc)
    (fails_with s.code.now s.names.now s.limits c.args.p c.args.person m t op c.args.at o h c.requires.1.wants new c.in-Fails.kind
    (sym (c.in-Some.is ∙ ap Some c.in-Fails.is) ∙ c.compute_on.ensures ∙ ap (λ (q : Proc). computed m.cells.pairs o (words (operand_count (Some o)) q.stack.items)) c.take_room.ensures.proc)
    c.stop.ensures.marked))

pub returns-else-room-eq0-clause-takes : goal.returns-else-room-eq0-clause-takes
returns-else-room-eq0-clause-takes c =
    let m : Shared = c.take_room.new.shared in
    let s = c.args.s in
    let old : Shared = c.args.shared.now in
    let t = point_of c.args.proc.now in
    let op : Op = c.requires.0 in
    let o = c.args.operator in
    let h = at_still s.code.now s.names.now s.limits c.args.p c.args.person old m c.take_room.ensures.shared t op c.args.at c.requires.1.stands in
    let new : Shared = record m { cells = c.put_pair-pair.new.self; history = c.tick-in-Joins.new.self } in
    let u = point_of c.give-in-Joins.new.proc in
    from_room s.code.now s.names.now s.limits c.args.p c.args.person old m c.take_room.ensures.shared new t u
    (pair_made s.code.now s.names.now s.limits c.args.p c.args.person m t op c.args.at o h c.requires.1.wants new u c.requires.1.goes c.in-Joins.a c.in-Joins.d
    (sym (c.in-Some.is ∙ ap Some c.in-Joins.is) ∙ c.compute_on.ensures ∙ ap (λ (q : Proc). computed m.cells.pairs o (words (operand_count (Some o)) q.stack.items)) c.take_room.ensures.proc)
    (sym (c.room.ensures.allowed 1) ∙ one_within c.room.result c.if-room-eq0.false)
    (λ threads. rw (c.tick-in-Joins.ensures.same, c.put_pair-pair.ensures.made) refl)
    (c.give-in-Joins.ensures ∙ rw (c.take_room.ensures.proc, c.put_pair-pair.ensures.word) refl))
