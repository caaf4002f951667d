use Rattle.std.proofs.Common.{refl, sym, ap, ◌∙◌}
use Rattle.std.proofs.lemmas.Result.{on_ok_weaker}
use Rattle.std.specs.Option.{option_copied}
use Rattle.ql_proc.specs.Points.{point_of}
use Rattle.ql_world.specs.World.{counted}
use Rattle.ql_calls.specs.Sending.{next_call}
use Rattle.ql_host.specs.Called.{call_op}
use Rattle.ql_host.specs.Sending.{with_reply_future, sent_world}
use Rattle.ql_host.specs.World.{world_of}
use Rattle.ql_host.specs.declared.shared.Shared.{Shared}
use Rattle.ql_host.proofs.Rooms.{from_room, at_still, at_within}
use Rattle.ql_host.proofs.SendRows.{send_counted, send_dead, send_done}
use Rattle.ql_host.proofs.ticks.calls.send.Goals as goal

pub returns-then-body-count-clause-takes : goal.returns-then-body-count-clause-takes
returns-then-body-count-clause-takes c =
    let s = c.args.s in
    rw (c.refuse.ensures.proc)
    (on_ok_weaker c.refuse.result
    (send_counted s.code.now s.names.now s.limits c.args.p c.args.person c.args.shared.now (point_of c.args.proc.now) c.args.used c.args.count c.args.at c.requires.here c.requires.calm c.args.k c.requires.function c.requires.at_work
    c.in-Some.server.now (sym c.server.ensures ∙ ap option_copied c.in-Some.is) (λ e. c.if-body-count.true (ap (λ b. b.count) c.body.ensures ∙ e)) c.refuse.new.shared)
    c.refuse.ensures.marked)

pub returns-then-is_dead-clause-takes : goal.returns-then-is_dead-clause-takes
returns-then-is_dead-clause-takes c =
    let s = c.args.s in
    let q = c.refuse-then-is_dead in
    rw (q.ensures.proc)
    (on_ok_weaker q.result
    (send_dead s.code.now s.names.now s.limits c.args.p c.args.person c.args.shared.now (point_of c.args.proc.now) c.args.used c.args.count c.args.at c.requires.here c.requires.calm c.args.k c.requires.function c.requires.at_work
    c.in-Some.server.now (sym c.server.ensures ∙ ap option_copied c.in-Some.is) (ap (λ b. b.count) (sym c.body.ensures) ∙ c.if-body-count.false) (sym c.is_dead.ensures ∙ c.if-is_dead.true) q.new.shared)
    q.ensures.marked)

pub replace_call-requires-clause-place : goal.replace_call-requires-clause-place
replace_call-requires-clause-place c =
    rw (c.take_room.ensures.proc) (at_within c.args.s.code.now c.args.s.names.now c.args.s.limits c.args.p c.args.shared.now c.args.person (point_of c.args.proc.now) (call_op c.args.used c.args.count) c.args.at c.requires.here)

pub returns-clause-takes : goal.returns-clause-takes
returns-clause-takes c =
    let s = c.args.s in
    let p = c.args.p in
    let old : Shared = c.args.shared.now in
    let m : Shared = c.take_room.new.shared in
    let new : Shared = c.deliver.new.shared in
    let t = point_of c.args.proc.now in
    let u = point_of c.replace_call.new.self in
    from_room s.code.now s.names.now s.limits p c.args.person old m c.take_room.ensures.shared new t u
    (send_done s.code.now s.names.now s.limits p c.args.person m t c.args.used c.args.count c.args.at
    (at_still s.code.now s.names.now s.limits p c.args.person old m c.take_room.ensures.shared t (call_op c.args.used c.args.count) c.args.at c.requires.here)
    c.requires.calm c.args.k c.requires.function c.requires.at_work
    c.in-Some.server.now (rw (c.take_room.ensures.shared) (sym c.server.ensures ∙ ap option_copied c.in-Some.is))
    (ap (λ b. b.count) (sym c.body.ensures) ∙ c.if-body-count.false) (sym c.is_dead.ensures ∙ c.if-is_dead.false) new u c.in_ok-reply.reply
    (rw (c.take_room.ensures.shared) c.in_ok-reply.ensures)
    (λ threads. c.in_ok-deliver.ensures.world threads c.in-Some.server.now (rw (c.take_room.ensures.shared) (sym c.server.ensures ∙ ap option_copied c.in-Some.is))
    ∙ ap (λ ws. sent_world p c.args.k (record (counted (world_of m threads) p) { futures = with_reply_future c.in_ok-reply.reply m.futures.states }) c.in-Some.server.now (next_call c.in-Some.server.now ws c.in_ok-reply.reply)) c.in_ok-arguments.ensures)
    (c.replace_call.ensures.point ∙ rw (c.value_of.ensures, c.take_room.ensures.proc) refl))
