use Rattle.std.proofs.Common.{◌≡◌, ◌≤◌, ◌<◌, ◌+◌, true, List, map, length, refl, sym, ap, ◌∙◌, subst}
use Rattle.std.proofs.lemmas.Bool.{le-leb, lt-leb}
use Rattle.ql_world.specs.World.{counted}
use Rattle.ql_world.specs.Tick.{with_server_made, with_boxes, with_futures, or_home}
use Rattle.ql_world.specs.declared.world.Closure.{Closure}
use Rattle.ql_proc.specs.Points.{point_of}
use Rattle.ql_proc.specs.declared.process.Proc.{Proc}
use Rattle.ql_code.specs.declared.code.Op.TheVariants as ops
use Rattle.ql_code.specs.Machine.{Point, frame_of, slots_at, innermost_on}
use Rattle.ql_host.specs.declared.shared.Shared.{Shared}
use Rattle.ql_host.specs.declared.turns.Turn.{Turn}
use Rattle.ql_host.specs.Turns.{IsTurn}
use Rattle.ql_host.specs.World.{world_of}
use Rattle.ql_host.proofs.Rooms.{at_still}
use Rattle.ql_host.proofs.Making.{made_from_room}
use Rattle.ql_host.proofs.MakeRows.{eager_full, eager_made}
use Rattle.ql_host.proofs.TurnNumbers.{turn_words, turn_futures}
use Rattle.ql_host.proofs.ticks.makes.eager.Goals as goal

pub returns-then-stored-room-clause-makes : goal.returns-then-stored-room-clause-makes
returns-then-stored-room-clause-makes c =
    let m : Shared = c.take_server_room.new.shared in
    let s = c.args.s in
    let p = c.args.p in
    let old : Shared = c.args.shared.now in
    let new : Shared = c.stop.new.shared in
    let t = point_of c.args.proc.now in
    let turn : Turn = c.in_ok-turn.turn in
    let its : IsTurn (length m.futures.states + 1) c.args.params c.args.mask turn = rw (c.take_server_room.ensures.shared) c.in_ok-turn.ensures in
    let stored : c.len-stored.result ≡ length turn.stored.items = c.len-stored.ensures ∙ turn.stored.ok.0 in
    made_from_room s.code.now s.names.now s.limits p c.args.person old m c.take_server_room.ensures.shared new t (point_of c.take_server_room.new.proc) (map point_of c.new.result.items)
    (rw (c.take_server_room.ensures.proc, c.new.ensures.items)
    (eager_full s.code.now s.names.now s.limits p c.args.person m t c.args.params c.args.mask c.args.slots.now c.args.next c.args.at c.args.x
    (at_still s.code.now s.names.now s.limits p c.args.person old m c.take_server_room.ensures.shared t (ops.Qlambda c.args.params c.args.mask c.args.slots.now c.args.next) c.args.at c.requires.stands)
    c.requires.calm c.requires.top turn its
    new c.requires.spawns c.requires.begins
    (rw (c.take_server_room.ensures.shared) c.requires.few)
    (sym (c.room.ensures.allowed (length turn.stored.items)) ∙ lt-leb (length turn.stored.items) c.room.result (subst (λ n. c.room.result < n) stored c.if-stored-room.true))
    c.stop.ensures.marked))

pub started-requires-clause-count : goal.started-requires-clause-count
started-requires-clause-count c =
    ap length c.deref.ensures.value
    ∙ turn_words (length c.args.shared.now.futures.states + 1) c.args.params c.args.mask c.in_ok-turn.turn c.in_ok-turn.ensures
    ∙ sym (ap (λ (k : Closure). k.count) c.in_ok-body.ensures)

pub put_turn-requires-clause-futures : goal.put_turn-requires-clause-futures
put_turn-requires-clause-futures c =
    subst (λ n. n ≤ c.take_server_room.new.shared.futures.spare)
    (sym (turn_futures (length c.args.shared.now.futures.states + 1) c.args.params c.args.mask c.in_ok-turn.turn c.in_ok-turn.ensures))
    c.in_ok-take_server_room.ensures.futures

pub returns-clause-makes : goal.returns-clause-makes
returns-clause-makes c =
    let m : Shared = c.take_server_room.new.shared in
    let s = c.args.s in
    let p = c.args.p in
    let old : Shared = c.args.shared.now in
    let mid : Shared = record m { history = c.tick.new.self } in
    let new : Shared = c.add_server.new.shared in
    let t = point_of c.args.proc.now in
    let u = point_of c.replace_one.new.self in
    let d = point_of c.in_ok-thread.thread in
    let n = c.args.params in
    let turn : Turn = c.in_ok-turn.turn in
    let fs = turn.futures.items in
    let ws = turn.stored.items in
    let its : IsTurn (length m.futures.states + 1) n c.args.mask turn = rw (c.take_server_room.ensures.shared) c.in_ok-turn.ensures in
    let stored : c.len-stored.result ≡ length ws = c.len-stored.ensures ∙ turn.stored.ok.0 in
    let body : Closure = record { place = t.place + 1; count = n; mask = c.args.mask; captured = slots_at (frame_of t.stack) c.args.slots.now } in
    let home = or_home (innermost_on t.stack) c.args.person.home in
    let told : (threads : List Point) → world_of mid threads ≡ counted (world_of m threads) p = λ threads. rw (c.tick.ensures.same) refl in
    made_from_room s.code.now s.names.now s.limits p c.args.person old m c.take_server_room.ensures.shared new t u (map point_of c.in_ok-made.made.items)
    (rw (c.in_ok-made.ensures)
    (eager_made s.code.now s.names.now s.limits p c.args.person m t n c.args.mask c.args.slots.now c.args.next c.args.at c.args.x
    (at_still s.code.now s.names.now s.limits p c.args.person old m c.take_server_room.ensures.shared t (ops.Qlambda n c.args.mask c.args.slots.now c.args.next) c.args.at c.requires.stands)
    c.requires.calm c.requires.top turn its
    new u d c.requires.spawns c.requires.begins
    (rw (c.take_server_room.ensures.shared) c.requires.few)
    (sym (c.room.ensures.allowed (length ws)) ∙ le-leb (length ws) c.room.result (subst (λ i. i ≤ c.room.result) stored c.if-stored-room.false))
    (c.in_ok-thread.ensures ∙ rw (c.in_ok-body.ensures, c.deref.ensures.value, c.box_count-first.ensures.count) refl)
    (λ threads l.
    c.add_server.ensures.world threads d (l ∙ ap (λ (h : Shared). length h.tree.persons) (sym c.put_turn.ensures.same))
    ∙ ap (λ w. with_server_made w p c.around-home.result c.in_ok-body.body true fs d) (c.put_turn.ensures.world threads)
    ∙ ap (λ w. with_server_made (with_boxes (with_futures w (length fs)) ws) p c.around-home.result c.in_ok-body.body true fs d) (told threads)
    ∙ ap (λ i. with_server_made (with_boxes (with_futures (counted (world_of m threads) p) i) ws) p c.around-home.result c.in_ok-body.body true fs d)
    (turn_futures (length m.futures.states + 1) n c.args.mask turn its)
    ∙ ap (λ h. with_server_made (with_boxes (with_futures (counted (world_of m threads) p) n) ws) p h c.in_ok-body.body true fs d)
    (c.around-home.ensures ∙ ap (λ (q : Proc). or_home (innermost_on q.stack.items) c.args.person.home) c.take_server_room.ensures.proc)
    ∙ ap (λ k. with_server_made (with_boxes (with_futures (counted (world_of m threads) p) n) ws) p home k true fs d) c.in_ok-body.ensures)
    (c.replace_one.ensures.point ∙ rw (c.in_ok-k.ensures, c.take_server_room.ensures.proc, c.take_server_room.ensures.shared) refl)))
