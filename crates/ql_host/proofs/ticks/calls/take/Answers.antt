use Rattle.std.proofs.Common.{◌≡◌, ◌≤◌, ◌<◌, List, ◌++◌, ◌∷◌, [], Some, None, length, refl, sym, ap, ◌∙◌, subst}
use Rattle.std.specs.Option.{option_copied}
use Rattle.std.proofs.lemmas.Bool.{le-leb, lt-leb}
use Rattle.ql_world.specs.declared.word.Word.{Word}
use Rattle.ql_code.specs.Code.{unmasked}
use Rattle.ql_proc.specs.Points.{point_of}
use Rattle.ql_world.specs.declared.event.Event.TheVariants.{Take as take}
use Rattle.ql_world.specs.World.{World, numbered, counted, with_event, with_server}
use Rattle.ql_world.specs.Tick.{words_boxed, slots_of, with_boxes}
use Rattle.ql_code.specs.declared.mark.Mark.TheVariants.{Base as base}
use Rattle.ql_code.specs.Machine.{Point, Entry, mark, push_slots, settled}
use Rattle.ql_host.specs.World.{world_of}
use Rattle.ql_host.specs.Resting.{IsCalled}
use Rattle.ql_host.specs.declared.shared.Shared.{Shared}
use Rattle.ql_host.proofs.Rooms.{from_room}
use Rattle.ql_host.proofs.ServerRows.{take_full, take_done, called_still, number_found, stored_found}
use Rattle.ql_host.proofs.ticks.calls.take.Goals as goal

pub returns-then-boxes-room-clause-takes : goal.returns-then-boxes-room-clause-takes
returns-then-boxes-room-clause-takes c =
    let s = c.args.s in
    let p = c.args.p in
    let r = c.args.person in
    let old : Shared = c.args.shared.now in
    let m : Shared = c.take_room.new.shared in
    let new : Shared = c.stop.new.shared in
    let t = point_of c.args.proc.now in
    let h : IsCalled s.names.now s.limits old r t = c.requires in
    let n : List Word = words_boxed (unmasked h.server.body.count h.server.body.mask) h.next.arguments in
    let stored : c.in_ok-stored.stored.items ≡ n =
    stored_found s.names.now s.limits r old t h c.in-Closure.k c.in-Closure.is c.in-Some.server.now (sym c.server.ensures ∙ ap option_copied c.in-Some.is) c.in-Some-next.call.now c.body-body.result.now c.arguments.result.now c.in_ok-stored.stored.items
    (sym c.next.ensures ∙ ap option_copied c.in-Some-next.is) c.body-body.ensures c.arguments.ensures c.in_ok-stored.ensures
    in
    let count : c.many-boxes.result ≡ length n = c.many-boxes.ensures ∙ ap length (c.deref.ensures.value ∙ stored) in
    from_room s.code.now s.names.now s.limits p r old m c.take_room.ensures.shared new t (point_of c.take_room.new.proc)
    (rw (c.take_room.ensures.proc)
    (take_full s.code.now s.names.now s.limits p r m t (called_still s.code.now s.names.now s.limits p r old m t c.take_room.ensures.shared h)
    (sym (c.room.ensures.allowed (length n)) ∙ lt-leb (length n) c.room.result (subst (λ k. c.room.result < k) count c.if-boxes-room.true)) new c.stop.ensures.marked))

pub returns-clause-takes : goal.returns-clause-takes
returns-clause-takes c =
    let s = c.args.s in
    let p = c.args.p in
    let r = c.args.person in
    let old : Shared = c.args.shared.now in
    let m : Shared = c.take_room.new.shared in
    let new : Shared = c.take_next.new.shared in
    let t = point_of c.args.proc.now in
    let u = point_of c.start_call.new.proc in
    let h : IsCalled s.names.now s.limits old r t = c.requires in
    let n : List Word = words_boxed (unmasked h.server.body.count h.server.body.mask) h.next.arguments in
    let stored : c.in_ok-stored.stored.items ≡ n =
    stored_found s.names.now s.limits r old t h c.in-Closure.k c.in-Closure.is c.in-Some.server.now (sym c.server.ensures ∙ ap option_copied c.in-Some.is) c.in-Some-next.call.now c.body-body.result.now c.arguments.result.now c.in_ok-stored.stored.items
    (sym c.next.ensures ∙ ap option_copied c.in-Some-next.is) c.body-body.ensures c.arguments.ensures c.in_ok-stored.ensures
    in
    let count : c.many-boxes.result ≡ length n = c.many-boxes.ensures ∙ ap length (c.deref.ensures.value ∙ stored) in
    let mid : Shared = record m { cells = c.put_boxes-first.new.cells } in
    let number : c.in-Closure.k ≡ h.number = number_found s.names.now s.limits r old t h c.in-Closure.k c.in-Closure.is in
    let known : numbered mid.calls.servers c.in-Closure.k ≡ Some h.server = ap (λ (x : Shared). numbered x.calls.servers c.in-Closure.k) c.take_room.ensures.shared ∙ ap (numbered old.calls.servers) number ∙ h.known in
    let boxed : (threads : List Point) → world_of mid threads ≡ with_boxes (world_of m threads) n = λ threads. rw (c.put_boxes-first.ensures.made, c.deref-2.ensures.value, stored) refl in
    from_room s.code.now s.names.now s.limits p r old m c.take_room.ensures.shared new t u
    (take_done s.code.now s.names.now s.limits p r m t (called_still s.code.now s.names.now s.limits p r old m t c.take_room.ensures.shared h)
    (sym (c.room.ensures.allowed (length n)) ∙ le-leb (length n) c.room.result (subst (λ k. k ≤ c.room.result) count c.if-boxes-room.false)) new u
    (λ threads.
    c.take_next.ensures.world threads h.server h.next h.later known h.queue
    ∙ ap (λ j. with_event (with_server (counted (world_of mid threads) p) j (record h.server { queue = h.later; current = Some h.next })) (take p j h.next.number)) number
    ∙ ap (λ (w : World Point Entry). with_event (with_server (counted w p) h.number (record h.server { queue = h.later; current = Some h.next })) (take p h.number h.next.number)) (boxed threads))
    (c.start_call.ensures.point (record h.server { queue = h.later; current = Some h.next }) h.next (c.take_next.ensures.server h.server h.next h.later known h.queue) refl
    ∙ ap (λ f. settled s.code.now.instructions h.server.body.place (push_slots (slots_of (unmasked h.server.body.count h.server.body.mask) h.next.arguments f ++ h.server.body.captured) (mark (base None) ∷ []))) c.put_boxes-first.ensures.first))
