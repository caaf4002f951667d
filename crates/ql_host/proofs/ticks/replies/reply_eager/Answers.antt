use Rattle.std.proofs.Common.{◌≡◌, ◌≤◌, ◌<◌, ◌+◌, ◌++◌, ◌∷◌, [], Some, None, length, sym, ap, ◌∙◌, subst}
use Rattle.std.proofs.lemmas.Bool.{le-leb, lt-leb}
use Rattle.std.proofs.lemmas.Option.{same_Some}
use Rattle.std.specs.Prelude.{option_to_list}
use Rattle.std.specs.Option.{option_copied}
use Rattle.ql_world.specs.declared.world.Closure.{Closure}
use Rattle.ql_world.specs.Text.{short_text}
use Rattle.ql_world.specs.Tick.{slots_of}
use Rattle.ql_world.specs.World.{ProcessClosure, counted, numbered}
use Rattle.ql_calls.specs.Facts.{changed-at}
use Rattle.ql_proc.specs.Points.{point_of}
use Rattle.ql_code.specs.Code.{unmasked}
use Rattle.ql_code.specs.declared.code.Op.TheVariants as ops
use Rattle.ql_code.specs.declared.mark.Mark.TheVariants.{Base as base}
use Rattle.ql_code.specs.Machine.{Entry, mark, push_slots, settled}
use Rattle.ql_host.specs.Resting.{IsAnswering, answered_world}
use Rattle.ql_host.specs.Turns.{IsTurn, turned_world}
use Rattle.ql_host.specs.declared.turns.Turn.{Turn}
use Rattle.ql_host.specs.declared.shared.Shared.{Shared}
use Rattle.ql_host.specs.World.{world_of}
use Rattle.ql_host.proofs.Rooms.{from_room, at_still}
use Rattle.ql_host.proofs.ReplyRows.{reply_full, reply_turns}
use Rattle.ql_host.proofs.ServerRows.{answering_still, answered_number, answered_server, answered_call}
use Rattle.ql_host.proofs.TurnNumbers.{turn_words}
use Rattle.ql_host.proofs.ticks.replies.reply_eager.Goals as goal

pub returns-then-stored-room-clause-takes : goal.returns-then-stored-room-clause-takes
returns-then-stored-room-clause-takes c =
    let s = c.args.s in
    let p = c.args.p in
    let r = c.args.person in
    let w = c.in-Some-top_word.w in
    let old : Shared = c.args.shared.now in
    let m : Shared = c.take_room.new.shared in
    let new : Shared = c.stop.new.shared in
    let t = point_of c.args.proc.now in
    let a : IsAnswering old r = c.requires.answers.0 in
    let turn : Turn = c.in_ok-turn.turn in
    let ws = turn.stored.items in
    let server : c.in-Some.server.now ≡ a.server = answered_server r old a c.in-Closure.k c.in-Closure.is c.in-Some.server.now (sym c.server.ensures ∙ ap option_copied c.in-Some.is) in
    let body : c.body-body.result.now ≡ a.server.body = c.body-body.ensures ∙ ap (λ (q : ProcessClosure Entry). q.body) server in
    let its : IsTurn (length m.futures.states + 1) a.server.body.count a.server.body.mask turn =
    subst (λ (b : Closure). IsTurn (length m.futures.states + 1) b.count b.mask turn) body (rw (c.take_room.ensures.shared) c.in_ok-turn.ensures)
    in
    let stored : c.len-stored.result ≡ length ws = c.len-stored.ensures ∙ turn.stored.ok.0 in
    from_room s.code.now s.names.now s.limits p r old m c.take_room.ensures.shared new t (point_of c.take_room.new.proc)
    (rw (c.take_room.ensures.proc)
    (reply_full s.code.now s.names.now s.limits p r m t c.args.at
    (at_still s.code.now s.names.now s.limits p r old m c.take_room.ensures.shared t ops.Return c.args.at c.requires.stands)
    c.requires.calm c.requires.bottom.0 c.requires.bottom.1 w
    (sym c.top_word.ensures.words ∙ ap option_to_list c.in-Some-top_word.is)
    (answering_still r old m c.take_room.ensures.shared a) c.requires.answers.1 turn its
    (sym (c.room.ensures.allowed (length ws)) ∙ lt-leb (length ws) c.room.result (subst (λ n. c.room.result < n) stored c.if-stored-room.true))
    new c.stop.ensures.marked))

pub start_turn-requires-clause-count : goal.start_turn-requires-clause-count
start_turn-requires-clause-count c t e =
    turn_words (length c.args.shared.now.futures.states + 1) c.body-body.result.now.count c.body-body.result.now.mask c.in_ok-turn.turn c.in_ok-turn.ensures
    ∙ ap (λ (k : Closure). k.count) c.body-body.ensures
    ∙ ap (λ (s : ProcessClosure Entry). s.body.count)
    (same_Some c.in-Some.server.now t
    (sym (sym c.server.ensures ∙ ap option_copied c.in-Some.is) ∙ ap (λ (x : Shared). numbered x.calls.servers c.in-Closure.k) (sym c.take_room.ensures.shared) ∙ e))

pub returns-clause-takes : goal.returns-clause-takes
returns-clause-takes c =
    let s = c.args.s in
    let p = c.args.p in
    let r = c.args.person in
    let w = c.in-Some-top_word.w in
    let k = c.in-Closure.k in
    let old : Shared = c.args.shared.now in
    let m : Shared = c.take_room.new.shared in
    let mid : Shared = c.answer.new.shared in
    let new : Shared = c.begin_turn.new.shared in
    let t = point_of c.args.proc.now in
    let u = point_of c.start_turn.new.proc in
    let a : IsAnswering old r = c.requires.answers.0 in
    let turn : Turn = c.in_ok-turn.turn in
    let ws = turn.stored.items in
    let found : numbered old.calls.servers k ≡ Some c.in-Some.server.now = sym c.server.ensures ∙ ap option_copied c.in-Some.is in
    let number : k ≡ a.number = answered_number r old a k c.in-Closure.is in
    let server : c.in-Some.server.now ≡ a.server = answered_server r old a k c.in-Closure.is c.in-Some.server.now found in
    let call : c.in-Some-current.call.now ≡ a.call = answered_call r old a k c.in-Closure.is c.in-Some.server.now found c.in-Some-current.call.now (sym c.current.ensures ∙ ap option_copied c.in-Some-current.is) in
    let body : c.body-body.result.now ≡ a.server.body = c.body-body.ensures ∙ ap (λ (q : ProcessClosure Entry). q.body) server in
    let its : IsTurn (length m.futures.states + 1) a.server.body.count a.server.body.mask turn =
    subst (λ (b : Closure). IsTurn (length m.futures.states + 1) b.count b.mask turn) body (rw (c.take_room.ensures.shared) c.in_ok-turn.ensures)
    in
    let stored : c.len-stored.result ≡ length ws = c.len-stored.ensures ∙ turn.stored.ok.0 in
    let known : numbered m.calls.servers k ≡ Some a.server = ap (λ (x : Shared). numbered x.calls.servers k) c.take_room.ensures.shared ∙ ap (numbered old.calls.servers) number ∙ a.known in
    let next : ProcessClosure Entry = record a.server { current = None } in
    from_room s.code.now s.names.now s.limits p r old m c.take_room.ensures.shared new t u
    (reply_turns s.code.now s.names.now s.limits p r m t c.args.at
    (at_still s.code.now s.names.now s.limits p r old m c.take_room.ensures.shared t ops.Return c.args.at c.requires.stands)
    c.requires.calm c.requires.bottom.0 c.requires.bottom.1 w
    (sym c.top_word.ensures.words ∙ ap option_to_list c.in-Some-top_word.is)
    (answering_still r old m c.take_room.ensures.shared a) c.requires.answers.1 turn its
    (sym (c.room.ensures.allowed (length ws)) ∙ le-leb (length ws) c.room.result (subst (λ n. n ≤ c.room.result) stored c.if-stored-room.false))
    new u
    (λ threads.
    c.begin_turn.ensures.world threads next
    (ap (λ (x : Shared). numbered x.calls.servers k) c.answer.ensures.same ∙ changed-at (λ q. record q { current = None }) m.calls.servers k a.server known)
    ∙ ap (λ i. turned_world i next turn.futures.items ws (world_of mid threads)) number
    ∙ ap (turned_world a.number next turn.futures.items ws)
    (c.answer.ensures.world threads
    ∙ ap (λ i. answered_world p i c.number-number.result c.reply-reply.result w c.in_ok-text.text (counted (world_of m threads) p)) number
    ∙ ap (λ n. answered_world p a.number n c.reply-reply.result w c.in_ok-text.text (counted (world_of m threads) p)) (c.number-number.ensures ∙ ap (λ d. d.number) call)
    ∙ ap (λ f. answered_world p a.number a.call.number f w c.in_ok-text.text (counted (world_of m threads) p)) (c.reply-reply.ensures ∙ ap (λ d. d.reply) call)
    ∙ ap (λ x. answered_world p a.number a.call.number a.call.reply w x (counted (world_of m threads) p)) (c.in_ok-text.ensures.text ∙ ap (λ (x : Shared). short_text s.names.now x.cells.pairs w) (sym c.take_room.ensures.shared))))
    (c.start_turn.ensures.point a.server known
    ∙ ap (λ f. settled s.code.now.instructions a.server.body.place (push_slots (slots_of (unmasked a.server.body.count a.server.body.mask) turn.words.items f ++ a.server.body.captured) (mark (base None) ∷ []))) c.box_count-first.ensures.count))
