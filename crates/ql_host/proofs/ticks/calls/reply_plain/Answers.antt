use Rattle.std.proofs.Common.{◌≡◌, sym, ap, ◌∙◌}
use Rattle.std.specs.Prelude.{option_to_list}
use Rattle.std.specs.Option.{option_copied}
use Rattle.ql_world.specs.Text.{short_text}
use Rattle.ql_world.specs.World.{counted, numbered}
use Rattle.ql_proc.specs.Points.{point_of}
use Rattle.ql_code.specs.declared.code.Op.TheVariants as ops
use Rattle.ql_host.specs.Resting.{IsAnswering, answered_world}
use Rattle.ql_host.specs.declared.shared.Shared.{Shared}
use Rattle.ql_host.specs.World.{world_of}
use Rattle.ql_host.proofs.Rooms.{from_room, at_still}
use Rattle.ql_host.proofs.ServerRows.{reply_rests, answering_still, answered_number, answered_call}
use Rattle.ql_host.proofs.ticks.calls.reply_plain.Goals as goal

pub returns-clause-takes : goal.returns-clause-takes
returns-clause-takes c =
    let s = c.args.s in
    let p = c.args.p in
    let r = c.args.person in
    let w = c.in-Some-top_word.w in
    let old : Shared = c.args.shared.now in
    let m : Shared = c.take_room.new.shared in
    let new : Shared = c.answer.new.shared in
    let t = point_of c.args.proc.now in
    let u = point_of c.rest.new.proc in
    let a : IsAnswering old r = c.requires.answers.0 in
    let number : c.in-Closure.k ≡ a.number = answered_number r old a c.in-Closure.k c.in-Closure.is in
    let call : c.in-Some-current.call.now ≡ a.call =
    answered_call r old a c.in-Closure.k c.in-Closure.is c.in-Some.server.now (sym c.server.ensures ∙ ap option_copied c.in-Some.is) c.in-Some-current.call.now (sym c.current.ensures ∙ ap option_copied c.in-Some-current.is)
    in
    from_room s.code.now s.names.now s.limits p r old m c.take_room.ensures.shared new t u
    (reply_rests s.code.now s.names.now s.limits p r m t c.args.at
    (at_still s.code.now s.names.now s.limits p r old m c.take_room.ensures.shared t ops.Return c.args.at c.requires.stands)
    c.requires.calm c.requires.bottom.0 c.requires.bottom.1 w
    (sym c.top_word.ensures.words ∙ ap option_to_list c.in-Some-top_word.is)
    (answering_still r old m c.take_room.ensures.shared a) c.requires.answers.1 new u
    (λ threads. c.answer.ensures.world threads
    ∙ ap (λ k. answered_world p k c.number-number.result c.reply-reply.result w c.in_ok-text.text (counted (world_of m threads) p)) number
    ∙ ap (λ n. answered_world p a.number n c.reply-reply.result w c.in_ok-text.text (counted (world_of m threads) p)) (c.number-number.ensures ∙ ap (λ d. d.number) call)
    ∙ ap (λ f. answered_world p a.number a.call.number f w c.in_ok-text.text (counted (world_of m threads) p)) (c.reply-reply.ensures ∙ ap (λ d. d.reply) call)
    ∙ ap (λ x. answered_world p a.number a.call.number a.call.reply w x (counted (world_of m threads) p)) (c.in_ok-text.ensures.text ∙ ap (λ (x : Shared). short_text s.names.now x.cells.pairs w) (sym c.take_room.ensures.shared)))
    (c.rest.ensures a.server (ap (λ (x : Shared). numbered x.calls.servers c.in-Closure.k) c.take_room.ensures.shared ∙ ap (numbered old.calls.servers) number ∙ a.known)))
