use Rattle.std.proofs.Common.{◌≡◌, refl, sym, ap, ◌∙◌}
use Rattle.std.proofs.lemmas.Option.{same_Some}
use Rattle.std.specs.Option.{option_copied}
use Rattle.ql_world.specs.declared.event.Event.TheVariants.{Send as send}
use Rattle.ql_world.specs.World.{World, Call, counted, with_event, with_server}
use Rattle.ql_calls.specs.Facts.{changed-at}
use Rattle.ql_calls.specs.Sending.{takes_at_once, after_send, next_call}
use Rattle.ql_code.specs.Machine.{Point, Entry}
use Rattle.ql_host.specs.Sending.{with_reply_future}
use Rattle.ql_host.specs.declared.shared.Shared.{Shared}
use Rattle.ql_host.specs.World.{world_of}
use Rattle.ql_host.proofs.SendRows.{sent_either}
use Rattle.ql_host.proofs.ticks.calls.deliver.Goals as goal

pub returns-clause-world : goal.returns-clause-world
returns-clause-world c threads s e =
    let p = c.args.p in
    let k = c.args.k in
    let old : Shared = c.args.shared.now in
    let mid : Shared = record old { calls = c.send.new.self; history = c.tell.new.self; futures = c.add_reply.new.futures } in
    let new : Shared = c.take_if.new.shared in
    let call : Call = next_call s c.args.arguments.items c.args.reply in
    let w : World Point Entry = record (counted (world_of old threads) p) { futures = with_reply_future c.args.reply old.futures.states } in
    let changed = c.in-Ok.ensures.ok s e in
    let told : world_of mid threads ≡ with_server (with_event w (send p k call.number)) k (after_send s call) =
    rw (c.tell.ensures.same, c.tick.ensures.same, c.add_reply.ensures, changed, c.in-Ok.ensures.number s e) refl
    in
    sent_either p k w s call mid new threads c.takes_at_once-at_once.result
    (c.takes_at_once-at_once.ensures ∙ ap takes_at_once (same_Some c.in-Some.server.now s (sym (sym c.server.ensures ∙ ap option_copied c.in-Some.is) ∙ e)))
    (rw (changed) (changed-at (λ t. after_send s call) old.calls.servers k s e))
    told
    (λ t. c.take_if.ensures.taken t threads)
    c.take_if.ensures.still
