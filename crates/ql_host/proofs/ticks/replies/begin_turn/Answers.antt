use Rattle.std.proofs.Common.{◌≡◌, List, refl, ap, ◌∙◌}
use Rattle.ql_world.specs.World.{World, ProcessClosure, numbered, change_numbered}
use Rattle.ql_world.specs.Tick.{with_next_call}
use Rattle.ql_calls.specs.Facts.{changed-at, changed-as}
use Rattle.ql_code.specs.Machine.{Point, Entry}
use Rattle.ql_host.specs.World.{world_of}
use Rattle.ql_host.specs.declared.shared.Shared.{Shared}
use Rattle.ql_host.proofs.ticks.replies.begin_turn.Goals as goal

pub returns-clause-world : goal.returns-clause-world
returns-clause-world c threads s e =
    let k = c.args.k in
    let old : Shared = c.args.shared.now in
    let made : Shared = c.put_turn.new.shared in
    let mid : Shared = record made { calls = c.renew.new.self } in
    let fs = c.args.turn.futures.items in
    let t : ProcessClosure Entry = record s { turn = fs } in
    let renewed : mid.calls.servers ≡ change_numbered (λ q. record q { turn = fs }) old.calls.servers k =
    rw (c.renew.ensures, c.put_turn.ensures.same) refl
    in
    c.serve.ensures.world threads t (ap (λ (ss : List (ProcessClosure Entry)). numbered ss k) renewed ∙ changed-at (λ q. record q { turn = fs }) old.calls.servers k s e)
    ∙ ap (λ (ss : List (ProcessClosure Entry)). with_next_call (record (world_of made threads) { servers = ss }) k t t.queue) (renewed ∙ changed-as (λ q. record q { turn = fs }) old.calls.servers k s e)
    ∙ ap (λ (w : World Point Entry). with_next_call (record w { servers = change_numbered (λ q. t) old.calls.servers k }) k t t.queue) (c.put_turn.ensures.world threads)
