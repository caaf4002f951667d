use Rattle.std.proofs.Common.{◌≡◌, ap, ◌∙◌, Some, List, length, arith}
use Rattle.std.proofs.lemmas.List.{with_items_is}
use Rattle.std.proofs.lemmas.Result.{on_ok_weaker}
use Rattle.ql_world.specs.World.{ProcessClosure, numbered, change_numbered}
use Rattle.ql_world.specs.declared.world.Closure.{Closure}
use Rattle.ql_calls.specs.Calls.{Calls}
use Rattle.ql_calls.specs.Sending.{after_send, next_call}
use Rattle.ql_calls.proofs.Lists.{changed-calls}
use Rattle.ql_calls.proofs.calls.Calls.send.Goals as goal

pub returns-clause-ok : goal.returns-clause-ok
returns-clause-ok c = λ s e.
    let change_it = λ (xs : List (ProcessClosure Closure)). change_numbered (λ t. after_send s (next_call s c.args.arguments.items c.args.reply)) xs c.args.k in
    let value = c.deref_mut.ensures.value in
    let before : c.deref_mut.result.now ≡ c.args.self.now.servers = value ∙ ap (λ (v : Calls). v.servers) c.self.view_is in
    let found : numbered c.deref_mut.result.now c.args.k ≡ Some s = ap (λ (xs : List (ProcessClosure Closure)). numbered xs c.args.k) before ∙ e in
    let len : length c.send_at.new.servers ≡ c.self.inside.servers.len = omega arith in
    on_ok_weaker c.send_at.result
    (λ new. changed-calls change_it c.args.self.now c.self.inside.servers.items _ _ c.self.view_is (with_items_is c.self.inside.servers c.send_at.new.servers len ∙ (new ∙ ap change_it value)))
    (c.send_at.ensures.ok s found)
