use Rattle.std.proofs.Common.{◌≡◌, [], drop, arith, ap, sym, ◌∙◌}
use Rattle.std.proofs.lemmas.List.{drop_all}
use Rattle.ql_world.specs.Tick.{filled}
use Rattle.ql_future.proofs.Changes.{filled_by_none}
use Rattle.ql_future.proofs.futures.Futures.fill.Goals as goal

pub returns-else-at-ws : goal.returns-else-at-ws
returns-else-at-ws c =
    let none : drop c.fills.at c.args.ws.now ≡ [] = drop_all c.fills.at c.args.ws.now (omega arith) in
    let left = drop c.fills.at c.args.fs.now in
    ap (λ states. record c.fills.self { states = states }) (sym (ap (λ ws. filled left ws c.fills.self.states) none ∙ filled_by_none left c.fills.self.states))
    ∙ c.fills.invariant
