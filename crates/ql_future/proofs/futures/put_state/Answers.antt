use Rattle.std.proofs.Common.{arith}
use Rattle.ql_future.proofs.Changes.{put_numbered, past_numbered}
use Rattle.ql_future.proofs.futures.put_state.Goals as goal

pub returns-then-at-len-clause-items : goal.returns-then-at-len-clause-items
returns-then-at-len-clause-items c = put_numbered c.args.state c.args.states.now.items c.args.f c.if-f-eq0.false

pub returns-else-at-len-clause-items : goal.returns-else-at-len-clause-items
returns-else-at-len-clause-items c =
    let same = c.args.states.now.ok.0 in
    past_numbered (λ s. c.args.state) c.args.states.now.items c.args.f c.if-f-eq0.false (omega arith)
