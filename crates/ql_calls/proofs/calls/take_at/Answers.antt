use Rattle.std.proofs.Common.{sym, ◌∙◌}
use Rattle.ql_calls.specs.Taking.{after_take}
use Rattle.ql_calls.proofs.Lists.{changed-to, changed-none, numbered-is, numbered-within}
use Rattle.ql_calls.proofs.calls.take_at.Goals as goal

pub returns-then-not-is_made-clause-taken : goal.returns-then-not-is_made-clause-taken
returns-then-not-is_made-clause-taken c = changed-none after_take c.args.servers.now c.args.k (sym c.is_made.ensures ∙ c.if-not-is_made.true)

pub bounds-servers-k : goal.bounds-servers-k
bounds-servers-k c = numbered-within c.args.servers.now c.args.k (sym c.is_made.ensures ∙ c.if-not-is_made.false)

pub returns-clause-number : goal.returns-clause-number
returns-clause-number c = rw (numbered-is c.args.servers.now c.args.k c.index-servers-k.result (sym c.is_made.ensures ∙ c.if-not-is_made.false)) c.take.ensures.number

pub returns-clause-taken : goal.returns-clause-taken
returns-clause-taken c = changed-to after_take c.args.servers.now c.args.k c.index-servers-k.result _ (sym c.is_made.ensures ∙ c.if-not-is_made.false) c.take.ensures.taken
