use Rattle.std.proofs.Common.{sym, ◌∙◌, true}
use Rattle.ql_calls.proofs.Lists.{changed-to, changed-none}
use Rattle.ql_calls.proofs.calls.bury_at.Goals as goal

pub returns-then-is_made : goal.returns-then-is_made
returns-then-is_made c =
    changed-to (λ s. record s { dead = true }) c.args.servers.now c.args.k c.index-servers-k.result _ (sym c.is_made.ensures ∙ c.if-is_made.true) c.bury.ensures

pub returns-else-is_made : goal.returns-else-is_made
returns-else-is_made c = changed-none (λ s. record s { dead = true }) c.args.servers.now c.args.k (sym c.is_made.ensures ∙ c.if-is_made.false)
