use Rattle.std.proofs.Common.{sym, ◌∙◌}
use Rattle.ql_host.proofs.Leftmost.{one_down}
use Rattle.ql_host.proofs.waits.called.Goals as goal

pub down-preserved : goal.down-preserved
down-preserved c = one_down c.down.under c.args.proc.now.stack.items _ (sym c.has_words.ensures ∙ cc) c.down.invariant
