use Rattle.ql_host.proofs.Leftmost.{fewer, not_fewer}
use Rattle.ql_host.proofs.ticks.awaits.awaited_by_call.Goals as goal

pub word_under-requires : goal.word_under-requires
word_under-requires c = fewer c.args.args c.args.proc.now.stack.items c.requires

pub returns-in_default : goal.returns-in_default
returns-in_default c = absurd (not_fewer c.args.args c.args.proc.now.stack.items c.requires c.in_default.ensures)
