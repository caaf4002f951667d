use Rattle.std.proofs.Common.{sym, ◌∙◌}
use Rattle.ql_host.proofs.CallRows.{fewer_words, sent_found}
use Rattle.ql_host.proofs.ticks.frames.sent_to.Goals as goal

pub word_under-requires : goal.word_under-requires
word_under-requires c = fewer_words c.args.count c.args.proc.now.stack.items c.requires

pub returns : goal.returns
returns c =
    c.process_closure.ensures ∙ sent_found c.args.count c.args.proc.now.stack.items c.word_under.result c.word_under.ensures c.requires (sym c.if-is_in_cleanup.ensures)
