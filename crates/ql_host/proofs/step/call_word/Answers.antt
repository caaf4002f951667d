use Rattle.std.proofs.Common.{sym, ◌∙◌}
use Rattle.ql_host.proofs.CallRows.{function_there}
use Rattle.ql_host.proofs.SendRows.{sent_at_work, sent_function}
use Rattle.ql_host.proofs.step.call_word.Goals as goal

pub sent_to-requires : goal.sent_to-requires
sent_to-requires c = function_there c.args.used c.args.count c.args.proc.now.stack.items c.requires.here.operands

pub send-requires-clause-function : goal.send-requires-clause-function
send-requires-clause-function c =
    sent_function c.args.count c.args.proc.now.stack.items c.in-Some.k (sym c.sent_to.ensures ∙ c.in-Some.is)
    (function_there c.args.used c.args.count c.args.proc.now.stack.items c.requires.here.operands)

pub send-requires-clause-at_work : goal.send-requires-clause-at_work
send-requires-clause-at_work c = sent_at_work c.args.count c.args.proc.now.stack.items c.in-Some.k (sym c.sent_to.ensures ∙ c.in-Some.is)
