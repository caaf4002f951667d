use Rattle.std.proofs.Common.{sym, ◌∙◌, arith}
use Rattle.ql_journal.proofs.Singles.{turn_line, no_words, no_ticks}
use Rattle.ql_journal.proofs.read.read_turn.Goals as goal

pub returns-in_err-p-clause-none : goal.returns-in_err-p-clause-none
returns-in_err-p-clause-none c = λ e. no_words c.args.line.now (sym c.id_and_count.ensures ∙ c.in_err-p.was)

pub returns-then-n-eq0-clause-none : goal.returns-then-n-eq0-clause-none
returns-then-n-eq0-clause-none c = λ e. no_ticks c.args.line.now c.in_ok-p.p c.in_ok-p.n (sym c.id_and_count.ensures ∙ c.in_ok-p.was) c.if-n-eq0.true

pub returns-else-n-eq0-clause-is : goal.returns-else-n-eq0-clause-is
returns-else-n-eq0-clause-is c = turn_line c.args.line.now c.in_ok-p.p c.in_ok-p.n (sym c.id_and_count.ensures ∙ c.in_ok-p.was) (let f = c.if-n-eq0.false in omega (arith, f))
