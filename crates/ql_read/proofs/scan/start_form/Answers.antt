use Rattle.ql_read.specs.View.{nested}
use Rattle.ql_read.proofs.Steps.{answers_same, opens}
use Rattle.ql_read.proofs.scan.start_form.Goals as goal

pub returns-in_ok-items-in-Opening-clause-ok : goal.returns-in_ok-items-in-Opening-clause-ok
returns-in_ok-items-in-Opening-clause-ok c = λ later.
    answers_same c.deeper.result c.args.at (nested later c.deeper.new.self) _ _ (c.deeper.ensures.ok later)
    (opens later c.args.at c.args.b (nested later c.args.nesting.now) c.args.start c.in_ok-items-in-Opening.items c.in_ok-items-in-Opening.ensures.items c.in-Opening.is)
