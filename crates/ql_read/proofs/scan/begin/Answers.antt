use Rattle.ql_forms.specs.Bytes.{class}
use Rattle.ql_read.specs.View.{nested}
use Rattle.ql_read.proofs.Steps.{answers_same, starts}
use Rattle.ql_read.proofs.scan.begin.Goals as goal

pub returns-in-Start-clause-ok : goal.returns-in-Start-clause-ok
returns-in-Start-clause-ok c = λ later g.
    answers_same c.form_or_bad.result c.args.at (nested later c.form_or_bad.new.nesting) _ _ (c.form_or_bad.ensures.ok later)
    (starts c.args.at c.args.b (nested later c.args.nesting.now) c.in-Start.start (class c.args.b) c.in-Start.ensures)
