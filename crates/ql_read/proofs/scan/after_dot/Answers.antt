use Rattle.std.proofs.Common.{◌≡◌, rules}
use Rattle.ql_forms.specs.Bytes.{class}
use Rattle.ql_read.specs.Scan.{step_between, step_dot}
use Rattle.ql_read.specs.View.{nested}
use Rattle.ql_read.proofs.Steps.{answers_same}
use Rattle.ql_read.proofs.scan.after_dot.Goals as goal

pub returns-in-Blank-clause-ok : goal.returns-in-Blank-clause-ok
returns-in-Blank-clause-ok c = λ later g.
    let k = nested later c.args.nesting.now in
    let same : step_between c.args.at k c.args.b (class c.args.b) ≡ step_dot c.args.at k c.args.b (class c.args.b) = search rules in
    answers_same c.begin.result c.args.at (nested later c.begin.new.nesting) _ _ (c.begin.ensures.ok later g) same
