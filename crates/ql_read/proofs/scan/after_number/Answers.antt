use Rattle.std.proofs.Common.{◌≡◌, ap, ◌∙◌, rules}
use Rattle.ql_forms.specs.Bytes.{class}
use Rattle.ql_read.specs.Scan.{of_number, token_form, push, step_between, step_atom}
use Rattle.ql_read.specs.View.{nested}
use Rattle.ql_read.proofs.Steps.{answers_same, after_atom}
use Rattle.ql_read.proofs.scan.after_number.Goals as goal

pub returns-in_ok-put-in_default-clause-ok : goal.returns-in_ok-put-in_default-clause-ok
returns-in_ok-put-in_default-clause-ok c = λ later g.
    let k = nested later c.args.nesting.now in
    let w = of_number c.args.number.negative c.args.number.value in
    let same : step_between c.args.at (push (token_form c.args.from w) k) c.args.b (class c.args.b) ≡ step_atom c.args.at c.args.from w k c.args.b (class c.args.b) = search rules in
    answers_same c.begin.result c.args.at (nested later c.begin.new.nesting) _ _ (c.begin.ensures.ok later g)
    (after_atom c.args.at c.args.from w (nested later c.put.new.self) k c.args.b (class c.args.b) (c.in_ok-put-in_default.ensures.ok later g ∙ ap (λ f. push f k) (c.form.ensures later)) same)
