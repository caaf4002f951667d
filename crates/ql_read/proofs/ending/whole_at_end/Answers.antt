use Rattle.std.proofs.Common.{sym, ap, ◌∙◌}
use Rattle.ql_read.specs.Scan.{push, whole, finish}
use Rattle.ql_read.specs.View.{nested, state_of}
use Rattle.ql_read.proofs.ending.whole_at_end.Goals as goal

pub returns-in_ok-put-in-InNumber-clause-forms : goal.returns-in_ok-put-in-InNumber-clause-forms
returns-in_ok-put-in-InNumber-clause-forms c = λ o k later g h.
    c.all_closed-in-InNumber.ensures.forms later ∙ ap whole (c.in_ok-put-in-InNumber.ensures.ok later g ∙ ap (λ f. push f (nested later c.args.nesting)) (c.form.ensures later))
    ∙ sym (ap (λ t. finish (state_of t o (nested later c.args.nesting))) c.in-InNumber.is)
