use Rattle.std.proofs.Common.{[], ◌∷◌, ◌≡◌, subst, rules}
use Rattle.ql_base.specs.Names.{with_names}
use Rattle.ql_forms.specs.Bytes.{class}
use Rattle.ql_read.specs.Numbering.{GoesOn, ended_by}
use Rattle.ql_read.specs.Scan.{of_sign, token_form, push, step_between, step_atom}
use Rattle.ql_read.specs.View.{nested}
use Rattle.ql_read.proofs.Steps.{answers_same, after_atom}
use Rattle.ql_read.proofs.scan.after_sign.Goals as goal

pub returns-in_ok-put_symbol-in_default-clause-ok : goal.returns-in_ok-put_symbol-in_default-clause-ok
returns-in_ok-put_symbol-in_default-clause-ok c = λ later g h.
    let k = nested later c.args.nesting.now in
    let w = of_sign c.args.negative c.args.byte in
    let same : step_between c.args.at (push (token_form c.args.from w) k) c.args.b (class c.args.b) ≡ step_atom c.args.at c.args.from w k c.args.b (class c.args.b) = search rules in
    let ends : ended_by (class c.args.b) ((c.args.byte ∷ []) ∷ []) ≡ (c.args.byte ∷ []) ∷ [] = search rules in
    let goes = subst (λ z. GoesOn (with_names c.args.nesting.now.names z) later) ends h in
    answers_same c.begin.result c.args.at (nested later c.begin.new.nesting) _ _ (c.begin.ensures.ok later g)
    (after_atom c.args.at c.args.from w (nested later c.put_symbol.new.self) k c.args.b (class c.args.b) (c.in_ok-put_symbol-in_default.ensures.ok later g goes) same)
