use Rattle.std.proofs.Common.{[], ◌∷◌, rules, ◌≡◌, ◌+◌, subst, sym, ap, ◌∙◌}
use Rattle.std.specs.Prelude.{IfOk}
use Rattle.ql_base.specs.Names.{with_names}
use Rattle.ql_read.specs.Numbering.{GoesOn, ended_by}
use Rattle.ql_forms.specs.Bytes.{class, letter, digit, plus, minus}
use Rattle.ql_read.specs.ByteClass.{start_told}
use Rattle.ql_read.specs.Scan.{of_symbol, token_form, push, step_between, step_atom}
use Rattle.ql_read.specs.View.{nested, state_of}
use Rattle.ql_read.proofs.Steps.{answers_same, after_atom}
use Rattle.ql_read.proofs.scan.after_symbol.Goals as goal

pub returns-in-Start-Letter-clause-ok : goal.returns-in-Start-Letter-clause-ok
returns-in-Start-Letter-clause-ok c = λ later g h.
    let k = nested later c.args.nesting.now in
    subst (λ y. IfOk c.longer.result (λ t. state_of t (c.args.at + 1) k ≡ step_atom c.args.at c.args.from (of_symbol c.args.letters.items) k c.args.b y)) (sym (ap start_told c.in-Start-Letter.field-0-is) ∙ c.in-Start-Letter.ensures) (c.longer.ensures k letter)

pub returns-in-Start-Digit-clause-ok : goal.returns-in-Start-Digit-clause-ok
returns-in-Start-Digit-clause-ok c = λ later g h.
    let k = nested later c.args.nesting.now in
    subst (λ y. IfOk c.longer-in-Start-Digit.result (λ t. state_of t (c.args.at + 1) k ≡ step_atom c.args.at c.args.from (of_symbol c.args.letters.items) k c.args.b y)) (sym (ap start_told c.in-Start-Digit.field-0-is) ∙ c.in-Start-Digit.ensures) (c.longer-in-Start-Digit.ensures k digit)

pub returns-in-Start-Plus-clause-ok : goal.returns-in-Start-Plus-clause-ok
returns-in-Start-Plus-clause-ok c = λ later g h.
    let k = nested later c.args.nesting.now in
    subst (λ y. IfOk c.longer-in-Start-Plus.result (λ t. state_of t (c.args.at + 1) k ≡ step_atom c.args.at c.args.from (of_symbol c.args.letters.items) k c.args.b y)) (sym (ap start_told c.in-Start-Plus.field-0-is) ∙ c.in-Start-Plus.ensures) (c.longer-in-Start-Plus.ensures k plus)

pub returns-in-Start-Minus-clause-ok : goal.returns-in-Start-Minus-clause-ok
returns-in-Start-Minus-clause-ok c = λ later g h.
    let k = nested later c.args.nesting.now in
    subst (λ y. IfOk c.longer-in-Start-Minus.result (λ t. state_of t (c.args.at + 1) k ≡ step_atom c.args.at c.args.from (of_symbol c.args.letters.items) k c.args.b y)) (sym (ap start_told c.in-Start-Minus.field-0-is) ∙ c.in-Start-Minus.ensures) (c.longer-in-Start-Minus.ensures k minus)

pub returns-in_ok-put_symbol-in_default-clause-ok : goal.returns-in_ok-put_symbol-in_default-clause-ok
returns-in_ok-put_symbol-in_default-clause-ok c = λ later g h.
    let k = nested later c.args.nesting.now in
    let w = of_symbol c.args.letters.items in
    let same : step_between c.args.at (push (token_form c.args.from w) k) c.args.b (class c.args.b) ≡ step_atom c.args.at c.args.from w k c.args.b (class c.args.b) = search rules in
    let ends : ended_by (class c.args.b) (c.args.letters.items ∷ []) ≡ c.args.letters.items ∷ [] = search rules in
    let goes = subst (λ z. GoesOn (with_names c.args.nesting.now.names z) later) ends h in
    answers_same c.begin.result c.args.at (nested later c.begin.new.nesting) _ _ (c.begin.ensures.ok later g)
    (after_atom c.args.at c.args.from w (nested later c.put_symbol.new.self) k c.args.b (class c.args.b) (c.in_ok-put_symbol-in_default.ensures.ok later g (subst (λ z. GoesOn (with_names c.args.nesting.now.names (z ∷ [])) later) (sym c.deref.ensures.value) goes)
    ∙ ap (λ z. push (token_form c.args.from (of_symbol z)) k) c.deref.ensures.value) same)
