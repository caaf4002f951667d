use Rattle.std.proofs.Common.{sym, ap, subst}
use Rattle.ql_base.specs.Names.{with_names}
use Rattle.ql_read.specs.Numbering.{GoesOn, ended}
use Rattle.ql_read.specs.Scan.{step}
use Rattle.ql_read.specs.View.{nested, state_of}
use Rattle.ql_read.proofs.Steps.{answers_same}
use Rattle.ql_read.proofs.scan.take_byte.Goals as goal

pub returns-in-Between-clause-ok : goal.returns-in-Between-clause-ok
returns-in-Between-clause-ok c = λ k later g h.
    answers_same c.begin.result c.args.at (nested later c.begin.new.nesting) _ _ (c.begin.ensures.ok later g)
    (ap (λ t. step (state_of t c.args.at (nested later c.args.nesting.now)) c.args.b) (sym c.in-Between.is))

pub returns-in-InSymbol-clause-ok : goal.returns-in-InSymbol-clause-ok
returns-in-InSymbol-clause-ok c = λ k later g h.
    answers_same c.after_symbol.result c.args.at (nested later c.after_symbol.new.nesting) _ _ (c.after_symbol.ensures.ok later g (subst (λ t. GoesOn (with_names c.args.nesting.now.names (ended (state_of t c.args.at k) c.args.b)) later) c.in-InSymbol.is h))
    (ap (λ t. step (state_of t c.args.at (nested later c.args.nesting.now)) c.args.b) (sym c.in-InSymbol.is))

pub returns-in-InSign-clause-ok : goal.returns-in-InSign-clause-ok
returns-in-InSign-clause-ok c = λ k later g h.
    answers_same c.after_sign.result c.args.at (nested later c.after_sign.new.nesting) _ _ (c.after_sign.ensures.ok later g (subst (λ t. GoesOn (with_names c.args.nesting.now.names (ended (state_of t c.args.at k) c.args.b)) later) c.in-InSign.is h))
    (ap (λ t. step (state_of t c.args.at (nested later c.args.nesting.now)) c.args.b) (sym c.in-InSign.is))

pub returns-in-InNumber-clause-ok : goal.returns-in-InNumber-clause-ok
returns-in-InNumber-clause-ok c = λ k later g h.
    answers_same c.after_number.result c.args.at (nested later c.after_number.new.nesting) _ _ (c.after_number.ensures.ok later g)
    (ap (λ t. step (state_of t c.args.at (nested later c.args.nesting.now)) c.args.b) (sym c.in-InNumber.is))

pub returns-in-AfterDot-clause-ok : goal.returns-in-AfterDot-clause-ok
returns-in-AfterDot-clause-ok c = λ k later g h.
    answers_same c.after_dot.result c.args.at (nested later c.after_dot.new.nesting) _ _ (c.after_dot.ensures.ok later g)
    (ap (λ t. step (state_of t c.args.at (nested later c.args.nesting.now)) c.args.b) (sym c.in-AfterDot.is))
