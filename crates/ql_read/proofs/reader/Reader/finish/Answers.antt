use Rattle.std.proofs.Common.{◌≡◌, sym, ap, refl, subst}
use Rattle.std.proofs.Math.Bool.{Bool-set}
use Rattle.std.proofs.Math.Logic.{∥∥₁_elim}
use Rattle.std.specs.Prelude.{IfSome}
use Rattle.ql_base.specs.Names.{with_names}
use Rattle.ql_read.specs.Numbering.{pending}
use Rattle.ql_read.specs.TextFault.{IsRefused, unfinished}
use Rattle.ql_read.specs.View.{text_told, state_of}
use Rattle.ql_read.proofs.Taking.{as_answered}
use Rattle.ql_read.proofs.TextEnd.{ends_early, ends_well}
use Rattle.ql_read.proofs.reader.Reader.finish.Goals as goal

pub returns-in-Ok-Some-clause-ok : goal.returns-in-Ok-Some-clause-ok
returns-in-Ok-Some-clause-ok c = λ b h.
    ends_well c.spelled_symbols_have_names.ensures c.args.self b c.in-Ok-Some.whole.forms c.in-Ok-Some.whole.names (λ later. text_told later c.in-Ok-Some.field-0) h c.in-Ok-Some.ensures.forms
    (λ later. sym (ap (text_told later) c.in-Ok-Some.field-0-is))
    (λ o k. subst (λ f. IfSome f (λ text. text.names ≡ with_names c.args.self.nesting.names (pending (state_of c.args.self.token o k)))) c.in-Ok-Some.field-0-is (c.in-Ok-Some.ensures.names o k))

pub invariant_of-result : goal.invariant_of-result
invariant_of-result c = record {
  numbered = ∥∥₁_elim c.args.self.taken_some (Bool-set _ _) (λ some.
      let (b, h) = some c.in_default.is in
      let read = ends_well c.spelled_symbols_have_names.ensures c.args.self b c.in-Ok-Some.whole.forms c.in-Ok-Some.whole.names (λ later. text_told later c.in-Ok-Some.field-0) h c.in-Ok-Some.ensures.forms
      (λ later. sym (ap (text_told later) c.in-Ok-Some.field-0-is))
      (λ o k. subst (λ f. IfSome f (λ text. text.names ≡ with_names c.args.self.nesting.names (pending (state_of c.args.self.token o k)))) c.in-Ok-Some.field-0-is (c.in-Ok-Some.ensures.names o k)) in
      read.numbered.below);
}

pub returns-in-Ok-None-clause-bad : goal.returns-in-Ok-None-clause-bad
returns-in-Ok-None-clause-bad c = λ kind at e b h.
    as_answered (λ k n. (k ≡ unfinished) × IsRefused b k n) 8 c.args.self.taken kind at e
    (refl, ends_early c.args.self b (λ later. text_told later c.in-Ok-None.field-0) h c.in-Ok-None.ensures.forms (λ later. sym (ap (text_told later) c.in-Ok-None.field-0-is)))
