use Rattle.std.proofs.Common.{◌∙◌, ap, arith, inl, inr}
use Rattle.std.specs.Prelude.{option_and_then, codes}
use Rattle.clap.specs.Matches.{found_of}
use Rattle.clap.proofs.WalkLemmas.{one_text-rows}
use Rattle.ql_top.specs.Words.{number_in}
use Rattle.ql_top.proofs.Numbers.{none_read, some_read, other_read}
use Rattle.ql_top.proofs.words.size.Goals.{else-size-ge1-via-then-size-ge1+else-size-le3000, else-size-ge1-via-else-size-ge1}
use Rattle.ql_top.proofs.words.size.Goals as goal

pub returns-in_err-size-clause-value : goal.returns-in_err-size-clause-value
returns-in_err-size-clause-value c =
    c.from_residual.ensures ∙ none_read 1 3000 32 (λ n h. omega (arith, h)) (λ n h. omega (arith, h)) _ (λ text e f. (c.in_err-size.ensures.value text e).1.0 f)
    ∙ ap (option_and_then (number_in 1 3000)) (one_text-rows (found_of c.args.matches.now) (codes "size"))

pub returns-then-size-le3000-clause-value : goal.returns-then-size-le3000-clause-value
returns-then-size-le3000-clause-value c =
    some_read 1 3000 32 (λ n h. omega (arith, h)) (λ n h. omega (arith, h)) _ c.in_ok-size.size
    (λ e. let bad = c.in_ok-size.ensures.none e in absurd cc) (λ text e. (c.in_ok-size.ensures.value text e).0) c.if-size-ge1.true c.if-size-le3000.true
    ∙ ap (option_and_then (number_in 1 3000)) (one_text-rows (found_of c.args.matches.now) (codes "size"))

pub returns-else-size-ge1-clause-value : goal.returns-else-size-ge1-clause-value
returns-else-size-ge1-clause-value c =
    other_read 1 3000 32 (λ n h. omega (arith, h)) (λ n h. omega (arith, h)) _ c.in_ok-size.size (λ text e. (c.in_ok-size.ensures.value text e).0.1)
    (elim c.else-size-ge1.branch [ else-size-ge1-via-then-size-ge1+else-size-le3000 w ↦ inr w.if-size-le3000.false | else-size-ge1-via-else-size-ge1 w ↦ inl w.if-size-ge1.false ])
    ∙ ap (option_and_then (number_in 1 3000)) (one_text-rows (found_of c.args.matches.now) (codes "size"))
