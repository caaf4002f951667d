use Rattle.std.proofs.Common.{◌∙◌, ap, arith, inl, inr}
use Rattle.std.specs.Prelude.{option_and_then}
use Rattle.clap.specs.Matches.{found_of}
use Rattle.clap.proofs.WalkLemmas.{one_text-rows}
use Rattle.ql_top.specs.Words.{number_in}
use Rattle.ql_top.proofs.Numbers.{none_read, some_read, other_read}
use Rattle.ql_top.proofs.words.number.Goals.{else-least-n-via-then-least-n+else-n-most, else-least-n-via-else-least-n}
use Rattle.ql_top.proofs.words.number.Goals as goal

pub returns-in_err-n-clause-value : goal.returns-in_err-n-clause-value
returns-in_err-n-clause-value c =
    c.from_residual.ensures ∙ none_read c.args.least c.args.most 64 (λ n h. omega (arith, h, c.ranges.most.fits)) (λ n h. h) _ (λ text e f. (c.in_err-n.ensures.value text e).1.0 f)
    ∙ ap (option_and_then (number_in c.args.least c.args.most)) (one_text-rows (found_of c.args.matches.now) c.args.name.now)

pub returns-then-n-most-clause-value : goal.returns-then-n-most-clause-value
returns-then-n-most-clause-value c =
    some_read c.args.least c.args.most 64 (λ n h. omega (arith, h, c.ranges.most.fits)) (λ n h. h) _ c.in_ok-n.n
    (λ e. let bad = c.in_ok-n.ensures.none e in absurd cc) (λ text e. (c.in_ok-n.ensures.value text e).0) c.if-least-n.true c.if-n-most.true
    ∙ ap (option_and_then (number_in c.args.least c.args.most)) (one_text-rows (found_of c.args.matches.now) c.args.name.now)

pub returns-else-least-n-clause-value : goal.returns-else-least-n-clause-value
returns-else-least-n-clause-value c =
    other_read c.args.least c.args.most 64 (λ n h. omega (arith, h, c.ranges.most.fits)) (λ n h. h) _ c.in_ok-n.n
    (λ text e. (c.in_ok-n.ensures.value text e).0.1)
    (elim c.else-least-n.branch [ else-least-n-via-then-least-n+else-n-most w ↦ inr w.if-n-most.false | else-least-n-via-else-least-n w ↦ inl w.if-least-n.false ])
    ∙ ap (option_and_then (number_in c.args.least c.args.most)) (one_text-rows (found_of c.args.matches.now) c.args.name.now)
