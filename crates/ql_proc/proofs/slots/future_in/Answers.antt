use Rattle.std.proofs.Common.{◌≤◌, length, sym, ◌∙◌, arith}
use Rattle.ql_proc.proofs.Futures
use Rattle.ql_proc.proofs.slots.future_in.Goals as goal

pub words-preserved : goal.words-preserved
words-preserved c =
    let k : c.words.at ≤ length c.args.slots.now = c.words.invariant.0 in (
      omega (arith, k),
      rw c.future_or-found.ensures
          (Futures.future-step c.words.at c.words.left c.args.slots.now c.if-at-gt0.true k c.in-Some.w c.words.found _ c.words-test.true (sym c.in-Some.is ∙ c.word_in.ensures) c.words.invariant.1),
    )

pub returns-in_default : goal.returns-in_default
returns-in_default c =
    Futures.future-stop c.words.at c.words.left c.args.slots.now c.if-at-gt0.true c.words.invariant.0 c.words.found _ c.words-test.true (sym c.in_default.is ∙ c.word_in.ensures) c.words.invariant.1
