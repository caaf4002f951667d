use Rattle.std.proofs.Common.{sym, ◌∙◌}
use Rattle.ql_proc.proofs.Insides
use Rattle.ql_proc.proofs.inside.pass_touch.Goals as goal

pub returns-then-not-are_words : goal.returns-then-not-are_words
returns-then-not-are_words c = λ next k. Insides.touch-short c.args.count _ _ (sym c.are_words.ensures ∙ c.if-not-are_words.true)

pub returns-then-has_future : goal.returns-then-has_future
returns-then-has_future c = λ next k. Insides.touch-waits c.args.count _ _ (sym c.are_words.ensures ∙ c.if-not-are_words.false) (sym c.has_future.ensures ∙ c.if-has_future.true)

pub returns : goal.returns
returns c = λ next k. Insides.touch-passes c.args.count _ _ (sym c.are_words.ensures ∙ c.if-not-are_words.false) (sym c.has_future.ensures ∙ c.if-has_future.false)
