use Rattle.std.proofs.Common.{refl, sym, ◌∙◌}
use Rattle.ql_proc.proofs.Nexts
use Rattle.ql_proc.proofs.process.Proc.bind_stays.Goals as goal

pub returns-then-mask-ne0 : goal.returns-then-mask-ne0
returns-then-mask-ne0 c = rw (Nexts.masked c.args.mask c.if-mask-ne0.true) refl

pub returns-then-not-has_words : goal.returns-then-not-has_words
returns-then-not-has_words c =
    rw (c.if-mask-ne0.false, Nexts.operands-missing c.args.count 63 c.args.self.now.stack.items (sym c.has_words.ensures ∙ c.if-not-has_words.true)) refl

pub returns : goal.returns
returns c =
    rw (c.if-mask-ne0.false, Nexts.operands-there c.args.count 63 c.args.self.now.stack.items (sym c.has_words.ensures ∙ c.if-not-has_words.false)) c.goes_on.ensures
