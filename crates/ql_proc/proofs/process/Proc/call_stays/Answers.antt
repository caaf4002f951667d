use Rattle.std.proofs.Common.{refl, sym, ◌∙◌, ◌+◌, drop}
use Rattle.ql_code.specs.declared.mark.Mark.TheVariants.{Returning}
use Rattle.ql_code.specs.LocalPath.{topmost}
use Rattle.ql_proc.proofs.Nexts
use Rattle.ql_proc.proofs.process.Proc.call_stays.Goals as goal

pub returns-then-mask-ne0 : goal.returns-then-mask-ne0
returns-then-mask-ne0 c = rw (Nexts.masked c.args.mask c.if-mask-ne0.true) refl

pub returns-then-not-has_words : goal.returns-then-not-has_words
returns-then-not-has_words c =
    rw (c.if-mask-ne0.false, Nexts.operands-missing c.args.args 63 c.args.self.now.stack.items (sym c.has_words.ensures ∙ c.if-not-has_words.true)) refl

pub uppermost-requires : goal.uppermost-requires
uppermost-requires c = Nexts.enough c.args.args c.args.self.now.stack.items (sym c.has_words.ensures ∙ c.if-not-has_words.false)

pub returns : goal.returns
returns c =
    let st = c.args.self.now.stack.items in
    let h = sym c.has_words.ensures ∙ c.if-not-has_words.false in
    rw (c.if-mask-ne0.false, Nexts.operands-there c.args.args 63 st h)
    (c.stays.ensures
    ∙ Nexts.calls c.args.code.now.instructions c.args.place c.args.args (Returning (c.args.self.now.place + 1)) st (drop c.args.args (topmost 64 st)) _ h c.uppermost.ensures)
