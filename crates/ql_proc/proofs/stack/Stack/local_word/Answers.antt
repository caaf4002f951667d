use Rattle.std.proofs.Common.{rules, ◌≡◌, sym, ap, ◌∙◌, true, is_some, Some}
use Rattle.ql_code.specs.LocalPath.{whole_frame, word_in}
use Rattle.ql_proc.proofs.Ticks
use Rattle.ql_proc.proofs.stack.Stack.local_word.Goals as goal

pub returns-in-Some-Val : goal.returns-in-Some-Val
returns-in-Some-Val c =
    let h : is_some (whole_frame c.args.self.now.items) ≡ true = sym c.is_frame_there.ensures ∙ c.if-not-is_frame_there.false in
    rw (Ticks.local-in c.args.self.now.items c.args.at h) (ap word_in (sym (ap Some c.in-Some-Val.field-0-is) ∙ (sym c.in-Some-Val.is ∙ c.local.ensures)))

pub returns-in_default : goal.returns-in_default
returns-in_default c =
    let h : is_some (whole_frame c.args.self.now.items) ≡ true = sym c.is_frame_there.ensures ∙ c.if-not-is_frame_there.false in
    rw (Ticks.local-in c.args.self.now.items c.args.at h) (search rules)

pub returns-in_default-2 : goal.returns-in_default-2
returns-in_default-2 c =
    let h : is_some (whole_frame c.args.self.now.items) ≡ true = sym c.is_frame_there.ensures ∙ c.if-not-is_frame_there.false in
    rw (Ticks.local-in c.args.self.now.items c.args.at h) (ap word_in (sym c.in_default.is ∙ c.local.ensures))
