use Rattle.std.proofs.Common.{refl, sym, ap, ◌∙◌, ◌≡◌, None}
use Rattle.ql_code.specs.Machine.{top_mark, below_mark}
use Rattle.ql_code.specs.LocalPath.{topmost, operands}
use Rattle.ql_proc.specs.Goes.{back_in}
use Rattle.ql_proc.proofs.Nexts
use Rattle.ql_proc.proofs.process.Proc.return_stays.Goals as goal

pub returns-in_default : goal.returns-in_default
returns-in_default c =
    let t = topmost 64 c.args.self.now.stack.items in
    let e : None ≡ back_in (top_mark t) = sym c.in_default.is ∙ (c.back_in.ensures ∙ ap back_in (c.mark.ensures ∙ sym (Nexts.mark-top 63 c.args.self.now.stack.items))) in
    rw (← Nexts.not-back (top_mark t) (below_mark t) (operands 1 t) e) refl

pub returns : goal.returns
returns c =
    let st = c.args.self.now.stack.items in
    let w = c.in-Some-top_word.w in
    rw (Nexts.back-top 63 c.in-Some.next st (c.in-Some.ensures ∙ ap back_in c.mark.ensures), Nexts.one-there 63 st w c.in-Some-top_word.ensures.words)
    (c.stays.ensures ∙ Nexts.returns-to c.args.code.now.instructions 62 c.in-Some.next w st _ _ c.mark_below.ensures c.loose_below.ensures)
