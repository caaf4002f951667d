use Rattle.std.proofs.Common.{refl, ◌∙◌}
use Rattle.ql_proc.proofs.Links
use Rattle.ql_proc.proofs.marks.cleanup_in.Goals as goal

pub returns-then-at-eq0 : goal.returns-then-at-eq0
returns-then-at-eq0 c =
    let xs = c.args.marks.now in
    let at = c.cleaning_up_to-at.result in
    let e = c.cleaning_up_to-at.ensures in
    rw (Links.no-cleanup xs at e c.if-at-eq0.true) refl

pub mark_at-requires : goal.mark_at-requires
mark_at-requires c =
    let xs = c.args.marks.now in
    let at = c.cleaning_up_to-at.result in
    let e = c.cleaning_up_to-at.ensures in
    Links.cleanup-inside xs at e c.if-at-eq0.false

pub returns : goal.returns
returns c =
    let xs = c.args.marks.now in
    let at = c.cleaning_up_to-at.result in
    let e = c.cleaning_up_to-at.ensures in
    c.cleanup_of.ensures ∙ Links.cleanup-first xs at e c.if-at-eq0.false _ c.mark_at.ensures
