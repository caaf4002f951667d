use Rattle.std.proofs.Common.{sym, ◌∙◌}
use Rattle.ql_proc.proofs.Links
use Rattle.ql_proc.proofs.marks.catch_in.Goals as goal

pub returns-then-at-eq0 : goal.returns-then-at-eq0
returns-then-at-eq0 c =
    let xs = c.args.marks.now in
    let at = c.catching_up_to-at.result in
    let e = c.catching_up_to-at.ensures in
    sym (Links.no-catch xs at e c.if-at-eq0.true)

pub mark_at-requires : goal.mark_at-requires
mark_at-requires c =
    let xs = c.args.marks.now in
    let at = c.catching_up_to-at.result in
    let e = c.catching_up_to-at.ensures in
    Links.catch-inside xs at e c.if-at-eq0.false

pub returns : goal.returns
returns c =
    let xs = c.args.marks.now in
    let at = c.catching_up_to-at.result in
    let e = c.catching_up_to-at.ensures in
    c.catch_of.ensures ∙ Links.catch-first xs at e c.if-at-eq0.false _ c.mark_at.ensures
