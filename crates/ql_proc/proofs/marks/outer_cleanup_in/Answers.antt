use Rattle.std.proofs.Common.{◌<◌, ◌-◌, refl, sym, ◌∙◌, length, arith}
use Rattle.std.proofs.lemmas.List.{length-take-le}
use Rattle.ql_proc.proofs.Links
use Rattle.ql_proc.proofs.marks.outer_cleanup_in.Goals as goal

pub returns-then-at-eq0 : goal.returns-then-at-eq0
returns-then-at-eq0 c =
    let xs = c.args.marks.now in
    let at = c.cleaning_up_to-at.result in
    let e = c.cleaning_up_to-at.ensures in
    rw (Links.no-cleanup xs at e c.if-at-eq0.true) refl

pub slice_bounds-cleanup_in-length : goal.slice_bounds-cleanup_in-length
slice_bounds-cleanup_in-length c =
    let xs = c.args.marks.now in
    let at = c.cleaning_up_to-at.result in
    let e = c.cleaning_up_to-at.ensures in
    let h : at - 1 < length xs = Links.cleanup-inside xs at e c.if-at-eq0.false in sym (length-take-le (at - 1) xs (omega (arith, h)))

pub cleanup_in-requires : goal.cleanup_in-requires
cleanup_in-requires c =
    let xs = c.args.marks.now in
    let at = c.cleaning_up_to-at.result in
    let e = c.cleaning_up_to-at.ensures in
    Links.links-below xs at e c.if-at-eq0.false c.requires

pub returns : goal.returns
returns c =
    let xs = c.args.marks.now in
    let at = c.cleaning_up_to-at.result in
    let e = c.cleaning_up_to-at.ensures in
    c.cleanup_in.ensures ∙ Links.cleanup-second xs at e c.if-at-eq0.false
