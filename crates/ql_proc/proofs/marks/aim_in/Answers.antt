use Rattle.std.proofs.Common.{length, sym, ap, ◌∙◌}
use Rattle.ql_proc.proofs.Lists.{put-back}
use Rattle.ql_proc.proofs.marks.aim_in.Goals as goal

pub returns-clause-marks : goal.returns-clause-marks
returns-clause-marks c =
    let xs = c.args.marks.now.items in
    let l = ap length c.deref_mut.ensures.value in
    let e = rw c.deref_mut.ensures.value at c.aim_among.ensures in
    rw (put-back _ xs c.aim_among.new.marks (c.aim_among.auto.marks ∙ l) (sym c.deref_mut.ensures.len ∙ l)) e
