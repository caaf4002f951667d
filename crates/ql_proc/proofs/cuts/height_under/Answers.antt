use Rattle.std.proofs.Common.{sym, ap, arith}
use Rattle.ql_proc.specs.Stacked.{floor_of}
use Rattle.ql_proc.proofs.Windowed
use Rattle.ql_proc.proofs.cuts.height_under.Goals as goal

pub returns-then-marks-lt64 : goal.returns-then-marks-lt64
returns-then-marks-lt64 c = sym (ap floor_of (Windowed.none-upper 63 c.args.marks.now (omega arith)))

pub returns : goal.returns
returns c = sym (ap floor_of (Windowed.upper-at 63 c.args.marks.now _ c.if-marks-lt64.false))
