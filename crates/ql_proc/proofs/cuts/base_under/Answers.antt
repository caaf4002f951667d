use Rattle.std.proofs.Common.{sym, ap, arith}
use Rattle.ql_proc.specs.Stacked.{base_of}
use Rattle.ql_proc.proofs.Windowed
use Rattle.ql_proc.proofs.cuts.base_under.Goals as goal

pub returns-then-marks-lt64 : goal.returns-then-marks-lt64
returns-then-marks-lt64 c = sym (ap base_of (Windowed.none-upper 64 c.args.marks.now (omega arith)))

pub returns : goal.returns
returns c = Windowed.upper-base 63 _ c.args.marks.now _ c.if-marks-lt64.false c.requires
