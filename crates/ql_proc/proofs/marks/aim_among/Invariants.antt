use Rattle.std.proofs.Common.{◌≡◌, ◌≤◌, ◌++◌, reverse, take, drop, length}
use Rattle.ql_proc.specs.Stacked.{aimed}
use Rattle.ql_proc.proofs.marks.aim_among.Given as goal

abbrev pub invariant-marks : goal.invariant-marks
invariant-marks l = (l.at ≤ length l.marks) × (reverse (drop l.at l.marks) ++ aimed l.aim (reverse (take l.at l.marks)) ≡ aimed l.aim (reverse l.fn.marks))

abbrev pub decreases-marks : goal.decreases-marks
decreases-marks l = l.at
