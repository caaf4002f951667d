use Rattle.std.proofs.Common.{◌≡◌, ◌↔◌, drop, map}
use Rattle.ql_proc.specs.Windowed.{top_over}
use Rattle.ql_proc.proofs.cuts.are_same_among.Given as goal

abbrev pub invariant-marks : goal.invariant-marks
invariant-marks l = (map (top_over 0) (drop l.at l.window) ≡ map (top_over l.under) (drop l.at l.marks)) ↔ (map (top_over 0) l.window ≡ map (top_over l.under) l.marks)
