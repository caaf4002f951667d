use Rattle.std.proofs.Common.{◌≡◌, drop}
use Rattle.ql_proc.specs.Stacked.{frame_among}
use Rattle.ql_proc.proofs.upper.has_frame.Given as goal

abbrev pub invariant-loop-marker : goal.invariant-loop-marker
invariant-loop-marker l = frame_among (drop l.marker-index l.marks) ≡ frame_among l.fn.marks
