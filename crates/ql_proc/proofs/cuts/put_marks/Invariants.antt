use Rattle.std.proofs.Common.{◌≡◌, ◌+◌, reverse, drop, vec_len, vec_capacity}
use Rattle.ql_proc.specs.Stacked.{base_of, AreLinked}
use Rattle.ql_proc.specs.Windowed.{shifted, put_all}
use Rattle.ql_proc.proofs.cuts.put_marks.Given as goal

abbrev pub invariant-marks : goal.invariant-marks
invariant-marks l = record {
  marks : put_all (shifted l.up l.down) (reverse l.onto.items) (drop l.marker-index l.marks) ≡ put_all (shifted l.up l.down) (reverse l.fn.onto.items) l.marks;
  links : AreLinked (reverse l.onto.items);
  base : l.base ≡ base_of (reverse l.onto.items);
  len : vec_len l.onto ≡ vec_len l.fn.onto + l.marker-index;
  capacity : vec_capacity l.onto ≡ vec_capacity l.fn.onto;
}
