use Rattle.std.proofs.Common.{◌≡◌, ◌≤◌, ◌-◌}
use Rattle.ql_read.specs.Told.{taken_of}
use Rattle.ql_top.specs.Reading.{HasRead}
use Rattle.ql_top.proofs.reading.feed_all.Given as goal

abbrev pub invariant-pieces : goal.invariant-pieces
invariant-pieces g l = record {
  read : HasRead l.reader (g.S.Source.left l.fn.source) (g.S.Source.left l.source);
  few : taken_of l.reader ≤ 1048576;
  faults : g.S.Source.faults l.source ≡ g.S.Source.faults l.fn.source;
}

abbrev pub decreases-pieces : goal.decreases-pieces
decreases-pieces g l = 1048576 - taken_of l.reader
