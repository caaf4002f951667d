use Rattle.std.proofs.Common.{◌≡◌, ◌≤◌, ◌-◌, false, length}
use Rattle.ql_replay.specs.Book.{has_feed}
use Rattle.ql_replay.specs.Page.{Hands}
use Rattle.ql_replay.proofs.replay.first_bytes.Given as goal

-- these bytes were taken
abbrev pub invariant-bytes : goal.invariant-bytes
invariant-bytes g l = record {
  clean : has_feed l.held.items ≡ false;
  short : length l.held.items ≤ 200;
  hands : Hands l.held.items l.fn.page (g.B.Source.left l.fn.book) l.page (g.B.Source.left l.book);
  faults : g.B.Source.faults l.book ≡ g.B.Source.faults l.fn.book;
}

abbrev pub decreases-bytes : goal.decreases-bytes
decreases-bytes g l = 200 - length l.held.items
