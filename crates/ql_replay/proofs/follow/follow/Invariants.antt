use Rattle.std.proofs.Common.{◌≡◌, ◌≤◌, ◌<◌, ◌-◌, ◌*◌, ◌^◌, false, length}
use Rattle.ql_replay.specs.Book.{turn_in, has_feed}
use Rattle.ql_replay.specs.Replay.{ahead}
use Rattle.ql_replay.specs.Following.{rank}
use Rattle.ql_replay.proofs.Holding.{Holding}
use Rattle.ql_replay.proofs.follow.follow.Given as goal

-- so much of the book was taken, and the verdict is that on the rest
abbrev pub invariant-bytes : goal.invariant-bytes
invariant-bytes g l = record {
  clean : has_feed l.follower.held.items ≡ false;
  short : length l.follower.held.items ≤ 200;
  low : l.follower.at < 2 ^ 64;
  holds :
      Holding (λ rest. ahead (g.H.Followed.host l.fn.follower.host) (g.H.Followed.line l.fn.follower.host) turn_in (g.H.Followed.world l.fn.follower.host) l.fn.follower.seen l.fn.follower.held.items rest l.fn.follower.at) l.fn.follower.at
      l.fn.page (g.B.Source.left l.fn.book)
      (λ rest. ahead (g.H.Followed.host l.follower.host) (g.H.Followed.line l.follower.host) turn_in (g.H.Followed.world l.follower.host) l.follower.seen l.follower.held.items rest l.follower.at) l.follower.at l.page (g.B.Source.left l.book);
  faults : g.B.Source.faults l.book ≡ g.B.Source.faults l.fn.book;
}

abbrev pub decreases-bytes : goal.decreases-bytes
decreases-bytes g l = 201 * 2 ^ 64 - rank l.follower.at l.follower.held.items
