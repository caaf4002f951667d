use Rattle.std.proofs.Common.{◌≡◌, ◌≤◌, ◌+◌, drop}
use Rattle.ql_replay.specs.Following.{feeds}
use Rattle.ql_top.proofs.span.count_feeds.Given as goal

abbrev pub invariant-bytes : goal.invariant-bytes
invariant-bytes l = record {
  counted : l.count + feeds (drop l.b-index l.bytes) ≡ feeds l.bytes;
  few : l.count ≤ l.b-index;
}
