use Rattle.std.proofs.Common.{◌≡◌, ◌≤◌, ◌<◌, ◌+◌, ℕ, List, ◌++◌, take}
use Rattle.ql_read.specs.TextFault.{limit}
use Rattle.ql_read.specs.Told.{HasTaken, taken_of}
use Rattle.ql_read.proofs.reader.Reader.feed.Given as goal

abbrev pub invariant-loop-b : goal.invariant-loop-b
invariant-loop-b l = record {
  taken : (p : List ℕ) → HasTaken l.fn.self p → HasTaken l.self (p ++ take l.b-index l.piece);
  counted : taken_of l.self ≡ taken_of l.fn.self + l.b-index;
  few : 0 < l.b-index → taken_of l.self ≤ limit;
}
