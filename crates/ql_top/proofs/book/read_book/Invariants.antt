use Rattle.std.proofs.Common.{◌≡◌, ◌-◌, length}
use Rattle.ql_top.specs.Book.{most, IsHeld}
use Rattle.ql_top.proofs.book.read_book.Given as goal

abbrev pub invariant-parts : goal.invariant-parts
invariant-parts g l = record {
  held : IsHeld l.bytes.items (g.B.Source.left l.fn.book) (g.B.Source.left l.book);
  faults : g.B.Source.faults l.book ≡ g.B.Source.faults l.fn.book;
}

abbrev pub decreases-parts : goal.decreases-parts
decreases-parts g l = most - length l.bytes.items
