use Rattle.std.proofs.Common.{subst, sym}
use Rattle.ql_cells.specs.Names.{ArePrintedNames}
use Rattle.ql_cells.proofs.tests.prints_a_pair.Goals as goal

pub short_text-requires-clause-printed : goal.short_text-requires-clause-printed
short_text-requires-clause-printed g c = subst ArePrintedNames (sym c.in_ok-names.ensures.reserved) c.reserved_words_are_printed.ensures
