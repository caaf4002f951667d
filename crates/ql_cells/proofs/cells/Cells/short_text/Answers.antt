use Rattle.std.proofs.Common.{sym, subst}
use Rattle.ql_world.specs.Short.{IsShort}
use Rattle.ql_cells.proofs.Printed.{told_short}
use Rattle.ql_cells.proofs.cells.Cells.short_text.Goals as goal

pub new-requires : goal.new-requires
new-requires c =
    let told = rw c.in-Some.is at c.in_ok-text.ensures in
    subst IsShort (sym c.deref.ensures.value) (told_short c.args.names.now c.requires.printed c.args.self.now.pairs c.args.w c.in-Some.text.items c.requires.there told)
