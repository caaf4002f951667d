use Rattle.std.proofs.Common.{refl}
use Rattle.ql_base.specs.Names.{reserved}
use Rattle.ql_cells.proofs.Reserved.{each_printed}
use Rattle.ql_cells.proofs.laws.reserved_words_are_printed.Goals as goal

pub returns : goal.returns
returns c = each_printed reserved refl
