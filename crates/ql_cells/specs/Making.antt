-- What calls of the table answer.
use Rattle.std.specs.Prelude.{Bool, true, false, Option, Some, None, Result, Ok, Err}
use Rattle.ql_base.specs.declared.fault.RunFault.TheVariants.{NotPair}
use Rattle.ql_world.specs.declared.word.Word.{Word}
use Rattle.ql_world.specs.declared.operator.Computed.{Computed}
use Rattle.ql_world.specs.declared.operator.Computed.TheVariants.{Gives as gives, Fails as fails}
use Rattle.ql_cells.specs.declared.cells.CellFault.{CellFault}
use Rattle.ql_cells.specs.declared.cells.CellFault.TheVariants.{Full, Memory}

-- no more may be made
abbrev pub is_full : {A : Type 0} → Result A CellFault → Bool
is_full (Err Full) = true
is_full (Err (Memory e)) = false
is_full (Ok x) = false

-- the part of a word as a primitive gives it: none where the word is neither a pair nor nil
abbrev pub part_given : Option Word → Computed
part_given (Some w) = gives w
part_given None = fails NotPair
