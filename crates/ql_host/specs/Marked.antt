-- Catches.
use Rattle.std.specs.Prelude.{ℕ, Bool, true, false}
use Rattle.ql_code.specs.declared.code.Op.{Op}
use Rattle.ql_code.specs.declared.code.Op.TheVariants.{Catch as catch, Qcatch as qcatch}

-- the opening of a catch, or of one that waits
abbrev pub catch_op : (waits : Bool) → ℕ → Op
catch_op false l = catch l
catch_op true l = qcatch l
