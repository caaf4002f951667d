-- What a process is for the machine.
use Rattle.std.specs.Prelude.{◌≡◌, Bool, true, false, Some, None}
use Rattle.ql_code.specs.declared.code.Op.{Op}
use Rattle.ql_code.specs.Machine.{Point, point, silent}
use Rattle.ql_proc.specs.declared.process.Proc.{Proc}

abbrev pub point_of : Proc → Point
point_of p = point p.place p.stack.items p.state

-- The rest is for proofs.

-- whether a silent instruction was passed
abbrev pub Passes : Bool → Op → Point → Point → Type 0
Passes true op old new = (silent op old.place old.stack ≡ Some (new.place, new.stack)) × (new.state ≡ old.state)
Passes false op old new = (silent op old.place old.stack ≡ None) × (new ≡ old)
