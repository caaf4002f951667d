-- Places at which no silent instruction stands.
use Rattle.std.specs.Prelude.{Bool, true, false, not, Option, Some, None}
use Rattle.ql_code.specs.declared.code.Op.{Op}
use Rattle.ql_code.specs.declared.code.Op.TheVariants.{Jump as jump, Drop as drop, Slide as slide, Touch as touch, Join as join}
use Rattle.ql_code.specs.Code.{Instruction}

abbrev pub is_silent : Op → Bool
is_silent (jump l) = true
is_silent drop = true
is_silent (slide n) = true
is_silent join = true
is_silent (touch n) = true
is_silent op = false

abbrev pub is_loud : Option Instruction → Bool
is_loud None = true
is_loud (Some i) = not (is_silent i.op)
