-- Whether a process goes on by itself, for proofs.
use Rattle.std.specs.Prelude.{ℕ, Bool, List, length, Option, Some, None, is_some, option_and_then}
use Rattle.ql_code.specs.declared.mark.Mark.{Mark}
use Rattle.ql_code.specs.declared.mark.Mark.TheVariants.{Returning as returning}
use Rattle.ql_code.specs.Code.{Instruction}
use Rattle.ql_code.specs.Machine.{Item}
use Rattle.ql_code.specs.LocalPath.{settle_in}

-- whether it goes on from there, where there is such a place, and stays within these items
abbrev pub goes_on : List Instruction → Option (ℕ × List Item) → Bool
goes_on code x = is_some (option_and_then (λ x. settle_in code (length code) x.0 x.1) x)

-- where a call goes on
abbrev pub back_in : Option Mark → Option ℕ
back_in (Some (returning pc)) = Some pc
back_in k = None
