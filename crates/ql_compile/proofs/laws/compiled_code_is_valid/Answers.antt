use Rattle.ql_compile.proofs.Allowed.{can_be_compiled}
use Rattle.ql_compile.proofs.Assigned.{program_has}
use Rattle.ql_compile.proofs.Fitting.{lists_fit}
use Rattle.ql_compile.proofs.ProgramIsFine.{code_is_valid}
use Rattle.ql_compile.proofs.laws.compiled_code_is_valid.Goals as goal

pub returns : goal.returns
returns c = λ forms p e s h. code_is_valid p (can_be_compiled p h) (lists_fit p s (program_has forms p e))
