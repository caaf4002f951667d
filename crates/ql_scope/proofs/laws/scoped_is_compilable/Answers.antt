use Rattle.ql_scope.proofs.Compilable.{is_right_program}
use Rattle.ql_scope.proofs.laws.scoped_is_compilable.Goals as goal

pub returns : goal.returns
returns c = is_right_program
