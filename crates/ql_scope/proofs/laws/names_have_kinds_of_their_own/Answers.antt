use Rattle.ql_scope.proofs.FaultKinds.{kinds_of_names}
use Rattle.ql_scope.proofs.laws.names_have_kinds_of_their_own.Goals as goal

pub returns : goal.returns
returns c = kinds_of_names
