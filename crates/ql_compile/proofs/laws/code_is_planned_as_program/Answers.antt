use Rattle.ql_compile.proofs.Allowed.{can_be_compiled}
use Rattle.ql_compile.proofs.Simulation.{always_planned}
use Rattle.ql_compile.proofs.laws.code_is_planned_as_program.Goals as goal

pub returns : goal.returns
returns c = λ p h. always_planned c.followers_are_planned_alike.ensures p (can_be_compiled p h)
