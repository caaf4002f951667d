use Rattle.ql_compile.proofs.Allowed.{can_be_compiled}
use Rattle.ql_compile.proofs.Simulation.{always_same}
use Rattle.ql_compile.proofs.laws.code_follows_program.Goals as goal

pub returns : goal.returns
returns c = λ p h. always_same c.followers_are_told_alike.ensures p (can_be_compiled p h)
