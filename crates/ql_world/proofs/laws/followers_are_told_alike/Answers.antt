use Rattle.ql_world.proofs.Bisimulation.{followers_told}
use Rattle.ql_world.proofs.laws.followers_are_told_alike.Goals as goal

pub returns : goal.returns
returns g c = λ i f. followers_told _ _ _ _ f
