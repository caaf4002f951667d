use Rattle.ql_world.proofs.Bisimulation.{followers_planned}
use Rattle.ql_world.proofs.laws.followers_are_planned_alike.Goals as goal

pub returns : goal.returns
returns g c = λ i f. followers_planned _ _ _ _ f
