use Rattle.ql_replay.proofs.Whole.{right_alike}
use Rattle.ql_replay.proofs.laws.verdicts_carry_over.Goals as goal

pub returns : goal.returns
returns c = right_alike
