use Rattle.ql_replay.proofs.Picks.{other_is_picked}
use Rattle.ql_replay.proofs.laws.other_is_picked.Goals as goal

pub returns : goal.returns
returns c = other_is_picked
