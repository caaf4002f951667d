use Rattle.ql_replay.proofs.Early.{early_is_enough}
use Rattle.ql_replay.proofs.laws.early_is_enough.Goals as goal

pub returns : goal.returns
returns c = early_is_enough
