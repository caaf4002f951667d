use Rattle.ql_top.proofs.Replays.{no_memory_replay}
use Rattle.ql_top.proofs.top.answer.Goals as goal

pub returns-in-Err-clause-replayed : goal.returns-in-Err-clause-replayed
returns-in-Err-clause-replayed g c asked = no_memory_replay _ c.untold-in-Err.ensures.status _ _ _
