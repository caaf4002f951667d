use Rattle.ql_forms.specs.View.{forms_of}
use Rattle.ql_top.proofs.Answering.{is_text}
use Rattle.ql_top.proofs.Replays.{stopped_replay}
use Rattle.ql_top.proofs.replay.answer_replay.Goals as goal

pub replay_text-requires : goal.replay_text-requires
replay_text-requires g c =
    let read = c.in-Ok.ensures.bytes.is_read in
    record { names = c.names_can_be_printed.ensures c.in-Ok.ensures.bytes.taken c.in-Ok.text.names (forms_of c.in-Ok.text.forms) (is_text _ _ _ read) }

pub returns-in-Err-clause-answer : goal.returns-in-Err-clause-answer
returns-in-Err-clause-answer g c = stopped_replay _ _ c.in-Err.status _ _ c.in-Err.ensures.bytes
