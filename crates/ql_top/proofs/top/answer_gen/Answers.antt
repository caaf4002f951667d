use Rattle.ql_top.proofs.Answering.{is_generated}
use Rattle.ql_top.proofs.top.answer_gen.Goals as goal

pub returns-in-Ok-clause-answer : goal.returns-in-Ok-clause-answer
returns-in-Ok-clause-answer g c =
    is_generated c.write_texts.result.status c.args.seed c.args.size c.in-Ok.output.items _ _ _ _ c.in-Ok.ensures c.write_texts.ensures.written
