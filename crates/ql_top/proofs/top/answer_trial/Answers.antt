use Rattle.std.proofs.Common.{◌∙◌, ap}
use Rattle.std.specs.Prelude.{Some}
use Rattle.ql_vectors.specs.GenText.{gen_text}
use Rattle.ql_top.proofs.Answering.{told_further}
use Rattle.ql_top.proofs.top.answer_trial.Goals as goal

pub returns-in-Ok-clause-answer : goal.returns-in-Ok-clause-answer
returns-in-Ok-clause-answer g c = record {
  left = _;
  answers = told_further (gen_text c.args.seed c.args.size) _ _ (ap Some (c.new.ensures ∙ c.in-Ok.ensures)) c.answer_source.ensures.answer;
}
