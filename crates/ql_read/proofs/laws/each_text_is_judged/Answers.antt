use Rattle.ql_read.proofs.Judging.{judge}
use Rattle.ql_read.proofs.laws.each_text_is_judged.Goals as goal

pub returns : goal.returns
returns c = judge
