use Rattle.ql_meaning.proofs.LegalBridge.{all_lines_tell}
use Rattle.ql_meaning.proofs.laws.lines_tell_the_world.Goals as goal

pub returns : goal.returns
returns c = all_lines_tell
