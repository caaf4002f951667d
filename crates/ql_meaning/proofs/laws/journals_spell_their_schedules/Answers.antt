use Rattle.ql_meaning.proofs.LegalSchedules.{journals_spell}
use Rattle.ql_meaning.proofs.laws.journals_spell_their_schedules.Goals as goal

pub returns : goal.returns
returns c = journals_spell
