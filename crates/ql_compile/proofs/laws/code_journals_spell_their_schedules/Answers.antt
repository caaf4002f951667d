use Rattle.std.proofs.Common.{◌∙◌, sym}
use Rattle.ql_compile.proofs.laws.code_journals_spell_their_schedules.Goals as goal

pub returns : goal.returns
returns c = λ p h names limits schedule story e. c.journals_spell_their_schedules.ensures names p limits schedule story (sym (c.code_follows_program.ensures p h names limits schedule) ∙ e)
