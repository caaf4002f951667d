use Rattle.std.proofs.Common.{subst}
use Rattle.ql_code.proofs.SoundTicks.{IsSome, runs_sound}
use Rattle.ql_code.proofs.laws.worlds_are_sound.Goals as goal

pub returns : goal.returns
returns c = λ code so names limits schedule w e. subst (IsSome code so) e (runs_sound code so names limits schedule)
