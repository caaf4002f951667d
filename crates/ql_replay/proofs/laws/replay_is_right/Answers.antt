use Rattle.ql_replay.proofs.Lost.{never_lost}
use Rattle.ql_replay.proofs.Whole.{replay_right}
use Rattle.ql_replay.proofs.laws.replay_is_right.Goals as goal

pub returns : goal.returns
returns c = λ names one code sound book.
    replay_right names one code (λ limits. never_lost names code limits (λ schedule w p q r. c.runs_are_sound.ensures.ticks code names limits schedule w p q r) sound) book
