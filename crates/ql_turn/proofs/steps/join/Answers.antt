use Rattle.std.proofs.Common.{rules}
use Rattle.ql_turn.proofs.Seats.{may_join, may_look}
use Rattle.ql_turn.proofs.steps.join.Goals as goal

pub join_seat-requires : goal.join_seat-requires
join_seat-requires g c = (search rules, search rules, search rules, search rules, may_join g.H.Kept.program g.H.Kept.journal _ _ c.requires.idle.0 c.requires.idle.1 _ _)

pub load-requires : goal.load-requires
load-requires g c = (search rules, search rules, may_look g.H.Kept.program g.H.Kept.journal _ _ c.requires.idle.0 c.requires.idle.1 _ c.join_seat.ensures.2 _ _)
