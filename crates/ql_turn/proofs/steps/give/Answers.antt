use Rattle.std.proofs.Common.{rules}
use Rattle.ql_turn.proofs.Seats.{may_give}
use Rattle.ql_turn.proofs.steps.give.Goals as goal

pub store-requires : goal.store-requires
store-requires g c = (search rules, search rules, may_give g.H.Kept.program g.H.Kept.journal _ _ _ c.requires.may _ _ c.put.ensures.put)
