use Rattle.std.proofs.Common.{rules, ◌≡◌}
use Rattle.ql_turn.proofs.Seats.{may_take, has_slot}
use Rattle.ql_turn.proofs.steps.try_take.Goals as goal

pub compare_exchange-requires : goal.compare_exchange-requires
compare_exchange-requires g c = (search rules, search rules, may_take g.H.Kept.program g.H.Kept.journal _ _ _ c.requires.idle)

pub exchange-requires : goal.exchange-requires
exchange-requires g c = let free : c.compare_exchange.result ≡ 0 = search rules in (search rules, has_slot g.H.Kept.program g.H.Kept.journal _ _ _ c.compare_exchange.ensures.2 free)
