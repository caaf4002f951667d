use Rattle.std.proofs.Common.{rules}
use Rattle.ql_turn.proofs.Seats.{opens_with}
use Rattle.ql_turn.proofs.turn.Turn.start.Goals as goal

pub new-requires : goal.new-requires
new-requires g c = opens_with g.H.Kept.program g.H.Kept.journal c.args.first _ _ (search rules) (search rules)
