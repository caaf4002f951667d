use Rattle.std.proofs.Common.{rules}
use Rattle.ql_turn.proofs.Seats.{may_split}
use Rattle.ql_turn.proofs.turn.Turn.seat.Goals as goal

pub split_seat-seat-requires : goal.split_seat-seat-requires
split_seat-seat-requires g c = (search rules, search rules, may_split g.H.Kept.program g.H.Kept.journal _ _ (c.args.from.now.at_rest, c.requires.pass.1) c.requires.parts)
