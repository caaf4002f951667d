use Rattle.ql_turn.proofs.Seats.{not_empty, closed_with}
use Rattle.ql_turn.proofs.turn.Turn.close.Goals as goal

pub unreachable-requires : goal.unreachable-requires
unreachable-requires g c = not_empty g.H.Kept.program g.H.Kept.journal _ _ _ _ (c.args.pass.at_rest, c.requires.pass.1) c.requires.parts c.close_with-closed.ensures.values.2 _ c.take-slot.ensures.value c.in-None.is

pub returns-clause-program : goal.returns-clause-program
returns-clause-program g c = (closed_with g.H.Kept.program g.H.Kept.journal _ _ _ _ (c.args.pass.at_rest, c.requires.pass.1) c.requires.parts c.close_with-closed.ensures.values.2 _ c.take-slot.ensures.value _ c.in-Some.is).0

pub returns-clause-journal : goal.returns-clause-journal
returns-clause-journal g c = (closed_with g.H.Kept.program g.H.Kept.journal _ _ _ _ (c.args.pass.at_rest, c.requires.pass.1) c.requires.parts c.close_with-closed.ensures.values.2 _ c.take-slot.ensures.value _ c.in-Some.is).1
