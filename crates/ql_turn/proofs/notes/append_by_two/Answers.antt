use Rattle.ql_turn.proofs.Appended.{all_stay}
use Rattle.ql_turn.proofs.notes.append_by_two.Goals as goal

pub returns-clause-low : goal.returns-clause-low
returns-clause-low g c = all_stay c.in-Ok.both.0 c.seat-second.new.from _ _ _ c.in_ok-first.was c.join-first.ensures.first _ _ c.rejoin.ensures.journal.0 c.close.ensures.journal

pub returns-clause-high : goal.returns-clause-high
returns-clause-high g c = all_stay c.in-Ok.both.0 c.seat-second.result _ _ _ c.in_ok-second.was c.join-first.ensures.second _ _ c.rejoin.ensures.journal.1 c.close.ensures.journal
