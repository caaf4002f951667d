use Rattle.std.proofs.Common.{◌≤◌, length, drop}
use Rattle.ql_replay.proofs.Dues.{NoTurns}
use Rattle.ql_replay.proofs.run.up_to_turn.Given as goal

-- none of the events from here on is a turn
abbrev pub invariant-events : goal.invariant-events
invariant-events l = record {
  within : l.at ≤ length l.events;
  none : NoTurns (drop l.at l.events);
}

abbrev pub decreases-events : goal.decreases-events
decreases-events l = l.at
