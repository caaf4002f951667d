use Rattle.std.proofs.Common.{◌≡◌, ◌≤◌, ◌-◌, Some}
use Rattle.ql_replay.specs.Replay.{turned}
use Rattle.ql_replay.proofs.turn.take_turn.Given as goal

-- so many ticks of the turn were taken
abbrev pub invariant-ticks : goal.invariant-ticks
invariant-ticks g l = record {
  same : (g.H.Followed.host l.host ≡ g.H.Followed.host l.fn.host) × (g.H.Followed.line l.host ≡ g.H.Followed.line l.fn.host);
  within : l.taken ≤ l.n;
  so_far : turned (g.H.Followed.host l.fn.host) (g.H.Followed.world l.fn.host) l.p l.taken ≡ Some (g.H.Followed.world l.host);
}

abbrev pub decreases-ticks : goal.decreases-ticks
decreases-ticks g l = l.n - l.taken
