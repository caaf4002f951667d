use Rattle.std.proofs.Common.{◌≡◌, ◌-◌, drop}
use Rattle.std.specs.List.{flat_map}
use Rattle.ql_world.specs.Idle.{all_killed, reply_of, unanswered}
use Rattle.ql_calls.specs.Unanswered.{reply_places}
use Rattle.ql_host.proofs.kill.kill_unanswered.Given as goal

abbrev pub invariant-places : goal.invariant-places
invariant-places l =
    (record l.futures { states = all_killed (flat_map reply_of (drop l.at (reply_places l.server))) l.futures.states })
    ≡ (record l.fn.futures { states = all_killed (unanswered l.server) l.fn.futures.states })

abbrev pub decreases-places : goal.decreases-places
decreases-places l = l.places - l.at
