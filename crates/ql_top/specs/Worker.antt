-- What one worker remembers.
use Rattle.ql_world.specs.Run as runs
use Rattle.ql_top.specs.declared.worker.Picked.{Picked}

abbrev pub picked_of : Picked → runs.Picked
picked_of last = record { process = last.process; ticks = last.ticks }
