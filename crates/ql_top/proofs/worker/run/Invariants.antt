use Rattle.ql_top.specs.Worker.{picked_of}
use Rattle.ql_top.proofs.Working.{IsWorked, left}
use Rattle.ql_top.proofs.worker.run.Given as goal

-- it is a run of this code as far as one worker has brought it
abbrev pub invariant-rounds : goal.invariant-rounds
invariant-rounds l = IsWorked l.fn.code l.fn.names l.fn.limits l.host (picked_of l.last)

abbrev pub decreases-rounds : goal.decreases-rounds
decreases-rounds l = left l.host
