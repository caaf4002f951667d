use Rattle.std.proofs.Common.{List, ap}
use Rattle.ql_world.specs.declared.event.Event.TheVariants.{Take as take}
use Rattle.ql_world.specs.World.{ProcessClosure, counted, with_event}
use Rattle.ql_code.specs.Machine.{Entry}
use Rattle.ql_host.specs.World.{world_of}
use Rattle.ql_host.proofs.ServerRows.{next_taken, next_server, next_number}
use Rattle.ql_host.proofs.ticks.calls.take_next.Goals as goal

pub returns-in-Some-clause-world : goal.returns-in-Some-clause-world
returns-in-Some-clause-world c threads s d ds e g =
    let servers = c.args.shared.now.calls.servers in
    let k = c.args.k in
    rw (c.tell.ensures.same, c.tick.ensures.same, c.take.ensures.taken, next_number servers k s d ds e g c.take.result c.in-Some.n c.take.ensures.number c.in-Some.is)
    (ap (λ (ss : List (ProcessClosure Entry)). record (with_event (counted (world_of c.args.shared.now threads) c.args.p) (take c.args.p k d.number)) { servers = ss }) (next_taken servers k s d ds e g))

pub returns-in-Some-clause-server : goal.returns-in-Some-clause-server
returns-in-Some-clause-server c s d ds e g =
    rw (c.take.ensures.taken) (next_server c.args.shared.now.calls.servers c.args.k s d ds e g)
