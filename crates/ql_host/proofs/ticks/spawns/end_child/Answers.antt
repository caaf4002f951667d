use Rattle.std.proofs.Common.{List, Some, ap}
use Rattle.ql_world.specs.declared.world.Process.{Process}
use Rattle.ql_world.specs.declared.world.FutState.TheVariants.{Value as valued}
use Rattle.ql_world.specs.declared.event.Event.TheVariants.{EndOk as end_ok}
use Rattle.ql_world.specs.World.{counted, with_event, with_future}
use Rattle.ql_tree.specs.Joined.{joined-end}
use Rattle.ql_code.specs.Machine.{Point}
use Rattle.ql_host.specs.World.{world_of}
use Rattle.ql_host.proofs.ticks.spawns.end_child.Goals as goal

pub returns-clause-world : goal.returns-clause-world
returns-clause-world c threads =
    rw (c.set_ended.ensures, c.resolve.ensures, c.tell.ensures.same, c.tick.ensures.same)
    (ap (λ (ps : List (Process Point)). record (with_event (with_future (counted (world_of c.args.shared.now threads) c.args.p) c.args.f (valued c.args.w)) (end_ok c.args.p (Some c.args.text))) { procs = ps })
    (joined-end c.args.shared.now.tree.persons threads c.args.p))
