use Rattle.std.proofs.Common.{ap, ◌∙◌, List, map}
use Rattle.ql_world.specs.declared.world.Aim.TheVariants.{To as to}
use Rattle.ql_world.specs.declared.world.Process.{Process}
use Rattle.ql_world.specs.Idle.{killed_within}
use Rattle.ql_tree.specs.declared.person.Person.{Person}
use Rattle.ql_code.specs.Machine.{Point, code_machine}
use Rattle.ql_proc.specs.Points.{point_of}
use Rattle.ql_host.specs.declared.shared.Shared.{Shared}
use Rattle.ql_host.specs.World.{world_of}
use Rattle.ql_host.specs.Killing.{owner_aimed}
use Rattle.ql_host.proofs.Killing.{unwound_aim, length_changed}
use Rattle.ql_host.proofs.CatchRows.{same_all}
use Rattle.ql_host.proofs.ticks.catches.throw_to.Goals as goal

pub returns-clause-world : goal.returns-clause-world
returns-clause-world c code =
    let m = code_machine code in
    let n = c.args.owner in
    let a = to c.args.c c.args.w in
    let killed : Shared = c.kill_within.new.shared in
    let ts : List Point = map point_of c.args.procs.now in
    let us : List Point = map point_of c.kill_within.new.procs in
    let vs : List Point = map point_of c.unwind_at.new.procs in
    rw c.aim_at.ensures
    (ap (λ (qs : List (Process Point)). record (world_of killed us) { procs = qs }) (unwound_aim m killed.tree.persons us vs n a (c.unwind_at.ensures.points code))
    ∙ ap (λ w. owner_aimed m w n a) (same_all (world_of killed us) (killed_within m (world_of c.args.shared.now ts) c.args.c n) (c.kill_within.ensures.world code)))

pub returns-clause-persons : goal.returns-clause-persons
returns-clause-persons c =
    rw c.aim_at.ensures (length_changed (λ (r : Person). record r { aim = to c.args.c c.args.w }) c.kill_within.new.shared.tree.persons c.args.owner ∙ c.kill_within.ensures.persons)
