use Rattle.std.proofs.Common.{◌∙◌, List, map}
use Rattle.std.specs.Prelude.{drop as without_first}
use Rattle.ql_world.specs.declared.world.Aim.TheVariants.{To as to}
use Rattle.ql_code.specs.Machine.{Point, unwind_point, aim_cleanup}
use Rattle.ql_proc.specs.Points.{point_of}
use Rattle.ql_host.specs.declared.shared.Shared.{Shared}
use Rattle.ql_host.proofs.CatchRows.{given_thread}
use Rattle.ql_host.proofs.ticks.catches.throw_within.Goals as goal

pub returns-clause-world : goal.returns-clause-world
returns-clause-world c code t e =
    let killed : Shared = c.kill_within.new.shared in
    let us : List Point = map point_of c.kill_within.new.procs in
    let vs : List Point = map point_of c.throw_at.new.procs in
    let u : Point = unwind_point t.place (aim_cleanup (to c.args.c c.args.w) (without_first 2 t.stack.items)) in
    given_thread killed us vs c.args.p u (c.throw_at.ensures.points t (c.kill_within.ensures.spared ∙ e)) ∙ c.kill_within.ensures.world code u
