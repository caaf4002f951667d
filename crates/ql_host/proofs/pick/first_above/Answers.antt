use Rattle.std.proofs.Common.{sym, ap, ◌∙◌, suc, add-one, arith, List, map}
use Rattle.ql_world.specs.Run.{least}
use Rattle.ql_code.specs.Machine.{Point}
use Rattle.ql_proc.specs.Points.{point_of}
use Rattle.ql_host.specs.Ready.{world}
use Rattle.ql_host.proofs.Picks.{free_from, above_is, not_free, least_is}
use Rattle.ql_host.proofs.Stepping.{past_all}
use Rattle.ql_host.proofs.pick.first_above.Goals as goal

pub scan-init : goal.scan-init
scan-init c =
    let w = world c.args.s c.args.shared.now c.args.procs.now in
    sym (above_is c.args.s w c.args.away.now c.args.last w.procs)

pub returns-then-is_free-clause-picked : goal.returns-then-is_free-clause-picked
returns-then-is_free-clause-picked c =
    let w = world c.args.s c.args.shared.now c.args.procs.now in
    rw add-one (sym (least_is c.args.s w c.args.away.now c.scan.at (suc c.scan.at) w.procs (rw add-one at (sym c.is_free.ensures ∙ c.if-is_free.true)))) ∙ c.scan.invariant

pub scan-preserved : goal.scan-preserved
scan-preserved c =
    let w = world c.args.s c.args.shared.now c.args.procs.now in
    rw add-one (ap least (sym (not_free c.args.s w c.args.away.now c.scan.at (suc c.scan.at) w.procs (rw add-one at (sym c.is_free.ensures ∙ c.if-is_free.false)))) ∙ c.scan.invariant)

pub returns-clause-picked : goal.returns-clause-picked
returns-clause-picked c =
    let w = world c.args.s c.args.shared.now c.args.procs.now in
    let ts : List Point = map point_of c.args.procs.now in
    ap (λ qs. least (free_from c.args.s w c.args.away.now (suc c.scan.at) qs)) (sym (past_all c.args.shared.now.tree.persons ts c.scan.at (omega (arith, c.scan-test.false, c.count-count.ensures)))) ∙ c.scan.invariant
