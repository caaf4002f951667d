use Rattle.std.proofs.Common.{sym, ap, ◌∙◌, suc, arith, List, map}
use Rattle.ql_code.specs.Machine.{Point}
use Rattle.ql_proc.specs.Points.{point_of}
use Rattle.ql_host.specs.Ready.{world}
use Rattle.ql_host.proofs.Picks.{free_from, greatest_at, not_free_at}
use Rattle.ql_host.proofs.Stepping.{past_all}
use Rattle.ql_host.proofs.pick.last_free.Goals as goal

pub scan-init : goal.scan-init
scan-init c =
    let w = world c.args.s c.args.shared.now c.args.procs.now in
    let ts : List Point = map point_of c.args.procs.now in
    ap (free_from c.args.s w c.args.away.now (suc c.count-at.result)) (past_all c.args.shared.now.tree.persons ts c.count-at.result (omega (arith, c.count-at.ensures)))

pub returns-then-is_free-clause-picked : goal.returns-then-is_free-clause-picked
returns-then-is_free-clause-picked c =
    let w = world c.args.s c.args.shared.now c.args.procs.now in
    sym (greatest_at c.args.s w c.args.away.now c.scan.at w.procs c.scan-test.true (sym c.is_free.ensures ∙ c.if-is_free.true) c.scan.invariant)

pub scan-preserved : goal.scan-preserved
scan-preserved c =
    let w = world c.args.s c.args.shared.now c.args.procs.now in
    not_free_at c.args.s w c.args.away.now c.scan.at w.procs c.scan-test.true (sym c.is_free.ensures ∙ c.if-is_free.false) c.scan.invariant
