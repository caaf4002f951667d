use Rattle.std.proofs.Common.{refl, sym, ap, ◌∙◌, suc, map, List, add-one, arith}
use Rattle.ql_world.specs.declared.world.Process.{Process}
use Rattle.ql_world.specs.Within.{all_from}
use Rattle.ql_tree.specs.Persons.{joined}
use Rattle.ql_code.specs.Machine.{Point}
use Rattle.ql_proc.specs.Points.{point_of}
use Rattle.ql_host.specs.Ready.{machine, world}
use Rattle.ql_host.specs.Waiting.{is_away}
use Rattle.ql_host.proofs.Stepping.{all_next, not_all, past_all}
use Rattle.ql_host.proofs.ready.is_clear.Goals as goal

pub scan-init : goal.scan-init
scan-init c = refl

pub returns-then-not-is_away : goal.returns-then-not-is_away
returns-then-not-is_away c =
    let qs : List (Process Point) = joined c.args.shared.now.tree.persons (map point_of c.args.procs.now) in
    let f = is_away (machine c.args.s) (world c.args.s c.args.shared.now c.args.procs.now) c.args.enough c.args.p c.args.c in
    sym (not_all f c.scan.seen (suc c.scan.seen) qs (rw add-one at (sym c.is_away.ensures ∙ c.if-not-is_away.true))) ∙ c.scan.invariant

pub scan-preserved : goal.scan-preserved
scan-preserved c =
    let qs : List (Process Point) = joined c.args.shared.now.tree.persons (map point_of c.args.procs.now) in
    let f = is_away (machine c.args.s) (world c.args.s c.args.shared.now c.args.procs.now) c.args.enough c.args.p c.args.c in
    rw add-one (sym (all_next f c.scan.seen (suc c.scan.seen) qs (rw add-one at (sym c.is_away.ensures ∙ c.if-not-is_away.false))) ∙ c.scan.invariant)

pub returns : goal.returns
returns c =
    let ts : List Point = map point_of c.args.procs.now in
    let f = is_away (machine c.args.s) (world c.args.s c.args.shared.now c.args.procs.now) c.args.enough c.args.p c.args.c in
    sym (ap (all_from f (suc c.scan.seen)) (past_all c.args.shared.now.tree.persons ts c.scan.seen (omega (arith, c.scan-test.false, c.count-count.ensures)))) ∙ c.scan.invariant
