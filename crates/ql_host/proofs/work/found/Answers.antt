use Rattle.std.proofs.Common.{◌≡◌, ◌∙◌, sym, ap, arith, ◌-◌}
use Rattle.std.specs.Prelude.{map}
use Rattle.ql_tree.specs.Persons.{joined}
use Rattle.ql_world.specs.World.{numbered}
use Rattle.ql_proc.specs.Points.{point_of}
use Rattle.ql_host.proofs.Stepping.{no_person}
use Rattle.ql_host.proofs.Works.{no_thread_at}
use Rattle.ql_host.proofs.work.found.Goals as goal

pub returns-in_default : goal.returns-in_default
returns-in_default c = no_person c.args.shared.now.tree.persons c.args.procs.now c.args.p (sym c.person.ensures ∙ c.in_default.is)

pub returns-then-p-eq0 : goal.returns-then-p-eq0
returns-then-p-eq0 c = ap (numbered (joined c.args.shared.now.tree.persons (map point_of c.args.procs.now))) (let e : c.args.p ≡ 0 = grind (arith, c.if-p-eq0.true) in e)

pub returns-then-i-procs : goal.returns-then-i-procs
returns-then-i-procs c =
    no_thread_at c.args.shared.now.tree.persons c.args.procs.now c.args.p (c.args.p - 1) (grind (arith, c.if-p-eq0.false)) (grind (arith, c.if-i-procs.true))
