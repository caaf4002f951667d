use Rattle.std.proofs.Common.{sym, ◌∙◌}
use Rattle.ql_tree.specs.Kill.{aimed_at}
use Rattle.ql_tree.proofs.Counts.{running-aimed}
use Rattle.ql_tree.proofs.Lists.{changed-at, changed-past}
use Rattle.ql_tree.proofs.persons.aim_at.Goals as goal

pub returns-in-Some-clause-aimed : goal.returns-in-Some-clause-aimed
returns-in-Some-clause-aimed c = changed-at (aimed_at c.args.aim) c.args.persons.now c.args.q c.in-Some.person (sym c.in-Some.ensures)

pub returns-in-Some-clause-running : goal.returns-in-Some-clause-running
returns-in-Some-clause-running c =
    rw (changed-at (aimed_at c.args.aim) c.args.persons.now c.args.q c.in-Some.person (sym c.in-Some.ensures)) (running-aimed c.args.aim c.args.persons.now c.args.q)

pub returns-in_default-clause-aimed : goal.returns-in_default-clause-aimed
returns-in_default-clause-aimed c = changed-past (aimed_at c.args.aim) c.args.persons.now c.args.q (sym c.person_at.ensures ∙ c.in_default.is)
