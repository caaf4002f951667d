use Rattle.std.proofs.Common.{sym, ◌∙◌, true}
use Rattle.ql_tree.proofs.Lists.{changed-at, changed-past, numbered-within}
use Rattle.ql_tree.proofs.Counts.{running-end}
use Rattle.ql_tree.proofs.persons.end.Goals as goal

pub returns-in_default-clause-ended : goal.returns-in_default-clause-ended
returns-in_default-clause-ended c = changed-past (λ r. record r { ended = true }) c.args.persons.now c.args.q (sym c.person_at.ensures ∙ c.in_default.is)

pub bounds-persons-q : goal.bounds-persons-q
bounds-persons-q c = numbered-within c.args.persons.now c.args.q c.in-Some.person (sym c.in-Some.ensures)

pub returns-clause-ended : goal.returns-clause-ended
returns-clause-ended c = changed-at (λ r. record r { ended = true }) c.args.persons.now c.args.q c.in-Some.person (sym c.in-Some.ensures)

pub returns-clause-counted : goal.returns-clause-counted
returns-clause-counted c =
    let found = sym c.in-Some.ensures in
    rw (changed-at (λ r. record r { ended = true }) c.args.persons.now c.args.q c.in-Some.person found) (running-end c.args.persons.now c.args.q c.in-Some.person found)
