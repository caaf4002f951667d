use Rattle.ql_top.proofs.Refusals.{not_refused}
use Rattle.ql_top.proofs.laws.programs_are_accepted.Goals as goal

pub returns : goal.returns
returns c = not_refused c.spells_at_most_one.ensures c.numbered_names_are_distinct.ensures c.numbered_at_most_one.ensures c.expands_to_at_most_one.ensures
