use Rattle.ql_top.proofs.Refusals.{one_refusal}
use Rattle.ql_top.proofs.laws.refused_at_most_once.Goals as goal

pub returns : goal.returns
returns c = one_refusal c.spells_at_most_one.ensures c.numbered_names_are_distinct.ensures c.numbered_at_most_one.ensures c.expands_to_at_most_one.ensures c.a_text_has_at_most_one_fault.ensures
