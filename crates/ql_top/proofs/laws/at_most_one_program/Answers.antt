use Rattle.ql_top.proofs.Refusals.{same_source, same_source_names}
use Rattle.ql_top.proofs.laws.at_most_one_program.Goals as goal

pub returns : goal.returns
returns c = record {
  programs = same_source c.spells_at_most_one.ensures c.numbered_names_are_distinct.ensures c.numbered_at_most_one.ensures c.expands_to_at_most_one.ensures;
  names = same_source_names c.spells_at_most_one.ensures c.numbered_names_are_distinct.ensures c.numbered_at_most_one.ensures c.expands_to_at_most_one.ensures;
}
