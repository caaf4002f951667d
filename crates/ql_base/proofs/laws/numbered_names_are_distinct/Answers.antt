use Rattle.ql_base.specs.Names.{reserved}
use Rattle.ql_base.proofs.Places.{distinct_all, reserved_distinct}
use Rattle.ql_base.proofs.laws.numbered_names_are_distinct.Goals as goal

pub returns : goal.returns
returns c texts = distinct_all reserved texts reserved_distinct
