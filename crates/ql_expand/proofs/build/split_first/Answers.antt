-- The first of some forms and the others have no fault where the forms have none.
use Rattle.std.proofs.Common.{subst}
use Rattle.ql_expand.specs.Building.{AreFine}
use Rattle.ql_expand.proofs.Fine.{fine_first}
use Rattle.ql_expand.proofs.build.split_first.Goals as goal

pub returns-clause-first : goal.returns-clause-first
returns-clause-first c = (fine_first _ _ (subst AreFine c.in-Some.ensures c.requires.fine)).0

pub returns-clause-others : goal.returns-clause-others
returns-clause-others c = (fine_first _ _ (subst AreFine c.in-Some.ensures c.requires.fine)).1
