-- The table of the reserved words holds each of them once.
use Rattle.std.proofs.Common.{subst, sym, ◌∙◌}
use Rattle.ql_base.specs.Names.{AreDistinct, IsTable}
use Rattle.ql_base.proofs.Places.{reserved_once, reserved_distinct, reserved_table}
use Rattle.ql_base.proofs.names.Names.new.Goals as goal

pub invariant_of-result : goal.invariant_of-result
invariant_of-result c = subst IsTable (sym (c.in_ok-texts.ensures ∙ reserved_once)) reserved_table

pub returns-clause-reserved : goal.returns-clause-reserved
returns-clause-reserved c = c.in_ok-texts.ensures ∙ reserved_once

pub returns-clause-distinct : goal.returns-clause-distinct
returns-clause-distinct c = subst AreDistinct (sym (c.in_ok-texts.ensures ∙ reserved_once)) reserved_distinct
