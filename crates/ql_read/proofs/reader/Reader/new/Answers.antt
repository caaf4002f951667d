use Rattle.std.proofs.Common.{refl, None, []}
use Rattle.ql_read.proofs.Taking.{taken_none, none_bad}
use Rattle.ql_read.specs.declared.token.Token.TheVariants.{Between}
use Rattle.ql_read.proofs.reader.Reader.new.Goals as goal

pub returns-clause-taken : goal.returns-clause-taken
returns-clause-taken c = taken_none None 0 Between c.in_ok-new.field-0 refl refl refl c.in_ok-new.ensures.nothing c.in_ok-new.ensures.names

pub invariant_of-result : goal.invariant_of-result
invariant_of-result c =
    record { taken_some = ∣ (λ e. ([], taken_none None 0 Between c.in_ok-new.field-0 refl refl refl c.in_ok-new.ensures.nothing c.in_ok-new.ensures.names)) ∣₁ }

pub returns-clause-no_fault : goal.returns-clause-no_fault
returns-clause-no_fault c = none_bad
