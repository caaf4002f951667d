use Rattle.std.proofs.Common.{◌∙◌, sym}
use Rattle.ql_expand.specs.ProgramView.{program_of}
use Rattle.ql_scope.specs.Scope.{program_faults}
use Rattle.ql_scope.specs.Scoped.{HasScope}
use Rattle.ql_base.specs.Refusal.{none_found}
use Rattle.ql_scope.proofs.check.check.Goals as goal

pub returns-clause-in_scope : goal.returns-clause-in_scope
returns-clause-in_scope c = none_found (program_faults (program_of c.args.program)) (sym c.in-Ok.ensures.first ∙ c.in-None.is)

pub invariant_of-result : goal.invariant_of-result
invariant_of-result c =
    let fine : HasScope (program_of c.args.program) c.args.program.names c.in-Ok.field-0.stored.keys = record {
      expanded = c.requires.expanded;
      in_scope = none_found (program_faults (program_of c.args.program)) (sym c.in-Ok.ensures.first ∙ c.in-None.is);
      stored = c.in-Ok.ensures.stored;
    } in
    record { scoped = ∣ fine ∣₁ }
