use Rattle.ql_meaning.specs.Context.{context_of}
use Rattle.ql_meaning.specs.Control.{core_machine}
use Rattle.ql_meaning.specs.Meaning.{program_world}
use Rattle.ql_top.proofs.Planned.{one_planned}
use Rattle.ql_top.proofs.laws.one_planned_schedule.Goals as goal

pub returns : goal.returns
returns c = λ names p limits. one_planned (core_machine (context_of p)) names limits (program_world p)
