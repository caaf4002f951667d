-- The program that a value stands for.
use Rattle.std.specs.Prelude.{map}
use Rattle.ql_expand.specs.Core as spec
use Rattle.ql_expand.specs.Core.{program}
use Rattle.ql_expand.specs.View.{cores_of, function_of}
use Rattle.ql_expand.specs.declared.program.Program.{Program}

abbrev pub program_of : Program → spec.Program
program_of p = program (map function_of p.functions) p.globals (cores_of p.body)
