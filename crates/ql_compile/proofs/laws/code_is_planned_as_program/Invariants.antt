use Rattle.ql_expand.specs.Core.{Program}
use Rattle.ql_meaning.specs.Context.{context_of}
use Rattle.ql_meaning.specs.Control.{Thread, Closure, core_machine}
use Rattle.ql_code.specs.Machine.{Point, Entry, code_machine}
use Rattle.ql_compile.proofs.Simulation.{ops_of, Alike, SameClosures}
use Rattle.ql_compile.proofs.laws.code_is_planned_as_program.Given as goal

-- the machines of core and of compiled code, of every program
abbrev pub ghosts-followers_are_planned_alike : goal.ghosts-followers_are_planned_alike
ghosts-followers_are_planned_alike a = record {
  index = Program;
  process = Thread;
  closure = Closure;
  point = Point;
  entry = Entry;
  machine = λ p. core_machine (context_of p);
  follower = λ p. code_machine (ops_of p);
  related = Alike;
  alike = SameClosures;
}
