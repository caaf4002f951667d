use Rattle.std.proofs.Common.{◌≡◌, ◌++◌, drop, map}
use Rattle.ql_compile.specs.declared.captured.Taken.{Taken}
use Rattle.ql_compile.proofs.captured.slots_of.Given as goal

abbrev pub invariant-loop-variable : goal.invariant-loop-variable
invariant-loop-variable l = l.slots.items ++ map (λ (t : Taken). t.slot) (drop l.variable-index l.taken) ≡ map (λ (t : Taken). t.slot) l.taken
