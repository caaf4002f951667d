use Rattle.std.proofs.Common.{◌≡◌, drop}
use Rattle.ql_world.specs.declared.world.Aim.TheVariants.{Die as die}
use Rattle.ql_tree.specs.Kept.{running}
use Rattle.ql_tree.specs.Kill.{aimed_at, changed_at_each}
use Rattle.ql_tree.proofs.persons.kill_each.Given as goal

abbrev pub invariant-loop-n : goal.invariant-loop-n
invariant-loop-n l = record {
  killed : changed_at_each (aimed_at die) l.persons (drop l.n-index l.n-items) ≡ changed_at_each (aimed_at die) l.fn.persons l.n-items;
  running : running l.persons ≡ running l.fn.persons;
}
