use Rattle.std.proofs.Common.{◌≡◌, suc, ◌++◌, reverse, drop, take, length}
use Rattle.ql_world.specs.Run.{those_from}
use Rattle.ql_tree.specs.Kill.{is_killed}
use Rattle.ql_tree.proofs.persons.push_killed.Given as goal

abbrev pub invariant-loop-i : goal.invariant-loop-i
invariant-loop-i l = record {
  begins : take (length l.fn.killed.items) l.killed.items ≡ l.fn.killed.items;
  rest : l.killed.items ++ those_from (is_killed (reverse l.catches) l.c l.owner) (suc l.i) (drop l.i l.persons)
      ≡ l.fn.killed.items ++ those_from (is_killed (reverse l.catches) l.c l.owner) 1 l.persons;
}
