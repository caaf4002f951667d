use Rattle.std.proofs.Common.{◌≡◌, ◌≤◌, ◌+◌, ◌-◌, drop, suc, length}
use Rattle.ql_world.specs.Run.{those_from}
use Rattle.ql_tree.specs.Kill.{is_killed, killed_numbers}
use Rattle.ql_host.proofs.kill.count_killed.Given as goal

abbrev pub invariant-count : goal.invariant-count
invariant-count l = record {
  few : l.killed ≤ l.at;
  rest : l.killed + length (those_from (is_killed l.tree.catches l.c l.owner) (suc l.at) (drop l.at l.tree.persons)) ≡ length (killed_numbers l.tree.catches l.c l.owner l.tree.persons);
}

abbrev pub decreases-count : goal.decreases-count
decreases-count l = l.count - l.at
