use Rattle.std.proofs.Common.{◌≡◌, ◌≤◌, length, reverse, take}
use Rattle.ql_world.specs.Within.{is_over}
use Rattle.ql_tree.proofs.catches.is_over.Given as goal

-- the older catches are still to be seen
abbrev pub invariant-loop-at : goal.invariant-loop-at
invariant-loop-at l = record {
  within : l.end ≤ length l.catches;
  rest : is_over (reverse (take l.end l.catches)) l.c l.at ≡ is_over (reverse l.catches) l.c l.fn.d;
}

abbrev pub decreases-loop-at : goal.decreases-loop-at
decreases-loop-at l = l.end
