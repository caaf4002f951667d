use Rattle.std.proofs.Common.{◌≡◌, ◌≤◌, length, reverse, take}
use Rattle.ql_world.specs.Within.{tagged}
use Rattle.ql_tree.specs.Tree.{is_above}
use Rattle.ql_tree.proofs.catches.find.Given as goal

-- the older catches are still to be seen
abbrev pub invariant-loop-at : goal.invariant-loop-at
invariant-loop-at l = record {
  within : l.end ≤ length l.catches;
  rest : tagged (is_above l.floor) (reverse (take l.end l.catches)) l.tag l.at ≡ tagged (is_above l.floor) (reverse l.catches) l.tag l.fn.from;
}

abbrev pub decreases-loop-at : goal.decreases-loop-at
decreases-loop-at l = l.end
