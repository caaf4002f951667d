use Rattle.std.proofs.Common.{◌≡◌, suc, reverse, drop}
use Rattle.ql_world.specs.Within.{all_from}
use Rattle.ql_tree.specs.Tree.{is_done}
use Rattle.ql_tree.proofs.persons.ended_only.Given as goal

abbrev pub invariant-loop-i : goal.invariant-loop-i
invariant-loop-i l =
    all_from (is_done (reverse l.catches) l.p l.c) (suc l.i) (drop l.i l.persons) ≡ all_from (is_done (reverse l.catches) l.p l.c) 1 l.persons
