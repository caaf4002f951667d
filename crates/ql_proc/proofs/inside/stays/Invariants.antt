use Rattle.std.proofs.Common.{◌≡◌, ◌++◌, length, reverse}
use Rattle.std.specs.Prelude.{option_to_list}
use Rattle.ql_proc.specs.Inside.{stays}
use Rattle.ql_proc.proofs.inside.stays.Given as goal

abbrev pub invariant-silent : goal.invariant-silent
invariant-silent l =
    stays l.code.instructions l.mark l.left l.place (option_to_list l.top ++ reverse l.under)
    ≡ stays l.code.instructions l.mark (length l.code.instructions) l.fn.place (option_to_list l.fn.top ++ reverse l.fn.under)

abbrev pub decreases-silent : goal.decreases-silent
decreases-silent l = l.left
