use Rattle.std.proofs.Common.{◌≡◌, ◌+◌, ◌-◌, ◌++◌}
use Rattle.ql_vectors.specs.GenText.{head, lines}
use Rattle.ql_vectors.proofs.generate.generate.Given as goal

abbrev pub invariant-blocks-2 : goal.invariant-blocks-2
invariant-blocks-2 l = l.text.items ++ lines l.state l.number (l.size + 1 - l.number) ≡ head ++ lines l.fn.seed 1 l.fn.size
