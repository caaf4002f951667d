use Rattle.std.proofs.Common.{◌≡◌, drop, map, []}
use Rattle.ql_base.specs.Names.{with_names}
use Rattle.ql_base.specs.Reserved.{letters}
use Rattle.ql_base.proofs.names.texts_of.Given as goal

abbrev pub invariant-loop-word : goal.invariant-loop-word
invariant-loop-word l =
    with_names (map (λ t. t.items) l.texts.keys) (map letters (drop l.word-index l.words)) ≡ with_names [] (map letters l.words)
