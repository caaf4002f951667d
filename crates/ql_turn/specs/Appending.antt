-- What a thread that appends to notes leaves.
use Rattle.std.specs.Prelude.{◌≡◌, IsFalse, All, Contains, List}
use mathlib.Core.List.{IsPrefix}
use Rattle.ql_turn.specs.Passes.{IsPassOf, program_of, journal_seen, has_turn, part_count}
use Rattle.ql_turn.specs.declared.pass.PassOf.{PassOf}
use Rattle.ql_turn.specs.declared.turn.Turn.{Turn}

module _ {H P E : Type 0} where
  -- the pass goes on from the old one, and has seen each of the entries
  abbrev pub HasAppended : Turn H P E → PassOf H P E → List E → PassOf H P E → Type 0
  HasAppended turn old entries new =
      (IsPassOf turn new × IsFalse (has_turn new))
      × (program_of new ≡ program_of old) × IsPrefix (journal_seen old) (journal_seen new) × (part_count new ≡ part_count old)
      × All (Contains (journal_seen new)) entries
