-- What contracts see of a pass.
use Rattle.std.specs.Prelude.{◌≡◌, ℕ, Bool, List, Option}
use Rattle.ql_turn.specs.Views.{parts_of, program_in, journal_in, is_holding}
use Rattle.ql_turn.specs.declared.pass.PassOf.{PassOf}
use Rattle.ql_turn.specs.declared.turn.Turn.{Turn}

module _ {H P E : Type 0} where
  -- it is a pass of this turn
  abbrev pub IsPassOf : Turn H P E → PassOf H P E → Type 0
  IsPassOf turn pass = pass.seat.table_id ≡ turn.table.shared.table_id

  -- the program of each value that it is given. Every pass has one
  abbrev pub program_of : PassOf H P E → Option P
  program_of pass = program_in pass.seat.me.0

  abbrev pub journal_seen : PassOf H P E → List E
  journal_seen pass = journal_in pass.seat.me.0

  abbrev pub has_turn : PassOf H P E → Bool
  has_turn pass = is_holding pass.seat.me.0

  abbrev pub part_count : PassOf H P E → ℕ
  part_count pass = parts_of pass.seat.me.0
