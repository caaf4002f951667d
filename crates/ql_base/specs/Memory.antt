-- Ends in memory: what they hold, and which of their calls fail.
use Rattle.std.specs.Prelude.{◌==◌, ◌&&◌, ◌||◌, ◌≤◌, ℕ, ◌+◌, ◌-◌, min, Bool, not, List, ◌++◌, length, drop}
use Rattle.std.specs.List.{list_any}
use Rattle.ql_base.specs.Outside.{most}

-- one more, or the greatest value of a count
abbrev pub one_more : ℕ → ℕ
one_more n = min (n + 1) most

-- what a source in memory is before a call
pub record MemSourceState : Type 0 where
  -- the bytes that are left
  pub rest : List ℕ
  -- the most bytes that a call gives
  pub piece : ℕ
  -- the numbers of the calls that fail, from 1
  pub fails : List ℕ
  -- how many calls there were
  pub calls : ℕ
  -- how many of them failed
  pub faults : ℕ

-- whether the next call fails
abbrev pub read_fails : MemSourceState → Bool
read_fails s = list_any (λ k. k == one_more s.calls) s.fails

-- how many bytes the next call gives into so much room
abbrev pub read_count : ℕ → MemSourceState → ℕ
read_count room s = min (min (length s.rest) s.piece) room

-- the source after a call that gave so many bytes
abbrev pub has_given : ℕ → MemSourceState → MemSourceState
has_given n s = record s { rest = drop n s.rest; calls = one_more s.calls }

-- the source after a call that failed
abbrev pub read_failed : MemSourceState → MemSourceState
read_failed s = record s { calls = one_more s.calls; faults = one_more s.faults }

-- what a sink in memory is before a call
pub record MemSinkState : Type 0 where
  -- the bytes that it holds
  pub held : List ℕ
  -- how many bytes it can hold
  pub room : ℕ
  -- the most bytes that a call takes
  pub piece : ℕ
  -- the numbers of the calls that fail, from 1
  pub fails : List ℕ
  -- how many calls there were
  pub calls : ℕ
  -- how many of them failed
  pub faults : ℕ

-- whether the next call fails, at these bytes
abbrev pub write_fails : List ℕ → MemSinkState → Bool
write_fails bytes s = list_any (λ k. k == one_more s.calls) s.fails || (s.room - length s.held == 0 && not (length bytes == 0))

-- how many of these bytes the next call takes
abbrev pub write_count : List ℕ → MemSinkState → ℕ
write_count bytes s = min (min (length bytes) s.piece) (s.room - length s.held)

-- the sink after a call that took these bytes
abbrev pub has_taken : List ℕ → MemSinkState → MemSinkState
has_taken bytes s = record s { held = s.held ++ bytes; calls = one_more s.calls }

-- the sink after a call that failed
abbrev pub write_failed : MemSinkState → MemSinkState
write_failed s = record s { calls = one_more s.calls; faults = one_more s.faults }

-- the place is within the bytes, and a call may give one
pub record IsWithinBytes (at len piece : ℕ) : Type 0 where
  pub within : at ≤ len
  pub gives : 1 ≤ piece

-- the bytes fit the room, for all of which there is memory, and a call may take one
pub record IsWithinRoom (len room capacity piece : ℕ) : Type 0 where
  pub fits : len ≤ room
  pub reserved : room ≤ capacity
  pub takes : 1 ≤ piece
