-- What a run has made: pairs, boxes and closures.
use Rattle.std.specs.Prelude.{ℕ, ◌+◌, ◌-◌, min, leb, Bool, List}
use Rattle.ql_world.specs.declared.word.Word.{Word}
use Rattle.ql_world.specs.declared.world.Closure.{Closure}

pub record Cells : Type 0 where
  -- how many may be made
  pub limit : ℕ
  -- the quoted ones first
  pub pairs : List (Word × Word)
  pub boxes : List Word
  pub closures : List Closure
  -- how many were made: the quoted pairs weren't
  pub made : ℕ
  -- for how many more of each kind there is room
  pub spare : ℕ

-- whether so many more may be made
abbrev pub allows : Cells → ℕ → Bool
allows c n = leb (c.made + n) c.limit

-- numbers have 32 bits
abbrev pub most_numbers : ℕ
most_numbers = 4294967295

-- for how many more of one kind there are both memory and numbers
abbrev pub spare_of : (capacity length : ℕ) → ℕ
spare_of capacity length = min capacity most_numbers - length
