-- Room for more things, which numbers of 32 bits count.
use Rattle.std.specs.Prelude.{ℕ, ◌-◌, min}

-- for how many more there is room, where there is memory for so many, and this many are there
abbrev pub room : (capacity count : ℕ) → ℕ
room capacity count = min capacity 4294967295 - count
