-- What is kept of a tree beside what contracts see.
use Rattle.std.specs.Prelude.{◌≡◌, ℕ, suc, ◌<◌, ◌^◌, if◌then◌else◌, List, [], ◌∷◌, length}
use Rattle.ql_world.specs.declared.world.Catch.{Catch}
use Rattle.ql_tree.specs.Tree.{Person}

-- how many haven't ended
abbrev pub running : List Person → ℕ
running [] = 0
running (r ∷ rs) = if r.ended then running rs else suc (running rs)

-- numbers of 32 bits count the processes and the catches, and how many haven't ended is known
pub record IsKept (persons : List Person) (catches : List Catch) (count : ℕ) : Type 0 where
  pub few_persons : length persons < 2 ^ 32
  pub few_catches : length catches < 2 ^ 32
  pub counted : count ≡ running persons
