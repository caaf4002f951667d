-- The line that a trial writes after what was printed.
use Rattle.std.specs.Prelude.{ℕ, List, [], ◌∷◌, ◌++◌, codes}
use Rattle.ql_world.specs.Text.{and_numbers, stop_text}
use Rattle.ql_world.specs.declared.event.Stop.{Stop}

-- its numbers, and how the run stopped
abbrev pub summary : (seed size : ℕ) → Stop → List ℕ
summary seed size stop = codes "trial" ++ and_numbers (seed ∷ size ∷ []) ++ stop_text stop ++ codes "\n"
