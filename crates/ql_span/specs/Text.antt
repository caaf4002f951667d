-- The lines that tell a span.
use Rattle.std.specs.Prelude.{ℕ, List, [], ◌∷◌, ◌++◌, codes, decimal}
use Rattle.ql_world.specs.Text.{and_numbers}
use Rattle.ql_span.specs.Chain.{Span}

-- a word and a number
abbrev pub number_line : List ℕ → ℕ → List ℕ
number_line word n = word ++ 32 ∷ decimal n ++ 10 ∷ []

-- the lines of a chain, each behind a space
abbrev pub chain_line : List ℕ → List ℕ
chain_line lines = codes "chain" ++ and_numbers lines ++ 10 ∷ []

abbrev pub span_text : Span → List ℕ
span_text s = number_line (codes "work") s.work ++ number_line (codes "span") s.span ++ chain_line s.chain
