-- For proofs alone: what is still to be written of a value's text.
use Rattle.std.specs.Prelude.{ℕ, List, [], ◌∷◌, ◌++◌, length}
use Rattle.ql_world.specs.Word.{Word}
use Rattle.ql_world.specs.Text.{text_within, tail_within, IsBefore}
use Rattle.ql_world.specs.declared.text.Part.{Part}
use Rattle.ql_world.specs.declared.text.Part.TheVariants.{Item, Rest}

module _ (names : List (List ℕ)) (pairs : List (Word × Word)) where
  abbrev pub part_text : Part → List ℕ
  part_text (Item w) = text_within names pairs (length pairs) w
  part_text (Rest w) = tail_within names pairs (length pairs) w

  -- of these parts the last one comes first
  abbrev pub parts_text : List Part → List ℕ
  parts_text [] = []
  parts_text (p ∷ ps) = parts_text ps ++ part_text p

abbrev pub IsPartBefore : ℕ → Part → Type 0
IsPartBefore n (Item w) = IsBefore n w
IsPartBefore n (Rest w) = IsBefore n w

abbrev pub ArePartsBefore : ℕ → List Part → Type 0
ArePartsBefore n [] = Unit {0}
ArePartsBefore n (p ∷ ps) = IsPartBefore n p × ArePartsBefore n ps
