-- Windows of slots and marks. All of it is for proofs.
use Rattle.std.specs.Prelude.{ℕ, ◌+◌, ◌-◌, min, List, [], ◌∷◌}
use Rattle.ql_code.specs.declared.mark.Mark.{Mark}
use Rattle.ql_proc.specs.declared.stack.Marker.{Marker}
use Rattle.ql_proc.specs.Stacked.{base_of, marker_on}

-- a mark, and how many of the slots from a height on stand under it
abbrev pub top_over : ℕ → Marker → Mark × ℕ
top_over h m = (m.mark, m.height - h)

-- a height that is so much raised and then so much lowered
abbrev pub shifted : (up down : ℕ) → ℕ → ℕ
shifted up down h = min (h + up) 18446744073709551615 - down

-- a mark at its new height, put on others that have the topmost first
abbrev pub put_on : (ℕ → ℕ) → List Marker → Marker → List Marker
put_on f bs m = marker_on bs m.mark (f m.height) (base_of bs) ∷ bs

-- the same of marks that have the topmost last
abbrev pub put_all : (ℕ → ℕ) → List Marker → List Marker → List Marker
put_all f bs [] = bs
put_all f bs (m ∷ ms) = put_all f (put_on f bs m) ms
