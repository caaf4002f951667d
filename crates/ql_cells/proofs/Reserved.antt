-- Names that were tested.
use Rattle.std.proofs.Common.{◌≡◌, refl, ℕ, zero, suc, Bool, true, false, ◌&&◌, List, [], ◌∷◌, length, leb, leb-true}
use Rattle.ql_world.specs.Short.{ArePrinted}
use Rattle.ql_cells.specs.Names.{ArePrintedNames}

abbrev is_printed : List ℕ → Bool
is_printed [] = true
is_printed (b ∷ bs) = leb 32 b && (leb b 126 && is_printed bs)

abbrev are_printed : List (List ℕ) → Bool
are_printed [] = true
are_printed (name ∷ names) = leb 1 (length name) && (is_printed name && are_printed names)

both : (a b : Bool) → (a && b) ≡ true → (a ≡ true) × (b ≡ true)
both true b h = (refl, h)
both false b h = absurd cc

printed : (bs : List ℕ) → is_printed bs ≡ true → ArePrinted bs
printed [] h = tt
printed (b ∷ bs) h =
    let p = both (leb 32 b) (leb b 126 && is_printed bs) h in
    let q = both (leb b 126) (is_printed bs) p.1 in
    (leb-true 32 b p.0, leb-true b 126 q.0, printed bs q.1)

pub each_printed : (names : List (List ℕ)) → are_printed names ≡ true → ArePrintedNames names
each_printed [] h n text e = absurd cc
each_printed (name ∷ names) h zero text e =
    let p = both (leb 1 (length name)) (is_printed name && are_printed names) h in
    let q = both (is_printed name) (are_printed names) p.1 in
    let same : name ≡ text = cc in
    rw (← same) (record { some = leb-true 1 (length name) p.0; printed = printed name q.0 })
each_printed (name ∷ names) h (suc n) text e =
    let p = both (leb 1 (length name)) (is_printed name && are_printed names) h in
    let q = both (is_printed name) (are_printed names) p.1 in
    each_printed names q.1 n text e
