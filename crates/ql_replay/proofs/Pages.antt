-- The next byte of a book.
use Rattle.std.proofs.Common.{◌≡◌, ℕ, zero, suc, ◌+◌, ◌-◌, ◌<◌, ◌≤◌, List, [], ◌∷◌, length, get_or, drop, take, drop-cons, Option, Some, None, refl, sym, ap, ◌∙◌, subst, arith}
use Rattle.ql_base.specs.Outside.{Reads}
use Rattle.ql_replay.specs.Page.{Fills, first_of}

-- the first of the bytes between two places
pub first_between : (bytes : List ℕ) (from to d : ℕ) → from < to → to ≤ length bytes → first_of (take (to - from) (drop from bytes)) ≡ Some (get_or bytes from d)
first_between bytes from to d l m =
    let low : from < length bytes = omega (arith, l, m) in
    let e : drop from bytes ≡ get_or bytes from d ∷ drop (suc from) bytes = drop-cons bytes from d low in
    ap (λ (r : List ℕ). first_of (take (to - from) r)) e ∙ first_taken (to - from) (get_or bytes from d) (drop (suc from) bytes) (omega (arith, l))
  where
    first_taken : (n b : ℕ) (rest : List ℕ) → 0 < n → first_of (take n (b ∷ rest)) ≡ Some b
    first_taken zero b rest l = absurd (omega (arith, l))
    first_taken (suc n) b rest l = refl

-- where there is none
pub none_between : (bytes : List ℕ) (from to : ℕ) → from ≤ to → (from < to → ⊥) → first_of (take (to - from) (drop from bytes)) ≡ None
none_between bytes from to l n =
    let e : to - from ≡ 0 = none from to l n in rw e refl
  where
    none : (i j : ℕ) → i ≤ j → (i < j → ⊥) → j - i ≡ 0
    none zero zero l n = refl
    none zero (suc j) l n = absurd (n (omega arith))
    none (suc i) zero l n = absurd (omega (arith, l))
    none (suc i) (suc j) l n = let r = none i j (omega (arith, l)) (λ k. n (omega (arith, k))) in omega (arith, r)

-- what was read
pub filled : (room : ℕ) (bytes : List ℕ) (old new : Option (List ℕ)) → 0 < room → Reads room bytes old new → Fills old bytes new
filled room bytes None None l h = (tt, λ e. tt)
filled room bytes None (Some new) l h = absurd h
filled room bytes (Some old) None l h = absurd h
filled room bytes (Some old) (Some new) l h = (h.0, λ e. h.1 e l)

pub none_first : (page : List ℕ) → first_of page ≡ None → page ≡ []
none_first [] e = refl
none_first (b ∷ bs) e = absurd cc

pub some_first : (page : List ℕ) (b : ℕ) → first_of page ≡ Some b → (rest : List ℕ) × (page ≡ b ∷ rest)
some_first [] b e = absurd cc
some_first (x ∷ xs) b e = let s : x ≡ b = cc in (xs, ap (λ (z : ℕ). z ∷ xs) s)

-- without the first
pub after_first : (bytes page : List ℕ) (from to : ℕ) → take (to - from) (drop from bytes) ≡ page → 0 < length page → to ≤ length bytes → take (to - (from + 1)) (drop (from + 1) bytes) ≡ drop 1 page
after_first bytes page from to e l m =
    let some : 0 < to - from = some_left (to - from) (drop from bytes) (subst (λ (p : List ℕ). 0 < length p) (sym e) l) in
    let low : from < length bytes = omega (arith, some, m) in
    let n : to - from ≡ suc (to - (from + 1)) = omega (arith, some) in
    let c : drop from bytes ≡ get_or bytes from 0 ∷ drop (suc from) bytes = drop-cons bytes from 0 low in
    let s : suc from ≡ from + 1 = omega arith in
    let whole : take (to - from) (drop from bytes) ≡ get_or bytes from 0 ∷ take (to - (from + 1)) (drop (suc from) bytes) =
    ap (λ (r : List ℕ). take (to - from) r) c ∙ (ap (λ i. take i (get_or bytes from 0 ∷ drop (suc from) bytes)) n ∙ one_taken (to - (from + 1)) (get_or bytes from 0) (drop (suc from) bytes)) in
    ap (λ i. take (to - (from + 1)) (drop i bytes)) (sym s) ∙ (sym (ap (drop 1) whole) ∙ ap (drop 1) e)
  where
    some_left : (n : ℕ) (xs : List ℕ) → 0 < length (take n xs) → 0 < n
    some_left zero xs l = absurd (omega (arith, l))
    some_left (suc n) xs l = omega arith

    one_taken : (n b : ℕ) (xs : List ℕ) → take (suc n) (b ∷ xs) ≡ b ∷ take n xs
    one_taken n b xs = refl
