-- Lists at a place.
use Rattle.std.proofs.Common.{◌≡◌, refl, ap, ◌∙◌, ℕ, zero, suc, ◌-◌, ◌<◌, List, [], ◌∷◌, ◌++◌, length, take, drop, reverse, arith, Some, slice_get, slice_index_or, set, append_assoc}
use Rattle.std.proofs.lemmas.List.{reverse-append, append-nil}
use Rattle.std.proofs.Math.Seq.{take-length, drop-length}

pub more : (n : ℕ) → 0 < n → n ≡ suc (n - 1)
more n h = omega arith

module _ {A : Type 0} where
  -- what stands at a place
  pub record At (xs : List A) (n : ℕ) : Type 0 where
    pub item : A
    pub dropped : drop n xs ≡ item ∷ drop (suc n) xs
    pub taken : take (suc n) xs ≡ take n xs ++ item ∷ []
    pub got : slice_get xs n ≡ Some item
    pub read : (d : A) → slice_index_or xs n d ≡ item

  pub at-of : (xs : List A) (n : ℕ) → n < length xs → At xs n
  at-of [] n h = absurd (omega arith)
  at-of (x ∷ xs) zero h = record { item = x; dropped = refl; taken = refl; got = refl; read = λ d. refl }
  at-of (x ∷ xs) (suc n) h =
      let a = at-of xs n (omega arith) in
      record { item = a.item; dropped = a.dropped; taken = ap (λ (ys : List A). x ∷ ys) a.taken; got = a.got; read = a.read }

  pub reverse-taken : (n : ℕ) (xs : List A) (a : At xs n) → reverse (take (suc n) xs) ≡ a.item ∷ reverse (take n xs)
  reverse-taken n xs a = ap reverse a.taken ∙ reverse-append (take n xs) (a.item ∷ [])

  -- the list with another item there
  pub set-parts : (xs : List A) (n : ℕ) (y : A) → n < length xs → set xs n y ≡ take n xs ++ y ∷ drop (suc n) xs
  set-parts [] n y h = absurd (omega arith)
  set-parts (x ∷ xs) zero y h = refl
  set-parts (x ∷ xs) (suc n) y h = ap (λ (ys : List A). x ∷ ys) (set-parts xs n y (omega arith))

  pub reverse-set : (xs : List A) (n : ℕ) (y : A) → n < length xs → reverse (set xs n y) ≡ reverse (drop (suc n) xs) ++ y ∷ reverse (take n xs)
  reverse-set xs n y h =
      ap reverse (set-parts xs n y h)
      ∙ (reverse-append (take n xs) (y ∷ drop (suc n) xs)
      ∙ (ap (λ (zs : List A). zs ++ reverse (take n xs)) (reverse-append (y ∷ []) (drop (suc n) xs)) ∙ append_assoc (reverse (drop (suc n) xs)) (y ∷ []) (reverse (take n xs))))

  -- a slice that was lent is put back
  pub put-back : (n : ℕ) (xs ys : List A) → length ys ≡ length xs → n ≡ length xs → take n (ys ++ drop (length ys) xs) ≡ ys
  put-back n xs ys h k =
      let d : drop (length ys) xs ≡ [] = ap (λ (m : ℕ). drop m xs) h ∙ drop-length xs in
      rw (d, append-nil ys, k, ← h) (take-length ys)
