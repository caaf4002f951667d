-- Things in the order of their numbers.
use Rattle.std.proofs.Common.{◌≡◌, refl, ap, ℕ, zero, suc, ◌-◌, ◌<◌, List, [], ◌∷◌, length, set, arith, Some, None, slice_get}
use Rattle.std.proofs.lemmas.Option.{slice_get_within}
use Rattle.ql_world.specs.World.{change, numbered, change_numbered}

module _ {A : Type 0} where
  pub numbered-within : (xs : List A) (q : ℕ) (x : A) → numbered xs q ≡ Some x → q - 1 < length xs
  numbered-within xs zero x e = absurd cc
  numbered-within xs (suc i) x e = let l = slice_get_within xs i x e in omega arith

  change-set : (f : A → A) (xs : List A) (i : ℕ) (x : A) → slice_get xs i ≡ Some x → set xs i (f x) ≡ change f xs i
  change-set f [] i x e = refl
  change-set f (y ∷ xs) zero x e = let same : y ≡ x = cc in rw same refl
  change-set f (y ∷ xs) (suc i) x e = ap (λ ys. y ∷ ys) (change-set f xs i x e)

  change-past : (f : A → A) (xs : List A) (i : ℕ) → slice_get xs i ≡ None → xs ≡ change f xs i
  change-past f [] i e = refl
  change-past f (y ∷ xs) zero e = absurd cc
  change-past f (y ∷ xs) (suc i) e = ap (λ ys. y ∷ ys) (change-past f xs i e)

  pub changed-at : (f : A → A) (xs : List A) (q : ℕ) (x : A) → numbered xs q ≡ Some x → set xs (q - 1) (f x) ≡ change_numbered f xs q
  changed-at f xs zero x e = absurd cc
  changed-at f xs (suc i) x e = let l : suc i - 1 ≡ i = omega arith in rw l (change-set f xs i x e)

  pub changed-past : (f : A → A) (xs : List A) (q : ℕ) → numbered xs q ≡ None → xs ≡ change_numbered f xs q
  changed-past f xs zero e = refl
  changed-past f xs (suc i) e = change-past f xs i e

  length-change : (f : A → A) (xs : List A) (i : ℕ) → length (change f xs i) ≡ length xs
  length-change f [] i = refl
  length-change f (x ∷ xs) zero = refl
  length-change f (x ∷ xs) (suc i) = ap suc (length-change f xs i)

  pub length-changed : (f : A → A) (xs : List A) (q : ℕ) → length (change_numbered f xs q) ≡ length xs
  length-changed f xs zero = refl
  length-changed f xs (suc i) = length-change f xs i
