-- Changes in lists.
use Rattle.std.proofs.Common.{◌≡◌, ◌≤◌, ℕ, zero, suc, List, [], ◌∷◌, length, slice_set, refl, ap, arith}
use Rattle.ql_world.specs.World.{change}

module _ {A : Type 0} where
  pub put : (x : A) (xs : List A) (n : ℕ) → slice_set xs n x ≡ change (λ y. x) xs n
  put x [] n = refl
  put x (y ∷ xs) zero = refl
  put x (y ∷ xs) (suc n) = ap (λ ys. y ∷ ys) (put x xs n)

  -- beyond the list nothing changes
  pub past : (f : A → A) (xs : List A) (n : ℕ) → length xs ≤ n → xs ≡ change f xs n
  past f [] n h = refl
  past f (x ∷ xs) zero h = absurd (omega (arith, h))
  past f (x ∷ xs) (suc n) h = ap (λ ys. x ∷ ys) (past f xs n (omega (arith, h)))
