-- A change leaves as many as there were.
use Rattle.std.proofs.Common.{◌≡◌, ◌≤◌, ℕ, zero, suc, List, [], ◌∷◌, length, refl, ap, arith}
use Rattle.ql_world.specs.World.{change, change_numbered}

module _ {A : Type 0} (f : A → A) where
  as_many_at : (xs : List A) (i : ℕ) → length (change f xs i) ≡ length xs
  as_many_at [] i = refl
  as_many_at (x ∷ xs) zero = refl
  as_many_at (x ∷ xs) (suc i) = ap suc (as_many_at xs i)

  as_many : (xs : List A) (p : ℕ) → length (change_numbered f xs p) ≡ length xs
  as_many xs zero = refl
  as_many xs (suc i) = as_many_at xs i

  pub no_fewer : (xs : List A) (p : ℕ) → length xs ≤ length (change_numbered f xs p)
  no_fewer xs p = omega (arith, as_many xs p)
