-- Changes of one state.
use Rattle.std.proofs.Common.{◌≡◌, ◌≢◌, refl, ap, ℕ, zero, suc, ◌-◌, ◌≤◌, List, [], ◌∷◌, length, arith, slice_get, slice_set}
use Rattle.ql_world.specs.declared.world.FutState.{FutState}
use Rattle.ql_world.specs.declared.world.FutState.TheVariants.{Pending as pending, Value as valued, Dead as dead}
use Rattle.ql_world.specs.World.{or_pending, change, numbered, change_numbered}
use Rattle.ql_world.specs.Tick.{filled}
use Rattle.ql_world.specs.Idle.{killed}

module _ {A : Type 0} where
  -- one element in place of another
  put : (x : A) (xs : List A) (n : ℕ) → slice_set xs n x ≡ change (λ y. x) xs n
  put x [] n = refl
  put x (y ∷ xs) zero = refl
  put x (y ∷ xs) (suc n) = ap (λ ys. y ∷ ys) (put x xs n)

  past : (f : A → A) (xs : List A) (n : ℕ) → length xs ≤ n → xs ≡ change f xs n
  past f [] n h = refl
  past f (x ∷ xs) zero h = absurd (omega arith)
  past f (x ∷ xs) (suc n) h = ap (λ ys. x ∷ ys) (past f xs n (omega arith))

  pub put_numbered : (x : A) (xs : List A) (f : ℕ) → f ≢ 0 → slice_set xs (f - 1) x ≡ change_numbered (λ y. x) xs f
  put_numbered x xs zero h = absurd (h refl)
  put_numbered x xs (suc n) h = let e : suc n - 1 ≡ n = omega arith in rw e (put x xs n)

  pub past_numbered : (g : A → A) (xs : List A) (f : ℕ) → f ≢ 0 → length xs ≤ f - 1 → xs ≡ change_numbered g xs f
  past_numbered g xs zero h l = absurd (h refl)
  past_numbered g xs (suc n) h l = past g xs n (omega arith)

killed_at : (xs : List FutState) (n : ℕ) → or_pending (slice_get xs n) ≡ pending → change (λ s. dead) xs n ≡ change killed xs n
killed_at [] n h = refl
killed_at (x ∷ xs) zero h = let e : x ≡ pending = h in rw e refl
killed_at (x ∷ xs) (suc n) h = ap (λ ys. x ∷ ys) (killed_at xs n h)

-- a future that is pending, or was never made
pub killed_numbered : (xs : List FutState) (f : ℕ) → or_pending (numbered xs f) ≡ pending → change_numbered (λ s. dead) xs f ≡ change_numbered killed xs f
killed_numbered xs zero h = refl
killed_numbered xs (suc n) h = killed_at xs n h

stays : (s : FutState) → s ≢ pending → s ≡ killed s
stays pending h = absurd (h refl)
stays (valued w) h = refl
stays dead h = refl

kept_at : (xs : List FutState) (n : ℕ) → or_pending (slice_get xs n) ≢ pending → xs ≡ change killed xs n
kept_at [] n h = refl
kept_at (x ∷ xs) zero h = ap (λ y. y ∷ xs) (stays x h)
kept_at (x ∷ xs) (suc n) h = ap (λ ys. x ∷ ys) (kept_at xs n h)

-- any other
pub kept_numbered : (xs : List FutState) (f : ℕ) → or_pending (numbered xs f) ≢ pending → xs ≡ change_numbered killed xs f
kept_numbered xs zero h = refl
kept_numbered xs (suc n) h = kept_at xs n h

pub filled_by_none : (fs : List ℕ) (states : List FutState) → filled fs [] states ≡ states
filled_by_none [] states = refl
filled_by_none (f ∷ fs) states = refl
