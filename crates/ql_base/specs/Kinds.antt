-- Faults whose kinds lie in a range, and the first of them. It serves the proofs of the crates above.
use Rattle.std.specs.Prelude.{◌≡◌, ℕ, ◌≤◌, Bool, true, false, if◌then◌else◌, List, [], ◌∷◌, ◌++◌, Option, Some, None}
use Rattle.std.proofs.Common.{subst}
use Rattle.ql_base.specs.Refusal.{number_of, is_sooner, sooner, first_of, least, told}
use Rattle.ql_base.specs.declared.refusal.Fault.{Fault}

-- The number of each one's kind lies between these.
pub data AreWithin : (low high : ℕ) → List Fault → Type 0 where
  no_fault : {low high : ℕ} → AreWithin low high []
  and_fault : {low high : ℕ} {f : Fault} {fs : List Fault} → low ≤ number_of f.kind → number_of f.kind ≤ high → AreWithin low high fs → AreWithin low high (f ∷ fs)

pub joined : {low high : ℕ} {xs ys : List Fault} → AreWithin low high xs → AreWithin low high ys → AreWithin low high (xs ++ ys)
joined no_fault k = k
joined (and_fault l m h) k = and_fault l m (joined h k)

pub either : {low high : ℕ} {xs ys : List Fault} (b : Bool) → AreWithin low high xs → AreWithin low high ys → AreWithin low high (if b then xs else ys)
either true h k = h
either false h k = k

abbrev IsWithin : (low high : ℕ) → Option Fault → Type 0
IsWithin low high None = Unit {0}
IsWithin low high (Some f) = (low ≤ number_of f.kind) × (number_of f.kind ≤ high)

module _ {low high : ℕ} where
  sooner_within : (b : Bool) (f g : Fault) → IsWithin low high (Some f) → IsWithin low high (Some g) → IsWithin low high (if b then Some g else Some f)
  sooner_within true f g h k = k
  sooner_within false f g h k = h

  first_within : (f : Option Fault) {gs : List Fault} → IsWithin low high f → AreWithin low high gs → IsWithin low high (first_of f gs)
  first_within f h no_fault = h
  first_within None h (and_fault {f = g} l m k) = first_within (Some g) (l, m) k
  first_within (Some f) h (and_fault {f = g} l m k) = first_within (sooner (Some f) (Some g)) (sooner_within (is_sooner f g) f g h (l, m)) k

  pub told_within : (fs : List Fault) (at kind : ℕ) → AreWithin low high fs → told (least fs) ≡ Some (at, kind) → (low ≤ kind) × (kind ≤ high)
  told_within fs at kind h = of (least fs) (first_within None tt h)
    where
      of : (f : Option Fault) → IsWithin low high f → told f ≡ Some (at, kind) → (low ≤ kind) × (kind ≤ high)
      of None k e = absurd (cc)
      of (Some f) k e = let same : ◌≡◌ {A = ℕ × ℕ} (f.at.0, number_of f.kind) (at, kind) = cc in subst (λ p. (low ≤ p.1) × (p.1 ≤ high)) same k
