-- Truth values by cases.
use Rattle.std.proofs.Common.{◌≡◌, ◌⊎◌, inl, inr, Bool, true, false, not, ◌||◌, List, refl}
use Rattle.ql_base.specs.Refusal.{unless, where_true}
use Rattle.ql_base.specs.declared.refusal.Fault.{Fault}

pub cases : (b : Bool) → (b ≡ true) ⊎ (b ≡ false)
cases true = inl refl
cases false = inr refl

pub or_false : (b : Bool) → (b || false) ≡ b
or_false true = refl
or_false false = refl

pub or_true : (b : Bool) → (b || true) ≡ true
or_true true = refl
or_true false = refl

pub or_assoc : (a b c : Bool) → ((a || b) || c) ≡ (a || (b || c))
or_assoc true b c = refl
or_assoc false b c = refl

pub where_not : (b : Bool) (faults : List Fault) → where_true (not b) faults ≡ unless b faults
where_not true faults = refl
where_not false faults = refl
