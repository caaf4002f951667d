-- Truth values by cases.
use Rattle.std.proofs.Common.{◌≡◌, ◌⊎◌, inl, inr, Bool, true, false, ◌||◌, ◌&&◌, refl}

pub cases : (b : Bool) → (b ≡ true) ⊎ (b ≡ false)
cases true = inl refl
cases false = inr refl

pub or_false : (b : Bool) → (b || false) ≡ b
or_false true = refl
or_false false = refl

pub or_assoc : (a b c : Bool) → ((a || b) || c) ≡ (a || (b || c))
or_assoc true b c = refl
or_assoc false b c = refl

-- where the first is true, so is the second
abbrev pub Goes : Bool → Bool → Type 0
Goes a b = a ≡ true → b ≡ true

pub both : (a b c d : Bool) → Goes a c → Goes b d → Goes (a && b) (c && d)
both true b c d f g h = rw (f refl) (g h)
both false b c d f g h = absurd cc
