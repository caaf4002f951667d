-- The numbers that words write.
use Rattle.std.proofs.Common.{◌≡◌, ◌⊎◌, ◌<◌, ◌≤◌, ◌^◌, ℕ, List, Option, Some, None, true, false, Bool, refl, sym, ◌∙◌, ap, inl, inr, arith}
use Rattle.std.specs.Prelude.{option_and_then, if◌then◌else◌}
use Rattle.std.specs.Str.Parse.{IsNumeral, digits_value, without_leading_plus}
use Rattle.clap.specs.Values.{IsUnsignedIn}
use Rattle.clap.specs.ValueTests.{is_unsigned_in}
use Rattle.clap.specs.declared.builder.value_parser.ValueParser.TheVariants as parsers
use Rattle.clap.proofs.ValueTestLemmas.{accepts-Accepts, Accepts-accepts}
use Rattle.ql_top.specs.Words.{number_in}

abbrev written : List ℕ → ℕ
written text = digits_value 10 (without_leading_plus text)

-- the text is a number of k bits
abbrev Fits : ℕ → List ℕ → Type 0
Fits k text = IsNumeral 10 (without_leading_plus text) × (written text < 2 ^ k)

if_false : {A : Type 0} (b : Bool) (x : A) → (b ≡ true → Prim.⊥) → (if b then Some x else None) ≡ None
if_false true x h = absurd (h refl)
if_false false x h = refl

pub if_true : {A : Type 0} (b : Bool) (x : A) → b ≡ true → (if b then Some x else None) ≡ Some x
if_true true x e = refl
if_true false x e = absurd cc

module _ (least most k : ℕ) (small : (n : ℕ) → n ≤ most → n < 2 ^ k) (wide : (n : ℕ) → n < 2 ^ k → n < 2 ^ 64) where
  refused : (text : List ℕ) → (IsUnsignedIn least most text → Prim.⊥) → number_in least most text ≡ None
  refused text h = if_false (is_unsigned_in least most text) (written text) (λ e. h (accepts-Accepts false (parsers.Unsigned least most) text e))

  taken : (text : List ℕ) → Fits k text → least ≤ written text → written text ≤ most → number_in least most text ≡ Some (written text)
  taken text f low high =
      if_true (is_unsigned_in least most text) (written text)
      (Accepts-accepts false (parsers.Unsigned least most) text (f.0, wide (written text) f.1, low, high))

  -- no number is read
  pub none_read : (o : Option (List ℕ)) → ((text : List ℕ) → o ≡ Some text → Fits k text → Prim.⊥) → None ≡ option_and_then (number_in least most) o
  none_read None h = refl
  none_read (Some text) h = sym (refused text (λ u. h text refl (u.0, small (written text) u.3)))

  -- the number that is read is in the range
  pub some_read : (o : Option (List ℕ)) (n : ℕ) → (o ≡ None → Prim.⊥) → ((text : List ℕ) → o ≡ Some text → Fits k text × (n ≡ written text))
      → least ≤ n → n ≤ most → Some n ≡ option_and_then (number_in least most) o
  some_read None n some value low high = absurd (some refl)
  some_read (Some text) n some value low high =
      let v = value text refl in
      ap Some v.1 ∙ sym (taken text v.0 (rw v.1 at low) (rw v.1 at high))

  -- or it isn't
  pub other_read : (o : Option (List ℕ)) (n : ℕ) → ((text : List ℕ) → o ≡ Some text → n ≡ written text) → (n < least) ⊎ (most < n)
      → None ≡ option_and_then (number_in least most) o
  other_read None n value out = refl
  other_read (Some text) n value out = sym (refused text (λ u. let e = value text refl in beyond (written text) u.2 u.3 (rw e at out)))
    where
      beyond : (x : ℕ) → least ≤ x → x ≤ most → (x < least) ⊎ (most < x) → Prim.⊥
      beyond x low high (inl h) = absurd (omega (arith, low, h))
      beyond x low high (inr h) = absurd (omega (arith, high, h))
