-- The text of an atom spells that atom.
use Rattle.std.proofs.Common.{◌≡◌, ℕ, ◌+◌, ◌-◌, ◌^◌, ◌<◌, ◌≤◌, Bool, true, false, List, [], ◌∷◌, ◌++◌, length, arith, refl, ap, ◌∙◌, subst, pos, negsuc, suc}
use Rattle.std.proofs.lemmas.Int.{ints}
use Rattle.std.specs.Fmt.{decimal}
use Rattle.std.proofs.lemmas.Str.Parse.{IsDigitsTest, FoldsDigits, IsNumeralModel, numerals_by_fold}
use Rattle.std.proofs.lemmas.Fmt.{decimal_is_IsNumeral}
use Rattle.ql_forms.specs.Bytes.{is_atom}
use Rattle.ql_forms.specs.Spelled.{Atom, integer, symbol, atom}
use Rattle.ql_forms.specs.FormText.{AreAtomBytes, HasSpelling, atom_text}
use Rattle.ql_forms.specs.Spells.{AreDigits, value_from, most, signed, HasSign, no_sign, a_minus, IsAtom, a_symbol, an_integer, nothing, AfterAtom, Run, ends, goes_on, IsForm, an_atom}
use Rattle.ql_forms.proofs.Bytes.{digit_in_range, digit_from_range}

tells_digits : IsDigitsTest AreDigits
tells_digits = record { empty = tt; parts = λ c cs h. (digit_in_range c h.0, h.1); more = λ c cs k h. (digit_from_range c k, h) }

folds_digits : FoldsDigits value_from
folds_digits = record { empty = λ n. refl; more = λ n c cs k. ap (λ m. value_from (m + (c - 48)) cs) (omega arith) }

model : IsNumeralModel AreDigits (value_from 0)
model = numerals_by_fold AreDigits tells_digits value_from folds_digits

digits_are_atom_bytes : (ds : List ℕ) → AreDigits ds → AreAtomBytes ds
digits_are_atom_bytes [] h = tt
digits_are_atom_bytes (b ∷ ds) h = (ap is_atom h.0, digits_are_atom_bytes ds h.1)

decimal_is : (n : ℕ) → n < 2 ^ 64 → (0 < length (decimal n)) × AreDigits (decimal n) × (value_from 0 (decimal n) ≡ n)
decimal_is n lt =
    let (numeral, value) = decimal_is_IsNumeral n lt in
    (numeral.0, model.from (decimal n) numeral.1, model.same (decimal n) numeral.1 ∙ value)

-- a sign and the digits of n are an integer
integer_is : (negative : Bool) (w ds : List ℕ) (n : ℕ) → HasSign w negative ds → 0 < length ds → AreDigits ds → value_from 0 ds ≡ n → n ≤ most negative
    → IsAtom w (integer (signed negative n))
integer_is negative w [] n s some h e le = absurd (omega (arith, some))
integer_is negative w (b ∷ ds) n s some h e le = subst (λ m. IsAtom w (integer (signed negative m))) e (an_integer s h (omega (arith, e, le)))

-- what the text of an atom is
pub record Reads (w : List ℕ) (a : Atom) : Type 0 where
  pub some : 0 < length w
  pub bytes : AreAtomBytes w
  pub is : IsAtom w a

pub atom_reads : (a : Atom) → HasSpelling a → Reads (atom_text a) a
atom_reads (symbol w) h = record { some = h.0; bytes = h.2; is = a_symbol h.3 h.1 }
atom_reads (integer (pos n)) h =
    let (some, digits, value) = decimal_is n (omega (arith, ints, h)) in
    record { some = some; bytes = digits_are_atom_bytes (decimal n) digits; is = integer_is false (decimal n) (decimal n) n no_sign some digits value (omega (arith, ints, h)) }
atom_reads (integer (negsuc n)) h =
    let (some, digits, value) = decimal_is (suc n) (omega (arith, ints, h)) in
    record { some = omega arith; bytes = (refl, digits_are_atom_bytes (decimal (suc n)) digits); is = integer_is true (45 ∷ decimal (suc n)) (decimal (suc n)) (suc n) (a_minus refl) some digits value (omega (arith, ints, h)) }

run_of : (o : ℕ) (w u : List ℕ) → AreAtomBytes w → AfterAtom u → (p : ℕ) × Run o (w ++ u) w p u
run_of o [] u h after = (o, ends after)
run_of o (b ∷ w) u h after = let (p, run) = run_of (o + 1) w u h.1 after in (p, goes_on h.0 run)

text_reads : (d o : ℕ) (w u : List ℕ) (a : Atom) → Reads w a → AfterAtom u → (p : ℕ) × IsForm d o (w ++ u) (atom o a) p u
text_reads d o [] u a r after = absurd (omega (arith, r.some))
text_reads d o (b ∷ w) u a r after = let (p, run) = run_of (o + 1) w u r.bytes.1 after in (p, an_atom nothing r.bytes.0 run r.is)

-- an atom's text, where the atom ends, spells the atom
pub atom_reads_back : (d o : ℕ) (a : Atom) (u : List ℕ) → HasSpelling a → AfterAtom u → (p : ℕ) × IsForm d o (atom_text a ++ u) (atom o a) p u
atom_reads_back d o a u h after = text_reads d o (atom_text a) u a (atom_reads a h) after
