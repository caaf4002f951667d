-- Digits by their bytes.
use Rattle.std.proofs.Common.{◌≡◌, ℕ, ◌+◌, ◌-◌, ◌≤◌, ◌==◌, Bool, true, false, arith, refl, subst, zero, suc}
use Rattle.std.specs.Prelude.{if◌then◌else◌, leb, ◌&&◌}
use Rattle.std.proofs.lemmas.Bool.{and_parts, leb-true}
use Rattle.std.specs.Int.{IsInRange}
use Rattle.ql_forms.specs.Bytes.{blank, letter, digit, plus, minus, opening, closing, mark, semicolon, dot, other, is_blank, is_letter, class}

-- only the third test makes a digit
third_test : (c1 c2 c3 c4 c5 c6 c7 c8 c9 c10 : Bool)
    → (if c1 then blank else (if c2 then letter else (if c3 then digit else (if c4 then plus else (if c5 then minus else (if c6 then opening
    else (if c7 then closing else (if c8 then mark else (if c9 then semicolon else (if c10 then dot else other)))))))))) ≡ digit → c3 ≡ true
third_test true c2 c3 c4 c5 c6 c7 c8 c9 c10 e = absurd (cc)
third_test false true c3 c4 c5 c6 c7 c8 c9 c10 e = absurd (cc)
third_test false false true c4 c5 c6 c7 c8 c9 c10 e = refl
third_test false false false true c5 c6 c7 c8 c9 c10 e = absurd (cc)
third_test false false false false true c6 c7 c8 c9 c10 e = absurd (cc)
third_test false false false false false true c7 c8 c9 c10 e = absurd (cc)
third_test false false false false false false true c8 c9 c10 e = absurd (cc)
third_test false false false false false false false true c9 c10 e = absurd (cc)
third_test false false false false false false false false true c10 e = absurd (cc)
third_test false false false false false false false false false true e = absurd (cc)
third_test false false false false false false false false false false e = absurd (cc)

pub digit_in_range : (b : ℕ) → class b ≡ digit → IsInRange 48 57 b
digit_in_range b e =
    let t : (leb 48 b && leb b 57) ≡ true = third_test (is_blank b) (is_letter b) (leb 48 b && leb b 57) (b == 43) (b == 45) (b == 40) (b == 41) (b == 39) (b == 59) (b == 46) e in
    let (low, up) = and_parts (leb 48 b) (leb b 57) t in
    (leb-true _ _ low, leb-true _ _ up)

digit_by_value : (v : ℕ) → v ≤ 9 → class (v + 48) ≡ digit
digit_by_value zero h = refl
digit_by_value (suc zero) h = refl
digit_by_value (suc (suc zero)) h = refl
digit_by_value (suc (suc (suc zero))) h = refl
digit_by_value (suc (suc (suc (suc zero)))) h = refl
digit_by_value (suc (suc (suc (suc (suc zero))))) h = refl
digit_by_value (suc (suc (suc (suc (suc (suc zero)))))) h = refl
digit_by_value (suc (suc (suc (suc (suc (suc (suc zero))))))) h = refl
digit_by_value (suc (suc (suc (suc (suc (suc (suc (suc zero)))))))) h = refl
digit_by_value (suc (suc (suc (suc (suc (suc (suc (suc (suc zero))))))))) h = refl
digit_by_value (suc (suc (suc (suc (suc (suc (suc (suc (suc (suc v)))))))))) h = absurd (omega (arith, h))

pub digit_from_range : (b : ℕ) → IsInRange 48 57 b → class b ≡ digit
digit_from_range b h =
    let e : (b - 48) + 48 ≡ b = omega (arith, h.0) in
    subst (λ x. class x ≡ digit) e (digit_by_value (b - 48) (omega (arith, h.1)))
