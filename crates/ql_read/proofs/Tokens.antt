-- What a token read byte by byte is as a whole.
use Rattle.std.proofs.Common.{◌≡◌, ◌⊎◌, ℕ, ◌+◌, ◌-◌, ◌*◌, ◌<◌, ◌≤◌, ◌==◌, Bool, true, false, List, [], ◌∷◌, ◌++◌, length, Some, None, refl, sym, ap, ◌∙◌, subst, arith, length-append, append_assoc, ⊎_elim, inl, inr}
use Rattle.std.proofs.lemmas.List.{append-nil}
use Rattle.std.specs.Prelude.{ltb, leb, if◌then◌else◌}
use Rattle.std.proofs.lemmas.Bool.{lt-ltb, le-leb, ltb-true, leb-true}
use Rattle.ql_forms.specs.Bytes.{Class, blank, letter, digit, plus, minus, opening, closing, mark, semicolon, dot, other, class, is_digit}
use Rattle.ql_forms.specs.Spelled.{symbol, integer, Atom}
use Rattle.ql_forms.specs.Spells.{starts_digit, numeric_from, is_numeric, AreDigits, value_from, most, signed, HasSign, no_sign, a_plus, a_minus, IsAtom, a_symbol, an_integer}
use Rattle.std.proofs.lemmas.Bool.{and_parts}
use Rattle.std.specs.Prelude.{◌&&◌}
use Rattle.ql_forms.specs.Bytes.{is_blank, is_letter}
use Rattle.ql_read.specs.Scan.{Token, of_symbol, of_sign, of_number, first, next, token_atom}

abbrev pub Goes : Token → List ℕ → Token → Type 0
Goes w [] v = w ≡ v
Goes w (b ∷ t) v = (x : Token) × (next w b (class b) ≡ Some x) × Goes x t v

if_some : (c : Bool) (x y : Token) → (if c then Some x else None) ≡ Some y → (c ≡ true) × (x ≡ y)
if_some true x y e = (refl, cc)
if_some false x y e = absurd (cc)

symbol_goes : (t w : List ℕ) (v : Token) → length w ≤ 64 → Goes (of_symbol w) t v → (of_symbol (w ++ t) ≡ v) × (length (w ++ t) ≤ 64)
symbol_goes [] w v len e = (rw (append-nil w) e, rw (append-nil w) len)
symbol_goes (b ∷ t) w v len (x, e, g) =
    let (room, same) = if_some (ltb (length w) 64) (of_symbol (w ++ b ∷ [])) x e in
    let small : length w < 64 = ltb-true _ _ room in
    let (f, l) = symbol_goes t (w ++ b ∷ []) v (omega (arith, length-append {A = ℕ}, small)) (subst (λ y. Goes y t v) (sym same) g) in
    let q : (w ++ b ∷ []) ++ t ≡ w ++ b ∷ t = append_assoc w (b ∷ []) t in
    (subst (λ y. of_symbol y ≡ v) q f, subst (λ y. length y ≤ 64) q l)

symbol_can : (t w : List ℕ) → length (w ++ t) ≤ 64 → Goes (of_symbol w) t (of_symbol (w ++ t))
symbol_can [] w len = ap of_symbol (sym (append-nil w))
symbol_can (b ∷ t) w len =
    let q : (w ++ b ∷ []) ++ t ≡ w ++ b ∷ t = append_assoc w (b ∷ []) t in
    let room : ltb (length w) 64 ≡ true = lt-ltb _ _ (omega (arith, length-append {A = ℕ}, len)) in
    (of_symbol (w ++ b ∷ []), rw room refl, subst (λ y. Goes (of_symbol (w ++ b ∷ [])) t (of_symbol y)) q (symbol_can t (w ++ b ∷ []) (subst (λ y. length y ≤ 64) (sym q) len)))

grows : (t : List ℕ) (v : ℕ) → v ≤ value_from v t
grows [] v = omega arith
grows (b ∷ t) v = let h : 10 * v + (b - 48) ≤ value_from (10 * v + (b - 48)) t = grows t (10 * v + (b - 48)) in omega (arith, h)

number_next : (negative : Bool) (v b : ℕ) (c : Class) (x : Token) → next (of_number negative v) b c ≡ Some x
    → (c ≡ digit) × (of_number negative (10 * v + (b - 48)) ≡ x) × (10 * v + (b - 48) ≤ most negative)
number_next n v b digit x e = let (room, same) = if_some (leb (10 * v + (b - 48)) (most n)) (of_number n (10 * v + (b - 48))) x e in (refl, same, leb-true _ _ room)
number_next n v b blank x e = absurd (cc)
number_next n v b letter x e = absurd (cc)
number_next n v b plus x e = absurd (cc)
number_next n v b minus x e = absurd (cc)
number_next n v b opening x e = absurd (cc)
number_next n v b closing x e = absurd (cc)
number_next n v b mark x e = absurd (cc)
number_next n v b semicolon x e = absurd (cc)
number_next n v b dot x e = absurd (cc)
number_next n v b other x e = absurd (cc)

number_goes : (t : List ℕ) (n : Bool) (v : ℕ) (x : Token) → v ≤ most n → Goes (of_number n v) t x → AreDigits t × (of_number n (value_from v t) ≡ x) × (value_from v t ≤ most n)
number_goes [] n v x h e = (tt, e, h)
number_goes (b ∷ t) n v x h (y, e, g) =
    let (is, same, room) = number_next n v b (class b) y e in
    let (ds, all, r) = number_goes t n (10 * v + (b - 48)) x room (subst (λ z. Goes z t x) (sym same) g) in
    ((is, ds), all, r)

number_can : (t : List ℕ) (n : Bool) (v : ℕ) → AreDigits t → value_from v t ≤ most n → Goes (of_number n v) t (of_number n (value_from v t))
number_can [] n v ds h = refl
number_can (b ∷ t) n v (d, ds) h =
    let g : 10 * v + (b - 48) ≤ value_from (10 * v + (b - 48)) t = grows t (10 * v + (b - 48)) in
    let room : leb (10 * v + (b - 48)) (most n) ≡ true = le-leb _ _ (omega (arith, g, h)) in
    (of_number n (10 * v + (b - 48)), ap (next (of_number n v) b) d ∙ rw room refl, number_can t n (10 * v + (b - 48)) ds h)

digit_of : (c1 c2 c3 c4 c5 c6 c7 c8 c9 c10 : Bool)
    → (if c1 then blank else (if c2 then letter else (if c3 then digit else (if c4 then plus else (if c5 then minus else (if c6 then opening
    else (if c7 then closing else (if c8 then mark else (if c9 then semicolon else (if c10 then dot else other)))))))))) ≡ digit → c3 ≡ true
digit_of true c2 c3 c4 c5 c6 c7 c8 c9 c10 e = absurd (cc)
digit_of false true c3 c4 c5 c6 c7 c8 c9 c10 e = absurd (cc)
digit_of false false true c4 c5 c6 c7 c8 c9 c10 e = refl
digit_of false false false true c5 c6 c7 c8 c9 c10 e = absurd (cc)
digit_of false false false false true c6 c7 c8 c9 c10 e = absurd (cc)
digit_of false false false false false true c7 c8 c9 c10 e = absurd (cc)
digit_of false false false false false false true c8 c9 c10 e = absurd (cc)
digit_of false false false false false false false true c9 c10 e = absurd (cc)
digit_of false false false false false false false false true c10 e = absurd (cc)
digit_of false false false false false false false false false true e = absurd (cc)
digit_of false false false false false false false false false false e = absurd (cc)

digit_small : (n : Bool) (b : ℕ) → class b ≡ digit → b - 48 ≤ most n
digit_small n b e =
    let t : (leb 48 b && leb b 57) ≡ true = digit_of (is_blank b) (is_letter b) (leb 48 b && leb b 57) (b == 43) (b == 45) (b == 40) (b == 41) (b == 39) (b == 59) (b == 46) e in
    let (_, up) = and_parts (leb 48 b) (leb b 57) t in
    let h : b ≤ 57 = leb-true _ _ up in small n h
  where
    small : (m : Bool) → b ≤ 57 → b - 48 ≤ most m
    small true h = omega (arith, h)
    small false h = omega (arith, h)

zero_start : (n : ℕ) → n ≡ 10 * 0 + n
zero_start n = omega arith

symbol_is : (w t : List ℕ) (v : Token) → length w ≤ 64 → is_numeric (w ++ t) ≡ false → Goes (of_symbol w) t v → IsAtom (w ++ t) (token_atom v)
symbol_is w t v len nn g = let (e, l) = symbol_goes t w v len g in subst (λ y. IsAtom (w ++ t) (token_atom y)) e (a_symbol nn l)

number_is : (n : Bool) (b : ℕ) (t w : List ℕ) (v : Token) → HasSign w n (b ∷ t) → class b ≡ digit → Goes (of_number n (b - 48)) t v → IsAtom w (token_atom v)
number_is n b t w v s d g =
    let (ds, e, h) = number_goes t n (10 * 0 + (b - 48)) v (subst (λ m. m ≤ most n) (zero_start (b - 48)) (digit_small n b d)) (subst (λ m. Goes (of_number n m) t v) (zero_start (b - 48)) g) in
    subst (λ y. IsAtom w (token_atom y)) e (an_integer s (d, ds) h)

sign_next : (n : Bool) (a b : ℕ) (c : Class) (x : Token) → next (of_sign n a) b c ≡ Some x
    → ((c ≡ digit) × (of_number n (b - 48) ≡ x)) ⊎ ((is_digit c ≡ false) × (of_symbol (a ∷ b ∷ []) ≡ x))
sign_next n a b digit x e = inl (refl, cc)
sign_next n a b blank x e = inr (refl, cc)
sign_next n a b letter x e = inr (refl, cc)
sign_next n a b plus x e = inr (refl, cc)
sign_next n a b minus x e = inr (refl, cc)
sign_next n a b opening x e = inr (refl, cc)
sign_next n a b closing x e = inr (refl, cc)
sign_next n a b mark x e = inr (refl, cc)
sign_next n a b semicolon x e = inr (refl, cc)
sign_next n a b dot x e = inr (refl, cc)
sign_next n a b other x e = inr (refl, cc)

sign_is : (n : Bool) (a : ℕ) → ((ds : List ℕ) → HasSign (a ∷ ds) n ds) → ((t : List ℕ) → is_numeric (a ∷ t) ≡ starts_digit t)
    → (t : List ℕ) (v : Token) → Goes (of_sign n a) t v → IsAtom (a ∷ t) (token_atom v)
sign_is n a s nn [] v g = subst (λ y. IsAtom (a ∷ []) (token_atom y)) g (a_symbol (nn []) (omega arith))
sign_is n a s nn (b ∷ t) v (x, e, g) = ⊎_elim
    (λ (h : (class b ≡ digit) × (of_number n (b - 48) ≡ x)). number_is n b t (a ∷ b ∷ t) v (s (b ∷ t)) h.0 (subst (λ y. Goes y t v) (sym h.1) g))
    (λ (h : (is_digit (class b) ≡ false) × (of_symbol (a ∷ b ∷ []) ≡ x)). symbol_is (a ∷ b ∷ []) t v (omega arith) (nn (b ∷ t) ∙ h.0) (subst (λ y. Goes y t v) (sym h.1) g))
    (sign_next n a b (class b) x e)

goes_is_with : (b : ℕ) (t : List ℕ) (v : Token) (c : Class) → class b ≡ c → Goes (first b c) t v → IsAtom (b ∷ t) (token_atom v)
goes_is_with b t v digit e g = number_is false b t (b ∷ t) v no_sign e g
goes_is_with b t v plus e g = sign_is false b (λ ds. a_plus e) (λ w. rw e refl) t v g
goes_is_with b t v minus e g = sign_is true b (λ ds. a_minus e) (λ w. rw e refl) t v g
goes_is_with b t v letter e g = symbol_is (b ∷ []) t v (omega arith) (rw e refl) g
goes_is_with b t v blank e g = symbol_is (b ∷ []) t v (omega arith) (rw e refl) g
goes_is_with b t v opening e g = symbol_is (b ∷ []) t v (omega arith) (rw e refl) g
goes_is_with b t v closing e g = symbol_is (b ∷ []) t v (omega arith) (rw e refl) g
goes_is_with b t v mark e g = symbol_is (b ∷ []) t v (omega arith) (rw e refl) g
goes_is_with b t v semicolon e g = symbol_is (b ∷ []) t v (omega arith) (rw e refl) g
goes_is_with b t v dot e g = symbol_is (b ∷ []) t v (omega arith) (rw e refl) g
goes_is_with b t v other e g = symbol_is (b ∷ []) t v (omega arith) (rw e refl) g

pub goes_is : (b : ℕ) (t : List ℕ) (v : Token) → Goes (first b (class b)) t v → IsAtom (b ∷ t) (token_atom v)
goes_is b t v g = goes_is_with b t v (class b) refl g

abbrev pub Ends : Token → List ℕ → Atom → Type 0
Ends w t a = (v : Token) × Goes w t v × (token_atom v ≡ a)

sign_symbol : (n : Bool) (a : ℕ) (t : List ℕ) → starts_digit t ≡ false → length (a ∷ t) ≤ 64 → Ends (of_sign n a) t (symbol (a ∷ t))
sign_symbol n a [] nn len = (of_sign n a, refl, refl)
sign_symbol n a (b ∷ t) nn len = (of_symbol (a ∷ b ∷ t), (of_symbol (a ∷ b ∷ []), second (class b) nn, symbol_can t (a ∷ b ∷ []) len), refl)
  where
    second : (c : Class) → is_digit c ≡ false → next (of_sign n a) b c ≡ Some (of_symbol (a ∷ b ∷ []))
    second digit h = absurd (cc)
    second blank h = refl
    second letter h = refl
    second plus h = refl
    second minus h = refl
    second opening h = refl
    second closing h = refl
    second mark h = refl
    second semicolon h = refl
    second dot h = refl
    second other h = refl

symbol_ends : (b : ℕ) (t : List ℕ) (c : Class) → numeric_from c t ≡ false → length (b ∷ t) ≤ 64 → Ends (first b c) t (symbol (b ∷ t))
symbol_ends b t digit nn len = absurd (cc)
symbol_ends b t plus nn len = sign_symbol false b t nn len
symbol_ends b t minus nn len = sign_symbol true b t nn len
symbol_ends b t letter nn len = (of_symbol (b ∷ t), symbol_can t (b ∷ []) len, refl)
symbol_ends b t blank nn len = (of_symbol (b ∷ t), symbol_can t (b ∷ []) len, refl)
symbol_ends b t opening nn len = (of_symbol (b ∷ t), symbol_can t (b ∷ []) len, refl)
symbol_ends b t closing nn len = (of_symbol (b ∷ t), symbol_can t (b ∷ []) len, refl)
symbol_ends b t mark nn len = (of_symbol (b ∷ t), symbol_can t (b ∷ []) len, refl)
symbol_ends b t semicolon nn len = (of_symbol (b ∷ t), symbol_can t (b ∷ []) len, refl)
symbol_ends b t dot nn len = (of_symbol (b ∷ t), symbol_can t (b ∷ []) len, refl)
symbol_ends b t other nn len = (of_symbol (b ∷ t), symbol_can t (b ∷ []) len, refl)

digits_end : (n : Bool) (b : ℕ) (t : List ℕ) → AreDigits t → value_from 0 (b ∷ t) ≤ most n → Ends (of_number n (b - 48)) t (integer (signed n (value_from 0 (b ∷ t))))
digits_end n b t ds h = subst (λ m. Ends (of_number n m) t (integer (signed n (value_from 0 (b ∷ t))))) (sym (zero_start (b - 48)))
    (of_number n (value_from 0 (b ∷ t)), number_can t n (10 * 0 + (b - 48)) ds h, refl)

abbrev EndsWhole : List ℕ → Atom → Type 0
EndsWhole [] a = Prim.Unit {0}
EndsWhole (b ∷ t) a = Ends (first b (class b)) t a

number_ends : (b : ℕ) (t w : List ℕ) (n : Bool) → HasSign w n (b ∷ t) → AreDigits (b ∷ t) → value_from 0 (b ∷ t) ≤ most n → EndsWhole w (integer (signed n (value_from 0 (b ∷ t))))
number_ends b t w n no_sign (d, ds) h = rw d (digits_end false b t ds h)
number_ends b t w n (a_plus {b = a} e) (d, ds) h = let (v, g, s) = digits_end false b t ds h in rw e (v, (of_number false (b - 48), ap (next (of_sign false a) b) d, g), s)
number_ends b t w n (a_minus {b = a} e) (d, ds) h = let (v, g, s) = digits_end true b t ds h in rw e (v, (of_number true (b - 48), ap (next (of_sign true a) b) d, g), s)

is_goes : {w : List ℕ} {a : Atom} → IsAtom w a → EndsWhole w a
is_goes (a_symbol {w = []} nn len) = tt
is_goes (a_symbol {w = b ∷ t} nn len) = symbol_ends b t (class b) nn len
is_goes (an_integer {b = b} {w = w} {ds = t} {negative = n} s ds h) = number_ends b t w n s ds h

pub atom_ends : {b : ℕ} {t : List ℕ} {a : Atom} → IsAtom (b ∷ t) a → Ends (first b (class b)) t a
atom_ends i = is_goes i
