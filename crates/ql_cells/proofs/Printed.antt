-- The texts of words can be printed.
use Rattle.std.proofs.Common.{◌≡◌, refl, ℕ, zero, suc, ◌/◌, ◌%◌, ◌==◌, ◌<◌, ◌≤◌, Bool, true, false, ℤ, pos, negsuc, List, [], ◌∷◌, ◌++◌, length, Option, Some, None, arith, rules, slice_get, ⊎_elim, ◌⊎◌, inl, inr, leb, leb-true, nat_lt}
use Rattle.std.proofs.lemmas.Bool.{ltb-true}
use Rattle.std.specs.Prelude.{slice_index_or, decimal, codes}
use Rattle.std.specs.Fmt.{digit_glyph, digits, digits_onto, signed_decimal}
use Rattle.std.proofs.lemmas.Option.{slice_get-get_or}
use Rattle.ql_world.specs.declared.word.Word.{Word}
use Rattle.ql_world.specs.declared.word.Word.TheVariants.{Int as integer, Sym as symbol, Pair as pair, Fun as closure, Proc as process_closure, Fut as future}
use Rattle.ql_world.specs.Word.{nil, is_nil}
use Rattle.ql_world.specs.Text.{space, number_text, plain_text, end_text, pair_text, text_within, tail_within, value_text, text_up_to, IsBefore}
use Rattle.ql_world.specs.Short.{ArePrinted, IsShort}
use Rattle.ql_cells.specs.Names.{IsPrintedName, ArePrintedNames}

cases : (b : Bool) → (b ≡ true) ⊎ (b ≡ false)
cases true = inl refl
cases false = inr refl

both_printed : (s t : List ℕ) → ArePrinted s → ArePrinted t → ArePrinted (s ++ t)
both_printed [] t h k = k
both_printed (b ∷ s) t h k = (h.0, h.1, both_printed s t h.2 k)

glyph_printed : (n : ℕ) → n < 10 → (32 ≤ digit_glyph false n) × (digit_glyph false n ≤ 126)
glyph_printed n h = grind arith

onto_printed : (k n : ℕ) (acc : List ℕ) → ArePrinted acc → ArePrinted (digits_onto k 10 false n acc)
onto_printed zero n acc h = h
onto_printed (suc k) n acc h =
    let small : n % 10 < 10 = omega arith in
    let glyph = glyph_printed (n % 10) small in
    let more : ArePrinted (digit_glyph false (n % 10) ∷ acc) = (glyph.0, glyph.1, h) in
    ⊎_elim
    (λ (e : (n / 10 == 0) ≡ true). rw e more)
    (λ (e : (n / 10 == 0) ≡ false). rw e (onto_printed k (n / 10) (digit_glyph false (n % 10) ∷ acc) more))
    (cases (n / 10 == 0))

onto_longer : (k n : ℕ) (acc : List ℕ) → length acc ≤ length (digits_onto k 10 false n acc)
onto_longer zero n acc = omega arith
onto_longer (suc k) n acc =
    let more = digit_glyph false (n % 10) ∷ acc in
    let l : length more ≤ length (digits_onto k 10 false (n / 10) more) = onto_longer k (n / 10) more in
    ⊎_elim
    (λ (e : (n / 10 == 0) ≡ true). rw e (omega arith))
    (λ (e : (n / 10 == 0) ≡ false). rw e (omega arith))
    (cases (n / 10 == 0))

decimal_printed : (n : ℕ) → ArePrinted (decimal n)
unfolding digits
decimal_printed n = onto_printed 64 n [] tt

decimal_some : (n : ℕ) → 1 ≤ length (decimal n)
unfolding digits
decimal_some n =
    let more = digit_glyph false (n % 10) ∷ [] in
    let l : length more ≤ length (digits_onto 63 10 false (n / 10) more) = onto_longer 63 (n / 10) more in
    ⊎_elim
    (λ (e : (n / 10 == 0) ≡ true). rw e (omega arith))
    (λ (e : (n / 10 == 0) ≡ false). rw e l)
    (cases (n / 10 == 0))

signed_printed : (z : ℤ) → ArePrinted (signed_decimal z)
signed_printed (pos n) = decimal_printed n
signed_printed (negsuc n) = (omega arith, omega arith, decimal_printed (suc n))

signed_some : (z : ℤ) → 1 ≤ length (signed_decimal z)
signed_some (pos n) = decimal_some n
signed_some (negsuc n) = omega arith

three_printed : (s t u : List ℕ) → ArePrinted s → ArePrinted t → ArePrinted u → ArePrinted (s ++ t ++ u)
three_printed s t u h k l = both_printed (s ++ t) u (both_printed s t h k) l

number_printed : (kind : List ℕ) (n : ℕ) → ArePrinted kind → ArePrinted (number_text kind n)
number_printed kind n h =
    three_printed (codes "#<" ++ kind) (space ∷ decimal n) (codes ">") (both_printed (codes "#<") kind (search rules) h) (omega arith, omega arith, decimal_printed n) (search rules)

index_printed : (names : List (List ℕ)) (n : ℕ) → n < length names → ArePrintedNames names → IsPrintedName (slice_index_or names n [])
index_printed [] n l h = absurd (omega arith)
index_printed (name ∷ names) zero l h = h 0 name refl
index_printed (name ∷ names) (suc n) l h = index_printed names n (omega arith) (λ m t e. h (suc m) t e)

module _ (names : List (List ℕ)) (named : ArePrintedNames names) where
  symbol_printed : (n : ℕ) → IsPrintedName (plain_text names (symbol n))
  symbol_printed n =
      ⊎_elim
      (λ (e : nat_lt n (length names) ≡ true). rw e (index_printed names n (ltb-true n (length names) e) named))
      (λ (e : nat_lt n (length names) ≡ false). rw e (record { some = omega arith; printed = number_printed (codes "symbol") n (search rules) }))
      (cases (nat_lt n (length names)))

  plain_printed : (w : Word) → ArePrinted (plain_text names w)
  plain_printed (integer z) = signed_printed z
  plain_printed (symbol n) = (symbol_printed n).printed
  plain_printed (pair n) = tt
  plain_printed (closure n) = number_printed (codes "function") n (search rules)
  plain_printed (process_closure n) = number_printed (codes "process") n (search rules)
  plain_printed (future n) = number_printed (codes "future") n (search rules)

  end_printed : (w : Word) → ArePrinted (end_text names w)
  end_printed w =
      ⊎_elim
      (λ (e : is_nil w ≡ true). rw e (search rules))
      (λ (e : is_nil w ≡ false). rw e (three_printed (codes " . ") (plain_text names w) (codes ")") (search rules) (plain_printed w) (search rules)))
      (cases (is_nil w))

  pair_printed : (before : List ℕ) (item rest : Word → List ℕ) (o : Option (Word × Word)) → ArePrinted before → ((w : Word) → ArePrinted (item w)) → ((w : Word) → ArePrinted (rest w)) → ArePrinted (pair_text names before item rest o)
  pair_printed before item rest None b f g = tt
  pair_printed before item rest (Some x) b f g = three_printed before (item x.0) (rest x.1) b (f x.0) (g x.1)

  module _ (pairs : List (Word × Word)) where
    mutual
      within_printed : (n : ℕ) (w : Word) → ArePrinted (text_within names pairs n w)
      within_printed zero w = plain_printed w
      within_printed (suc n) (pair i) = pair_printed (codes "(") (text_within names pairs n) (tail_within names pairs n) (slice_get pairs i) (search rules) (within_printed n) (tail_printed n)
      within_printed (suc n) (integer z) = plain_printed (integer z)
      within_printed (suc n) (symbol m) = plain_printed (symbol m)
      within_printed (suc n) (closure m) = plain_printed (closure m)
      within_printed (suc n) (process_closure m) = plain_printed (process_closure m)
      within_printed (suc n) (future m) = plain_printed (future m)

      tail_printed : (n : ℕ) (w : Word) → ArePrinted (tail_within names pairs n w)
      tail_printed zero w = end_printed w
      tail_printed (suc n) (pair i) = pair_printed (codes " ") (text_within names pairs n) (tail_within names pairs n) (slice_get pairs i) (search rules) (within_printed n) (tail_printed n)
      tail_printed (suc n) (integer z) = end_printed (integer z)
      tail_printed (suc n) (symbol m) = end_printed (symbol m)
      tail_printed (suc n) (closure m) = end_printed (closure m)
      tail_printed (suc n) (process_closure m) = end_printed (process_closure m)
      tail_printed (suc n) (future m) = end_printed (future m)

    some_within : (n : ℕ) (w : Word) → n ≤ length pairs → IsBefore n w → 1 ≤ length (text_within names pairs n w)
    some_within zero (pair i) l h = absurd (omega arith)
    some_within (suc n) (pair i) l h =
        let there : i < length pairs = omega arith in
        rw (slice_get-get_or pairs i (nil, nil) there) (omega arith)
    some_within zero (integer z) l h = signed_some z
    some_within (suc n) (integer z) l h = signed_some z
    some_within zero (symbol m) l h = (symbol_printed m).some
    some_within (suc n) (symbol m) l h = (symbol_printed m).some
    some_within zero (closure m) l h = omega arith
    some_within (suc n) (closure m) l h = omega arith
    some_within zero (process_closure m) l h = omega arith
    some_within (suc n) (process_closure m) l h = omega arith
    some_within zero (future m) l h = omega arith
    some_within (suc n) (future m) l h = omega arith

    -- a text of at most 64 bytes
    pub told_short : (w : Word) (text : List ℕ) → IsBefore (length pairs) w → Some text ≡ text_up_to 64 (value_text names pairs w) → IsShort text
    told_short w text h told =
        ⊎_elim
        (λ (e : leb (length (value_text names pairs w)) 64 ≡ true).
        let same : text ≡ value_text names pairs w = let g = rw e at told in cc in
        rw same (record {
          some = some_within (length pairs) w (omega arith) h;
          few = leb-true _ _ e;
          printed = within_printed (length pairs) w;
        }))
        (λ (e : leb (length (value_text names pairs w)) 64 ≡ false). absurd (let g = rw e at told in cc))
        (cases (leb (length (value_text names pairs w)) 64))
