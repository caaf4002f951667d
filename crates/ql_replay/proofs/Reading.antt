-- Turn lines and head lines are read back.
use Rattle.std.proofs.Common.{◌≡◌, ℕ, zero, suc, ◌<◌, ◌≤◌, ◌^◌, ◌==◌, Bool, true, false, List, [], ◌∷◌, ◌++◌, drop, Some, refl, ap, ◌∙◌, subst, ⊎_elim, arith, append-nil}
use Rattle.std.specs.Prelude.{◌&&◌, ◌||◌, nat_lt, leb, decimal, ◌/◌, ◌%◌}
use Rattle.std.specs.Str.{bytes_eq}
use Rattle.std.specs.Str.Parse.{digits_value}
use Rattle.std.proofs.lemmas.Slice.Eq.{bytes_eq-Decides}
use Rattle.std.proofs.lemmas.Bool.Decides.{nat_tests}
use Rattle.std.proofs.lemmas.Fmt.{decimal_is_IsNumeral}
use Rattle.std.specs.Fmt.{digits, digit_glyph, digits_onto}
use Rattle.ql_world.specs.declared.event.Event.TheVariants.{Turn as turn}
use Rattle.ql_world.specs.declared.event.Head.{Head}
use Rattle.ql_world.specs.Text.{line_of}
use Rattle.ql_replay.specs.Book.{head_line, word_of, after_word, number_of, if_turn, turn_in, is_low, if_head, head_of_words, head_in, AreLow, ReadsTurns, ReadsHeads}
use Rattle.ql_replay.proofs.Basics.{cases, and_both, if_some, same_some}

-- ---- a number has no space in it

abbrev has_space : List ℕ → Bool
has_space [] = false
has_space (b ∷ bs) = b == 32 || has_space bs

glyph_solid : (d : ℕ) → (digit_glyph false d == 32) ≡ false
glyph_solid d = grind (arith, nat_tests)

onto_solid : (k n : ℕ) (acc : List ℕ) → has_space acc ≡ false → has_space (digits_onto k 10 false n acc) ≡ false
onto_solid zero n acc h = h
onto_solid (suc k) n acc h =
    ⊎_elim (λ (t : (n / 10 == 0) ≡ true). rw (t, glyph_solid (n % 10)) h)
    (λ (t : (n / 10 == 0) ≡ false). rw t (onto_solid k (n / 10) (digit_glyph false (n % 10) ∷ acc) (rw (glyph_solid (n % 10)) h))) (cases (n / 10 == 0))

decimal_solid : (n : ℕ) → has_space (decimal n) ≡ false
unfolding digits
decimal_solid n = onto_solid 64 n [] refl

solid_rest : (b : ℕ) (bs : List ℕ) → has_space (b ∷ bs) ≡ false → ((b == 32) ≡ false) × (has_space bs ≡ false)
solid_rest b bs h = parts (b == 32) (has_space bs) h
  where
    parts : (x y : Bool) → (x || y) ≡ false → (x ≡ false) × (y ≡ false)
    parts true y h = absurd cc
    parts false y h = (refl, h)

word_before : (xs ys : List ℕ) → has_space xs ≡ false → word_of (xs ++ 32 ∷ ys) ≡ xs
word_before [] ys h = refl
word_before (x ∷ xs) ys h = let s = solid_rest x xs h in let t : (x == 32) ≡ false = s.0 in rw t (ap (λ (l : List ℕ). x ∷ l) (word_before xs ys s.1))

after_before : (xs ys : List ℕ) → has_space xs ≡ false → after_word (xs ++ 32 ∷ ys) ≡ ys
after_before [] ys h = refl
after_before (x ∷ xs) ys h = let s = solid_rest x xs h in let t : (x == 32) ≡ false = s.0 in rw t (after_before xs ys s.1)

word_alone : (xs : List ℕ) → has_space xs ≡ false → word_of xs ≡ xs
word_alone [] h = refl
word_alone (x ∷ xs) h = let s = solid_rest x xs h in let t : (x == 32) ≡ false = s.0 in rw t (ap (λ (l : List ℕ). x ∷ l) (word_alone xs s.1))

value_of : (n : ℕ) → n < 2 ^ 64 → digits_value 10 (decimal n) ≡ n
value_of n l = (decimal_is_IsNumeral n l).1

-- the first of numbers with a space between each two
number_before : (n : ℕ) (ys : List ℕ) → n < 2 ^ 64 → number_of (decimal n ++ 32 ∷ ys) ≡ n
number_before n ys l = ap (digits_value 10) (word_before (decimal n) ys (decimal_solid n)) ∙ value_of n l

number_alone : (n : ℕ) → n < 2 ^ 64 → number_of (decimal n ++ []) ≡ n
number_alone n l = ap number_of (append-nil (decimal n)) ∙ (ap (digits_value 10) (word_alone (decimal n) (decimal_solid n)) ∙ value_of n l)

less : (i j : ℕ) → i < j → nat_lt i j ≡ true
less i j h = grind (arith, nat_tests)

more : (i j : ℕ) → nat_lt i j ≡ true → i < j
more i j h = grind (arith, nat_tests)

at_least : (i j : ℕ) → i ≤ j → leb i j ≡ true
at_least i j h = grind (arith, nat_tests)

all_true : (a b c : Bool) → a ≡ true → b ≡ true → c ≡ true → (a && (b && c)) ≡ true
all_true a b c h k l = rw (h, k, l) refl

-- ---- turn lines

numbers_of_turn : (p n : ℕ) → p < 2 ^ 64 → n < 2 ^ 64 → (bs : List ℕ) → bs ≡ decimal p ++ 32 ∷ (decimal n ++ []) → (number_of bs ≡ p) × (number_of (after_word bs) ≡ n)
numbers_of_turn p n l k bs e = (
  ap number_of e ∙ number_before p (decimal n ++ []) l,
  ap (λ (z : List ℕ). number_of (after_word z)) e ∙ (ap number_of (after_before (decimal p) (decimal n ++ []) (decimal_solid p)) ∙ number_alone n k),
)

at_most : (i j : ℕ) → leb i j ≡ true → i ≤ j
at_most i j h = grind (arith, nat_tests)

low_turn : (p n : ℕ) → (nat_lt p (2 ^ 32) && (leb 1 n && nat_lt n (2 ^ 64))) ≡ true → (p < 2 ^ 32) × ((1 ≤ n) × (n < 2 ^ 64))
low_turn p n h =
    let a = and_both (nat_lt p (2 ^ 32)) _ h in
    let b = and_both (leb 1 n) (nat_lt n (2 ^ 64)) a.1 in
    (more p (2 ^ 32) a.0, (at_most 1 n b.0, more n (2 ^ 64) b.1))

pub turn_in_reads : ReadsTurns turn_in
turn_in_reads = record {
  says = λ line p n h.
      let bs = drop 5 line in
      let x = if_some (bytes_eq line (line_of (turn (number_of bs) (number_of (after_word bs)))) && _) (Some (number_of bs, number_of (after_word bs))) (p, n) h in
      let y = and_both (bytes_eq line (line_of (turn (number_of bs) (number_of (after_word bs))))) _ x.0 in
      let e : (number_of bs, number_of (after_word bs)) ≡ (p, n) = same_some _ _ x.1 in
      (bytes_eq-Decides line (line_of (turn (number_of bs) (number_of (after_word bs))))).0 y.0 ∙ ap (λ (z : ℕ × ℕ). line_of (turn z.0 z.1)) e;
  low = λ line p n h.
      let bs = drop 5 line in
      let x = if_some (bytes_eq line (line_of (turn (number_of bs) (number_of (after_word bs)))) && _) (Some (number_of bs, number_of (after_word bs))) (p, n) h in
      let y = and_both (bytes_eq line (line_of (turn (number_of bs) (number_of (after_word bs))))) _ x.0 in
      let e : (number_of bs, number_of (after_word bs)) ≡ (p, n) = same_some _ _ x.1 in
      subst (λ (z : ℕ × ℕ). (z.0 < 2 ^ 32) × ((1 ≤ z.1) × (z.1 < 2 ^ 64))) e (low_turn (number_of bs) (number_of (after_word bs)) y.1);
  reads = λ p n lp ln hn.
      let wide : p < 2 ^ 64 = omega (arith, lp) in
      let line = line_of (turn p n) in
      let x = numbers_of_turn p n wide hn (drop 5 line) refl in
      ap (λ (i : ℕ). if_turn line i (number_of (after_word (drop 5 line)))) x.0
      ∙ (ap (λ (i : ℕ). if_turn line p i) x.1
      ∙ turn_again line p n refl lp ln hn);
}
  where
    turn_again : (line : List ℕ) (p n : ℕ) → line ≡ line_of (turn p n) → p < 2 ^ 32 → 1 ≤ n → n < 2 ^ 64 → if_turn line p n ≡ Some (p, n)
    turn_again line p n e lp ln hn =
        let a : bytes_eq line (line_of (turn p n)) ≡ true = (bytes_eq-Decides line (line_of (turn p n))).1 e in
        let b : nat_lt p (2 ^ 32) ≡ true = less p (2 ^ 32) lp in
        let c : leb 1 n ≡ true = at_least 1 n ln in
        let d : nat_lt n (2 ^ 64) ≡ true = less n (2 ^ 64) hn in
        rw (a, b, c, d) refl

-- ---- head lines

abbrev head : (b c p o : ℕ) → Head
head b c p o = record { budget = b; cells = c; procs = p; output = o }

all_four : {a b c d a' b' c' d' : ℕ} → a ≡ a' → b ≡ b' → c ≡ c' → d ≡ d'
    → head a b c d ≡ head a' b' c' d'
all_four {a = a} {b = b} {c = c} {d = d} {a' = a'} {b' = b'} {c' = c'} i j k l =
    ap (λ (z : ℕ). head z b c d) i
    ∙ (ap (λ (z : ℕ). head a' z c d) j
    ∙ (ap (λ (z : ℕ). head a' b' z d) k
    ∙ ap (λ (z : ℕ). head a' b' c' z) l))

numbers_of_head : (h : Head) → AreLow h → (bs : List ℕ) → bs ≡ decimal h.budget ++ 32 ∷ (decimal h.cells ++ 32 ∷ (decimal h.procs ++ 32 ∷ (decimal h.output ++ []))) → head_of_words bs ≡ h
numbers_of_head h low bs e =
    ap head_of_words e ∙ four h.budget h.cells h.procs h.output low.budget low.cells low.procs low.output
  where
    four : (b c p o : ℕ) → b < 2 ^ 64 → c < 2 ^ 64 → p < 2 ^ 64 → o < 2 ^ 64
        → head_of_words (decimal b ++ 32 ∷ (decimal c ++ 32 ∷ (decimal p ++ 32 ∷ (decimal o ++ [])))) ≡ head b c p o
    four b c p o lb lc lp lo =
        let x = after_before (decimal b) (decimal c ++ 32 ∷ (decimal p ++ 32 ∷ (decimal o ++ []))) (decimal_solid b) in
        let y = after_before (decimal c) (decimal p ++ 32 ∷ (decimal o ++ [])) (decimal_solid c) in
        let z = after_before (decimal p) (decimal o ++ []) (decimal_solid p) in
        let rest : List ℕ = decimal c ++ 32 ∷ (decimal p ++ 32 ∷ (decimal o ++ [])) in
        let i : number_of (decimal b ++ 32 ∷ rest) ≡ b = number_before b rest lb in
        let j : number_of (after_word (decimal b ++ 32 ∷ rest)) ≡ c = ap number_of x ∙ number_before c (decimal p ++ 32 ∷ (decimal o ++ [])) lc in
        let k : number_of (after_word (after_word (decimal b ++ 32 ∷ rest))) ≡ p = ap (λ (l : List ℕ). number_of (after_word l)) x ∙ (ap number_of y ∙ number_before p (decimal o ++ []) lp) in
        let l : number_of (after_word (after_word (after_word (decimal b ++ 32 ∷ rest)))) ≡ o =
        ap (λ (l : List ℕ). number_of (after_word (after_word l))) x ∙ (ap (λ (l : List ℕ). number_of (after_word l)) y ∙ (ap number_of z ∙ number_alone o lo)) in
        all_four i j k l

low_of : (h : Head) → is_low h ≡ true → AreLow h
low_of h e =
    let a = and_both (nat_lt h.budget (2 ^ 64)) _ e in
    let b = and_both (nat_lt h.cells (2 ^ 64)) _ a.1 in
    let c = and_both (nat_lt h.procs (2 ^ 64)) (nat_lt h.output (2 ^ 64)) b.1 in
    record { budget = more h.budget (2 ^ 64) a.0; cells = more h.cells (2 ^ 64) b.0; procs = more h.procs (2 ^ 64) c.0; output = more h.output (2 ^ 64) c.1 }

pub head_in_reads : ReadsHeads head_in
head_in_reads = record {
  says = λ line h e.
      let g = head_of_words (drop 8 line) in
      let x = if_some (bytes_eq line (head_line g) && is_low g) (Some g) h e in
      let y = and_both (bytes_eq line (head_line g)) (is_low g) x.0 in
      (bytes_eq-Decides line (head_line g)).0 y.0 ∙ ap head_line (same_some g h x.1);
  low = λ line h e.
      let g = head_of_words (drop 8 line) in
      let x = if_some (bytes_eq line (head_line g) && is_low g) (Some g) h e in
      let y = and_both (bytes_eq line (head_line g)) (is_low g) x.0 in
      subst AreLow (same_some g h x.1) (low_of g y.1);
  reads = λ h low.
      let line = head_line h in
      let x = numbers_of_head h low (drop 8 line) refl in
      ap (if_head line) x ∙ head_again line h refl low;
}
  where
    head_again : (line : List ℕ) (h : Head) → line ≡ head_line h → AreLow h → if_head line h ≡ Some h
    head_again line h e low =
        let a : bytes_eq line (head_line h) ≡ true = (bytes_eq-Decides line (head_line h)).1 e in
        let b : nat_lt h.budget (2 ^ 64) ≡ true = less h.budget (2 ^ 64) low.budget in
        let c : nat_lt h.cells (2 ^ 64) ≡ true = less h.cells (2 ^ 64) low.cells in
        let d : nat_lt h.procs (2 ^ 64) ≡ true = less h.procs (2 ^ 64) low.procs in
        let f : nat_lt h.output (2 ^ 64) ≡ true = less h.output (2 ^ 64) low.output in
        rw (a, b, c, d, f) refl
