-- The listing of a code, written part by part.
use Rattle.std.proofs.Common.{◌≡◌, ℕ, zero, suc, ◌+◌, List, [], ◌∷◌, ◌++◌, length, drop, None, slice_get, refl, sym, ap, ◌∙◌, arith, append_assoc}
use Rattle.std.proofs.lemmas.List.{append-nil}
use Rattle.std.proofs.lemmas.Option.{slice_get_past}
use Rattle.std.specs.Prelude.{decimal}
use Rattle.ql_world.specs.declared.word.Word.{Word}
use Rattle.ql_world.specs.declared.word.Word.TheVariants.{Int, Sym, Pair, Fun, Proc, Fut}
use Rattle.ql_world.specs.Text.{value_text, text_within, and_numbers, IsPast}
use Rattle.ql_code.specs.Listing.{lines_from, line_at}
use Rattle.ql_code.specs.Code.{Instruction}

module _ (names : List (List ℕ)) (pairs : List (Word × Word)) where
  no_pair : (n i : ℕ) → slice_get pairs i ≡ None → text_within names pairs n (Pair i) ≡ []
  no_pair zero i e = refl
  no_pair (suc n) i e = rw e refl

  -- a pair that isn't there has no text
  pub past_text : (w : Word) → IsPast (length pairs) w → value_text names pairs w ≡ []
  past_text (Pair i) h = no_pair (length pairs) i (slice_get_past pairs i h)
  past_text (Int z) h = absurd h
  past_text (Sym z) h = absurd h
  past_text (Fun z) h = absurd h
  past_text (Proc z) h = absurd h
  past_text (Fut z) h = absurd h

pub one_number : (n : ℕ) → and_numbers (n ∷ []) ≡ 32 ∷ decimal n
one_number n = ap (λ t. 32 ∷ t) (append-nil (decimal n))

pub more_numbers : (n : ℕ) (ns : List ℕ) → and_numbers (n ∷ ns) ≡ and_numbers (n ∷ []) ++ and_numbers ns
more_numbers n ns = ap (λ t. t ++ and_numbers ns) (sym (one_number n))

pub all_numbers : (ms ns : List ℕ) → and_numbers (ms ++ ns) ≡ and_numbers ms ++ and_numbers ns
all_numbers [] ns = refl
all_numbers (m ∷ ms) ns = ap (λ t. 32 ∷ decimal m ++ t) (all_numbers ms ns) ∙ ap (λ t. 32 ∷ t) (sym (append_assoc (decimal m) (and_numbers ms) (and_numbers ns)))

module _ (names : List (List ℕ)) (quoted : List (Word × Word)) where
  pub lines_at : (is : List Instruction) (place k : ℕ) → lines_from names quoted k (drop place is) ≡ line_at names quoted k (slice_get is place) ++ lines_from names quoted (k + 1) (drop (suc place) is)
  lines_at [] zero k = refl
  lines_at [] (suc place) k = refl
  lines_at (i ∷ is) zero k = refl
  lines_at (i ∷ is) (suc place) k = lines_at is place k

  pub next_line : (is : List Instruction) (k : ℕ) (text new all : List ℕ) → text ++ lines_from names quoted k (drop k is) ≡ all → new ≡ text ++ line_at names quoted k (slice_get is k)
      → new ++ lines_from names quoted (k + 1) (drop (k + 1) is) ≡ all
  next_line is k text new all h e =
      let more : k + 1 ≡ suc k = omega arith in
      ap (λ n. new ++ lines_from names quoted (k + 1) (drop n is)) more
      ∙ ap (λ t. t ++ lines_from names quoted (k + 1) (drop (suc k) is)) e
      ∙ append_assoc text (line_at names quoted k (slice_get is k)) (lines_from names quoted (k + 1) (drop (suc k) is))
      ∙ ap (λ t. text ++ t) (sym (lines_at is k k))
      ∙ h

all_four : (t b l s a : List ℕ) → (((t ++ b) ++ l) ++ s) ++ a ≡ t ++ (b ++ (l ++ (s ++ a)))
all_four t b l s a = append_assoc ((t ++ b) ++ l) s a ∙ append_assoc (t ++ b) l (s ++ a) ∙ append_assoc t b (l ++ (s ++ a))

pub counted : (t before list after u v w x : List ℕ) → u ≡ t ++ and_numbers before → v ≡ u ++ and_numbers (length list ∷ []) → w ≡ v ++ and_numbers list → x ≡ w ++ and_numbers after
    → x ≡ t ++ and_numbers (before ++ (length list ∷ (list ++ after)))
counted t before list after u v w x h i j k =
    rw (k, j, i, h, all_numbers before (length list ∷ (list ++ after)), more_numbers (length list) (list ++ after), all_numbers list after)
    (all_four t (and_numbers before) (and_numbers (length list ∷ [])) (and_numbers list) (and_numbers after))
