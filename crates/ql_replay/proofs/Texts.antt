-- Texts and their lines.
use Rattle.std.proofs.Common.{◌≡◌, ◌⊎◌, ℕ, zero, suc, ◌+◌, ◌<◌, ◌≤◌, ◌==◌, Bool, true, false, List, [], ◌∷◌, ◌++◌, length, map, take, Some, None, refl, sym, ap, ◌∙◌, subst, ⊎_elim, inl, inr, arith, append_assoc}
use Rattle.std.specs.Prelude.{◌||◌}
use Rattle.ql_world.specs.Event.{Journal, without_text, plain}
use Rattle.ql_world.specs.declared.event.Event.{Event}
use Rattle.ql_world.specs.declared.event.Head.{Head}
use Rattle.ql_world.specs.Text.{line_of, lines_of, journal_text}
use Rattle.ql_replay.specs.Book.{Line, after_byte, lines_in, TextBegins, has_feed, head_line}
use Rattle.ql_replay.specs.FirstDiff.{FirstAmong, HasDiff, least, short, whole}
use Rattle.ql_replay.specs.Law.{line_of_verdict}
use Rattle.ql_replay.specs.Replay.{Verdict, same, differs, plain_line}
use Rattle.ql_replay.proofs.Basics.{cases, same_number}
use Rattle.ql_replay.proofs.FollowRight.{Begins, IsAnswer}

-- the text of lines
abbrev pub joined : List (List ℕ) → List ℕ
joined [] = []
joined (l ∷ ls) = l ++ 10 ∷ joined ls

-- none of these lines has a line feed
abbrev pub AllClean : List (List ℕ) → Type 0
AllClean [] = Unit
AllClean (l ∷ ls) = (has_feed l ≡ false) × AllClean ls

abbrev pub AllLines : List Line → Type 0
AllLines [] = Unit
AllLines (None ∷ ls) = AllLines ls
AllLines (Some l ∷ ls) = (has_feed l ≡ false) × AllLines ls

pub clean_rest : (x : ℕ) (xs : List ℕ) → has_feed (x ∷ xs) ≡ false → ((x == 10) ≡ false) × (has_feed xs ≡ false)
clean_rest x xs h = parts (x == 10) (has_feed xs) h
  where
    parts : (b c : Bool) → (b || c) ≡ false → (b ≡ false) × (c ≡ false)
    parts true c h = absurd cc
    parts false c h = (refl, h)

in_lines : (bs : List ℕ) → AllLines (lines_in bs)
in_lines [] = tt
in_lines (b ∷ bs) =
    ⊎_elim (λ (t : (b == 10) ≡ true). rw t (refl, in_lines bs))
    (λ (t : (b == 10) ≡ false). rw t (with_byte (lines_in bs) t (in_lines bs))) (cases (b == 10))
  where
    with_byte : (ls : List Line) → (b == 10) ≡ false → AllLines ls → AllLines (after_byte b ls)
    with_byte [] t h = tt
    with_byte (None ∷ ls) t h = h
    with_byte (Some l ∷ ls) t h = let c : has_feed l ≡ false = h.0 in (rw t c, h.1)

all_take : (ls : List Line) (i : ℕ) → AllLines ls → AllLines (take i ls)
all_take ls zero h = tt
all_take [] (suc i) h = tt
all_take (None ∷ ls) (suc i) h = all_take ls i h
all_take (Some l ∷ ls) (suc i) h = (h.0, all_take ls i h.1)

-- a text is cut at its first line feed in one way
cut_same : (a b r s : List ℕ) → has_feed a ≡ false → has_feed b ≡ false → a ++ 10 ∷ r ≡ b ++ 10 ∷ s → (a ≡ b) × (r ≡ s)
cut_same [] [] r s h k e = (refl, cc)
cut_same [] (y ∷ b) r s h k e =
    let f : (y == 10) ≡ false = (clean_rest y b k).0 in let g : 10 ≡ y = cc in let bad : (10 == 10) ≡ false = subst (λ z. (z == 10) ≡ false) (sym g) f in absurd cc
cut_same (x ∷ a) [] r s h k e =
    let f : (x == 10) ≡ false = (clean_rest x a h).0 in let g : x ≡ 10 = cc in let bad : (10 == 10) ≡ false = subst (λ z. (z == 10) ≡ false) g f in absurd cc
cut_same (x ∷ a) (y ∷ b) r s h k e =
    let f : a ++ 10 ∷ r ≡ b ++ 10 ∷ s = cc in
    let g : x ≡ y = cc in
    let i = cut_same a b r s (clean_rest x a h).1 (clean_rest y b k).1 f in
    let j : a ≡ b = i.0 in
    (cc, i.1)

never_empty : (k rest : List ℕ) → [] ≡ k ++ 10 ∷ rest → ⊥
never_empty [] rest e = absurd cc
never_empty (x ∷ k) rest e = absurd cc

pub text_begins : (ds : List (List ℕ)) (ks : List Line) → Begins ds ks → TextBegins (joined ds) ks
text_begins ds [] h = tt
text_begins [] (None ∷ ks) h = absurd h
text_begins (d ∷ ds) (None ∷ ks) h = absurd h
text_begins [] (Some k ∷ ks) h = absurd h
text_begins (d ∷ ds) (Some k ∷ ks) h = (joined ds, (ap (λ (l : List ℕ). l ++ 10 ∷ joined ds) h.0, text_begins ds ks h.1))

pub begins_text : (ds : List (List ℕ)) (ks : List Line) → AllClean ds → AllLines ks → TextBegins (joined ds) ks → Begins ds ks
begins_text ds [] c l h = tt
begins_text [] (None ∷ ks) c l h = absurd h
begins_text (d ∷ ds) (None ∷ ks) c l h = absurd h
begins_text [] (Some k ∷ ks) c l h = absurd (never_empty k h.0 h.1.0)
begins_text (d ∷ ds) (Some k ∷ ks) c l h =
    let x = cut_same d k (joined ds) h.0 c.0 l.0 h.1.0 in
    (x.0, begins_text ds ks c.1 l.1 (subst (λ z. TextBegins z ks) (sym x.1) h.1.1))

pub begins_book : (ds : List (List ℕ)) (book : List ℕ) (i : ℕ) → AllClean ds → TextBegins (joined ds) (take i (lines_in book)) → Begins ds (take i (lines_in book))
begins_book ds book i c h = begins_text ds (take i (lines_in book)) c (all_take (lines_in book) i (in_lines book)) h

pub lines_joined : (ds : List (List ℕ)) → AllClean ds → lines_in (joined ds) ≡ map Some ds
lines_joined [] c = refl
lines_joined (d ∷ ds) c = first d (joined ds) c.0 ∙ ap (λ (l : List Line). Some d ∷ l) (lines_joined ds c.1)
  where
    first : (d rest : List ℕ) → has_feed d ≡ false → lines_in (d ++ 10 ∷ rest) ≡ Some d ∷ lines_in rest
    first [] rest h = refl
    first (b ∷ d) rest h = let x = clean_rest b d h in let t : (b == 10) ≡ false = x.0 in rw t (ap (after_byte b) (first d rest x.1))

pub joined_lines : (book : List ℕ) (ds : List (List ℕ)) → lines_in book ≡ map Some ds → book ≡ joined ds
joined_lines [] [] h = refl
joined_lines [] (d ∷ ds) h = absurd cc
joined_lines (b ∷ bs) ds h =
    ⊎_elim (λ (t : (b == 10) ≡ true).
    let e : Some [] ∷ lines_in bs ≡ map Some ds = rw t at h in
    let n : b ≡ 10 = same_number b 10 t in
    at_feed ds n e (λ es. joined_lines bs es))
    (λ (t : (b == 10) ≡ false). let e : after_byte b (lines_in bs) ≡ map Some ds = rw t at h in within ds (lines_in bs) e (λ es. joined_lines bs es))
    (cases (b == 10))
  where
    at_feed : (ds : List (List ℕ)) → b ≡ 10 → Some [] ∷ lines_in bs ≡ map Some ds → ((es : List (List ℕ)) → lines_in bs ≡ map Some es → bs ≡ joined es) → b ∷ bs ≡ joined ds
    at_feed [] n e again = absurd cc
    at_feed (d ∷ ds) n e again =
        let f : lines_in bs ≡ map Some ds = cc in
        let g : [] ≡ d = cc in
        let i : bs ≡ joined ds = again ds f in
        let j : b ∷ bs ≡ 10 ∷ joined ds = cc in
        subst (λ z. b ∷ bs ≡ z ++ 10 ∷ joined ds) g j

    within : (ds : List (List ℕ)) (ls : List Line) → after_byte b ls ≡ map Some ds → ((es : List (List ℕ)) → ls ≡ map Some es → bs ≡ joined es) → b ∷ bs ≡ joined ds
    within [] [] e again = absurd cc
    within [] (None ∷ ls) e again = absurd cc
    within [] (Some l ∷ ls) e again = absurd cc
    within (d ∷ ds) [] e again = absurd cc
    within (d ∷ ds) (None ∷ ls) e again = absurd cc
    within (d ∷ ds) (Some l ∷ ls) e again =
        let f : ls ≡ map Some ds = cc in
        let g : b ∷ l ≡ d = cc in
        let i : bs ≡ l ++ 10 ∷ joined ds = again (l ∷ ds) (ap (λ (z : List Line). Some l ∷ z) f) in
        subst (λ z. b ∷ bs ≡ z ++ 10 ∷ joined ds) g (ap (λ (z : List ℕ). b ∷ z) i)

-- ---- journals

pub lines_joined_of : (es : List Event) → lines_of es ≡ joined (map line_of es)
lines_joined_of [] = refl
lines_joined_of (e ∷ es) = ap (λ (z : List ℕ). line_of e ++ 10 ∷ z) (lines_joined_of es)

plain_joined_of : (es : List Event) → lines_of (map without_text es) ≡ joined (map plain_line es)
plain_joined_of [] = refl
plain_joined_of (e ∷ es) = ap (λ (z : List ℕ). plain_line e ++ 10 ∷ z) (plain_joined_of es)

pub headed_text : (h : Head) (es : List Event) → journal_text (record { head = Some h; events = es }) ≡ joined (head_line h ∷ map line_of es)
headed_text h es = append_assoc (head_line h) (10 ∷ []) (lines_of es) ∙ ap (λ (z : List ℕ). head_line h ++ 10 ∷ z) (lines_joined_of es)

pub plainly_text : (j : Journal) → journal_text (plain j) ≡ joined (map plain_line j.events)
plainly_text j = plain_joined_of j.events

below_or_at : (i n : ℕ) → i ≤ n → (suc i ≤ n) ⊎ (i ≡ n)
below_or_at zero zero h = inr refl
below_or_at zero (suc n) h = inl (omega arith)
below_or_at (suc i) zero h = absurd (omega (arith, h))
below_or_at (suc i) (suc n) h = ⊎_elim (λ (l : suc i ≤ n). inl (omega (arith, l))) (λ (e : i ≡ n). inr (ap suc e)) (below_or_at i n (omega (arith, h)))

-- ---- from an answer to the first line that differs

module _ (IsText : List ℕ → Type 0) (book : List ℕ) (P : List Line → Type 0) (E : List Line → List ℕ → Type 0)
    (to : (ks : List Line) → P ks → (text : List ℕ) × (IsText text × TextBegins text ks))
    (from : (i : ℕ) (text : List ℕ) → IsText text → TextBegins text (take i (lines_in book)) → P (take i (lines_in book)))
    (entire : (out : List ℕ) → E (lines_in book) out → IsText book) (back : IsText book → (out : List ℕ) × E (lines_in book) out)
    (fewer : (i j : ℕ) → j ≤ i → P (take i (lines_in book)) → P (take j (lines_in book)))
    (each : (i : ℕ) (out : List ℕ) → E (lines_in book) out → P (take i (lines_in book))) where
  no_diff : (j : ℕ) → P (take j (lines_in book)) → HasDiff IsText book j → ⊥
  no_diff j p d = d (to (take j (lines_in book)) p)

  pub first_among : (v : Verdict) → IsAnswer P E (lines_in book) 1 v → FirstAmong IsText book (line_of_verdict v)
  first_among (same out) h = whole (λ i o l. no_diff i (each i out h)) (entire out h)
  first_among (differs k) h =
      let i = h.0 in
      let d = h.1.1 in
      let n = length (lines_in book) in
      let low : i ≤ n = d.low in
      let e : k ≡ 1 + i = h.1.0 in
      ⊎_elim (λ (t : suc i ≤ n).
      let f : suc i ≡ k = omega (arith, e) in
      subst (λ z. FirstAmong IsText book (Some z)) f
      (least (suc i) (omega arith) t (λ x. d.not_on (omega (arith, t)) (from (suc i) x.0 x.1.0 x.1.1)) (λ j o (l : j < suc i). no_diff j (fewer i j (omega (arith, l)) d.so_far))))
      (λ (t : i ≡ n).
      let f : n + 1 ≡ k = omega (arith, e, t) in
      subst (λ z. FirstAmong IsText book (Some z)) f
      (short (λ j o (l : j ≤ n). no_diff j (fewer i j (omega (arith, l, t)) d.so_far)) (λ w. let x = back w in d.not_whole x.0 x.1)))
      (below_or_at i n low)
