-- Names and their numbers, in a table that grows.
use Rattle.std.proofs.Common.{◌≡◌, ℕ, zero, suc, ◌+◌, Bool, true, false, List, [], ◌∷◌, ◌++◌, length, slice_get, Option, Some, None, ◌⊎◌, inl, inr, ⊎_elim, refl, sym, ap, ◌∙◌, subst, arith, append_assoc}
use Rattle.std.proofs.lemmas.List.{append-nil}
use Rattle.std.specs.Prelude.{if◌then◌else◌, option_map, is_some, codes, slice_index_or}
use Rattle.std.specs.Str.{bytes_eq}
use Rattle.std.proofs.lemmas.Slice.Eq.{bytes_eq-Decides}
use Rattle.ql_base.specs.Names.{place_of, with_name, with_names, reserved, AreDistinct, HasNumber}
use Rattle.ql_read.specs.Numbering.{GoesOn}

pub same_text : (m text : List ℕ) → bytes_eq m text ≡ true → m ≡ text
same_text m text e = let d = bytes_eq-Decides m text in d.0 e

named_first : (m : List ℕ) (ns later : List (List ℕ)) (text : List ℕ) (n : ℕ) (b : Bool) → bytes_eq m text ≡ b → (o : Option ℕ) → place_of ns text ≡ o
    → ((j : ℕ) → place_of ns text ≡ Some j → slice_index_or (ns ++ later) j [] ≡ text)
    → (if b then Some 0 else option_map (λ i. i + 1) o) ≡ Some n → slice_index_or ((m ∷ ns) ++ later) n [] ≡ text
named_first m ns later text n true h o i others e = let z : 0 ≡ n = cc in subst (λ k. slice_index_or ((m ∷ ns) ++ later) k [] ≡ text) z (same_text m text h)
named_first m ns later text n false h (Some j) i others e =
    let next : j + 1 ≡ n = cc in
    let z : suc j ≡ n = omega (arith, next) in
    subst (λ k. slice_index_or ((m ∷ ns) ++ later) k [] ≡ text) z (others j i)
named_first m ns later text n false h None i others e = absurd (cc)

-- the name with this number, whatever comes later
named : (ns later : List (List ℕ)) (text : List ℕ) (n : ℕ) → place_of ns text ≡ Some n → slice_index_or (ns ++ later) n [] ≡ text
named [] later text n e = absurd (cc)
named (m ∷ ns) later text n e = named_first m ns later text n (bytes_eq m text) refl (place_of ns text) refl (λ j i. named ns later text j i) e

pub names_append : (ns : List (List ℕ)) (xs ys : List (List ℕ)) → with_names ns (xs ++ ys) ≡ with_names (with_names ns xs) ys
names_append ns [] ys = refl
names_append ns (x ∷ xs) ys = names_append (with_name ns x) xs ys

-- names stay where they are
name_grows : (ns : List (List ℕ)) (x : List ℕ) (b : Bool) → is_some (place_of ns x) ≡ b → (e : List (List ℕ)) × (with_name ns x ≡ ns ++ e)
name_grows ns x true h = ([], rw h (sym (append-nil ns)))
name_grows ns x false h = (x ∷ [], rw h refl)

grows : (ns xs : List (List ℕ)) → (e : List (List ℕ)) × (with_names ns xs ≡ ns ++ e)
grows ns [] = ([], sym (append-nil ns))
grows ns (x ∷ xs) =
    let (e, h) = name_grows ns x (is_some (place_of ns x)) refl in
    let (f, i) = grows (with_name ns x) xs in
    (e ++ f, i ∙ ap (λ n. n ++ f) h ∙ append_assoc ns e f)

-- A name has no place, or it is one of those.
by_place : (ns : List (List ℕ)) (x : List ℕ) (P : List (List ℕ) → Type 0) → (is_some (place_of ns x) ≡ true → P ns) → (place_of ns x ≡ None → P (ns ++ x ∷ [])) → (o : Option ℕ) → place_of ns x ≡ o → P (with_name ns x)
by_place ns x P f g (Some i) e = let t : is_some (place_of ns x) ≡ true = ap is_some e in rw t (f t)
by_place ns x P f g None e = let t : is_some (place_of ns x) ≡ false = ap is_some e in rw t (g e)

same_bytes : (xs : List ℕ) → bytes_eq xs xs ≡ true
same_bytes xs = let d = bytes_eq-Decides xs xs in d.1 refl

-- the place of a name once more names follow
kept_first : (b : Bool) (p q : Option ℕ) (i : ℕ) → ((j : ℕ) → p ≡ Some j → q ≡ Some j) → (if b then Some 0 else option_map (λ j. j + 1) p) ≡ Some i → (if b then Some 0 else option_map (λ j. j + 1) q) ≡ Some i
kept_first true p q i f e = e
kept_first false None q i f e = absurd (cc)
kept_first false (Some j) q i f e = rw (f j refl) e

place_kept : (ns later : List (List ℕ)) (text : List ℕ) (i : ℕ) → place_of ns text ≡ Some i → place_of (ns ++ later) text ≡ Some i
place_kept [] later text i e = absurd (cc)
place_kept (n ∷ ns) later text i e = kept_first (bytes_eq n text) (place_of ns text) (place_of (ns ++ later) text) i (λ j. place_kept ns later text j) e

no_place : (b : Bool) (p : Option ℕ) → (if b then Some 0 else option_map (λ j. j + 1) p) ≡ None → (b ≡ false) × (p ≡ None)
no_place true p e = absurd (cc)
no_place false None e = (refl, refl)
no_place false (Some j) e = absurd (cc)

place_last : (ns : List (List ℕ)) (x : List ℕ) → place_of ns x ≡ None → place_of (ns ++ x ∷ []) x ≡ Some (length ns)
place_last [] x e = rw (same_bytes x) refl
place_last (n ∷ ns) x e =
    let h = no_place (bytes_eq n x) (place_of ns x) e in
    let one : length ns + 1 ≡ suc (length ns) = omega arith in
    rw (h.0, place_last ns x h.1) (ap Some one)

-- where a name of a longer table stands
found : (ns : List (List ℕ)) (x text : List ℕ) (i : ℕ) → slice_get (ns ++ x ∷ []) i ≡ Some text → (slice_get ns i ≡ Some text) ⊎ ((i ≡ length ns) × (text ≡ x))
found [] x text zero e = inr (refl, cc)
found [] x text (suc i) e = absurd (cc)
found (n ∷ ns) x text zero e = inl e
found (n ∷ ns) x text (suc i) e = ⊎_elim (λ l. inl l) (λ r. inr (ap suc r.0, r.1)) (found ns x text i e)

distinct_last : (ns : List (List ℕ)) (x : List ℕ) → AreDistinct ns → place_of ns x ≡ None → AreDistinct (ns ++ x ∷ [])
distinct_last ns x d none i text e =
    ⊎_elim
    (λ (l : slice_get ns i ≡ Some text). place_kept ns (x ∷ []) text i (d i text l))
    (λ (r : (i ≡ length ns) × (text ≡ x)). rw (r.1, r.0) (place_last ns x none))
    (found ns x text i e)

distinct_all : (ns xs : List (List ℕ)) → AreDistinct ns → AreDistinct (with_names ns xs)
distinct_all ns [] d = d
distinct_all ns (x ∷ xs) d = distinct_all (with_name ns x) xs (by_place ns x AreDistinct (λ t. d) (distinct_last ns x d) (place_of ns x) refl)

none_distinct : AreDistinct []
none_distinct i text e = absurd (cc)

reserved_distinct : AreDistinct reserved
reserved_distinct = distinct_all [] reserved none_distinct

-- what goes on from a table goes on from those before it
pub goes_on_before : (first ns ws later : List (List ℕ)) → ns ≡ with_names first ws → GoesOn ns later → GoesOn first later
goes_on_before first ns ws later e g = record { more = ws ++ g.more; is = g.is ∙ ap (λ n. with_names n g.more) e ∙ sym (names_append first ws g.more) }

pub goes_on_same : (ns : List (List ℕ)) → GoesOn ns ns
goes_on_same ns = record { more = []; is = refl }

-- the name with a number
pub number_named : (ns later : List (List ℕ)) (text : List ℕ) (n : ℕ) → place_of ns text ≡ Some n → GoesOn ns later → slice_index_or later n [] ≡ text
number_named ns later text n e g =
    let (added, h) = grows ns g.more in
    ap (λ z. slice_index_or z n []) (g.is ∙ h) ∙ named ns added text n e

pub symbol_named : (later old new : List (List ℕ)) (text : List ℕ) (n : ℕ) → HasNumber old text n new → GoesOn (with_name old text) later → slice_index_or later n [] ≡ text
symbol_named later old new text n h g = number_named new later text n h.place (subst (λ z. GoesOn z later) (sym h.names) g)

-- a reserved word changes nothing
pub word_known : (ns : List (List ℕ)) (text : List ℕ) (n : ℕ) → place_of reserved text ≡ Some n → GoesOn reserved ns → with_name ns text ≡ ns
word_known ns text n e g =
    let (added, h) = grows reserved g.more in
    let there : place_of ns text ≡ Some n = ap (λ z. place_of z text) (g.is ∙ h) ∙ place_kept reserved added text n e in
    let t : is_some (place_of ns text) ≡ true = ap is_some there in
    rw t refl

pub nil_named : (later : List (List ℕ)) → GoesOn reserved later → slice_index_or later 0 [] ≡ codes "nil"
nil_named later g = number_named reserved later (codes "nil") 0 refl g

pub quote_named : (later : List (List ℕ)) → GoesOn reserved later → slice_index_or later 2 [] ≡ codes "quote"
quote_named later g = number_named reserved later (codes "quote") 2 refl g

stands_there : (ns : List (List ℕ)) (n b : ℕ) (w : List ℕ) → slice_index_or ns n [] ≡ b ∷ w → slice_get ns n ≡ Some (b ∷ w)
stands_there [] n b w e = absurd (cc)
stands_there (m ∷ ns) zero b w e = ap Some e
stands_there (m ∷ ns) (suc n) b w e = stands_there ns n b w e

-- no other number names nil
only_nil : (later : List (List ℕ)) (n : ℕ) → GoesOn reserved later → slice_index_or later n [] ≡ codes "nil" → n ≡ 0
only_nil later n g e =
    let distinct : AreDistinct later = subst AreDistinct (sym g.is) (distinct_all reserved g.more reserved_distinct) in
    let here : place_of later (codes "nil") ≡ Some n = distinct n (codes "nil") (stands_there later n 110 (105 ∷ 108 ∷ []) e) in
    let (added, h) = grows reserved g.more in
    let first : place_of later (codes "nil") ≡ Some 0 = ap (λ z. place_of z (codes "nil")) (g.is ∙ h) ∙ place_kept reserved added (codes "nil") 0 refl in
    let both : Some n ≡ Some 0 = sym here ∙ first in
    cc

not_true : (b : Bool) → (b ≡ true → Prim.⊥) → b ≡ false
not_true true f = absurd (f refl)
not_true false f = refl

pub not_nil : (later : List (List ℕ)) (n : ℕ) → GoesOn reserved later → (n ≡ 0 → Prim.⊥) → bytes_eq (slice_index_or later n []) (codes "nil") ≡ false
not_nil later n g f = not_true (bytes_eq (slice_index_or later n []) (codes "nil")) (λ t. f (only_nil later n g (same_text (slice_index_or later n []) (codes "nil") t)))

pub is_nil_named : (later : List (List ℕ)) (n : ℕ) → GoesOn reserved later → n ≡ 0 → bytes_eq (slice_index_or later n []) (codes "nil") ≡ true
is_nil_named later n g z = ap (λ w. bytes_eq w (codes "nil")) (ap (λ m. slice_index_or later m []) z ∙ nil_named later g)
