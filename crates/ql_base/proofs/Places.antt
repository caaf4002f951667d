-- The places of names, and how a set of keys in order finds them.
use Rattle.std.proofs.Common.{◌≡◌, ℕ, zero, suc, ◌+◌, ◌<◌, ◌^◌, Bool, true, false, cond, List, [], ◌∷◌, ◌++◌, length, map, Option, Some, None, option_map, slice_get, is_some, if◌then◌else◌, ◌||◌, ◌⊎◌, inl, inr, ⊎_elim, refl, sym, ap, subst, ◌∙◌, arith, length-append, position}
use Rattle.std.specs.List.{list_any, position_from}
use Rattle.std.specs.Str.{bytes_eq}
use Rattle.std.proofs.lemmas.List.{map-append}
use Rattle.std.proofs.lemmas.Slice.Eq.{bytes_eq-Decides}
use Rattle.std.proofs.lemmas.Iterator.Adapters.{position_from-zero}
use Rattle.indexmap.specs.IndexSet.{insert_key}
use Rattle.ql_base.specs.Names.{AreDistinct, HasNumber, IsTable, place_of, with_name, with_names, reserved}

same_answer : (a b : Bool) → (a ≡ true → b ≡ true) → (b ≡ true → a ≡ true) → a ≡ b
same_answer true true f g = refl
same_answer true false f g = sym (f refl)
same_answer false true f g = g refl
same_answer false false f g = refl

bytes_eq-flips : (xs ys : List ℕ) → bytes_eq xs ys ≡ bytes_eq ys xs
bytes_eq-flips xs ys =
    let d = bytes_eq-Decides xs ys in
    let e = bytes_eq-Decides ys xs in
    same_answer (bytes_eq xs ys) (bytes_eq ys xs) (λ t. e.1 (sym (d.0 t))) (λ t. d.1 (sym (e.0 t)))

bytes_eq-same : (xs : List ℕ) → bytes_eq xs xs ≡ true
bytes_eq-same xs = let d = bytes_eq-Decides xs xs in d.1 refl

-- what comes of a place one further on
shifted : (i : ℕ) (p : Option ℕ) → option_map (λ j. j + (i + 1)) p ≡ option_map (λ j. j + i) (option_map (λ j. j + 1) p)
shifted i None = refl
shifted i (Some j) = let e : j + (i + 1) ≡ (j + 1) + i = omega arith in ap Some e

unshifted : (p : Option ℕ) → option_map (λ j. j + 0) p ≡ p
unshifted None = refl
unshifted (Some j) = let e : j + 0 ≡ j = omega arith in ap Some e

by_head : (b : Bool) (i : ℕ) (p q : Option ℕ) → q ≡ option_map (λ j. j + (i + 1)) p → cond b (Some i) q ≡ option_map (λ j. j + i) (cond b (Some 0) (option_map (λ j. j + 1) p))
by_head true i p q e = let z : i ≡ 0 + i = omega arith in ap Some z
by_head false i p q e = e ∙ shifted i p

absent : (b : Bool) (p : Option ℕ) → cond b (Some 0) (option_map (λ j. j + 1) p) ≡ None → (b ≡ false) × (p ≡ None)
absent true p e = absurd cc
absent false None e = (refl, refl)
absent false (Some j) e = absurd cc

module _ {K : Type 0} (see : K → List ℕ) where
  -- a set finds a text where its keys, read as texts, have it
  place_from : (keys : List K) (text : List ℕ) (i : ℕ) → position_from (λ k. bytes_eq text (see k)) i keys ≡ option_map (λ j. j + i) (place_of (map see keys) text)
  place_from [] text i = refl
  place_from (k ∷ keys) text i =
      rw (bytes_eq-flips text (see k))
      (by_head (bytes_eq (see k) text) i (place_of (map see keys) text) _ (place_from keys text (i + 1)))

  pub place_is_position : (keys : List K) (text : List ℕ) → position (λ k. bytes_eq text (see k)) keys ≡ place_of (map see keys) text
  place_is_position keys text =
      position_from-zero (λ k. bytes_eq text (see k)) keys ∙ place_from keys text 0 ∙ unshifted (place_of (map see keys) text)

  -- a text without a place equals no key
  any_is_place : (keys : List K) (text : List ℕ) → place_of (map see keys) text ≡ None → list_any (λ k. bytes_eq text (see k)) keys ≡ false
  any_is_place [] text e = refl
  any_is_place (k ∷ keys) text e =
      let h = absent (bytes_eq (see k) text) (place_of (map see keys) text) e in
      rw (bytes_eq-flips text (see k), h.0) (any_is_place keys text h.1)

  has_one : (b c : Bool) (p : Option ℕ) (n : ℕ) → cond b (Some 0) (option_map (λ j. j + 1) p) ≡ Some n → ((m : ℕ) → p ≡ Some m → c ≡ true) → b || c ≡ true
  has_one true c p n e f = refl
  has_one false c None n e f = absurd cc
  has_one false c (Some m) n e f = f m refl

  -- a text with a place equals some key
  pub any_has_place : (keys : List K) (text : List ℕ) (n : ℕ) → place_of (map see keys) text ≡ Some n → list_any (λ k. bytes_eq text (see k)) keys ≡ true
  any_has_place [] text n e = absurd cc
  any_has_place (k ∷ keys) text n e =
      rw (bytes_eq-flips text (see k))
      (has_one (bytes_eq (see k) text) (list_any (λ k. bytes_eq text (see k)) keys) (place_of (map see keys) text) n e (λ m. any_has_place keys text m))

  -- a new key stands last
  pub added_last : (keys new : List K) (k : K) (text : List ℕ) → new ≡ insert_key (λ x y. bytes_eq (see x) (see y)) keys k → see k ≡ text → place_of (map see keys) text ≡ None → map see new ≡ map see keys ++ text ∷ []
  added_last keys new k text e s none =
      let any : list_any (λ y. bytes_eq (see k) (see y)) keys ≡ false =
      subst (λ t. list_any (λ y. bytes_eq t (see y)) keys ≡ false) (sym s) (any_is_place keys text none) in
      let last : new ≡ keys ++ k ∷ [] = e ∙ ap (λ b. cond b keys (keys ++ k ∷ [])) any in
      ap (map see) last ∙ map-append see keys (k ∷ []) ∙ ap (λ t. map see keys ++ t ∷ []) s

-- the text stands last once it was added
place_of_last : (names : List (List ℕ)) (text : List ℕ) → place_of names text ≡ None → place_of (names ++ text ∷ []) text ≡ Some (length names)
place_of_last [] text e = rw (bytes_eq-same text) refl
place_of_last (n ∷ names) text e =
    let h = absent (bytes_eq n text) (place_of names text) e in
    let one : length names + 1 ≡ suc (length names) = omega arith in
    rw (h.0, place_of_last names text h.1) (ap Some one)

found_past : (b : Bool) (p q : Option ℕ) (i : ℕ) → ((j : ℕ) → p ≡ Some j → q ≡ Some j) → cond b (Some 0) (option_map (λ j. j + 1) p) ≡ Some i → cond b (Some 0) (option_map (λ j. j + 1) q) ≡ Some i
found_past true p q i f e = e
found_past false None q i f e = absurd cc
found_past false (Some j) q i f e = rw (f j refl) e

-- and every other text keeps its place
place_of_kept : (names : List (List ℕ)) (text other : List ℕ) (i : ℕ) → place_of names other ≡ Some i → place_of (names ++ text ∷ []) other ≡ Some i
place_of_kept [] text other i e = absurd cc
place_of_kept (n ∷ names) text other i e =
    found_past (bytes_eq n other) (place_of names other) (place_of (names ++ text ∷ []) other) i (λ j. place_of_kept names text other j) e

-- a name that stands among the names with one more
old_or_new : (names : List (List ℕ)) (text other : List ℕ) (i : ℕ) → slice_get (names ++ text ∷ []) i ≡ Some other → (slice_get names i ≡ Some other) ⊎ ((i ≡ length names) × (other ≡ text))
old_or_new [] text other zero e = inr (refl, cc)
old_or_new [] text other (suc i) e = absurd cc
old_or_new (n ∷ names) text other zero e = inl e
old_or_new (n ∷ names) text other (suc i) e =
    ⊎_elim (λ l. inl l) (λ r. inr (ap suc r.0, r.1)) (old_or_new names text other i e)

distinct_with : (names : List (List ℕ)) (text : List ℕ) → AreDistinct names → place_of names text ≡ None → AreDistinct (names ++ text ∷ [])
distinct_with names text d none i other e =
    ⊎_elim
    (λ (l : slice_get names i ≡ Some other). place_of_kept names text other i (d i other l))
    (λ (r : (i ≡ length names) × (other ≡ text)). rw (r.1, r.0) (place_of_last names text none))
    (old_or_new names text other i e)

-- a name keeps its number once another stands last
still_there : (names : List (List ℕ)) (text : List ℕ) (n : ℕ) (word : List ℕ) → slice_get names n ≡ Some word → slice_get (names ++ text ∷ []) n ≡ Some word
still_there [] text n word e = absurd cc
still_there (m ∷ names) text zero word e = e
still_there (m ∷ names) text (suc n) word e = still_there names text n word e

-- a table with one more name
pub table_with : (names new : List (List ℕ)) (text : List ℕ) → IsTable names → place_of names text ≡ None → length names + 1 < 2 ^ 32 → new ≡ names ++ text ∷ [] → IsTable new
table_with names new text t none small e =
    let len : length (names ++ text ∷ []) ≡ length names + 1 = length-append names (text ∷ []) in
    subst IsTable (sym e) (record {
      small = rw len small;
      distinct = distinct_with names text t.distinct none;
      begins = λ n word h. still_there names text n word (t.begins n word h);
    })

-- the number of a text that is there
pub number_of_known : (names : List (List ℕ)) (text : List ℕ) (n : ℕ) → place_of names text ≡ Some n → HasNumber names text n names
number_of_known names text n e = record { place = e; names = rw e refl }

-- the number of a text that was added
pub number_of_added : (names new : List (List ℕ)) (text : List ℕ) → place_of names text ≡ None → new ≡ names ++ text ∷ [] → HasNumber names text (length names) new
number_of_added names new text none e =
    record {
      place = rw e (place_of_last names text none);
      names = rw none e;
    }

-- each reserved word comes once
pub reserved_once : with_names [] reserved ≡ reserved
reserved_once = refl

distinct_by : (names : List (List ℕ)) (text : List ℕ) (p : Option ℕ) → place_of names text ≡ p → AreDistinct names → AreDistinct (with_name names text)
distinct_by names text None e d = rw e (distinct_with names text d e)
distinct_by names text (Some n) e d = rw e d

pub distinct_all : (names texts : List (List ℕ)) → AreDistinct names → AreDistinct (with_names names texts)
distinct_all names [] d = d
distinct_all names (text ∷ texts) d = distinct_all (with_name names text) texts (distinct_by names text (place_of names text) refl d)

pub reserved_distinct : AreDistinct reserved
reserved_distinct = subst AreDistinct reserved_once (distinct_all [] reserved (λ i text e. absurd cc))

pub reserved_table : IsTable reserved
reserved_table = record { small = omega arith; distinct = reserved_distinct; begins = λ n word h. h }

module _ {K : Type 0} (see : K → List ℕ) where
  insert_by : (keys : List K) (k : K) (p : Option ℕ) → place_of (map see keys) (see k) ≡ p
      → map see (insert_key (λ x y. bytes_eq (see x) (see y)) keys k) ≡ (if is_some p then map see keys else map see keys ++ see k ∷ [])
  insert_by keys k None e = added_last see keys (insert_key (λ x y. bytes_eq (see x) (see y)) keys k) k (see k) refl refl e
  insert_by keys k (Some n) e = ap (λ b. map see (cond b keys (keys ++ k ∷ []))) (any_has_place see keys (see k) n e)

  -- the keys of a set, with one more text
  pub insert_is : (keys : List K) (k : K) (text : List ℕ) → see k ≡ text
      → map see (insert_key (λ x y. bytes_eq (see x) (see y)) keys k) ≡ with_name (map see keys) text
  insert_is keys k text e = rw (← e) (insert_by keys k (place_of (map see keys) (see k)) refl)
