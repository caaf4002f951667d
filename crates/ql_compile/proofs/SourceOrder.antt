-- The order of quoted data: a stable sort by offset is the order of the source.
use Rattle.std.proofs.Common.{◌≡◌, Bor, ℕ, suc, ◌<◌, ◌≤◌, Bool, true, false, cond, nat_lt, List, [], ◌∷◌, ◌++◌, length, map, filter, refl, sym, ap, subst, ◌∙◌, arith, append-nil, get_or}
use Rattle.std.specs.Prelude.{Result, OnOk, reverse}
use Rattle.std.specs.List.Sorted.{ties, IsNonDecreasingBy, IsSortedByKeyClosure, IsStableByKey, IsStableByKeyClosure}
use Rattle.std.proofs.lemmas.List.Elements.{filter-append}
use Rattle.std.proofs.lemmas.Fn.{always_returns_same}
use Rattle.std.proofs.lemmas.Grind.{reverse_onto}
use Rattle.std.proofs.lemmas.List.Sorted.{IsNonDecreasingBy-from_sort_by_key}
use Rattle.std.proofs.lemmas.Result.{on_ok_weaker}
use Rattle.std.specs.Fn.{Called}
use denote.Param.Members.{Mut}
use Rattle.ql_forms.specs.Form.{Form}
use Rattle.std.specs.Ordering.{is_lt, nat_cmp}
use Rattle.std.proofs.lemmas.Bool.Decides.{nat_tests}
use Rattle.ql_meaning.specs.Context.{Datum, with_datum, in_source_order}

-- Insertion sort by a number, as `in_source_order` does.
module _ {X : Type 0} (n : X → ℕ) where
  abbrev pub with_item : X → List X → List X
  with_item x [] = x ∷ []
  with_item x (y ∷ ys) = cond (nat_lt (n x) (n y)) (x ∷ (y ∷ ys)) (y ∷ with_item x ys)

  abbrev pub sorted : List X → List X
  sorted [] = []
  sorted (x ∷ xs) = with_item x (sorted xs)

  -- whether two items have equal numbers
  abbrev lt : X → X → Bool
  lt x y = is_lt (nat_cmp (n x) (n y))

  abbrev NoLess : ℕ → List X → Type 0
  NoLess k [] = Unit {0}
  NoLess k (y ∷ ys) = (k ≤ n y) × NoLess k ys

  abbrev Rises : List X → Type 0
  Rises [] = Unit {0}
  Rises (y ∷ ys) = NoLess (n y) ys × Rises ys

  abbrev only_if : Bool → X → List X
  only_if b x = cond b (x ∷ []) []

  no_less_with : (k : ℕ) (x : X) (ys : List X) → k ≤ n x → NoLess k ys → NoLess k (with_item x ys)
  no_less_with k x [] h r = (h, tt)
  no_less_with k x (y ∷ ys) h r = elim (nat_lt (n x) (n y)) as (λ b. NoLess k (cond b (x ∷ (y ∷ ys)) (y ∷ with_item x ys))) [
    | true ↦ (h, r)
    | false ↦ (r.0, no_less_with k x ys h r.1)
  ]

  no_less_under : (j k : ℕ) (ys : List X) → j ≤ k → NoLess k ys → NoLess j ys
  no_less_under j k [] h r = tt
  no_less_under j k (y ∷ ys) h r = (omega arith, no_less_under j k ys h r.1)

  -- what a test of numbers means
  is_less : (x y : X) → lt x y ≡ nat_lt (n x) (n y)
  is_less x y = grind arith

  tie : (x y : X) → ties lt x y ≡ true → n x ≡ n y
  tie x y h = grind arith

  tied : (x y : X) → n x ≡ n y → ties lt x y ≡ true
  tied x y h = grind arith

  not_tied : (x y : X) → n x < n y → ties lt x y ≡ false
  not_tied x y h = grind (arith, nat_tests)

  not_less : (x y : X) → nat_lt (n x) (n y) ≡ false → n y ≤ n x
  not_less x y h = grind (arith, nat_tests)

  less : (x y : X) → nat_lt (n x) (n y) ≡ true → n x < n y
  less x y h = grind (arith, nat_tests)

  -- among greater ones no item is equal
  none_tied : (x : X) (k : ℕ) (ys : List X) → n x < k → NoLess k ys → filter (ties lt x) ys ≡ []
  none_tied x k [] h r = refl
  none_tied x k (y ∷ ys) h r = rw (not_tied x y (omega arith)) (none_tied x k ys h r.1)

  -- an item goes behind those that are equal to it
  filter_with : (z x : X) (ys : List X) → Rises ys → filter (ties lt z) (with_item x ys) ≡ filter (ties lt z) ys ++ filter (ties lt z) (x ∷ [])
  filter_with z x [] r = refl
  filter_with z x (y ∷ ys) r = by (nat_lt (n x) (n y)) refl (filter_with z x ys r.1)
    where
      before : (b : Bool) → ties lt z x ≡ b → n x < n y → filter (ties lt z) (x ∷ (y ∷ ys)) ≡ filter (ties lt z) (y ∷ ys) ++ filter (ties lt z) (x ∷ [])
      before true e h =
          let none : filter (ties lt z) (y ∷ ys) ≡ [] = none_tied z (n y) (y ∷ ys) (subst (λ k. k < n y) (sym (tie z x e)) h) (omega arith, r.0) in
          rw (e, none) refl
      before false e h = rw e (sym (append-nil (filter (ties lt z) (y ∷ ys))))

      by : (b : Bool) → nat_lt (n x) (n y) ≡ b → filter (ties lt z) (with_item x ys) ≡ filter (ties lt z) ys ++ filter (ties lt z) (x ∷ [])
          → filter (ties lt z) (cond b (x ∷ (y ∷ ys)) (y ∷ with_item x ys)) ≡ filter (ties lt z) (y ∷ ys) ++ filter (ties lt z) (x ∷ [])
      by true e later = before (ties lt z x) refl (less x y e)
      by false e later = rw later (elim (ties lt z y) as (λ b. cond b (y ∷ (filter (ties lt z) ys ++ filter (ties lt z) (x ∷ []))) (filter (ties lt z) ys ++ filter (ties lt z) (x ∷ [])) ≡ cond b (y ∷ filter (ties lt z) ys) (filter (ties lt z) ys) ++ filter (ties lt z) (x ∷ [])) [ true ↦ refl | false ↦ refl ])

  rises_with : (x : X) (ys : List X) → Rises ys → Rises (with_item x ys)
  rises_with x [] r = (tt, tt)
  rises_with x (y ∷ ys) r = by (nat_lt (n x) (n y)) refl (rises_with x ys r.1)
    where
      by : (b : Bool) → nat_lt (n x) (n y) ≡ b → Rises (with_item x ys) → Rises (cond b (x ∷ (y ∷ ys)) (y ∷ with_item x ys))
      by true e later = let h : n x < n y = less x y e in ((omega arith, no_less_under (n x) (n y) ys (omega arith) r.0), r)
      by false e later = (no_less_with (n y) x ys (not_less x y e) r.0, later)

  sorted_rises : (xs : List X) → Rises (sorted xs)
  sorted_rises [] = tt
  sorted_rises (x ∷ xs) = rises_with x (sorted xs) (sorted_rises xs)

  filter_sorted : (z : X) (xs : List X) → filter (ties lt z) (sorted xs) ≡ filter (ties lt z) (reverse xs)
  filter_sorted z [] = refl
  filter_sorted z (x ∷ xs) =
      filter_with z x (sorted xs) (sorted_rises xs) ∙ (ap (λ ys. ys ++ filter (ties lt z) (x ∷ [])) (filter_sorted z xs) ∙ (sym (filter-append (ties lt z) (reverse xs) (x ∷ [])) ∙ ap (filter (ties lt z)) (sym (reverse_onto xs x []))))

  no_less_of : (x : X) (xs : List X) → ((k : ℕ) → k < length xs → n x ≤ n (get_or xs k x)) → NoLess (n x) xs
  no_less_of x [] h = tt
  no_less_of x (y ∷ ys) h = (h 0 (omega arith), no_less_of x ys (λ k p. h (suc k) (omega arith)))

  rises_of : (xs : List X) → IsNonDecreasingBy n xs → Rises xs
  rises_of [] h = tt
  rises_of (x ∷ xs) h = (no_less_of x xs (λ k p. h 0 (suc k) x (omega arith) (omega arith)), rises_of xs (λ i j d p q. h (suc i) (suc j) d (omega arith) (omega arith)))

  first_is_least : (y : X) (ys : List X) (z : X) (zs : List X) → NoLess (n z) zs → filter (ties lt y) (y ∷ ys) ≡ filter (ties lt y) (z ∷ zs) → n z ≤ n y
  first_is_least y ys z zs r h = by (nat_lt (n y) (n z)) refl
    where
      by : (b : Bool) → nat_lt (n y) (n z) ≡ b → n z ≤ n y
      by true e =
          let none : filter (ties lt y) (z ∷ zs) ≡ [] = none_tied y (n z) (z ∷ zs) (less y z e) (omega arith, r) in
          let some : y ∷ filter (ties lt y) ys ≡ [] = rw (tied y y refl) at (h ∙ none) in
          cc
      by false e = not_less y z e

  without_first : (b : Bool) (y z : X) (ys zs : List X) → cond b (y ∷ ys) ys ≡ cond b (z ∷ zs) zs → ys ≡ zs
  without_first true y z ys zs h = cc
  without_first false y z ys zs h = h

  -- Of lists that rise, the items of each number in their order make the list.
  same_by_ties : (ys zs : List X) → Rises ys → Rises zs → ((x : X) → filter (ties lt x) ys ≡ filter (ties lt x) zs) → ys ≡ zs
  same_by_ties [] [] r s h = refl
  same_by_ties [] (z ∷ zs) r s h = let e : [] ≡ z ∷ filter (ties lt z) zs = rw (tied z z refl) at (h z) in cc
  same_by_ties (y ∷ ys) [] r s h = let e : y ∷ filter (ties lt y) ys ≡ [] = rw (tied y y refl) at (h y) in cc
  same_by_ties (y ∷ ys) (z ∷ zs) r s h =
      let low : n z ≤ n y = first_is_least y ys z zs s.0 (h y) in
      let high : n y ≤ n z = first_is_least z zs y ys r.0 (sym (h z)) in
      let both : y ∷ filter (ties lt y) ys ≡ z ∷ filter (ties lt y) zs = rw (tied y y refl, tied y z (omega arith)) at (h y) in
      let first : y ≡ z = cc in
      let later = same_by_ties ys zs r.1 s.1 (λ x. without_first (ties lt x y) y z _ _ (h x ∙ ap (λ w. cond (ties lt x w) (z ∷ filter (ties lt x) zs) (filter (ties lt x) zs)) (sym first))) in
      cc

  module _ (f : X → Form) where
    abbrev as_datum : X → Datum
    as_datum x = (n x, f x)

    with_datum_is : (x : X) (ys : List X) → with_datum (as_datum x) (map as_datum ys) ≡ map as_datum (with_item x ys)
    with_datum_is x [] = refl
    with_datum_is x (y ∷ ys) = rw (with_datum_is x ys) (elim (nat_lt (n x) (n y)) as (λ b. cond b (as_datum x ∷ (as_datum y ∷ map as_datum ys)) (as_datum y ∷ map as_datum (with_item x ys)) ≡ map as_datum (cond b (x ∷ (y ∷ ys)) (y ∷ with_item x ys))) [ true ↦ refl | false ↦ refl ])

    sorted_is : (xs : List X) → in_source_order (map as_datum xs) ≡ map as_datum (sorted xs)
    sorted_is [] = refl
    sorted_is (x ∷ xs) = rw (sorted_is xs) (with_datum_is x (sorted xs))

    -- A stable sort of the reversed list is the order of the source.
    stable_sort_is : (old new : List X) → IsNonDecreasingBy n new → IsStableByKey n nat_cmp (reverse old) new → map as_datum new ≡ in_source_order (map as_datum old)
    stable_sort_is old new up stable =
        let same : new ≡ sorted old = same_by_ties new (sorted old) (rises_of new up) (sorted_rises old) (λ x. stable x ∙ sym (filter_sorted x old)) in
        ap (map as_datum) same ∙ sym (sorted_is old)

    -- So it is for the sort by a closure that gives the number.
    pub closure_sort_is : {F T E : Type 0} {g : Mut F (Bor X × Unit {0}) ℕ} {key : F} (r : Result T E) (old back new : List X) → back ≡ reverse old
        → IsStableByKeyClosure g nat_cmp key back new → OnOk r (IsSortedByKeyClosure g nat_cmp key new)
        → ((a : Bor X × Unit {0}) (k : ℕ) (after : F) → Called g key a k after → (k ≡ n a.0.now) × (after ≡ key))
        → OnOk r (map as_datum new ≡ in_source_order (map as_datum old))
    closure_sort_is {g = g} {key = key} r old back new e stable up gives =
        let kept : IsStableByKey n nat_cmp back new = stable n (always_returns_same g (λ a k. k ≡ n a.0.now) key gives) in
        on_ok_weaker r (λ (u : IsSortedByKeyClosure g nat_cmp key new). stable_sort_is old new (IsNonDecreasingBy-from_sort_by_key n new u gives) (subst (λ xs. IsStableByKey n nat_cmp xs new) e kept)) up
