-- The walk decides which code is valid.
use Rattle.std.proofs.Common.{◌≡◌, ℕ, Bool, true, false, List, [], ◌∷◌, Option, Some, None, refl, sym, ap, ◌∙◌, subst}
use Rattle.std.specs.Prelude.{◌==◌, ◌&&◌, ◌↔◌, if◌then◌else◌, slice_get}
use Rattle.std.proofs.lemmas.Bool.{eqb-true, eq-eqb}
use Rattle.ql_code.specs.Code.{Code}
use Rattle.ql_code.specs.Sound.{Shape, slots_in, Start, main, body, child, Target, target, All, Table, Has, first_place, is_same_kind, starts_at, IsStrict, IsValid}
use Rattle.ql_code.specs.Walk.{same_shape, shape_in, walked, same_slots, are_apart, has_head, joins_for, has_join, all_of, is_strict, is_strict_walk, is_valid}
use Rattle.ql_code.proofs.WalkIsSound.{both, if_both, shape_is, shape_self, if_same, sound_of, walked_is}
use Rattle.ql_code.proofs.WalkIsComplete.{shape_at, walks}

if_so : (b c : Bool) → (b ≡ true → c ≡ true) → (if b then c else true) ≡ true
if_so true c h = h refl
if_so false c h = refl

so_then : {b c : Bool} → (if b then c else true) ≡ true → b ≡ true → c ≡ true
so_then {b = b} {c = c} h e = sym (if_same c true e) ∙ h

module _ (f : Target → Bool) where
  all_are : (ts : List Target) → all_of f ts ≡ true → All (λ s pc sh. f (target s pc sh) ≡ true) ts
  all_are [] h = tt
  all_are (t ∷ ts) h = let (a, b) = both h in (a, all_are ts b)

  are_all : (H : Start → ℕ → Shape → Type 0) (ts : List Target) → ((s : Start) (pc : ℕ) (sh : Shape) → H s pc sh → f (target s pc sh) ≡ true) → All H ts → all_of f ts ≡ true
  are_all H [] g h = refl
  are_all H (t ∷ ts) g h = if_both (g t.start t.place t.shape h.0) (are_all H ts g h.1)

  checked : (ts : List Target) → all_of f ts ≡ true → (s : Start) (pc : ℕ) (sh : Shape) → shape_in ts s pc ≡ Some sh → f (target s pc sh) ≡ true
  checked ts h s pc sh e = shape_at (λ r q x. f (target r q x) ≡ true) ts s pc sh (all_are ts h) e

module _ (code : Code) where
  -- what is checked is so
  module _ (K : List Target) (h : is_strict code K ≡ true) where
    abbrev one : Target → Bool
    one t = (has_head code t && has_join code t) && all_of (λ u. same_slots t u && are_apart t u) K

    at_one : (s : Start) (pc : ℕ) (sh : Shape) → shape_in K s pc ≡ Some sh → one (target s pc sh) ≡ true
    at_one = checked one K h

    at_two : (s r : Start) (pc q : ℕ) (sh other : Shape) → shape_in K s pc ≡ Some sh → shape_in K r q ≡ Some other → (same_slots (target s pc sh) (target r q other) && are_apart (target s pc sh) (target r q other)) ≡ true
    at_two s r pc q sh other e f = checked (λ u. same_slots (target s pc sh) u && are_apart (target s pc sh) u) K (both (at_one s pc sh e)).1 r q other f

    strict_is : IsStrict code (shape_in K)
    strict_is = record {
      slots = λ s r pc sh other e f. shape_is (slots_in sh) (slots_in other) (so_then (both (at_two s r pc pc sh other e f)).0 (eq-eqb pc pc refl));
      apart = λ s r sh other e f g. so_then (both (at_two s r (first_place s) (first_place r) sh other e f)).1 (if_both (eq-eqb (first_place s) (first_place s) refl) (if_both (eq-eqb (first_place r) (first_place r) refl) (eq-eqb (first_place s) (first_place r) g)));
      heads = λ s sh e. so_then (both (both (at_one s (first_place s) sh e)).0).0 (eq-eqb (first_place s) (first_place s) refl);
      joins = λ pc own sh e. so_then (both (both (at_one (child pc own) pc sh e)).0).1 (eq-eqb pc pc refl);
    }

  -- what is so is checked
  module _ (t : Table) (st : IsStrict code t) (K : List Target) (h : All (Has t) K) where
    slots_so : (s r : Start) (pc q : ℕ) (sh other : Shape) → Has t s pc sh → Has t r q other → same_slots (target s pc sh) (target r q other) ≡ true
    slots_so s r pc q sh other e f =
        if_so (pc == q) (same_shape (slots_in sh) (slots_in other))
        (λ g. let i = eqb-true pc q g in let j = st.slots s r pc sh other e (subst (λ z. Has t r z other) (sym i) f) in subst (λ z. same_shape (slots_in sh) z ≡ true) j (shape_self (slots_in sh)))

    apart_so : (s r : Start) (pc q : ℕ) (sh other : Shape) → Has t s pc sh → Has t r q other → are_apart (target s pc sh) (target r q other) ≡ true
    apart_so s r pc q sh other e f =
        if_so ((first_place s == pc) && ((first_place r == q) && (pc == q))) (is_same_kind s r)
        (λ g.
        let (a, b) = both g in
        let (c, d) = both b in
        let i = eqb-true (first_place s) pc a in
        let j = eqb-true (first_place r) q c in
        let k = eqb-true pc q d in
        st.apart s r sh other (subst (λ z. Has t s z sh) (sym i) e) (subst (λ z. Has t r z other) (sym j) f) (i ∙ k ∙ sym j))

    head_so : (s : Start) (pc : ℕ) (sh : Shape) → Has t s pc sh → has_head code (target s pc sh) ≡ true
    head_so s pc sh e =
        if_so (first_place s == pc) (starts_at (slice_get code.instructions pc))
        (λ g. let i = eqb-true (first_place s) pc g in subst (λ z. starts_at (slice_get code.instructions z) ≡ true) i (st.heads s sh (subst (λ z. Has t s z sh) (sym i) e)))

    joins_so : (s : Start) (sh : Shape) → Has t s (first_place s) sh → joins_for code s ≡ true
    joins_so main sh e = refl
    joins_so (body l) sh e = refl
    joins_so (child l own) sh e = st.joins l own sh e

    join_so : (s : Start) (pc : ℕ) (sh : Shape) → Has t s pc sh → has_join code (target s pc sh) ≡ true
    join_so s pc sh e = if_so (first_place s == pc) (joins_for code s) (λ g. let i = eqb-true (first_place s) pc g in joins_so s sh (subst (λ z. Has t s z sh) (sym i) e))

    strict_so : is_strict code K ≡ true
    strict_so =
        are_all (λ x. (has_head code x && has_join code x) && all_of (λ u. same_slots x u && are_apart x u) K) (Has t) K
        (λ s pc sh e. if_both (if_both (head_so s pc sh e) (join_so s pc sh e))
        (are_all (λ u. same_slots (target s pc sh) u && are_apart (target s pc sh) u) (Has t) K (λ r q other f. if_both (slots_so s r pc q sh other e f) (apart_so s r pc q sh other e f)) h)) h

  valid_of : (o : Option (List Target)) → walked code ≡ o → is_strict_walk code o ≡ true → IsValid code
  valid_of None e h = absurd cc
  valid_of (Some K) e h = let (m, w) = walked_is code K e in record { sound = sound_of code K m w; strict = strict_is K h }

  pub is_so : is_valid code ≡ true → IsValid code
  is_so h = valid_of (walked code) refl h

  pub so_is : IsValid code → is_valid code ≡ true
  so_is v =
      let (K, (w, h)) = walks code v.sound in
      ap (is_strict_walk code) w ∙ strict_so v.sound.table v.strict K h

  pub decided : (is_valid code ≡ true) ↔ IsValid code
  decided = (is_so, so_is)
