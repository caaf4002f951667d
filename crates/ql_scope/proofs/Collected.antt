-- Stored variables, one after another.
use Rattle.std.proofs.Common.{◌≡◌, ℕ, List, [], ◌∷◌, ◌++◌, Some, Bool, true, false, if◌then◌else◌, refl, ap, sym, ◌∙◌, ◌==◌, ◌&&◌, ◌||◌, map, eqb-true}
use Rattle.std.specs.List.{list_any}
use Rattle.std.specs.Prelude.{option_map}
use Rattle.std.proofs.lemmas.List.{map-append}
use Rattle.ql_expand.specs.View.{name_of}
use Rattle.ql_expand.specs.declared.core_form.VarName.{VarName}
use Rattle.ql_expand.specs.declared.core_form.VarName.TheVariants.{Sym}
use Rattle.ql_expand.specs.Core.{named, hidden, Binder, binder, Program}
use Rattle.ql_scope.specs.declared.variable.Variable.{Variable}
use Rattle.ql_scope.specs.Scope.{offset_of}
use Rattle.ql_scope.specs.Scoped.{is_listed, HasStored}
use Rattle.ql_scope.specs.Stored.{binder_named, binder_set, at_most_one, same_variable, is_binder_among, is_stored, stored_binders}
use Rattle.ql_scope.specs.CheckTables.{offset_named}
use Rattle.ql_scope.specs.CheckWalk.{with_binder, with_binders, variable_of}
use Rattle.ql_scope.proofs.Cases.{or_assoc, or_false}

pub with_more : (bs cs ds : List Binder) → with_binders bs (cs ++ ds) ≡ with_binders (with_binders bs cs) ds
with_more bs [] ds = refl
with_more bs (c ∷ cs) ds = with_more (with_binder bs c) cs ds

-- The innermost binder of a name has that name.
found_is : (bs : List Binder) (w at : ℕ) → offset_named bs w ≡ Some at → binder_named bs w ≡ Some (binder at (named w))
found_is [] w at h = absurd cc
found_is (binder i (hidden n) ∷ bs) w at h = found_is bs w at h
found_is (binder i (named v) ∷ bs) w at h = by (v == w) refl h (found_is bs w at)
  where
    by : (t : Bool) → (v == w) ≡ t → option_map offset_of (if t then Some (binder i (named v)) else binder_named bs w) ≡ Some at
        → (offset_named bs w ≡ Some at → binder_named bs w ≡ Some (binder at (named w))) → (if t then Some (binder i (named v)) else binder_named bs w) ≡ Some (binder at (named w))
    by true e k rest = let same : v ≡ w = eqb-true v w e in let here : i ≡ at = cc in rw (same, here) refl
    by false e k rest = rest k

-- A `setq` of a name that a binder above has means that binder.
pub set_is : (above : List Binder) (v : VarName) (n at : ℕ) → v ≡ Sym n → offset_named above n ≡ Some at → binder_set above (name_of v) ≡ binder at (named n) ∷ []
set_is above v n at e h = rw e (ap at_most_one (found_is above n at h))

pub listed_is : (ks : List Variable) (at n : ℕ) → is_listed ks at n ≡ is_binder_among (binder at (named n)) (map variable_of ks)
listed_is [] at n = refl
listed_is (c ∷ ks) at n = rw (listed_is ks at n) refl

module _ (eq : Variable → Variable → Bool) (same : (x y : Variable) → eq x y ≡ (x.at == y.at && x.name == y.name)) where
  -- A table of variables answers as the search of its list.
  pub listed : (ks : List Variable) (k : Variable) → list_any (eq k) ks ≡ is_listed ks k.at k.name
  listed [] k = refl
  listed (c ∷ ks) k = rw (same k c, listed ks k) refl

  -- A variable is inserted.
  pub inserted : (ks : List Variable) (k : Variable) → map variable_of (if list_any (eq k) ks then ks else ks ++ k ∷ []) ≡ with_binder (map variable_of ks) (variable_of k)
  inserted ks k = rw (listed ks k, listed_is ks k.at k.name) (by (is_binder_among (variable_of k) (map variable_of ks)))
    where
      by : (t : Bool) → map variable_of (if t then ks else ks ++ k ∷ []) ≡ (if t then map variable_of ks else map variable_of ks ++ variable_of k ∷ [])
      by true = refl
      by false = map-append variable_of ks (k ∷ [])

same_is : (b c : Binder) → same_variable b c ≡ true → b ≡ c
same_is (binder i (named v)) (binder j (named w)) h =
    let at : i ≡ j = eqb-true i j (both (i == j) (v == w) h).0 in
    let names : v ≡ w = eqb-true v w (both (i == j) (v == w) h).1 in
    rw (at, names) refl
  where
    both : (s t : Bool) → (s && t) ≡ true → (s ≡ true) × (t ≡ true)
    both true true k = (refl, refl)
    both true false k = absurd cc
    both false t k = absurd cc
same_is (binder i (hidden n)) c h = absurd cc
same_is (binder i (named v)) (binder j (hidden n)) h = absurd cc

among_last : (b : Binder) (bs : List Binder) (c : Binder) → is_binder_among b (bs ++ c ∷ []) ≡ (is_binder_among b bs || same_variable b c)
among_last b [] c = or_false (same_variable b c)
among_last b (d ∷ bs) c = rw (among_last b bs c) (sym (or_assoc (same_variable b d) (is_binder_among b bs) (same_variable b c)))

among_one : (b : Binder) (bs : List Binder) (c : Binder) → is_binder_among b (with_binder bs c) ≡ (is_binder_among b bs || same_variable b c)
among_one b bs c = by (is_binder_among c bs) refl
  where
    or_same : (t u : Bool) → (u ≡ true → t ≡ true) → t ≡ (t || u)
    or_same true u k = refl
    or_same false false k = refl
    or_same false true k = k refl

    by : (t : Bool) → is_binder_among c bs ≡ t → is_binder_among b (if t then bs else bs ++ c ∷ []) ≡ (is_binder_among b bs || same_variable b c)
    by true e = or_same (is_binder_among b bs) (same_variable b c) (λ h. ap (λ d. is_binder_among d bs) (same_is b c h) ∙ e)
    by false e = among_last b bs c

among_all : (b : Binder) (bs cs : List Binder) → is_binder_among b (with_binders bs cs) ≡ (is_binder_among b bs || is_binder_among b cs)
among_all b bs [] = sym (or_false (is_binder_among b bs))
among_all b bs (c ∷ cs) = among_all b (with_binder bs c) cs ∙ (rw (among_one b bs c) (or_assoc (is_binder_among b bs) (same_variable b c) (is_binder_among b cs)))

-- The variables that are collected are those that are stored.
pub all_stored : (p : Program) (ks : List Variable) → map variable_of ks ≡ with_binders [] (stored_binders p) → HasStored p ks
all_stored p ks h at n = listed_is ks at n ∙ (ap (is_binder_among (binder at (named n))) h ∙ among_all (binder at (named n)) [] (stored_binders p))

-- A hidden variable is the variable of no `setq`.
hidden_among : (at n : ℕ) (bs : List Binder) → is_binder_among (binder at (hidden n)) bs ≡ false
hidden_among at n [] = refl
hidden_among at n (b ∷ bs) = hidden_among at n bs

pub hidden_is_not_stored : (p : Program) (at n : ℕ) → is_stored p (binder at (hidden n)) ≡ false
hidden_is_not_stored p at n = hidden_among at n (stored_binders p)
