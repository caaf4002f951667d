-- What is wrong with a form is that it is too deep, or what is wrong in its parts.
use Rattle.std.proofs.Common.{◌≡◌, ℕ, zero, suc, ◌+◌, ◌<◌, ◌≤◌, List, [], refl, sym, ap, ◌∙◌, arith}
use Rattle.std.specs.Prelude.{Bool, true, false, if◌then◌else◌, ltb}
use Rattle.std.proofs.lemmas.Bool.{le-ltb, lt-ltb}
use Rattle.ql_forms.specs.Form.{Form, place_of}
use Rattle.ql_base.specs.declared.refusal.Fault.{Fault}
use Rattle.ql_expand.specs.ExpandFault.{misshapen, shape_faults, faults_to, faults}
use Rattle.ql_expand.specs.Searching.{inside}
use Rattle.ql_expand.specs.declared.search.Role.{Role}

module _ (names : List (List ℕ)) where
  -- No form is so deep that it matters how deep the search goes.
  deep_enough : (depth n : ℕ) (r : Role) (f : Form) → 401 ≤ n + depth → faults_to names (suc depth) n r f ≡ faults_to names depth n r f
  deep_enough zero n r f h = let deep : 400 < n = omega arith in rw (lt-ltb 400 n deep) refl
  deep_enough (suc depth) n r f h =
      ap (λ below. if ltb 400 n then misshapen (place_of f) else shape_faults names below r f)
      (λ i d s g. deep_enough depth (n + 1 + d) s g (omega arith) i)

  pub opened : (n : ℕ) (r : Role) (f : Form)
      → faults names n r f ≡ (if ltb 400 n then misshapen (place_of f) else inside names n r f)
  unfolding faults
  opened n r f = sym (deep_enough 401 n r f (omega arith))

  pub too_deep : (n : ℕ) (r : Role) (f : Form) → 400 < n → faults names n r f ≡ misshapen (place_of f)
  too_deep n r f h = opened n r f ∙ rw (lt-ltb 400 n h) refl

  pub shallow : (n : ℕ) (r : Role) (f : Form) → n ≤ 400 → faults names n r f ≡ inside names n r f
  shallow n r f h = opened n r f ∙ rw (le-ltb 400 n h) refl

  -- What has no fault has none in its parts.
  pub clean : (n : ℕ) (r : Role) (f : Form) → faults names n r f ≡ [] → inside names n r f ≡ []
  clean n r f h = not_deep (ltb 400 n) (sym (opened n r f) ∙ h)
    where
      not_deep : (b : Bool) {xs : List Fault} → (if b then misshapen (place_of f) else xs) ≡ [] → xs ≡ []
      not_deep true e = cc
      not_deep false e = e
