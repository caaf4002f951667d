-- The catch that a throw finds.
use Rattle.std.proofs.Common.{◌≡◌, ℕ, ◌==◌, Bool, true, false, List, [], ◌∷◌, length, Option, Some, None, refl, ◌∙◌, subst, ⊎_elim, arith, eq-eqb, eqb-true, ne_eqb}
use Rattle.std.specs.Prelude.{◌&&◌}
use Rattle.ql_world.specs.declared.word.Word.{Word}
use Rattle.ql_world.specs.World.{catch_at}
use Rattle.ql_world.specs.declared.world.Catch.{Catch}
use Rattle.ql_world.specs.Within.{is_over, has_tag, tagged}
use Rattle.ql_meaning.proofs.Over.{catch_low, catch_older}
use Rattle.ql_meaning.proofs.Lists.{cases, both_true, some_same}

pub record Found (cs : List Catch) (d c : ℕ) : Type 0 where
  pub kept : Catch
  pub is : catch_at cs c ≡ Some kept
  pub open_still : kept.open_still ≡ true
  pub tag : Word
  pub tag_is : kept.tag ≡ Some tag
  pub over : is_over cs c d ≡ true

has_one : (w : Word) (o : Option Word) → has_tag w o ≡ true → (tag : Word) × (o ≡ Some tag)
has_one w None h = absurd cc
has_one w (Some t) h = (t, refl)

-- the catch that a throw finds is open, and over the innermost one
pub found : (f : ℕ → Bool) (cs : List Catch) (w : Word) (d c : ℕ) → tagged f cs w d ≡ Some c → Found cs d c
found f [] w d c e = absurd cc
found f (k ∷ cs) w d c e =
    ⊎_elim
    (λ (t : (d == length cs) ≡ true).
    ⊎_elim
    (λ (v : f d ≡ true).
    ⊎_elim
    (λ (h : (k.open_still && has_tag w k.tag) ≡ true).
    let same : d ≡ c = some_same (rw h at (rw v at (rw t at e))) in
    let tag = has_one w k.tag (both_true _ _ h).1 in
    subst (λ z. Found (k ∷ cs) d z) same (record { kept = k; is = rw t refl; open_still = (both_true _ _ h).0; tag = tag.0; tag_is = tag.1; over = (let s : (d == d) ≡ true = eq-eqb d d refl in rw (t, s) refl) }))
    (λ (h : (k.open_still && has_tag w k.tag) ≡ false).
    let r = found f cs w k.enclosing c (rw h at (rw v at (rw t at e))) in
    let low = catch_low cs c r.kept r.is in
    let is : d ≡ length cs = eqb-true _ _ t in
    let n : (c == d) ≡ false = ne_eqb _ _ (λ z. omega (arith, low, z, is)) in
    record { kept = r.kept; is = (catch_older k cs c (catch_low cs c r.kept r.is) ∙ r.is); open_still = r.open_still; tag = r.tag; tag_is = r.tag_is; over = rw (t, n) r.over })
    (cases (k.open_still && has_tag w k.tag)))
    (λ (v : f d ≡ false). let bad : None ≡ Some c = rw v at (rw t at e) in absurd cc)
    (cases (f d)))
    (λ (t : (d == length cs) ≡ false).
    let r = found f cs w d c (rw t at e) in
    record { kept = r.kept; is = (catch_older k cs c (catch_low cs c r.kept r.is) ∙ r.is); open_still = r.open_still; tag = r.tag; tag_is = r.tag_is; over = rw t r.over })
    (cases (d == length cs))

-- what a throw finds passes the test
pub passes : (f : ℕ → Bool) (cs : List Catch) (w : Word) (d c : ℕ) → tagged f cs w d ≡ Some c → f c ≡ true
passes f [] w d c e = absurd cc
passes f (k ∷ cs) w d c e =
    ⊎_elim
    (λ (t : (d == length cs) ≡ true).
    ⊎_elim
    (λ (v : f d ≡ true).
    ⊎_elim
    (λ (h : (k.open_still && has_tag w k.tag) ≡ true). let same : d ≡ c = some_same (rw h at (rw v at (rw t at e))) in subst (λ z. f z ≡ true) same v)
    (λ (h : (k.open_still && has_tag w k.tag) ≡ false). passes f cs w k.enclosing c (rw h at (rw v at (rw t at e))))
    (cases (k.open_still && has_tag w k.tag)))
    (λ (v : f d ≡ false). let bad : None ≡ Some c = rw v at (rw t at e) in absurd cc)
    (cases (f d)))
    (λ (t : (d == length cs) ≡ false). passes f cs w d c (rw t at e))
    (cases (d == length cs))
