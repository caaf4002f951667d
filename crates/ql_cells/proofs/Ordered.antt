-- A pair names only pairs before it.
use Rattle.std.proofs.Common.{◌≡◌, ◌⊎◌, inl, inr, ⊎_elim, refl, sym, ap, subst, ℕ, zero, suc, ◌+◌, ◌<◌, ◌≤◌, arith, List, [], ◌∷◌, ◌++◌, length, Some, slice_get}
use Rattle.ql_world.specs.declared.word.Word.{Word}
use Rattle.ql_cells.specs.Cells.{Cells}
use Rattle.ql_world.specs.Text.{IsBefore, AreOrdered}

-- what stands in a list with one more
old_or_new : {A : Type 0} (xs : List A) (y x : A) (i : ℕ) → slice_get (xs ++ y ∷ []) i ≡ Some x → (slice_get xs i ≡ Some x) ⊎ ((i ≡ length xs) × (x ≡ y))
old_or_new [] y x zero e = inr (refl, cc)
old_or_new [] y x (suc i) e = absurd cc
old_or_new (z ∷ xs) y x zero e = inl e
old_or_new (z ∷ xs) y x (suc i) e = ⊎_elim (λ l. inl l) (λ r. inr (ap suc r.0, r.1)) (old_or_new xs y x i e)

with_pair : (pairs new : List (Word × Word)) (a d : Word) → AreOrdered pairs → IsBefore (length pairs) a → IsBefore (length pairs) d → new ≡ pairs ++ (a, d) ∷ [] → AreOrdered new
with_pair pairs new a d o first second is =
    subst AreOrdered (sym is) (λ i x e.
    ⊎_elim
    (λ (l : slice_get pairs i ≡ Some x). o i x l)
    (λ (r : (i ≡ length pairs) × (x ≡ (a, d))). rw (r.0, r.1) (first, second))
    (old_or_new pairs (a, d) x i e))

-- the cells with one more pair
pub one_more : (seen old : Cells) (new : List (Word × Word)) (a d : Word) → seen ≡ old → AreOrdered seen.pairs → IsBefore (length old.pairs) a → IsBefore (length old.pairs) d → old.made < old.limit
    → new ≡ seen.pairs ++ (a, d) ∷ [] → AreOrdered new × (seen.made + 1 ≤ seen.limit)
one_more seen old new a d same o first second allowed is =
    let small : seen.made < seen.limit = subst (λ c. c.made < c.limit) (sym same) allowed in
    (with_pair seen.pairs new a d o (subst (λ c. IsBefore (length c.pairs) a) (sym same) first) (subst (λ c. IsBefore (length c.pairs) d) (sym same) second) is, omega arith)
