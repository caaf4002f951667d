-- Things in the order of their numbers.
use Rattle.std.proofs.Common.{◌≡◌, refl, ap, ◌∙◌, ℕ, zero, suc, ◌-◌, ◌<◌, true, false, List, [], ◌∷◌, length, set, get_or, arith, Some, is_some, slice_get}
use Rattle.std.proofs.lemmas.Option.{get_or_from_slice_get}
use Rattle.ql_world.specs.declared.world.Closure.{Closure}
use Rattle.ql_calls.specs.Calls.{Calls}
use Rattle.ql_world.specs.World.{ProcessClosure, change, numbered, change_numbered}

module _ {A : Type 0} where
  change-set : (f : A → A) (xs : List A) (i : ℕ) (d y : A) → y ≡ f (get_or xs i d) → set xs i y ≡ change f xs i
  change-set f [] i d y e = refl
  change-set f (x ∷ xs) zero d y e = ap (λ z. z ∷ xs) e
  change-set f (x ∷ xs) (suc i) d y e = ap (λ ys. x ∷ ys) (change-set f xs i d y e)

  change-none : (f : A → A) (xs : List A) (i : ℕ) → is_some (slice_get xs i) ≡ false → xs ≡ change f xs i
  change-none f [] i e = refl
  change-none f (x ∷ xs) zero e = absurd cc
  change-none f (x ∷ xs) (suc i) e = ap (λ ys. x ∷ ys) (change-none f xs i e)

  slice_get-is : (xs : List A) (i : ℕ) (d : A) → is_some (slice_get xs i) ≡ true → slice_get xs i ≡ Some (get_or xs i d)
  slice_get-is [] i d e = absurd cc
  slice_get-is (x ∷ xs) zero d e = refl
  slice_get-is (x ∷ xs) (suc i) d e = slice_get-is xs i d e

  pub changed-to : (f : A → A) (xs : List A) (k : ℕ) (d y : A) → is_some (numbered xs k) ≡ true → y ≡ f (get_or xs (k - 1) d) → set xs (k - 1) y ≡ change_numbered f xs k
  changed-to f xs zero d y e new = absurd cc
  changed-to f xs (suc i) d y e new =
      let l : suc i - 1 ≡ i = omega arith in
      rw l (change-set f xs i d y (rw l at new))

  pub changed-none : (f : A → A) (xs : List A) (k : ℕ) → is_some (numbered xs k) ≡ false → xs ≡ change_numbered f xs k
  changed-none f xs zero e = refl
  changed-none f xs (suc i) e = change-none f xs i e

  pub numbered-is : (xs : List A) (k : ℕ) (d : A) → is_some (numbered xs k) ≡ true → numbered xs k ≡ Some (get_or xs (k - 1) d)
  numbered-is xs zero d e = absurd cc
  numbered-is xs (suc i) d e = let l : suc i - 1 ≡ i = omega arith in rw l (slice_get-is xs i d e)

  pub numbered-get : (xs : List A) (k : ℕ) (d x : A) → numbered xs k ≡ Some x → get_or xs (k - 1) d ≡ x
  numbered-get xs zero d x e = absurd cc
  numbered-get xs (suc i) d x e = let l : suc i - 1 ≡ i = omega arith in rw l (get_or_from_slice_get xs i x d e)

  is-within : (xs : List A) (i : ℕ) → is_some (slice_get xs i) ≡ true → i < length xs
  is-within [] i e = absurd cc
  is-within (x ∷ xs) zero e = omega arith
  is-within (x ∷ xs) (suc i) e = let l = is-within xs i e in omega arith

  pub numbered-within : (xs : List A) (k : ℕ) → is_some (numbered xs k) ≡ true → k - 1 < length xs
  numbered-within xs zero e = absurd cc
  numbered-within xs (suc i) e = let l : i < length xs = is-within xs i e in omega arith

-- what a change of the list is to what contracts see
pub changed-calls : (f : List (ProcessClosure Closure) → List (ProcessClosure Closure)) (v : Calls) (old new : List (ProcessClosure Closure)) (spare : ℕ) → (let c : Calls = record { servers = old; spare = spare } in c) ≡ v → new ≡ f old → (let c : Calls = record { servers = new; spare = spare } in c) ≡ record v { servers = f v.servers }
changed-calls f v old new spare e h = ap (λ (xs : List (ProcessClosure Closure)). let c : Calls = record { servers = xs; spare = spare } in c) h ∙ ap (λ (w : Calls). record w { servers = f w.servers }) e
