-- Those that are killed, one after another.
use Rattle.std.proofs.Common.{◌≡◌, refl, sym, ap, ◌∙◌, ℕ, suc, Bool, true, false, List, [], ◌∷◌, ◌++◌, length, arith, append_assoc, length-append, ⊎_elim}
use Rattle.std.proofs.lemmas.Bool.{cases_Bool}
use Rattle.ql_world.specs.World.{change, change_numbered}
use Rattle.ql_world.specs.Run.{those_from}
use Rattle.ql_tree.specs.Kill.{changed_from, changed_at_each}

module _ {A : Type 0} (f : ℕ → A → Bool) (g : A → A) where
  change-seam : (ys : List A) (x : A) (xs : List A) → change g (ys ++ x ∷ xs) (length ys) ≡ ys ++ g x ∷ xs
  change-seam [] x xs = refl
  change-seam (y ∷ ys) x xs = ap (λ zs. y ∷ zs) (change-seam ys x xs)

  -- those that come first are done with
  each-from : (xs ys zs : List A) (n : ℕ) → zs ≡ ys ++ xs → n ≡ suc (length ys) → changed_at_each g zs (those_from f n xs) ≡ ys ++ changed_from f g n xs
  each-from [] ys zs n e l = e
  each-from (x ∷ xs) ys zs n e l =
      let next : (y : A) → suc n ≡ suc (length (ys ++ y ∷ [])) = λ y. omega (arith, length-append ys (y ∷ [])) in
      let change_it : change_numbered g zs n ≡ (ys ++ g x ∷ []) ++ xs = rw (e, l) (change-seam ys x xs ∙ sym (append_assoc ys (g x ∷ []) xs)) in
      let leave_it : zs ≡ (ys ++ x ∷ []) ++ xs = e ∙ sym (append_assoc ys (x ∷ []) xs) in
      ⊎_elim
      (λ (t : f n x ≡ true). rw t (each-from xs (ys ++ g x ∷ []) (change_numbered g zs n) (suc n) change_it (next (g x)) ∙ append_assoc ys (g x ∷ []) (changed_from f g (suc n) xs)))
      (λ (t : f n x ≡ false). rw t (each-from xs (ys ++ x ∷ []) zs (suc n) leave_it (next x) ∙ append_assoc ys (x ∷ []) (changed_from f g (suc n) xs)))
      (cases_Bool (f n x))

  pub killed-each : (xs : List A) → changed_at_each g xs (those_from f 1 xs) ≡ changed_from f g 1 xs
  killed-each xs = each-from xs [] xs 1 refl refl
