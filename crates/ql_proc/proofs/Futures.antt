-- The leftmost future of words.
use Rattle.std.proofs.Common.{suc, ◌-◌, ◌<◌, ◌≤◌, sym, subst, ap, ◌∙◌, map, take, reverse, length, arith, slice_get, ◌≡◌, refl, ℕ, List, [], ◌∷◌, ◌++◌, Option, Some, None}
use Rattle.std.specs.Prelude.{option_and_then}
use Rattle.ql_world.specs.declared.word.Word.{Word}
use Rattle.ql_world.specs.declared.word.Word.TheVariants.{Int, Sym, Pair, Fun, Proc, Fut}
use Rattle.ql_world.specs.Word.{first_future}
use Rattle.ql_world.specs.declared.word.Slot.{Slot}
use Rattle.ql_world.specs.declared.word.Slot.TheVariants.{Val, Cell}
use Rattle.ql_code.specs.Machine.{slot, words}
use Rattle.ql_proc.specs.Slots.{or_found, word_in_slot}
use Rattle.ql_proc.proofs.Lists.{At, at-of, reverse-taken, more}

pub futures-then : (xs ys : List Word) → first_future (xs ++ ys) ≡ or_found (first_future xs) (first_future ys)
futures-then [] ys = refl
futures-then (Int z ∷ xs) ys = futures-then xs ys
futures-then (Sym n ∷ xs) ys = futures-then xs ys
futures-then (Pair n ∷ xs) ys = futures-then xs ys
futures-then (Fun n ∷ xs) ys = futures-then xs ys
futures-then (Proc n ∷ xs) ys = futures-then xs ys
futures-then (Fut f ∷ xs) ys = refl

pub or-assoc : (a b c : Option ℕ) → or_found (or_found a b) c ≡ or_found a (or_found b c)
or-assoc None b c = refl
or-assoc (Some f) b c = refl

word-is : (s : Slot) (w : Word) → Some w ≡ word_in_slot s → s ≡ Val w
word-is (Val v) w e = cc
word-is (Cell n) w e = absurd cc

no-word : (s : Slot) → None ≡ word_in_slot s → (n : ℕ) × (s ≡ Cell n)
no-word (Val v) e = absurd cc
no-word (Cell n) e = (n, refl)

-- the words of slots of which the last so many stand first
abbrev pub future-under : (at left : ℕ) → List Slot → Option ℕ
future-under at left ss = first_future (words left (map slot (reverse (take at ss))))

module _ (at left : ℕ) (ss : List Slot) (h : 0 < at) (k : at ≤ length ss) where
  here : At ss (at - 1)
  here = at-of ss (at - 1) (omega (arith, h, k))

  first-of : reverse (take at ss) ≡ here.item ∷ reverse (take (at - 1) ss)
  first-of = subst (λ (m : ℕ). reverse (take m ss) ≡ here.item ∷ reverse (take (at - 1) ss)) (sym (more at h)) (reverse-taken (at - 1) ss here)

  future-of : (s : Slot) → here.item ≡ s → 0 < left → first_future (words left (map slot (reverse (take at ss)))) ≡ first_future (words (suc (left - 1)) (slot s ∷ map slot (reverse (take (at - 1) ss))))
  future-of s e p =
      subst (λ (m : ℕ). first_future (words m (map slot (reverse (take at ss)))) ≡ first_future (words (suc (left - 1)) (slot s ∷ map slot (reverse (take (at - 1) ss))))) (sym (more left p))
      (rw (first-of, e) refl)

  pub future-step : (w : Word) (found total : Option ℕ) → 0 < left → Some w ≡ option_and_then word_in_slot (slice_get ss (at - 1)) → or_found (future-under at left ss) found ≡ total
      → or_found (future-under (at - 1) (left - 1) ss) (or_found (first_future (w ∷ [])) found) ≡ total
  future-step w found total p g e =
      let i : here.item ≡ Val w = word-is here.item w (rw here.got at g) in
      sym (or-assoc (future-under (at - 1) (left - 1) ss) (first_future (w ∷ [])) found)
      ∙ (ap (λ (x : Option ℕ). or_found x found) (sym (future-of (Val w) i p ∙ futures-then (words (left - 1) (map slot (reverse (take (at - 1) ss)))) (w ∷ []))) ∙ e)

  pub future-stop : (found total : Option ℕ) → 0 < left → None ≡ option_and_then word_in_slot (slice_get ss (at - 1)) → or_found (future-under at left ss) found ≡ total → found ≡ total
  future-stop found total p g e =
      let i = no-word here.item (rw here.got at g) in
      rw (future-of (Cell i.0) i.1 p) at e
