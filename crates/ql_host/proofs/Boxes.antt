-- Boxes for variables that are stored.
use Rattle.std.proofs.Common.{◌≡◌, ℕ, zero, suc, ◌+◌, ◌/◌, ◌%◌, ◌==◌, ◌<◌, drop, slice_index_or, append_assoc, Option, Some, None, subst, Bool, true, false, List, [], ◌∷◌, ◌++◌, length, refl, sym, ap, ◌∙◌, arith}
use Rattle.std.proofs.lemmas.Bool.Decides.{nat_tests}
use Rattle.ql_world.specs.declared.word.Word.{Word}
use Rattle.ql_world.specs.Tick.{words_boxed}
use Rattle.ql_code.specs.Code.{unmasked}
use Rattle.ql_host.specs.declared.shared.Shared.{Shared}
use Rattle.ql_host.specs.Boxes.{HasBoxes, MeetsLimit, AfterBoxes}

-- of words of variables, those of the stored ones
abbrev pub stored_among : ℕ → List Word → List Word
stored_among mask ws = words_boxed (unmasked (length ws) mask) ws

module _ (mask : ℕ) (w : Word) (ws : List Word) where
  by_bit : (b : Bool) → (mask % 2 == 1) ≡ b → stored_among mask (w ∷ ws) ≡ words_boxed (b ∷ unmasked (length ws) (mask / 2)) (w ∷ ws)
  by_bit b e = ap (λ (x : Bool). words_boxed (x ∷ unmasked (length ws) (mask / 2)) (w ∷ ws)) e

  pub stored_first : mask % 2 ≡ 1 → stored_among mask (w ∷ ws) ≡ w ∷ stored_among (mask / 2) ws
  stored_first e = by_bit true (rw e refl)

  pub held_first : (mask % 2 ≡ 1 → ⊥) → stored_among mask (w ∷ ws) ≡ stored_among (mask / 2) ws
  held_first e = by_bit false (grind (arith, nat_tests, e))

there : (ws : List Word) (i : ℕ) (d : Word) → i < length ws → drop i ws ≡ slice_index_or ws i d ∷ drop (suc i) ws
there [] i d h = absurd (omega arith)
there (w ∷ ws) zero d h = refl
there (w ∷ ws) (suc i) d h = there ws i d (omega arith)

module _ (done ws all : List Word) (i mask : ℕ) (h : i < length ws) (e : done ++ stored_among mask (drop i ws) ≡ all) (d : Word) where
  abbrev here : Word
  here = slice_index_or ws i d

  next : drop (i + 1) ws ≡ drop (suc i) ws
  next = let e : i + 1 ≡ suc i = omega arith in ap (λ (n : ℕ). drop n ws) e

  pub after_stored : mask % 2 ≡ 1 → (done ++ here ∷ []) ++ stored_among (mask / 2) (drop (i + 1) ws) ≡ all
  after_stored b =
      append_assoc done (here ∷ []) (stored_among (mask / 2) (drop (i + 1) ws))
      ∙ ap (λ (xs : List Word). done ++ here ∷ stored_among (mask / 2) xs) next
      ∙ ap (λ (xs : List Word). done ++ xs) (sym (ap (stored_among mask) (there ws i d h) ∙ stored_first mask here (drop (suc i) ws) b))
      ∙ e

  pub after_held : (mask % 2 ≡ 1 → ⊥) → done ++ stored_among (mask / 2) (drop (i + 1) ws) ≡ all
  after_held b =
      ap (λ (xs : List Word). done ++ stored_among (mask / 2) xs) next
      ∙ ap (λ (xs : List Word). done ++ xs) (sym (ap (stored_among mask) (there ws i d h) ∙ held_first mask here (drop (suc i) ws) b))
      ∙ e

-- with no bit set
pub none_stored : (n : ℕ) (ws : List Word) → words_boxed (unmasked n 0) ws ≡ []
none_stored zero [] = refl
none_stored zero (w ∷ ws) = refl
none_stored (suc n) [] = refl
none_stored (suc n) (w ∷ ws) = none_stored n ws

-- what comes after boxes were asked for
module _ (ws : List Word) (old new : Shared) (p : ℕ) (o : Option ℕ) (a : AfterBoxes ws old new p o) where
  pub has_boxes : (first : ℕ) → o ≡ Some first → HasBoxes ws old new first
  has_boxes first e = subst (AfterBoxes ws old new p) e a

  pub meets_limit : o ≡ None → MeetsLimit ws old new p
  meets_limit e = subst (AfterBoxes ws old new p) e a
