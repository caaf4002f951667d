-- Slots on top of a stack.
use Rattle.std.proofs.Common.{◌≡◌, ℕ, zero, suc, ◌+◌, List, [], ◌∷◌, ◌++◌, length, map, refl, sym, ap, ◌∙◌, subst, arith, append_assoc, append-nil}
use Rattle.std.specs.Prelude.{drop as without_first, replicate}
use Rattle.ql_world.specs.Word.{nil}
use Rattle.ql_world.specs.declared.word.Word.{Word}
use Rattle.ql_world.specs.declared.word.Slot.{Slot}
use Rattle.ql_world.specs.declared.word.Slot.TheVariants.{Val as plain}
use Rattle.ql_world.specs.declared.world.Aim.{Aim}
use Rattle.ql_code.specs.Machine.{Item, slot, mark, word, words, push, push_slots, frame_of, aim_cleanup}
use Rattle.ql_code.specs.declared.mark.Mark.TheVariants.{Returning as returning, Base as base, Catching as catching, Protecting as protecting, Cleaning as cleaning}
use Rattle.ql_compile.proofs.Scopes.{stacked}

-- the first stack is the second under so many slots
pub data Over : ℕ → List Item → List Item → Type 0 where
  here : {st : List Item} → Over 0 st st
  more : {n : ℕ} {s : Slot} {a st : List Item} → Over n a st → Over (suc n) (slot s ∷ a) st

pub slots_over : (ss : List Slot) (st : List Item) → Over (length ss) (map slot ss ++ st) st
slots_over [] st = here
slots_over (s ∷ ss) st = more (slots_over ss st)

pub pushed_over : (ss : List Slot) (n : ℕ) (a st : List Item) → Over n a st → Over (length ss + n) (push_slots ss a) st
pushed_over [] n a st o = let e : n ≡ 0 + n = omega arith in subst (λ k. Over k a st) e o
pushed_over (s ∷ ss) n a st o =
    let e : length ss + suc n ≡ suc (length ss) + n = omega arith in
    subst (λ k. Over k (push_slots ss (slot s ∷ a)) st) e (pushed_over ss (suc n) (slot s ∷ a) st (more o))

pub nils_over : (n k : ℕ) (a st : List Item) → Over k a st → Over (n + k) (replicate n (word nil) ++ a) st
nils_over zero k a st o = let e : k ≡ 0 + k = omega arith in subst (λ j. Over j a st) e o
nils_over (suc n) k a st o =
    let e : suc (n + k) ≡ suc n + k = omega arith in subst (λ j. Over j (word nil ∷ (replicate n (word nil) ++ a)) st) e (more (nils_over n k a st o))

pub without_over : (n : ℕ) (a st : List Item) → Over n a st → without_first n a ≡ st
without_over n a st here = refl
without_over n a st (more o) = without_over _ _ st o

-- what does not depend on slots
module _ {A : Type 0} (f : List Item → A) (h : (s : Slot) (st : List Item) → f (slot s ∷ st) ≡ f st) where
  pub same_over : (n : ℕ) (a st : List Item) → Over n a st → f a ≡ f st
  same_over n a st here = refl
  same_over n a st (more o) = h _ _ ∙ same_over _ _ st o

  pub same_push : (ws : List Word) (st : List Item) → f (push ws st) ≡ f st
  same_push [] st = refl
  same_push (w ∷ ws) st = same_push ws (word w ∷ st) ∙ h (plain w) st

  pub same_pushed : (ss : List Slot) (st : List Item) → f (push_slots ss st) ≡ f st
  same_pushed [] st = refl
  same_pushed (s ∷ ss) st = same_pushed ss (slot s ∷ st) ∙ h s st

pub aim_over : (a : Aim) (n : ℕ) (u st : List Item) → Over n u st → Over n (aim_cleanup a u) (aim_cleanup a st)
aim_over a n u st here = here
aim_over a n u st (more o) = more (aim_over a _ _ st o)

pub aim_push : (a : Aim) (ws : List Word) (st : List Item) → aim_cleanup a (push ws st) ≡ push ws (aim_cleanup a st)
aim_push a [] st = refl
aim_push a (w ∷ ws) st = aim_push a ws (word w ∷ st)

pub aim_frame : (a : Aim) (st : List Item) → frame_of (aim_cleanup a st) ≡ frame_of st
aim_frame a [] = refl
aim_frame a (slot s ∷ st) = ap (λ l. s ∷ l) (aim_frame a st)
aim_frame a (mark (returning pc) ∷ st) = refl
aim_frame a (mark (base j) ∷ st) = refl
aim_frame a (mark (catching c pc) ∷ st) = aim_frame a st
aim_frame a (mark (protecting u pc) ∷ st) = aim_frame a st
aim_frame a (mark (cleaning u k) ∷ st) = refl

pub frame_pushed : (ss : List Slot) (st : List Item) → frame_of (push_slots ss st) ≡ stacked ss (frame_of st)
frame_pushed [] st = refl
frame_pushed (s ∷ ss) st = frame_pushed ss (slot s ∷ st)

pub push_last : (ws : List Word) (w : Word) (st : List Item) → push (ws ++ w ∷ []) st ≡ word w ∷ push ws st
push_last [] w st = refl
push_last (v ∷ ws) w st = push_last ws w (word v ∷ st)

words_of : (ws : List Word) (n : ℕ) (st : List Item) → words (length ws + n) (push ws st) ≡ words n st ++ ws
words_of [] n st = let e : 0 + n ≡ n = omega arith in rw e (sym (append-nil (words n st)))
words_of (w ∷ ws) n st =
    let e : length (w ∷ ws) + n ≡ length ws + suc n = omega arith in
    rw e (words_of ws (suc n) (word w ∷ st) ∙ append_assoc (words n st) (w ∷ []) ws)

pub words_pushed : (ws : List Word) (n : ℕ) (st : List Item) → length ws ≡ n → words n (push ws st) ≡ ws
words_pushed ws n st e = let k : n ≡ length ws + 0 = omega (arith, e) in rw k (words_of ws 0 st)

dropped : (ws : List Word) (n : ℕ) (st : List Item) → without_first (length ws + n) (push ws st) ≡ without_first n st
dropped [] n st = let e : 0 + n ≡ n = omega arith in rw e
dropped (w ∷ ws) n st = let e : length (w ∷ ws) + n ≡ length ws + suc n = omega arith in rw e (dropped ws (suc n) (word w ∷ st))

pub without_pushed : (ws : List Word) (n : ℕ) (st : List Item) → length ws ≡ n → without_first n (push ws st) ≡ st
without_pushed ws n st e = let k : n ≡ length ws + 0 = omega (arith, e) in rw k (dropped ws 0 st)
