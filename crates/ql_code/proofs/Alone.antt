-- What a process does by itself, its tick does to the world.
use Rattle.std.proofs.Common.{◌≡◌, ℕ, zero, suc, ◌+◌, ◌≤◌, leb, Bool, true, false, not, ◌&&◌, if◌then◌else◌, List, [], ◌∷◌, ◌++◌, length, Option, Some, None, slice_get, refl, sym, ap, ap₂, ◌∙◌, subst, arith, append-nil, le-leb}
use Rattle.ql_base.specs.declared.limits.LimitKind.TheVariants.{Cells}
use Rattle.ql_base.specs.declared.limits.Limits.{Limits}
use Rattle.ql_world.specs.declared.word.Word.{Word}
use Rattle.ql_world.specs.declared.word.Word.TheVariants.{Int as integer, Sym as symbol, Pair as pair, Fun as closure, Proc as process_closure, Fut as future}
use Rattle.ql_world.specs.declared.word.Slot.TheVariants.{Val as plain}
use Rattle.ql_world.specs.declared.event.Stop.TheVariants.{Limit as limit}
use Rattle.ql_world.specs.Operator.{part, part_of, of_one, computed, takes_apart}
use Rattle.ql_world.specs.declared.operator.Operator.{Operator}
use Rattle.ql_world.specs.declared.operator.Operator.TheVariants.{Car as car, Cdr as cdr}
use Rattle.ql_world.specs.declared.operator.Computed.{Computed as Result}
use Rattle.ql_world.specs.declared.operator.Computed.TheVariants.{Gives as gives, Fails as fails, Joins as joins}
use Rattle.ql_world.specs.World.{World, marked, counted, with_thread}
use Rattle.ql_world.specs.declared.world.Process.{Process}
use Rattle.ql_world.specs.Machine.{Place, held, box, global, Want, takes_literal, reads, branches, computes, binds, calls, returns, Answer, done, got, bound, Machine}
use Rattle.ql_world.specs.Tick.{words_boxed, slots_of, bind_row, is_ready, row, variable_row, primitive_row, can_step, step}
use Rattle.ql_code.specs.LocalPath.{Seen, result_in, given}
use Rattle.ql_code.specs.LocalLaws.{none_stored, bound_alone, read_alone, alone, Shows}
use Rattle.ql_code.proofs.Within.{of_if, of_map}

unaware : (pairs : List (Word × Word)) (o : Operator) (a : Word) → takes_apart o ≡ false → of_one [] o a ≡ of_one pairs o a
unaware pairs car a e = absurd cc
unaware pairs cdr a e = absurd cc
unaware pairs o a e = refl

unaware_of : (pairs : List (Word × Word)) (o : Operator) (ws : List Word) → takes_apart o ≡ false → computed [] o ws ≡ computed pairs o ws
unaware_of pairs o [] e = refl
unaware_of pairs o (a ∷ []) e = ap Some (unaware pairs o a e)
unaware_of pairs o (a ∷ (b ∷ [])) e = refl
unaware_of pairs o (a ∷ (b ∷ (c ∷ ws))) e = refl

got_longer : {A : Type 0} → (xs ys : List A) (n : ℕ) (a : A) → slice_get xs n ≡ Some a → slice_get (xs ++ ys) n ≡ Some a
got_longer [] ys n a e = absurd cc
got_longer (x ∷ xs) ys zero a e = e
got_longer (x ∷ xs) ys (suc n) a e = got_longer xs ys n a e

given_is : (r : Option Result) (x : Word) → given r ≡ Some x → r ≡ Some (gives x)
given_is None x e = absurd cc
given_is (Some (fails k)) x e = absurd cc
given_is (Some (joins a b)) x e = absurd cc
given_is (Some (gives y)) x e = let same : y ≡ x = cc in ap (λ z. Some (gives z)) same

part_longer : (known more : List (Word × Word)) (f : Word × Word → Word) (n : ℕ) (x : Word) (o : Option (Word × Word)) → slice_get known n ≡ o → Some (part f o) ≡ Some (gives x) → Some (part f (slice_get (known ++ more) n)) ≡ Some (gives x)
part_longer known more f n x None s e = absurd cc
part_longer known more f n x (Some y) s e = ap (λ o. Some (part f o)) (got_longer known more n y s) ∙ e

apart_longer : (known more : List (Word × Word)) (f : Word × Word → Word) (a x : Word) → Some (part_of known f a) ≡ Some (gives x) → Some (part_of (known ++ more) f a) ≡ Some (gives x)
apart_longer known more f (pair n) x e = part_longer known more f n x (slice_get known n) refl e
apart_longer known more f (integer n) x e = e
apart_longer known more f (symbol n) x e = e
apart_longer known more f (closure n) x e = e
apart_longer known more f (process_closure n) x e = e
apart_longer known more f (future n) x e = e

one_longer : (known more : List (Word × Word)) (o : Operator) (a x : Word) → Some (of_one known o a) ≡ Some (gives x) → Some (of_one (known ++ more) o a) ≡ Some (gives x)
one_longer known more car a x e = apart_longer known more (λ y. y.0) a x e
one_longer known more cdr a x e = apart_longer known more (λ y. y.1) a x e
one_longer known more o a x e = e

longer : (known more : List (Word × Word)) (o : Operator) (ws : List Word) (x : Word) → computed known o ws ≡ Some (gives x) → computed (known ++ more) o ws ≡ Some (gives x)
longer known more o [] x e = absurd cc
longer known more o (a ∷ []) x e = one_longer known more o a x e
longer known more o (a ∷ (b ∷ [])) x e = e
longer known more o (a ∷ (b ∷ (c ∷ ws))) x e = absurd cc

pub known_result : (seen : Seen) (pairs : List (Word × Word)) (o : Operator) (ws : List Word) (x : Word) → Shows seen pairs → given (result_in seen o ws) ≡ Some x → computed pairs o ws ≡ Some (gives x)
known_result None pairs o ws x h e = of_apart (takes_apart o) refl e
  where
    of_apart : (b : Bool) → takes_apart o ≡ b → given (if b then None else computed [] o ws) ≡ Some x → computed pairs o ws ≡ Some (gives x)
    of_apart true t e = absurd cc
    of_apart false t e = sym (unaware_of pairs o ws t) ∙ given_is _ x e
known_result (Some known) pairs o ws x h e = subst (λ ps. computed ps o ws ≡ Some (gives x)) h.1 (longer known h.0 o ws x (given_is _ x e))

unboxed : (bs : List Bool) (ws : List Word) → none_stored bs ≡ true → words_boxed bs ws ≡ []
unboxed [] ws e = refl
unboxed (true ∷ bs) ws e = absurd cc
unboxed (false ∷ bs) [] e = refl
unboxed (false ∷ bs) (w ∷ ws) e = unboxed bs ws e

same_slots : (bs : List Bool) (ws : List Word) (n : ℕ) → none_stored bs ≡ true → slots_of bs ws n ≡ slots_of bs ws 0
same_slots [] ws n e = refl
same_slots (true ∷ bs) ws n e = absurd cc
same_slots (false ∷ bs) [] n e = refl
same_slots (false ∷ bs) (w ∷ ws) n e = ap (λ ss. plain w ∷ ss) (same_slots bs ws n e)

module _ {P K : Type 0} (m : Machine P K) (names : List (List ℕ)) (limits : Limits) (p : ℕ) (q : Process P) where
  bind_alone : (w : World P K) (bs : List Bool) (ws : List Word) (answer : Answer K) → w.cells ≤ limits.cells → bound_alone bs ws ≡ Some answer → bind_row m names limits p q w bs ws bound ≡ with_thread w p (m.go q.thread answer)
  bind_alone w bs ws answer h e =
      let i = of_if (none_stored bs) _ answer e in
      let none : words_boxed bs ws ≡ [] = unboxed bs ws i.0 in
      let fits : leb (w.cells + 0) limits.cells ≡ true = le-leb _ _ (omega arith) in
      let same : bound (slots_of bs ws 0) ≡ answer = let s = i.1 in cc in
      ap (λ xs. if leb (w.cells + length xs) limits.cells then with_thread (record w { boxes = w.boxes ++ xs; cells = w.cells + length xs }) p (m.go q.thread (bound (slots_of bs ws (length w.boxes)))) else marked w (limit Cells)) none
      ∙ ap (λ b. if b then with_thread (record w { boxes = w.boxes ++ []; cells = w.cells + 0 }) p (m.go q.thread (bound (slots_of bs ws (length w.boxes)))) else marked w (limit Cells)) fits
      ∙ ap₂ (λ xs n. with_thread (record w { boxes = xs; cells = n }) p (m.go q.thread (bound (slots_of bs ws (length w.boxes))))) (append-nil w.boxes) (let z : w.cells + 0 ≡ w.cells = omega arith in z)
      ∙ ap (λ ss. with_thread w p (m.go q.thread (bound ss))) (same_slots bs ws (length w.boxes) i.0)
      ∙ ap (λ a. with_thread w p (m.go q.thread a)) same

  pub ready_alone : (w : World P K) (seen : Seen) (want : Want) (answer : Answer K) → alone seen want ≡ Some answer → is_ready m names limits p q w want ≡ true
  ready_alone w seen takes_literal answer e = refl
  ready_alone w seen (reads place at) answer e = refl
  ready_alone w seen branches answer e = refl
  ready_alone w seen (computes o ws at) answer e = refl
  ready_alone w seen (binds bs ws) answer e = refl
  ready_alone w seen (calls bs ws) answer e = refl
  ready_alone w seen returns answer e = refl
  ready_alone w seen want answer e = absurd cc

  goes_alone : (w : World P K) (a b : Answer K) → Some a ≡ Some b → Some (with_thread w p (m.go q.thread a)) ≡ Some (with_thread w p (m.go q.thread b))
  goes_alone w a b e = let same : a ≡ b = cc in ap (λ c. Some (with_thread w p (m.go q.thread c))) same

  read_row : (w : World P K) (place : Place) (at : ℕ) (answer : Answer K) → read_alone place ≡ Some answer → variable_row m names limits p q w place at ≡ Some (with_thread w p (m.go q.thread answer))
  read_row w held at answer e = goes_alone w done answer e
  read_row w (box n) at answer e = absurd cc
  read_row w (global g) at answer e = absurd cc

  -- The row of such a want changes the process alone.
  pub row_alone : (w : World P K) (seen : Seen) (want : Want) (answer : Answer K) → Shows seen w.pairs → w.cells ≤ limits.cells → alone seen want ≡ Some answer → row m names limits p q w want ≡ Some (with_thread w p (m.go q.thread answer))
  row_alone w seen takes_literal answer s h e = goes_alone w done answer e
  row_alone w seen (reads place at) answer s h e = read_row w place at answer e
  row_alone w seen branches answer s h e = goes_alone w done answer e
  row_alone w seen (computes o ws at) answer s h e =
      let r = of_map got (given (result_in seen o ws)) answer e in
      ap (λ k. primitive_row m names limits p q w k at) (known_result seen w.pairs o ws r.0 s r.1) ∙ goes_alone w (got r.0) answer (ap Some r.2)
  row_alone w seen (binds bs ws) answer s h e = ap Some (bind_alone w bs ws answer h e)
  row_alone w seen (calls bs ws) answer s h e = ap Some (bind_alone w bs ws answer h e)
  row_alone w seen returns answer s h e = goes_alone w done answer e
  row_alone w seen want answer s h e = absurd cc

  -- Where a process wants such a thing, its tick changes the process alone.
  pub steps_alone : (w : World P K) (seen : Seen) (answer : Answer K) → q.ended ≡ false → Shows seen w.pairs → w.cells ≤ limits.cells → alone seen (m.want q.thread) ≡ Some answer →
      (can_step m names limits p q w ≡ true) × (step m names limits p q w ≡ Some (with_thread (counted w p) p (m.go q.thread answer)))
  steps_alone w seen answer n s h e =
      let can : can_step m names limits p q w ≡ true = ap₂ (λ b c. not b && c) n (ready_alone w seen (m.want q.thread) answer e) in
      (can, ap (λ b. if b then row m names limits p q (counted w p) (m.want q.thread) else None) can ∙ row_alone (counted w p) seen (m.want q.thread) answer s h e)
