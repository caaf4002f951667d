-- What is on the frames is on the stack: cleanups, catches, and what unwinding stops at.
use Rattle.std.proofs.Common.{◌≡◌, ℕ, ◌+◌, List, [], ◌∷◌, length, refl, sym, ap, ◌∙◌, subst}
use Rattle.ql_expand.specs.Core.{Name, Core, Node}
use Rattle.ql_world.specs.declared.word.Word.{Word}
use Rattle.ql_world.specs.declared.word.Slot.{Slot}
use Rattle.ql_world.specs.declared.world.Aim.{Aim}
use Rattle.ql_meaning.specs.Context.{Context}
use Rattle.ql_meaning.specs.Control as control
use Rattle.ql_meaning.specs.Control.{Bindings, Frame, Control, unwinding}
use Rattle.ql_code.specs.Code.{Instruction}
use Rattle.ql_compile.specs.Compile.{Scope, Places}
use Rattle.ql_code.specs.declared.mark.State.TheVariants as states
use Rattle.ql_code.specs.Machine.{Item, slot, mark, word, push, top_mark, frame_of, cleanups_on, innermost_on, unwind, aim_cleanup}
use Rattle.ql_code.specs.declared.mark.Mark.{Mark}
use Rattle.ql_code.specs.declared.mark.State.{State}
use Rattle.ql_code.specs.declared.mark.Mark.TheVariants.{Base as base, Returning as returning, Catching as catching, Protecting as protecting, Cleaning as cleaning}
use Rattle.ql_compile.proofs.Scopes.{Sees}
use Rattle.ql_compile.proofs.Stacks.{same_over, same_push, aim_over, aim_push, aim_frame}
use Rattle.ql_compile.proofs.Relation.{Beyond, Fits, After, Clean, Rest, jumping, sliding, operand, joins, forms, tops, touching, waiting, Waits, returns, exits, leaves, cleans, child, server, Stops, at_catch, at_protect, at_clean, at_tops, at_child, at_server, at_nothing, At, at_literal, at_read, at_close, at_guard, at_act, at_touch, at_bind, at_given, at_reply, at_unwinding, at_end, at_resting, at_over}

module _ (x : Context) (places : Places) (ops : List Instruction) where
  abbrev R : List Frame → ℕ → List Item → Type 0
  R = Rest x places ops

  abbrev W : List Frame → ℕ → List Item → Type 0
  W = Waits x places ops

  abbrev T : List Frame → List Item → Type 0
  T = Stops x places ops

  -- what looks past slots
  module _ {A : Type 0} (f : List Item → A) (h : (s : Slot) (st : List Item) → f (slot s ∷ st) ≡ f st) where
    pub pushed_same : (ws : List Word) (st below : List Item) → st ≡ push ws below → f st ≡ f below
    pushed_same ws st below e = ap f e ∙ same_push f h ws below

  mutual
    rest_cleanups : (fs : List Frame) (pc : ℕ) (st : List Item) → R fs pc st → control.cleanups_on fs ≡ cleanups_on st
    rest_cleanups fs pc st (jumping l at g k t) = rest_cleanups fs l st t
    rest_cleanups fs pc st (sliding below n at g o t) = rest_cleanups fs (pc + 1) below t ∙ sym (same_over cleanups_on (λ s st. refl) n st below o)
    rest_cleanups fs pc st (operand at n ws cs env gs below q r e o k a t) = rest_cleanups gs r below t ∙ sym (pushed_same cleanups_on (λ s st. refl) ws st below e)
    rest_cleanups fs pc st (joins at bs d ws cs env gs below q r e o k a t) = rest_cleanups gs r below t ∙ sym (pushed_same cleanups_on (λ s st. refl) ws st below e)
    rest_cleanups fs pc st (forms cs env gs q f t) = rest_cleanups gs q st t
    rest_cleanups fs pc st (tops cs at g t) = refl
    rest_cleanups fs pc st (touching at gs g t) = rest_cleanups gs (pc + 1) st t
    rest_cleanups fs pc st (waiting t) = waits_cleanups fs pc st t

    waits_cleanups : (fs : List Frame) (pc : ℕ) (st : List Item) → W fs pc st → control.cleanups_on fs ≡ cleanups_on st
    waits_cleanups fs pc st (returns gs below n at l g o t) = rest_cleanups gs l below t ∙ sym (same_over cleanups_on (λ s st. refl) n st _ o)
    waits_cleanups fs pc st (exits c gs below at l g e t) = rest_cleanups gs l below t
    waits_cleanups fs pc st (leaves u c env gs below at l r g e k t) = rest_cleanups gs r below t
    waits_cleanups fs pc st (cleans u v k gs below at g t) = ap (λ ks. k ∷ ks) (rest_cleanups gs (pc + 1) below t)
    waits_cleanups fs pc st (child at n g o) = sym (same_over cleanups_on (λ s st. refl) n st _ o)
    waits_cleanups fs pc st (server at n g o) = sym (same_over cleanups_on (λ s st. refl) n st _ o)

    rest_innermost : (fs : List Frame) (pc : ℕ) (st : List Item) → R fs pc st → control.innermost_on fs ≡ innermost_on st
    rest_innermost fs pc st (jumping l at g k t) = rest_innermost fs l st t
    rest_innermost fs pc st (sliding below n at g o t) = rest_innermost fs (pc + 1) below t ∙ sym (same_over innermost_on (λ s st. refl) n st below o)
    rest_innermost fs pc st (operand at n ws cs env gs below q r e o k a t) =
        rest_innermost gs r below t ∙ sym (pushed_same innermost_on (λ s st. refl) ws st below e)
    rest_innermost fs pc st (joins at bs d ws cs env gs below q r e o k a t) =
        rest_innermost gs r below t ∙ sym (pushed_same innermost_on (λ s st. refl) ws st below e)
    rest_innermost fs pc st (forms cs env gs q f t) = rest_innermost gs q st t
    rest_innermost fs pc st (tops cs at g t) = refl
    rest_innermost fs pc st (touching at gs g t) = rest_innermost gs (pc + 1) st t
    rest_innermost fs pc st (waiting t) = waits_innermost fs pc st t

    waits_innermost : (fs : List Frame) (pc : ℕ) (st : List Item) → W fs pc st → control.innermost_on fs ≡ innermost_on st
    waits_innermost fs pc st (returns gs below n at l g o t) = rest_innermost gs l below t ∙ sym (same_over innermost_on (λ s st. refl) n st _ o)
    waits_innermost fs pc st (exits c gs below at l g e t) = refl
    waits_innermost fs pc st (leaves u c env gs below at l r g e k t) = rest_innermost gs r below t
    waits_innermost fs pc st (cleans u v k gs below at g t) = rest_innermost gs (pc + 1) below t
    waits_innermost fs pc st (child at n g o) = sym (same_over innermost_on (λ s st. refl) n st _ o)
    waits_innermost fs pc st (server at n g o) = sym (same_over innermost_on (λ s st. refl) n st _ o)

    pub rest_unwinds : (fs : List Frame) (pc : ℕ) (st : List Item) → R fs pc st → T (control.unwind fs) (unwind st)
    rest_unwinds fs pc st (jumping l at g k t) = rest_unwinds fs l st t
    rest_unwinds fs pc st (sliding below n at g o t) =
        subst (T (control.unwind fs)) (sym (same_over unwind (λ s st. refl) n st below o)) (rest_unwinds fs (pc + 1) below t)
    rest_unwinds fs pc st (operand at n ws cs env gs below q r e o k a t) =
        subst (T (control.unwind gs)) (sym (pushed_same unwind (λ s st. refl) ws st below e)) (rest_unwinds gs r below t)
    rest_unwinds fs pc st (joins at bs d ws cs env gs below q r e o k a t) =
        subst (T (control.unwind gs)) (sym (pushed_same unwind (λ s st. refl) ws st below e)) (rest_unwinds gs r below t)
    rest_unwinds fs pc st (forms cs env gs q f t) = rest_unwinds gs q st t
    rest_unwinds fs pc st (tops cs at g t) = at_tops cs
    rest_unwinds fs pc st (touching at gs g t) = rest_unwinds gs (pc + 1) st t
    rest_unwinds fs pc st (waiting t) = waits_unwinds fs pc st t

    waits_unwinds : (fs : List Frame) (pc : ℕ) (st : List Item) → W fs pc st → T (control.unwind fs) (unwind st)
    waits_unwinds fs pc st (returns gs below n at l g o t) =
        subst (T (control.unwind gs)) (sym (same_over unwind (λ s st. refl) n st _ o)) (rest_unwinds gs l below t)
    waits_unwinds fs pc st (exits c gs below at l g e t) = at_catch c gs below l t
    waits_unwinds fs pc st (leaves u c env gs below at l r g e k t) = at_protect u c env gs below l r k t
    waits_unwinds fs pc st (cleans u v k gs below at g t) = at_clean u v k gs below (pc + 1) t
    waits_unwinds fs pc st (child at n g o) = subst (T fs) (sym (same_over unwind (λ s st. refl) n st _ o)) (at_child at pc)
    waits_unwinds fs pc st (server at n g o) = subst (T fs) (sym (same_over unwind (λ s st. refl) n st _ o)) (at_server at)

  stops_cleanups : (fs : List Frame) (st : List Item) → T fs st → control.cleanups_on fs ≡ cleanups_on st
  stops_cleanups fs st (at_catch c gs below l t) = rest_cleanups gs l below t
  stops_cleanups fs st (at_protect u c env gs below l r k t) = rest_cleanups gs r below t
  stops_cleanups fs st (at_clean u w k gs below pc t) = ap (λ ks. k ∷ ks) (rest_cleanups gs pc below t)
  stops_cleanups fs st (at_tops cs) = refl
  stops_cleanups fs st (at_child at j) = refl
  stops_cleanups fs st (at_server at) = refl
  stops_cleanups fs st at_nothing = refl

  stops_innermost : (fs : List Frame) (st : List Item) → T fs st → control.innermost_on fs ≡ innermost_on st
  stops_innermost fs st (at_catch c gs below l t) = refl
  stops_innermost fs st (at_protect u c env gs below l r k t) = rest_innermost gs r below t
  stops_innermost fs st (at_clean u w k gs below pc t) = rest_innermost gs pc below t
  stops_innermost fs st (at_tops cs) = refl
  stops_innermost fs st (at_child at j) = refl
  stops_innermost fs st (at_server at) = refl
  stops_innermost fs st at_nothing = refl

  stops_unwinds : (fs : List Frame) (st : List Item) → T fs st → T (control.unwind fs) (unwind st)
  stops_unwinds fs st (at_catch c gs below l t) = at_catch c gs below l t
  stops_unwinds fs st (at_protect u c env gs below l r k t) = at_protect u c env gs below l r k t
  stops_unwinds fs st (at_clean u w k gs below pc t) = at_clean u w k gs below pc t
  stops_unwinds fs st (at_tops cs) = at_tops cs
  stops_unwinds fs st (at_child at j) = at_child at j
  stops_unwinds fs st (at_server at) = at_server at
  stops_unwinds fs st at_nothing = at_nothing

  pub same_cleanups : (c : Control) (fs : List Frame) (s : State) (pc : ℕ) (st : List Item) → At x places ops c fs s pc st → control.cleanups_on fs ≡ cleanups_on st
  same_cleanups c fs s pc st (at_literal f at g t) = rest_cleanups fs _ st t
  same_cleanups c fs s pc st (at_read at y env sc g m t) = rest_cleanups fs _ st t
  same_cleanups c fs s pc st (at_close k sc q h t) = rest_cleanups fs _ st t
  same_cleanups c fs s pc st (at_guard a b env sc at q h t) = rest_cleanups fs _ st t
  same_cleanups c fs s pc st (at_act at n env ws below r e k a t) = rest_cleanups fs _ below t ∙ sym (pushed_same cleanups_on (λ s st. refl) ws st below e)
  same_cleanups c fs s pc st (at_touch at bs d env ws below f r u g e k a t) =
      rest_cleanups fs _ below t ∙ sym (pushed_same cleanups_on (λ s st. refl) ws st below e)
  same_cleanups c fs s pc st (at_bind at bs d env ws u a) = same_cleanups _ fs _ pc st a
  same_cleanups c fs s pc st (at_given w below t) = waits_cleanups fs pc below t
  same_cleanups c fs s pc st (at_reply f at below g t) = rest_cleanups _ _ below t
  same_cleanups c fs s pc st (at_unwinding t) = stops_cleanups fs st t
  same_cleanups c fs s pc st (at_end at g) = refl
  same_cleanups c fs s pc st (at_resting at) = refl
  same_cleanups c fs s pc st at_over = refl

  pub same_innermost : (c : Control) (fs : List Frame) (s : State) (pc : ℕ) (st : List Item) → At x places ops c fs s pc st
      → control.innermost_on fs ≡ innermost_on st
  same_innermost c fs s pc st (at_literal f at g t) = rest_innermost fs _ st t
  same_innermost c fs s pc st (at_read at y env sc g m t) = rest_innermost fs _ st t
  same_innermost c fs s pc st (at_close k sc q h t) = rest_innermost fs _ st t
  same_innermost c fs s pc st (at_guard a b env sc at q h t) = rest_innermost fs _ st t
  same_innermost c fs s pc st (at_act at n env ws below r e k a t) = rest_innermost fs _ below t ∙ sym (pushed_same innermost_on (λ s st. refl) ws st below e)
  same_innermost c fs s pc st (at_touch at bs d env ws below f r u g e k a t) =
      rest_innermost fs _ below t ∙ sym (pushed_same innermost_on (λ s st. refl) ws st below e)
  same_innermost c fs s pc st (at_bind at bs d env ws u a) = same_innermost _ fs _ pc st a
  same_innermost c fs s pc st (at_given w below t) = waits_innermost fs pc below t
  same_innermost c fs s pc st (at_reply f at below g t) = rest_innermost _ _ below t
  same_innermost c fs s pc st (at_unwinding t) = stops_innermost fs st t
  same_innermost c fs s pc st (at_end at g) = refl
  same_innermost c fs s pc st (at_resting at) = refl
  same_innermost c fs s pc st at_over = refl

  all_unwind : (c : Control) (fs : List Frame) (s : State) (pc : ℕ) (st : List Item) → At x places ops c fs s pc st → T (control.unwind fs) (unwind st)
  all_unwind c fs s pc st (at_literal f at g t) = rest_unwinds fs _ st t
  all_unwind c fs s pc st (at_read at y env sc g m t) = rest_unwinds fs _ st t
  all_unwind c fs s pc st (at_close k sc q h t) = rest_unwinds fs _ st t
  all_unwind c fs s pc st (at_guard a b env sc at q h t) = rest_unwinds fs _ st t
  all_unwind c fs s pc st (at_act at n env ws below r e k a t) =
      subst (T (control.unwind fs)) (sym (pushed_same unwind (λ s st. refl) ws st below e)) (rest_unwinds fs _ below t)
  all_unwind c fs s pc st (at_touch at bs d env ws below f r u g e k a t) =
      subst (T (control.unwind fs)) (sym (pushed_same unwind (λ s st. refl) ws st below e)) (rest_unwinds fs _ below t)
  all_unwind c fs s pc st (at_bind at bs d env ws u a) = all_unwind _ fs _ pc st a
  all_unwind c fs s pc st (at_given w below t) = waits_unwinds fs pc below t
  all_unwind c fs s pc st (at_reply f at below g t) = rest_unwinds _ _ below t
  all_unwind c fs s pc st (at_unwinding t) = stops_unwinds fs st t
  all_unwind c fs s pc st (at_end at g) = at_tops _
  all_unwind c fs s pc st (at_resting at) = at_server at
  all_unwind c fs s pc st at_over = at_nothing

  -- it unwinds from now on
  pub unwound_alike : (c : Control) (fs : List Frame) (s : State) (pc : ℕ) (st : List Item) → At x places ops c fs s pc st
      → At x places ops unwinding (control.unwind fs) states.Unwinding pc (unwind st)
  unwound_alike c fs s pc st a = at_unwinding (all_unwind c fs s pc st a)

  -- the innermost running cleanup gets an aim
  module _ (a : Aim) where
    beyond_aimed : (st : List Item) (q : ℕ) → Beyond (top_mark st) q → Beyond (top_mark (aim_cleanup a st)) q
    beyond_aimed [] q b = b
    beyond_aimed (slot s ∷ st) q b = beyond_aimed st q b
    beyond_aimed (mark (returning l) ∷ st) q b = b
    beyond_aimed (mark (catching c l) ∷ st) q b = b
    beyond_aimed (mark (protecting u l) ∷ st) q b = b
    beyond_aimed (mark (cleaning u k) ∷ st) q b = b
    beyond_aimed (mark (base j) ∷ st) q b = b

    fits_aimed : {xs : List Name} {env : Bindings} {sc : Scope} {st : List Item} {q : ℕ} → Fits x places xs env sc st q
        → Fits x places xs env sc (aim_cleanup a st) q
    fits_aimed {xs = xs} {env = env} {sc = sc} {st = st} {q = q} f = record {
      sees = subst (Sees x.globals xs env sc) (sym (aim_frame a st)) f.sees;
      long = f.long ∙ ap length (sym (aim_frame a st));
      beyond = beyond_aimed st q f.beyond;
    }

    after_aimed : {at : ℕ} {n : Node} {env : Bindings} {pc r : ℕ} {st : List Item} → After x places ops at n env pc r st
        → After x places ops at n env pc r (aim_cleanup a st)
    after_aimed h = record { sc = h.sc; has = h.has; right = h.right; fits = fits_aimed h.fits; is_last = h.is_last }

    clean_aimed : {c : Core} {env : Bindings} {pc r : ℕ} {st : List Item} → Clean x places ops c env pc r st → Clean x places ops c env pc r (aim_cleanup a st)
    clean_aimed h = record { at = h.at; sc = h.sc; has = h.has; right = h.right; fits = fits_aimed h.fits; is_last = h.is_last }

    mutual
      pub rest_aimed : (fs : List Frame) (pc : ℕ) (st : List Item) → R fs pc st → R (control.aim_cleanup a fs) pc (aim_cleanup a st)
      rest_aimed fs pc st (jumping l at g k t) = jumping l at g k (rest_aimed fs l st t)
      rest_aimed fs pc st (sliding below n at g o t) = sliding (aim_cleanup a below) n at g (aim_over a n st below o) (rest_aimed fs (pc + 1) below t)
      rest_aimed fs pc st (operand at n ws cs env gs below q r e o k h t) =
          operand at n ws cs env _ (aim_cleanup a below) q r (ap (aim_cleanup a) e ∙ aim_push a ws below)
          (record { sc = o.sc; has = o.has; right = o.right; fits = fits_aimed o.fits; is_last = o.is_last }) k (after_aimed h) (rest_aimed gs r below t)
      rest_aimed fs pc st (joins at bs d ws cs env gs below q r e o k h t) =
          joins at bs d ws cs env _ (aim_cleanup a below) q r (ap (aim_cleanup a) e ∙ aim_push a ws below)
          (record { sc = o.sc; join_at = o.join_at; here = o.here; has = o.has; right = o.right; fits = fits_aimed o.fits; is_last = o.is_last }) k (after_aimed h) (rest_aimed gs r below t)
      rest_aimed fs pc st (forms cs env gs q f t) =
          forms cs env _ q
          (record { at = f.at; drop_at = f.drop_at; sc = f.sc; here = f.here; has = f.has; right = f.right; fits = fits_aimed f.fits; is_last = f.is_last })
          (rest_aimed gs q st t)
      rest_aimed fs pc st (tops cs at g t) = tops cs at g t
      rest_aimed fs pc st (touching at gs g t) = touching at _ g (rest_aimed gs (pc + 1) st t)
      rest_aimed fs pc st (waiting t) = waiting (waits_aimed fs pc st t)

      waits_aimed : (fs : List Frame) (pc : ℕ) (st : List Item) → W fs pc st → W (control.aim_cleanup a fs) pc (aim_cleanup a st)
      waits_aimed fs pc st (returns gs below n at l g o t) = returns _ (aim_cleanup a below) n at l g (aim_over a n st _ o) (rest_aimed gs l below t)
      waits_aimed fs pc st (exits c gs below at l g e t) = exits c _ (aim_cleanup a below) at l g e (rest_aimed gs l below t)
      waits_aimed fs pc st (leaves u c env gs below at l r g e k t) = leaves u c env _ (aim_cleanup a below) at l r g e (clean_aimed k) (rest_aimed gs r below t)
      waits_aimed fs pc st (cleans u v k gs below at g t) = cleans u v (record k { aim = a }) gs below at g t
      waits_aimed fs pc st (child at n g o) = child at n g (aim_over a n st _ o)
      waits_aimed fs pc st (server at n g o) = server at n g (aim_over a n st _ o)
