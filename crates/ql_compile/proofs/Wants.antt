-- What a point wants is what its thread wants.
use Rattle.std.proofs.Common.{◌≡◌, ℕ, zero, suc, ◌+◌, ◌*◌, ◌==◌, Bool, true, false, List, [], ◌∷◌, length, Option, Some, None, refl, sym, ap, ◌∙◌, ⊎_elim, arith, eqb-true}
use Rattle.std.specs.Prelude.{slice_get, ◌/◌, ◌%◌}
use Rattle.ql_expand.specs.Core as core
use Rattle.ql_expand.specs.Core.{Name, named, hidden, Binder, Core, Node, constant, variable, setq, conditional, progn, binding, primitive, lambda, defvar, Cores, Bounds, Function}
use Rattle.ql_scope.specs.Scope.{binders_in}
use Rattle.ql_world.specs.Word.{first_future}
use Rattle.ql_world.specs.declared.word.Word.{Word}
use Rattle.ql_world.specs.declared.word.Word.TheVariants.{Int as integer, Sym as symbol, Pair as pair, Fun as closure, Proc as process_closure, Fut as future}
use Rattle.ql_world.specs.declared.word.Slot.{Slot}
use Rattle.ql_world.specs.declared.word.Slot.TheVariants.{Val as plain, Cell as boxed}
use Rattle.ql_world.specs.Operator.{operator_of}
use Rattle.ql_world.specs.declared.operator.Operator.TheVariants.{Cons as cons}
use Rattle.ql_world.specs.Machine.{Want, reads, stores, branches, prints, chooses, makes, opens}
use Rattle.ql_world.specs.Idle.{in_cleanup}
use Rattle.ql_world.specs.Touch.{await_or, await_word}
use Rattle.ql_meaning.specs.Context.{Context, parameters_of, stored_among}
use Rattle.ql_meaning.specs.Control as control
use Rattle.ql_meaning.specs.Control.{Bindings, lookup, Frame, Control, place_in, place_of_name, touched, act_want, core_want, given_want, want_of}
use Rattle.ql_code.specs.Code.{Instruction, mask_of, unmasked}
use Rattle.ql_compile.specs.Compile.{Scope, find_in, count, Places, read_op, write_op, primitive_op}
use Rattle.ql_code.specs.Machine as machine
use Rattle.ql_code.specs.Machine.{Item, slot, word, words, push, frame_of, top_mark, cleanups_on, op_want, operand_count, want_in, running_want}
use Rattle.ql_code.specs.declared.mark.Mark.{Mark}
use Rattle.ql_code.specs.declared.mark.State.{State}
use Rattle.ql_compile.proofs.Right.{IsPrimitive}
use Rattle.ql_compile.proofs.Cases.{cases}
use Rattle.ql_compile.proofs.Scopes.{Match, name_refl, match_more, below_long}
use Rattle.ql_compile.proofs.Stacks.{same_over, words_pushed}
use Rattle.ql_compile.proofs.Relation.{Known, Fits, arity, After, Waits, returns, exits, leaves, cleans, child, server, Stops, at_catch, at_protect, at_clean, at_tops, at_child, at_server, at_nothing, At, at_literal, at_read, at_close, at_guard, at_act, at_touch, at_bind, at_given, at_reply, at_unwinding, at_end, at_resting, at_over}
use Rattle.ql_compile.proofs.Unwinds.{same_cleanups}

pub unmask : (bs : List Bool) (n : ℕ) → length bs ≡ n → unmasked n (mask_of bs) ≡ bs
unmask [] zero e = refl
unmask [] (suc n) e = absurd (omega (arith, e))
unmask (b ∷ bs) zero e = absurd (omega (arith, e))
unmask (true ∷ bs) (suc n) e =
    let m = mask_of bs in
    let d : (1 + 2 * m) / 2 ≡ m = omega arith in
    let r : (1 + 2 * m) % 2 ≡ 1 = omega arith in
    rw (d, r) (ap (λ l. true ∷ l) (unmask bs n (omega (arith, e))))
unmask (false ∷ bs) (suc n) e =
    let m = mask_of bs in
    let d : (0 + 2 * m) / 2 ≡ m = omega arith in
    let r : (0 + 2 * m) % 2 ≡ 0 = omega arith in
    rw (d, r) (ap (λ l. false ∷ l) (unmask bs n (omega (arith, e))))

pub many : (x : Context) (bs : List Binder) → length (stored_among x bs) ≡ length bs
many x [] = refl
many x (b ∷ bs) = ap suc (many x bs)

pub await_same : (w : Word) (at : ℕ) (want : Want) → await_or (first_future (w ∷ [])) at want ≡ await_word w at want
await_same (future f) at want = refl
await_same (integer z) at want = refl
await_same (symbol z) at want = refl
await_same (pair z) at want = refl
await_same (closure z) at want = refl
await_same (process_closure z) at want = refl

-- one operand, and two
pub single : (Z : List Word → Type 0) → ((w : Word) → Z (w ∷ [])) → (ws : List Word) → length ws ≡ 1 → Z ws
single Z h [] e = absurd (omega (arith, e))
single Z h (w ∷ []) e = h w
single Z h (w ∷ v ∷ ws) e = absurd (omega (arith, e))

pub double : (Z : List Word → Type 0) → ((v w : Word) → Z (v ∷ w ∷ [])) → (ws : List Word) → length ws ≡ 2 → Z ws
double Z h [] e = absurd (omega (arith, e))
double Z h (w ∷ []) e = absurd (omega (arith, e))
double Z h (v ∷ w ∷ []) e = h v w
double Z h (u ∷ v ∷ w ∷ ws) e = absurd (omega (arith, e))

module _ (x : Context) (places : Places) (ops : List Instruction) where
  read_same : (y : Name) (at : ℕ) (st : List Item) (o : Option Slot) (v : Option (ℕ × Bool)) → Match x.globals y (frame_of st) o v
      → reads (place_in x o y) at ≡ op_want (read_op x v y) at st
  read_same (named w) at st None None m = rw m.1 refl
  read_same (hidden n) at st None None m = absurd m
  read_same y at st None (Some v) m = absurd m
  read_same y at st (Some s) None m = absurd m
  read_same y at st (Some (plain w)) (Some (i, false)) m = refl
  read_same y at st (Some (plain w)) (Some (i, true)) m = absurd cc
  read_same y at st (Some (boxed n)) (Some (i, false)) m = absurd cc
  read_same y at st (Some (boxed n)) (Some (i, true)) m = rw m.0 refl

  write_same : (y : Name) (w : Word) (at : ℕ) (st : List Item) (o : Option Slot) (v : Option (ℕ × Bool)) → Match x.globals y (frame_of (word w ∷ st)) o v
      → stores (place_in x o y) w ≡ op_want (write_op x v y) at (word w ∷ st)
  write_same (named u) w at st None None m = rw m.1 refl
  write_same (hidden n) w at st None None m = absurd m
  write_same y w at st None (Some v) m = absurd m
  write_same y w at st (Some s) None m = absurd m
  write_same y w at st (Some (plain u)) (Some v) m = rw m.0 refl
  write_same y w at st (Some (boxed n)) (Some v) m = rw m.0 refl

  -- under an operand
  sees_under : (y : Name) (w : Word) {xs : List Name} (env : Bindings) (sc : Scope) (st : List Item) {q : ℕ} → Fits x places xs env sc st q
      → Match x.globals y (frame_of st) (lookup env y) (find_in sc y) → Match x.globals y (frame_of (word w ∷ st)) (lookup env y) (find_in sc y)
  sees_under y w env sc st f m = match_more x.globals y (plain w) (frame_of st) _ _ (below_long x.globals sc (frame_of st) f.long y) m

  prim_same : (cl : Bool) (at o : ℕ) (cs : Cores) (env : Bindings) (ws : List Word) (below : List Item) → IsPrimitive o (count cs) → length ws ≡ count cs
      → core_want x cl (core.core at (primitive o cs)) env ws ≡ op_want (primitive_op x o) at (push ws below)
  prim_same cl at o cs env ws below p k =
      ⊎_elim
      (λ (t : (o == 19) ≡ true).
      let is_cons : operator_of o ≡ Some cons = ap operator_of (eqb-true o 19 t) in
      let same : Some p.0 ≡ Some cons = sym p.1 ∙ is_cons in
      let two : length ws ≡ 2 = k ∙ (sym p.2 ∙ ap operand_count same) in
      rw (t, is_cons, words_pushed ws 2 below two) refl)
      (λ (t : (o == 19) ≡ false). rw (t, p.1, words_pushed ws _ below (k ∙ sym p.2)) refl)
      (cases (o == 19))

  module _ (known : Known x places ops) where
    act_wants : (cl : Bool) (at : ℕ) (n : Node) (env : Bindings) (ws : List Word) (pc r : ℕ) (below : List Item) → cl ≡ in_cleanup (cleanups_on (push ws below))
        → length ws ≡ arity n → After x places ops at n env pc r below → core_want x cl (core.core at n) env ws ≡ running_want (slice_get ops pc) (push ws below)
    act_wants cl at (constant f) env ws pc r below i k a = absurd a.right
    act_wants cl at (variable y) env ws pc r below i k a = absurd a.right
    act_wants cl at (setq y o c) env ws pc r below i k a =
        single (λ ws. core_want x cl (core.core at (setq y o c)) env ws ≡ running_want (slice_get ops pc) (push ws below))
        (λ w. rw a.has.0 (write_same y w at below (lookup env y) (find_in a.sc y) (sees_under y w env a.sc below a.fits (a.fits.sees y (rw (name_refl y) refl))))) ws k
    act_wants cl at (conditional b c d) env ws pc r below i k a =
        single (λ ws. core_want x cl (core.core at (conditional b c d)) env ws ≡ running_want (slice_get ops pc) (push ws below))
        (λ w. rw a.has.0 (await_same w at branches)) ws k
    act_wants cl at (progn cs) env ws pc r below i k a = absurd a.right
    act_wants cl at (binding bs c) env ws pc r below i k a =
        rw (a.has.0, words_pushed ws _ below k, unmask (stored_among x (binders_in bs)) _ (many x (binders_in bs))) refl
    act_wants cl at (primitive o cs) env ws pc r below i k a = rw a.has.0 (prim_same cl at o cs env ws below a.right k)
    act_wants cl at (core.print c) env ws pc r below i k a =
        single (λ ws. core_want x cl (core.core at (core.print c)) env ws ≡ running_want (slice_get ops pc) (push ws below))
        (λ w. rw a.has.0 (await_same w at (prints w))) ws k
    act_wants cl at (core.call w o cs) env ws pc r below i k a =
        let f = known w a.right.0 a.right.1 in
        rw (a.has.0, a.right.1, f.called, words_pushed ws _ below k, unmask (stored_among x (parameters_of a.right.0)) _ (many x (parameters_of a.right.0) ∙ a.right.2)) refl
    act_wants cl at (core.funcall true c cs) env ws pc r below i k a = rw (a.has.0, words_pushed ws _ below k, ← i) refl
    act_wants cl at (core.funcall false c cs) env ws pc r below i k a = rw (a.has.0, words_pushed ws _ below k, ← i) refl
    act_wants cl at (lambda ps c) env ws pc r below i k a = absurd a.right
    act_wants cl at (core.qlet p bs c) env ws pc r below i k a =
        single (λ ws. core_want x cl (core.core at (core.qlet p bs c)) env ws ≡ running_want (slice_get ops pc) (push ws below))
        (λ w. rw a.has.0 (await_same w at (chooses w))) ws k
    act_wants cl at (core.qlambda p ps c) env ws pc r below i k a =
        single (λ ws. core_want x cl (core.core at (core.qlambda p ps c)) env ws ≡ running_want (slice_get ops pc) (push ws below))
        (λ w. rw a.has.0 (await_same w at (makes w))) ws k
    act_wants cl at (core.catch b c) env ws pc r below i k a =
        single (λ ws. core_want x cl (core.core at (core.catch b c)) env ws ≡ running_want (slice_get ops pc) (push ws below))
        (λ w. rw a.has.0 (await_same w at (opens w false))) ws k
    act_wants cl at (core.qcatch b c) env ws pc r below i k a =
        single (λ ws. core_want x cl (core.core at (core.qcatch b c)) env ws ≡ running_want (slice_get ops pc) (push ws below))
        (λ w. rw a.has.0 (await_same w at (opens w true))) ws k
    act_wants cl at (core.throw b c) env ws pc r below i k a =
        double (λ ws. core_want x cl (core.core at (core.throw b c)) env ws ≡ running_want (slice_get ops pc) (push ws below))
        (λ v w. rw a.has.0 refl) ws k
    act_wants cl at (core.protect b c) env ws pc r below i k a = absurd a.right
    act_wants cl at (defvar w o c) env ws pc r below i k a =
        single (λ ws. core_want x cl (core.core at (defvar w o c)) env ws ≡ running_want (slice_get ops pc) (push ws below))
        (λ v. rw a.has.0 (write_same (named w) v at below (lookup env (named w)) (find_in a.sc (named w))
        (sees_under (named w) v env a.sc below a.fits (a.fits.sees (named w) (rw (name_refl (named w)) refl))))) ws k

    waits_want : (w : Word) (fs : List Frame) (pc : ℕ) (st : List Item) → Waits x places ops fs pc st
        → given_want x w fs ≡ running_want (slice_get ops pc) (word w ∷ st)
    waits_want w fs pc st (returns gs below n at l g o t) = rw (g, same_over top_mark (λ s st. refl) n st _ o) refl
    waits_want w fs pc st (exits c gs below at l g e t) = rw g refl
    waits_want w fs pc st (leaves u c env gs below at l r g e k t) = rw g refl
    waits_want w fs pc st (cleans u v k gs below at g t) = rw g refl
    waits_want w fs pc st (child at n g o) = rw g refl
    waits_want w fs pc st (server at n g o) = rw (g, same_over top_mark (λ s st. refl) n st _ o) refl

    stops_want : (fs : List Frame) (st : List Item) → Stops x places ops fs st → control.unwinding_want x fs ≡ machine.unwinding_want st
    stops_want fs st (at_catch c gs below l t) = refl
    stops_want fs st (at_protect u c env gs below l r k t) = refl
    stops_want fs st (at_clean u w k gs below pc t) = refl
    stops_want fs st (at_tops cs) = refl
    stops_want fs st (at_child at j) = refl
    stops_want fs st (at_server at) = refl
    stops_want fs st at_nothing = refl

    pub same_want : (c : Control) (fs : List Frame) (s : State) (pc : ℕ) (st : List Item) → At x places ops c fs s pc st → want_of x c fs ≡ want_in ops s pc st
    same_want c fs s pc st (at_literal f at g t) = rw g refl
    same_want c fs s pc st (at_read at y env sc g m t) = rw g (read_same y at st (lookup env y) (find_in sc y) m)
    same_want c fs s pc st (at_close k sc q h t) = rw h.has.0 refl
    same_want c fs s pc st (at_guard a b env sc at q h t) = rw h.has.0 refl
    same_want c fs s pc st (at_act at n env ws below r e k a t) =
        let i = ap in_cleanup (same_cleanups x places ops _ fs _ pc st (at_act at n env ws below r e k a t) ∙ ap cleanups_on e) in
        act_wants _ at n env ws pc r below i k a ∙ ap (running_want (slice_get ops pc)) (sym e)
    same_want c fs s pc st (at_touch at bs d env ws below f r u g e k a t) =
        let v : words (length (binders_in bs)) st ≡ ws = ap (words (length (binders_in bs))) e ∙ words_pushed ws _ below k in
        rw (g, v, u) refl
    same_want c fs s pc st (at_bind at bs d env ws u a) = rw u (same_want _ fs _ pc st a)
    same_want c fs s pc st (at_given w below t) = waits_want w fs pc below t
    same_want c fs s pc st (at_reply f at below g t) = rw g refl
    same_want c fs s pc st (at_unwinding t) = stops_want fs st t
    same_want c fs s pc st (at_end at g) = rw g refl
    same_want c fs s pc st (at_resting at) = refl
    same_want c fs s pc st at_over = refl
