-- A point goes on as its thread does.
use Rattle.std.proofs.Common.{◌≡◌, ◌⊎◌, ℕ, suc, ◌+◌, ◌==◌, Bool, true, false, List, [], ◌∷◌, ◌++◌, length, map, Option, Some, None, refl, sym, ap, ◌∙◌, subst, ⊎_elim, inl, inr, arith, eqb-true}
use Rattle.std.specs.Prelude.{slice_get, drop as without_first, if◌then◌else◌}
use Rattle.ql_expand.specs.Core as core
use Rattle.ql_expand.specs.Core.{Name, named, hidden, Binder, Core, Node, constant, variable, setq, conditional, progn, binding, primitive, lambda, defvar, Cores, no_cores, and_core, Bounds, no_bounds, and_bound, Function}
use Rattle.ql_scope.specs.Scope.{binders_in}
use Rattle.ql_world.specs.Word.{nil, is_nil, is_eager, first_future, with_value}
use Rattle.ql_world.specs.declared.word.Word.{Word}
use Rattle.ql_world.specs.declared.word.Word.TheVariants.{Int as integer, Sym as symbol, Pair as pair, Fun as closure, Proc as process_closure, Fut as future}
use Rattle.ql_world.specs.declared.word.Slot.{Slot}
use Rattle.ql_world.specs.declared.word.Slot.TheVariants.{Val as plain, Cell as boxed}
use Rattle.ql_world.specs.Operator.{operator_of}
use Rattle.ql_world.specs.declared.operator.Operator.{Operator}
use Rattle.ql_world.specs.declared.operator.Operator.TheVariants.{Cons as cons}
use Rattle.ql_world.specs.declared.world.Aim.TheVariants.{Free as free_aim}
use Rattle.ql_world.specs.Machine.{Want, reads, branches, prints, chooses, makes, opens, throws, Answer, spawned}
use Rattle.ql_world.specs.Idle.{in_cleanup}
use Rattle.ql_world.specs.Touch.{await_or, await_word, touched_in_call, touched_by, compute_want, funcall_want}
use Rattle.ql_world.specs.Follows as follows
use Rattle.ql_meaning.specs.Context.{Context, constant_word, parameters_of, stored_among}
use Rattle.ql_meaning.specs.Control as control
use Rattle.ql_meaning.specs.Control.{Bindings, lookup, bind_all, Closure, Frame, replied, returning, catching, protecting, Control, acting, joining, given, Thread, thread, descend, descend_values, next_operand, values_in, give, touched, place_in, act_want, core_want, given_want, want_of, read_go, act_go, core_go, given_go, go_on, children_of, core_machine}
use Rattle.ql_code.specs.declared.code.Op.TheVariants.{Bind as op_bind, Slide as op_slide}
use Rattle.ql_code.specs.Code.{Instruction, instruction}
use Rattle.ql_code.specs.declared.code.Op.TheVariants.{Touch as touch, Jump as jump, Exit as exit}
use Rattle.ql_compile.specs.Compile.{Scope, find_in, with_variables, free, free_in_values, without_all, count, size, size_of_joined, Places, read_op, write_op, mask, code, code_of_joined}
use Rattle.ql_code.specs.declared.mark.Mark.TheVariants as marks
use Rattle.ql_code.specs.Machine as machine
use Rattle.ql_code.specs.Machine.{Item, slot, mark, word, words, push, push_slots, frame_of, top_mark, below_mark, cleanups_on, unwind, aim_cleanup, Point, point, Entry, op_want, op_go, one_go, go_in, running_go, want_in, operand_count, settled, code_machine}
use Rattle.ql_code.specs.declared.mark.Mark.{Mark}
use Rattle.ql_code.specs.declared.mark.State.{State}
use Rattle.ql_code.specs.declared.mark.Mark.TheVariants.{Base as base}
use Rattle.ql_code.specs.declared.mark.State.TheVariants.{Running as running}
use Rattle.ql_compile.proofs.Right.{IsRight}
use Rattle.ql_compile.proofs.Cases.{cases}
use Rattle.ql_compile.proofs.Scopes.{Match}
use Rattle.ql_compile.proofs.Sizes.{HasAt, front, front_one, back, long, long_joined, code_joined, joined_sizes}
use Rattle.ql_compile.proofs.Stacks.{same_over, words_pushed, without_pushed}
use Rattle.ql_compile.proofs.Relation.{Known, Stood, Same, Fits, arity, After, Clean, Rest, jumping, touching, waiting, Waits, returns, exits, leaves, cleans, child, server, Stops, at_catch, at_protect, at_clean, at_tops, at_child, at_server, at_nothing, At, at_literal, at_read, at_close, at_guard, at_act, at_touch, at_bind, at_given, at_reply, at_unwinding, at_end, at_resting, at_over, Follow}
use Rattle.ql_compile.proofs.Descends.{sub_left, sub_right, part, Settled, descends, right_values, free_values, count_values}
use Rattle.ql_compile.proofs.Gives.{stay, all_settled, gives, in_order, pass}
use Rattle.ql_compile.proofs.Unwinds.{rest_unwinds, rest_aimed, same_cleanups}
use Rattle.ql_compile.proofs.Wants.{many, single, double}
use Rattle.ql_compile.proofs.Bodies.{suited, bound_body, called_body, entered_body, same_stored, marked, cleaned, as_many_children}

kept_length : (v : Word) (ws : List Word) → length (with_value v ws) ≡ length ws
kept_length v [] = refl
kept_length v (future f ∷ ws) = refl
kept_length v (integer z ∷ ws) = ap suc (kept_length v ws)
kept_length v (symbol z ∷ ws) = ap suc (kept_length v ws)
kept_length v (pair z ∷ ws) = ap suc (kept_length v ws)
kept_length v (closure z ∷ ws) = ap suc (kept_length v ws)
kept_length v (process_closure z ∷ ws) = ap suc (kept_length v ws)

module _ (x : Context) (places : Places) (ops : List Instruction) where
  abbrev R : List Frame → ℕ → List Item → Type 0
  R = Rest x places ops

  abbrev F : Thread → Point → Type 0
  F = Follow x places ops

  abbrev A : ℕ → Node → Bindings → ℕ → ℕ → List Item → Type 0
  A = After x places ops

  abbrev Suits : Thread → Want → Answer Closure → Answer Entry → Type 0
  Suits = follows.Suits (core_machine x) (code_machine ops) F (Same x places ops)

  -- the word is given, and the code goes on
  given_on : (w : Word) (fs : List Frame) (pc : ℕ) (st : List Item) → R fs pc st → F (give w fs) (settled ops pc (word w ∷ st))
  given_on w fs pc st t = all_settled x places ops (give w fs) pc (word w ∷ st) (gives x places ops w fs pc st t)

  stay_on : (t : Thread) (pc : ℕ) (st : List Item) → Settled x places ops t pc st → F t (settled ops pc st)
  stay_on t pc st a = all_settled x places ops t pc st (stay x places ops t pc st a)

  -- the core acts again, with the value of a future in its place
  again : (at : ℕ) (n : Node) (env : Bindings) (fs : List Frame) (pc r : ℕ) (below : List Item) (v : Word) (ws : List Word) → length ws ≡ arity n
      → A at n env pc r below → R fs r below
      → F (thread (acting (core.core at n) env (with_value v ws)) fs) (settled ops pc (push (with_value v ws) below))
  again at n env fs pc r below v ws k a t = stay_on _ pc _ (at_act at n env (with_value v ws) below r refl (kept_length v ws ∙ k) a t)

  -- several operands are touched
  several : (at : ℕ) (n : Node) (env : Bindings) (fs : List Frame) (pc r : ℕ) (below : List Item) (ws : List Word) (o : Option ℕ) (want : Want) (t : Thread) (next : Thread) (point : Point)
      (a : Answer Closure) (b : Answer Entry) → length ws ≡ arity n → A at n env pc r below → R fs r below → Suits t (await_or o at want) a b → (Suits t want a b → F next point)
      → F (control.touch_go x o (acting (core.core at n) env) ws a next fs) (machine.touch_go ops o ws b pc below point)
  several at n env fs pc r below ws None want t next point a b k h rest s f = f s
  several at n env fs pc r below ws (Some g) want t next point a b k h rest s f = rw (s.1.0, s.1.1) (again at n env fs pc r below s.0 ws k h rest)

  -- the only operand is touched
  only : (at : ℕ) (n : Node) (env : Bindings) (fs : List Frame) (pc r : ℕ) (below : List Item) (w : Word) (want : Want) (t : Thread) (next : Thread) (point : Point)
      (a : Answer Closure) (b : Answer Entry) → 1 ≡ arity n → A at n env pc r below → R fs r below → Suits t (await_or (first_future (w ∷ [])) at want) a b → (Suits t want a b → F next point)
      → F (control.touch_go x (first_future (w ∷ [])) (acting (core.core at n) env) (w ∷ []) a next fs) (one_go ops (w ∷ []) b pc below point)
  only at n env fs pc r below (future g) want t next point a b k h rest s f = rw (s.1.0, s.1.1) (again at n env fs pc r below s.0 (future g ∷ []) k h rest)
  only at n env fs pc r below (integer z) want t next point a b k h rest s f = f s
  only at n env fs pc r below (symbol z) want t next point a b k h rest s f = f s
  only at n env fs pc r below (pair z) want t next point a b k h rest s f = f s
  only at n env fs pc r below (closure z) want t next point a b k h rest s f = f s
  only at n env fs pc r below (process_closure z) want t next point a b k h rest s f = f s

  -- the futures of a `qlet` are touched, and then bound
  joined_on : (at : ℕ) (bs : Bounds) (c : Core) (env : Bindings) (fs : List Frame) (pc r : ℕ) (below : List Item) (ws : List Word) (o : Option ℕ)
      → first_future ws ≡ o
      → slice_get ops pc ≡ Some (instruction (touch (length (binders_in bs))) at) → length ws ≡ arity (binding bs c) → A at (binding bs c) env (pc + 1) r below → R fs r below
      → F (thread (joining at bs c env ws) fs) (settled ops pc (push ws below))
  joined_on at bs c env fs pc r below ws (Some f) u g k a t = stay_on _ pc _ (at_touch at bs c env ws below f r u g refl k a t)
  joined_on at bs c env fs pc r below ws None u g k a t =
      all_settled x places ops _ pc _ (pass x places ops _ pc (pc + 1) _ (push ws below) _ g (rw (words_pushed ws _ below k, u) refl) (omega arith)
      (stay x places ops _ _ _ (at_bind at bs c env ws u (at_act at (binding bs c) env ws below r refl k a t))))

  -- the answer is a word
  word_on : (fs : List Frame) (next pc : ℕ) (st : List Item) (a : Answer Closure) (b : Answer Entry) → R fs next st
      → follows.Gets (core_machine x) (code_machine ops) F (Same x places ops) a b
      → F (control.give_answer x a fs) (machine.word_go ops next b pc st)
  word_on fs next pc st a b r g = rw (g.1.0, g.1.1) (given_on g.0 fs next st r)

  read_got : (o : Option Slot) (fs : List Frame) (pc : ℕ) (st : List Item) (a : Answer Closure) (b : Answer Entry) → R fs (pc + 1) st
      → follows.Gets (core_machine x) (code_machine ops) F (Same x places ops) a b → F (read_go x o a fs) (machine.word_go ops (pc + 1) b pc st)
  read_got o fs pc st a b r g = rw (g.1.0, g.1.1) (given_on g.0 fs (pc + 1) st r)

  read_goes : (t : Thread) (y : Name) (at : ℕ) (fs : List Frame) (pc : ℕ) (st : List Item) (o : Option Slot) (v : Option (ℕ × Bool)) (a : Answer Closure) (b : Answer Entry)
      → Match x.globals y (frame_of st) o v
      → R fs (pc + 1) st → Suits t (reads (place_in x o y) at) a b → F (read_go x o a fs) (op_go ops (read_op x v y) b pc st)
  read_goes t (named w) at fs pc st None None a b m r s = read_got None fs pc st a b r (rw m.1 at s)
  read_goes t (hidden n) at fs pc st None None a b m r s = absurd m
  read_goes t y at fs pc st None (Some v) a b m r s = absurd m
  read_goes t y at fs pc st (Some s') None a b m r s = absurd m
  read_goes t y at fs pc st (Some (plain w)) (Some (i, false)) a b m r s = rw (s.0, m.0) (given_on w fs (pc + 1) st r)
  read_goes t y at fs pc st (Some (plain w)) (Some (i, true)) a b m r s = absurd cc
  read_goes t y at fs pc st (Some (boxed n)) (Some (i, false)) a b m r s = absurd cc
  read_goes t y at fs pc st (Some (boxed n)) (Some (i, true)) a b m r s = rw (s.1.0, s.1.1) (given_on s.0 fs (pc + 1) st r)

  write_goes : (y : Name) (v : Option (ℕ × Bool)) (b : Answer Entry) (pc : ℕ) (st : List Item) → op_go ops (write_op x v y) b pc st ≡ settled ops (pc + 1) st
  write_goes y (Some v) b pc st = refl
  write_goes (named w) None b pc st = refl
  write_goes (hidden n) None b pc st = refl

  branch_goes : (at : ℕ) (d e c : Core) (env : Bindings) (fs : List Frame) (pc r : ℕ) (below : List Item) (w : Word)
      → A at (conditional d e c) env pc r below → R fs r below
      → F (control.branch_go x w e c env fs) (machine.branch_go ops (w ∷ []) (pc + 1 + size e + 1) pc below)
  branch_goes at d e c env fs pc r below w h t =
      let l = h.is_last in
      let rest = back ops _ _ _ (size e) (long x places h.sc (pc + 1) e) h.has.1 in
      let end : pc + 1 + size e + 1 + size c ≡ r = omega (arith, l) in
      ⊎_elim
      (λ (n : is_nil w ≡ true).
      rw n (stay_on _ _ _ (descends x places ops c env fs h.sc _ r below rest.1 h.right.1 (part x places (sub_right (free e) (free c)) (omega (arith, l)) h.fits) (sym end) t)))
      (λ (n : is_nil w ≡ false).
      rw n (stay_on _ _ _ (descends x places ops e env fs h.sc (pc + 1) (pc + 1 + size e) below (front ops _ _ _ h.has.1) h.right.0
      (part x places (sub_left (free e) (free c)) (omega (arith, l)) h.fits) refl (jumping _ at rest.0 (omega arith) (subst (λ q. R fs q below) (sym end) t)))))
      (cases (is_nil w))

  -- into a closure
  entered_on : (t : Thread) (xs : List Word) (at back pc : ℕ) (fs : List Frame) (below : List Item) (a : Answer Closure) (b : Answer Entry)
      → follows.Enters (core_machine x) (code_machine ops) F (Same x places ops) xs a b → R fs back below
      → F (control.funcall_go x at a fs) (machine.funcall_go ops back b pc below)
  entered_on t xs at back pc fs below a b e r =
      let st = mark (marks.Returning back) ∷ below in
      let k = e.first in
      rw (e.is_first, e.is_second, ← (same_stored x places ops k e.second e.alike))
      (stay_on _ _ _ (entered_body x places ops k e.second e.alike (returning ∷ fs) st _ (suited k.parameters (stored_among x k.parameters) xs e.box (many x k.parameters) e.fits) refl tt
      (λ g n o. waiting (returns fs below n k.at back g o r))))

  -- a call of a closure, or of a process closure
  either_call : (t : Thread) (cl used : Bool) (ws : List Word) (at : ℕ) (a : Answer Closure) (b : Answer Entry) → Suits t (funcall_want cl used ws at) a b
      → ((xs : List Word) × follows.Enters (core_machine x) (code_machine ops) F (Same x places ops) xs a b) ⊎ follows.Sends (core_machine x) (code_machine ops) F (Same x places ops) used a b
  either_call t cl used [] at a b s = absurd s
  either_call t true used (process_closure n ∷ ws) at a b s = inl (ws, s)
  either_call t false used (process_closure n ∷ ws) at a b s = inr s
  either_call t cl used (future n ∷ ws) at a b s = inl (ws, s)
  either_call t cl used (integer n ∷ ws) at a b s = inl (ws, s)
  either_call t cl used (symbol n ∷ ws) at a b s = inl (ws, s)
  either_call t cl used (pair n ∷ ws) at a b s = inl (ws, s)
  either_call t cl used (closure n ∷ ws) at a b s = inl (ws, s)

  in_line_same : (whole : Core) (bs : Bounds) (env : Bindings) (fs : List Frame) → next_operand whole [] (values_in bs) env fs ≡ descend_values whole bs env fs
  in_line_same whole no_bounds env fs = refl
  in_line_same whole (and_bound b c bs) env fs = refl

  future_words : (fs : List ℕ) → length (map future fs) ≡ length fs
  future_words [] = refl
  future_words (f ∷ fs) = ap suc (future_words fs)

  module _ (at : ℕ) (p : Core) (bs : Bounds) (c : Core) (env : Bindings) (fs : List Frame) (pc r : ℕ) (below : List Item) (h : A at (core.qlet p bs c) env pc r below) (t : R fs r below) where
    abbrev touches : ℕ
    touches = pc + 1 + size_of_joined bs + 1

    abbrev values : List Instruction
    values = code_of_joined x places h.sc (pc + 1) bs

    abbrev body_place : ℕ → List Instruction
    body_place q =
        instruction (op_bind (length (binders_in bs)) (mask x (binders_in bs))) at
        ∷ (code x places (with_variables (binders_in bs) (stored_among x (binders_in bs)) h.sc) q c ++ instruction (op_slide (length (binders_in bs))) at ∷ [])

    rest : (slice_get ops touches ≡ Some (instruction (touch (length (binders_in bs))) at)) × HasAt ops (touches + 1) (body_place (touches + 2))
    rest = (back ops (pc + 1) values _ (size_of_joined bs) (long_joined x places h.sc (pc + 1) bs) h.has.1).1

    after_bind : A at (binding bs c) env (touches + 1) r below
    after_bind =
        let e : touches + 2 ≡ touches + 1 + 1 = omega arith in
        record {
          sc = h.sc;
          has = subst (λ q. HasAt ops (touches + 1) (body_place q)) e rest.1;
          right = h.right.1;
          fits = part x places (sub_right (free_in_values bs) (without_all (binders_in bs) (free c))) (omega arith) h.fits;
          is_last = omega (arith, h.is_last);
        }

    values_on : F (descend_values (core.core at (binding bs c)) bs env fs) (settled ops (pc + 1) below)
    values_on =
        let g = subst (λ is. HasAt ops (pc + 1) (is ++ instruction (jump (touches + 1)) at ∷ [])) (code_joined x places h.sc (pc + 1) bs)
        (front_one ops (pc + 1) values (instruction (jump (touches + 1)) at) _ h.has.1) in
        let f : Fits x places (free_in_values bs) env h.sc below (touches + 1) =
        part x places (sub_left (free_in_values bs) (without_all (binders_in bs) (free c))) (omega (arith, h.is_last)) h.fits in
        subst (λ u. F u (settled ops (pc + 1) below)) (in_line_same (core.core at (binding bs c)) bs env fs)
        (all_settled x places ops _ (pc + 1) below (in_order x places ops at bs c [] (values_in bs) env fs h.sc (pc + 1) below below (touches + 1) r refl g
        (right_values x.functions bs h.right.0) (subst (λ xs. Fits x places xs env h.sc below (touches + 1)) (free_values bs) f) (omega (arith, joined_sizes bs)) (omega (arith, count_values bs)) after_bind t))

    spawned_on : (eager : Bool) (states : List ℕ) → length states ≡ length (children_of x bs env)
        → F (control.mode_go x at bs c env (spawned eager states) fs) (settled ops (if eager then touches + 1 else touches) (push (map future states) below))
    spawned_on true states e =
        stay_on _ _ _ (at_act at (binding bs c) env (map future states) below r refl (future_words states ∙ (e ∙ as_many_children x places ops bs env)) after_bind t)
    spawned_on false states e =
        joined_on at bs c env fs touches r below (map future states) _ refl rest.0 (future_words states ∙ (e ∙ as_many_children x places ops bs env)) after_bind t

    qlet_goes : (w : Word) (ws : List Word) (a : Answer Closure) (b : Answer Entry)
        → Suits (thread (acting (core.core at (core.qlet p bs c)) env ws) fs) (chooses w) a b
        → F (control.mode_go x at bs c env a fs) (machine.mode_go ops touches (touches + 1) b pc below)
    qlet_goes w ws a b =
        ⊎_elim
        (λ g. rw (g.0, g.1) values_on)
        (λ g. rw (g.is_first, g.is_second) (spawned_on (is_eager w) g.futures g.fits))

  -- into the body of a catch
  caught_on : (at : ℕ) (d : Core) (env : Bindings) (fs : List Frame) (sc : Scope) (pc r : ℕ) (below : List Item) (a : Answer Closure) (b : Answer Entry)
      → HasAt ops (pc + 1) (code x places sc (pc + 1) d ++ instruction exit at ∷ []) → IsRight x.functions d → Fits x places (free d) env sc below r → r ≡ pc + (1 + size d + 1) → R fs r below
      → follows.Numbers (core_machine x) (code_machine ops) F (Same x places ops) a b
      → F (control.catch_go x d env a fs) (machine.catch_go ops (pc + 1 + size d + 1) b pc below)
  caught_on at d env fs sc pc r below a b h y f e t n =
      let same : pc + 1 + size d + 1 ≡ r = omega (arith, e) in
      rw (n.1.0, n.1.1)
      (stay_on _ _ _ (descends x places ops d env (catching n.0 ∷ fs) sc (pc + 1) (pc + 1 + size d) _ (front ops _ _ _ h) y (marked x places ops (pc + 1 + size d) _ refl tt f) refl
      (waiting (exits n.0 fs below at _ (back ops _ _ _ (size d) (long x places sc (pc + 1) d) h).0 refl (subst (λ q. R fs q below) (sym same) t)))))

  -- into a function
  called_on : (w : ℕ) (g : Function) (f : Stood x places ops w g) (ws : List Word) (fs : List Frame) (pc : ℕ) (below : List Item) (a : Answer Closure) (b : Answer Entry)
      → length ws ≡ length (parameters_of g) → R fs (pc + 1) below
      → follows.Binds (core_machine x) (code_machine ops) F (Same x places ops) (stored_among x (parameters_of g)) ws a b
      → F (control.call_go x (Some g) a fs) (machine.bind_go ops f.place b pc (mark (marks.Returning (pc + 1)) ∷ below))
  called_on w g f ws fs pc below a b k t z =
      let ps = parameters_of g in
      let m = many x ps in
      rw (z.1.0, z.1.1) (stay_on _ _ _ (called_body x places ops w g fs (pc + 1) below _ f (suited ps (stored_among x ps) ws z.0 m (k ∙ sym m)) t))

  module _ (known : Known x places ops) where
    abbrev Going : Bool → ℕ → Node → Bindings → List Frame → ℕ → List Item → Answer Closure → Answer Entry → List Word → Type 0
    Going cl at n env fs pc below a b ws =
        Suits (thread (acting (core.core at n) env ws) fs) (core_want x cl (core.core at n) env ws) a b
        → F (core_go x cl (core.core at n) env ws a fs) (running_go ops (slice_get ops pc) b pc (push ws below))

    prim_goes : (cl : Bool) (at o : ℕ) (cs : Cores) (env : Bindings) (ws : List Word) (fs : List Frame) (pc r : ℕ) (below : List Item) (a : Answer Closure) (b : Answer Entry)
        → length ws ≡ count cs → A at (primitive o cs) env pc r below → R fs (pc + 1) below → R fs r below
        → Going cl at (primitive o cs) env fs pc below a b ws
    prim_goes cl at o cs env ws fs pc r below a b k h t u s =
        let p = h.right in
        let n = primitive o cs in
        let on = λ (q : Operator) (z : Suits (thread (acting (core.core at n) env ws) fs) (await_or (first_future (touched_by (Some q) ws)) at (compute_want (Some q) ws at)) a b).
        several at n env fs pc r below ws (first_future (touched_by (Some q) ws)) (compute_want (Some q) ws at) (thread (acting (core.core at n) env ws) fs)
        (control.give_answer x a fs) (machine.word_go ops (pc + 1) b pc below) a b k h u z (λ g. rw (g.1.0, g.1.1) (given_on g.0 fs (pc + 1) below t)) in
        ⊎_elim
        (λ (e : (o == 19) ≡ true).
        let is_cons : operator_of o ≡ Some cons = ap operator_of (eqb-true o 19 e) in
        let same : Some p.0 ≡ Some cons = sym p.1 ∙ is_cons in
        let two : length ws ≡ 2 = k ∙ (sym p.2 ∙ ap operand_count same) in
        rw (h.has.0, e, is_cons, without_pushed ws 2 below two) (word_on fs (pc + 1) pc below a b t (rw is_cons at s)))
        (λ (e : (o == 19) ≡ false).
        rw (h.has.0, e, p.1, words_pushed ws _ below (k ∙ sym p.2), without_pushed ws _ below (k ∙ sym p.2)) (on p.0 (rw p.1 at s)))
        (cases (o == 19))

    act_goes : (cl : Bool) (at : ℕ) (n : Node) (env : Bindings) (ws : List Word) (fs : List Frame) (pc r : ℕ) (below : List Item) (a : Answer Closure) (b : Answer Entry)
        → cl ≡ in_cleanup (cleanups_on (push ws below)) → length ws ≡ arity n → A at n env pc r below → R fs r below → Going cl at n env fs pc below a b ws
    act_goes cl at (constant f) env ws fs pc r below a b i k h t s = absurd h.right
    act_goes cl at (variable y) env ws fs pc r below a b i k h t s = absurd h.right
    act_goes cl at (setq y o c) env ws fs pc r below a b i k h t s =
        single (Going cl at (setq y o c) env fs pc below a b)
        (λ w s. rw (h.has.0, write_goes y (find_in h.sc y) b pc (word w ∷ below)) (given_on w fs (pc + 1) below (subst (λ q. R fs q below) h.is_last t))) ws k s
    act_goes cl at (conditional d e c) env ws fs pc r below a b i k h t s =
        single (Going cl at (conditional d e c) env fs pc below a b)
        (λ w s. rw h.has.0 (only at (conditional d e c) env fs pc r below w branches (thread (acting (core.core at (conditional d e c)) env (w ∷ [])) fs) _ _ a b refl h t s (λ z. branch_goes at d e c env fs pc r below w h t))) ws k s
    act_goes cl at (progn cs) env ws fs pc r below a b i k h t s = absurd h.right
    act_goes cl at (binding bs c) env ws fs pc r below a b i k h t s =
        let m = many x (binders_in bs) in
        rw (h.has.0, without_pushed ws _ below k, s.1.0, s.1.1)
        (stay_on _ _ _ (bound_body x places ops at bs c env fs pc r below _ (suited (binders_in bs) (stored_among x (binders_in bs)) ws s.0 m (k ∙ sym m)) h t))
    act_goes cl at (primitive o cs) env ws fs pc r below a b i k h t s =
        prim_goes cl at o cs env ws fs pc r below a b k h (subst (λ q. R fs q below) h.is_last t) t s
    act_goes cl at (core.print c) env ws fs pc r below a b i k h t s =
        single (Going cl at (core.print c) env fs pc below a b)
        (λ w s. rw h.has.0 (only at (core.print c) env fs pc r below w (prints w) (thread (acting (core.core at (core.print c)) env (w ∷ [])) fs) _ _ a b refl h t s (λ z. given_on w fs (pc + 1) below (subst (λ q. R fs q below) h.is_last t)))) ws k s
    act_goes cl at (core.call w o cs) env ws fs pc r below a b i k h t s =
        let f = known w h.right.0 h.right.1 in
        rw (h.has.0, h.right.1, f.called, without_pushed ws _ below k)
        (called_on w h.right.0 f ws fs pc below a b (k ∙ sym h.right.2) (subst (λ q. R fs q below) h.is_last t) (rw h.right.1 at s))
    act_goes cl at (core.funcall true c cs) env ws fs pc r below a b i k h t s =
        let n = core.funcall true c cs in
        let u = subst (λ q. R fs q below) h.is_last t in
        rw (h.has.0, ← i, words_pushed ws _ below k, without_pushed ws _ below k)
        (several at n env fs pc r below ws (first_future (touched_in_call cl ws)) (funcall_want cl false ws at) (thread (acting (core.core at n) env ws) fs) _ _ a b k h t s
        (λ z. ⊎_elim (λ e. entered_on (thread (acting (core.core at n) env ws) fs) e.0 at (pc + 1) pc fs below a b e.1 u)
        (λ g. rw (g.0, g.1) (given_on nil fs (pc + 1) below u)) (either_call (thread (acting (core.core at n) env ws) fs) cl false ws at a b z)))
    act_goes cl at (core.funcall false c cs) env ws fs pc r below a b i k h t s =
        let n = core.funcall false c cs in
        let two : pc + 1 + 1 ≡ pc + 2 = omega arith in
        let u : R fs (pc + 2) below = subst (λ q. R fs q below) h.is_last t in
        rw (h.has.0, ← i, words_pushed ws _ below k, without_pushed ws _ below k)
        (several at n env fs pc r below ws (first_future (touched_in_call cl ws)) (funcall_want cl true ws at) (thread (acting (core.core at n) env ws) fs) _ _ a b k h t s
        (λ z. ⊎_elim (λ e. entered_on (thread (acting (core.core at n) env ws) fs) e.0 at (pc + 2) pc fs below a b e.1 u)
        (λ g. rw (g.1.0, g.1.1) (given_on g.0 (replied at ∷ fs) (pc + 1) below (touching at fs h.has.1.0 (subst (λ q. R fs q below) (sym two) u)))) (either_call (thread (acting (core.core at n) env ws) fs) cl true ws at a b z)))
    act_goes cl at (lambda ps c) env ws fs pc r below a b i k h t s = absurd h.right
    act_goes cl at (core.qlet p bs c) env ws fs pc r below a b i k h t s =
        single (Going cl at (core.qlet p bs c) env fs pc below a b)
        (λ w s. rw h.has.0 (only at (core.qlet p bs c) env fs pc r below w (chooses w) (thread (acting (core.core at (core.qlet p bs c)) env (w ∷ [])) fs) _ _ a b refl h t s
        (qlet_goes at p bs c env fs pc r below h t w (w ∷ []) a b))) ws k s
    act_goes cl at (core.qlambda p ps c) env ws fs pc r below a b i k h t s =
        single (Going cl at (core.qlambda p ps c) env fs pc below a b)
        (λ w s. rw h.has.0 (only at (core.qlambda p ps c) env fs pc r below w (makes w) (thread (acting (core.core at (core.qlambda p ps c)) env (w ∷ [])) fs) _ _ a b refl h t s
        (word_on fs (pc + 1 + size c + 1) pc below a b (let e : r ≡ pc + 1 + size c + 1 = omega (arith, h.is_last) in subst (λ q. R fs q below) e t)))) ws k s
    act_goes cl at (core.catch d c) env ws fs pc r below a b i k h t s =
        single (Going cl at (core.catch d c) env fs pc below a b)
        (λ w s. rw h.has.0 (only at (core.catch d c) env fs pc r below w (opens w false) (thread (acting (core.core at (core.catch d c)) env (w ∷ [])) fs) _ _ a b refl h t s (caught_on at c env fs h.sc pc r below a b h.has.1 h.right h.fits h.is_last t))) ws k s
    act_goes cl at (core.qcatch d c) env ws fs pc r below a b i k h t s =
        single (Going cl at (core.qcatch d c) env fs pc below a b)
        (λ w s. rw h.has.0 (only at (core.qcatch d c) env fs pc r below w (opens w true) (thread (acting (core.core at (core.qcatch d c)) env (w ∷ [])) fs) _ _ a b refl h t s (caught_on at c env fs h.sc pc r below a b h.has.1 h.right h.fits h.is_last t))) ws k s
    act_goes cl at (core.throw d c) env ws fs pc r below a b i k h t s =
        double (Going cl at (core.throw d c) env fs pc below a b)
        (λ v w s. rw h.has.0 (several at (core.throw d c) env fs pc r below (v ∷ w ∷ []) (first_future (v ∷ w ∷ [])) (throws v w at) (thread (acting (core.core at (core.throw d c)) env (v ∷ w ∷ [])) fs) _ _ a b refl h t s
        (λ g. rw (g.1.0, g.1.1) (at_unwinding (rest_unwinds x places ops _ r _ (rest_aimed x places ops g.0 fs r below t)))))) ws k s
    act_goes cl at (core.protect d c) env ws fs pc r below a b i k h t s = absurd h.right
    act_goes cl at (defvar w o c) env ws fs pc r below a b i k h t s =
        single (Going cl at (defvar w o c) env fs pc below a b)
        (λ v s. rw (h.has.0, write_goes (named w) (find_in h.sc (named w)) b pc (word v ∷ below)) (given_on v fs (pc + 1) below (subst (λ q. R fs q below) h.is_last t))) ws k s

    -- a cleanup begins
    begun_on : (u : ℕ) (w : Word) (c : Core) (env : Bindings) (fs : List Frame) (l r pc : ℕ) (below : List Item) (a : Answer Closure) (b : Answer Entry)
        → Clean x places ops c env l r below → R fs r below → follows.Numbers (core_machine x) (code_machine ops) F (Same x places ops) a b
        → F (control.begin_go x u w c env a fs) (machine.begin_go ops l u (plain w) b pc below)
    begun_on u w c env fs l r pc below a b k t n =
        rw (n.1.0, n.1.1) (stay_on _ l _ (cleaned x places ops u w c env (record { aim = free_aim; floor = n.0 }) fs l r below k t))

    -- at the base of a process
    based_on : (t : Thread) (w : Word) (at : ℕ) (want : Want) (fs : List Frame) (pc : ℕ) (st : List Item) (a : Answer Closure) (b : Answer Entry)
        → ((v : Word) → F (thread (given v) fs) (settled ops pc (word v ∷ st))) → Suits t (await_word w at want) a b → (Suits t want a b → F (control.base_go x a fs) (machine.ended pc))
        → F (control.base_go x a fs) (one_go ops (w ∷ []) b pc st (machine.ended pc))
    based_on t (future f) at want fs pc st a b h s k = rw (s.1.0, s.1.1) (h s.0)
    based_on t (integer z) at want fs pc st a b h s k = k s
    based_on t (symbol z) at want fs pc st a b h s k = k s
    based_on t (pair z) at want fs pc st a b h s k = k s
    based_on t (closure z) at want fs pc st a b h s k = k s
    based_on t (process_closure z) at want fs pc st a b h s k = k s

    -- a future of a `qlet` is touched
    touched_on : (at : ℕ) (bs : Bounds) (c : Core) (env : Bindings) (fs : List Frame) (pc r : ℕ) (below : List Item) (ws : List Word) (f : ℕ) (next : Thread) (point : Point)
        (a : Answer Closure) (b : Answer Entry) → slice_get ops pc ≡ Some (instruction (touch (length (binders_in bs))) at) → length ws ≡ arity (binding bs c)
        → A at (binding bs c) env (pc + 1) r below → R fs r below → follows.Gets (core_machine x) (code_machine ops) F (Same x places ops) a b
        → F (control.touch_go x (Some f) (joining at bs c env) ws a next fs) (machine.touch_go ops (Some f) ws b pc below point)
    touched_on at bs c env fs pc r below ws f next point a b g k h t z =
        rw (z.1.0, z.1.1) (joined_on at bs c env fs pc r below (with_value z.0 ws) _ refl g (kept_length z.0 ws ∙ k) h t)

    waits_goes : (w : Word) (fs : List Frame) (pc : ℕ) (st : List Item) (a : Answer Closure) (b : Answer Entry) → Waits x places ops fs pc st
        → Suits (thread (given w) fs) (given_want x w fs) a b → F (given_go x w fs a) (running_go ops (slice_get ops pc) b pc (word w ∷ st))
    waits_goes w fs pc st a b (returns gs below n at l g o t) s =
        rw (g, same_over top_mark (λ s st. refl) n st _ o, same_over below_mark (λ s st. refl) n st _ o) (given_on w gs l below t)
    waits_goes w fs pc st a b (exits c gs below at l g e t) s = rw g (given_on w gs (pc + 1) below (subst (λ q. R gs q below) e t))
    waits_goes w fs pc st a b (leaves u c env gs below at l r g e k t) s =
        rw g (subst (λ q. F (control.begin_go x u w c env a gs) (machine.begin_go ops q u (plain w) b pc below)) e (begun_on u w c env gs l r pc below a b k t s))
    waits_goes w fs pc st a b (cleans u v k gs below at g t) s =
        ⊎_elim
        (λ z. rw (g, z.0, z.1) (given_on v gs (pc + 1) below t))
        (λ z. rw (g, z.0, z.1) (at_unwinding (rest_unwinds x places ops gs (pc + 1) below t)))
        s
    waits_goes w fs pc st a b (child at n g o) s =
        rw g (based_on (thread (given w) fs) w at _ fs pc st a b (λ v. stay_on _ pc _ (at_given v st (child at n g o))) s (λ z. rw z.0 at_over))
    waits_goes w fs pc st a b (server at n g o) s =
        rw (g, same_over top_mark (λ s st. refl) n st _ o) (based_on (thread (given w) fs) w at _ fs pc st a b (λ v. stay_on _ pc _ (at_given v st (server at n g o))) s (λ z. absurd z))

    stops_goes : (fs : List Frame) (pc : ℕ) (st : List Item) (a : Answer Closure) (b : Answer Entry) → Stops x places ops fs st
        → Suits (thread control.unwinding fs) (control.unwinding_want x fs) a b → F (control.unwinding_go x fs a) (machine.unwinding_go ops b pc st)
    stops_goes fs pc st a b (at_catch c gs below l t) s =
        ⊎_elim
        (λ z. rw (z.1.0, z.1.1) (given_on z.0 _ l _ (rest_aimed x places ops free_aim gs l below t)))
        (λ z. rw (z.0, z.1) (at_unwinding (rest_unwinds x places ops gs l below t)))
        s
    stops_goes fs pc st a b (at_protect u c env gs below l r k t) s = begun_on u nil c env gs l r pc below a b k t s
    stops_goes fs pc st a b (at_clean u w k gs below q t) s = absurd s
    stops_goes fs pc st a b (at_tops cs) s = at_over
    stops_goes fs pc st a b (at_child at j) s = at_over
    stops_goes fs pc st a b (at_server at) s = at_over
    stops_goes fs pc st a b at_nothing s = absurd s

    pub same_go : (c : Control) (fs : List Frame) (z : State) (pc : ℕ) (st : List Item) (a : Answer Closure) (b : Answer Entry) → At x places ops c fs z pc st
        → Suits (thread c fs) (want_of x c fs) a b → F (go_on x c fs a) (go_in ops z b pc st)
    same_go c fs z pc st a b (at_literal f at g t) s = rw g (given_on (constant_word x f) fs (pc + 1) st t)
    same_go c fs z pc st a b (at_read at y env sc g m t) s = rw g (read_goes (thread c fs) y at fs pc st (lookup env y) (find_in sc y) a b m t s)
    same_go c fs z pc st a b (at_close k sc q h t) s =
        let e : q ≡ pc + 1 + size k.body + 1 = omega (arith, h.is_last) in rw h.has.0 (word_on fs (pc + 1 + size k.body + 1) pc st a b (subst (λ p. R fs p st) e t) s)
    same_go c fs z pc st a b (at_guard d e env sc at q h t) s =
        let rest = back ops _ _ _ (size d) (long x places sc (pc + 1) d) h.has.1 in
        let l = h.is_last in
        let f : Fits x places (free d) env sc st (pc + 1 + size d) = part x places (sub_left (free d) (free e)) (omega (arith, l)) h.fits in
        rw (h.has.0, s.1.0, s.1.1)
        (stay_on _ _ _ (descends x places ops d env _ sc (pc + 1) (pc + 1 + size d) _ (front ops _ _ _ h.has.1) h.right.0
        (marked x places ops (pc + 1 + size d) _ refl tt f) refl
        (waiting (leaves s.0 e env fs st at (pc + 1 + size d + 1) q rest.0 refl
        (record { at = at; sc = sc; has = rest.1; right = h.right.1; fits = part x places (sub_right (free d) (free e)) (omega arith) h.fits; is_last = omega (arith, l) }) t))))
    same_go c fs z pc st a b (at_act at n env ws below r e k h t) s =
        let i = ap in_cleanup (same_cleanups x places ops _ fs _ pc st (at_act at n env ws below r e k h t) ∙ ap cleanups_on e) in
        subst (λ u. F (go_on x (acting (core.core at n) env ws) fs a) (go_in ops running b pc u)) (sym e) (act_goes _ at n env ws fs pc r below a b i k h t s)
    same_go c fs z pc st a b (at_touch at bs d env ws below f r u g e k h t) s =
        let n = length (binders_in bs) in
        let v : words n st ≡ ws = ap (words n) e ∙ words_pushed ws _ below k in
        let w : without_first n st ≡ below = ap (without_first n) e ∙ without_pushed ws _ below k in
        rw (g, v, w, u) (touched_on at bs d env fs pc r below ws f _ _ a b g k h t (rw u at s))
    same_go c fs z pc st a b (at_bind at bs d env ws u h) s = rw u (same_go _ fs _ pc st a b h (rw u at s))
    same_go c fs z pc st a b (at_given w below t) s = waits_goes w fs pc below a b t s
    same_go c fs z pc st a b (at_reply f at below g t) s = rw (g, s.1.0, s.1.1) (given_on s.0 _ pc below (touching at _ g t))
    same_go c fs z pc st a b (at_unwinding t) s = stops_goes fs pc st a b t s
    same_go c fs z pc st a b (at_end at g) s = rw g at_over
    same_go c fs z pc st a b (at_resting at) s = absurd s
    same_go c fs z pc st a b at_over s = absurd s
