-- On sound code a process goes on to stand in its place's shape.
use Rattle.std.proofs.Common.{◌≡◌, ℕ, suc, ◌+◌, ◌-◌, ◌<◌, ◌≤◌, ◌==◌, Bool, true, false, List, [], ◌∷◌, ◌++◌, length, map, Option, Some, None, refl, sym, ap, ◌∙◌, subst, ⊎_elim, arith, append_assoc, eqb-true}
use Rattle.std.specs.Prelude.{◌&&◌, if◌then◌else◌, drop as without_first, replicate}
use Rattle.std.proofs.lemmas.List.{length-map, append-nil}
use Rattle.std.proofs.lemmas.Bool.{ltb-true}
use Rattle.ql_world.specs.Word as word
use Rattle.ql_world.specs.declared.word.Slot.TheVariants.{Cell as word_boxed}
use Rattle.ql_world.specs.Word.{first_future, with_value, is_nil}
use Rattle.ql_world.specs.declared.word.Word.{Word}
use Rattle.ql_world.specs.declared.word.Word.TheVariants.{Int as integer, Sym as symbol, Pair as pair, Fun as closure, Proc as process_closure, Fut as future}
use Rattle.ql_world.specs.declared.word.Slot.{Slot}
use Rattle.ql_world.specs.declared.word.Slot.TheVariants.{Val as plain}
use Rattle.ql_world.specs.Operator.{operator_of}
use Rattle.ql_world.specs.declared.operator.Operator.{Operator}
use Rattle.ql_world.specs.declared.operator.Operator.TheVariants.{Cons as cons_operator}
use Rattle.ql_world.specs.declared.world.Kind.TheVariants.{Main as world_main, Child as world_child}
use Rattle.ql_world.specs.declared.world.Aim.TheVariants.{Free as free}
use Rattle.ql_world.specs.declared.world.Kind.{Kind}
use Rattle.ql_world.specs.declared.world.Kind.TheVariants.{Closure as serving}
use Rattle.ql_world.specs.Machine.{Place, held, box, global, Want, awaits, computes, funcalls, sends, throws, replies, rests, branches, chooses, ends, with_word, makes, opens, prints, reads, closes, binds, protects, begins, finishes, leaves, Answer, done, got, numbered, bound, entered, in_line, spawned, unwinds, aimed}
use Rattle.ql_world.specs.Touch.{await_or, await_word, touched_in_call, touched_by, function_want}
use Rattle.ql_world.specs.Idle.{in_cleanup}
use Rattle.ql_code.specs.Code.{Op, lit, local, box_get, global_get, box_set, global_set, branch, jump, drop, slide, bind, call, return, close, funcall, funcall_drop, touch, qlet, join, qlambda, catch, qcatch, exit, throw, protect, leave, end_clean, prim, cons, print, end, Instruction, unmasked, FunEntry, Code}
use Rattle.ql_code.specs.Machine as machine
use Rattle.ql_code.specs.Machine.{Mark, returning, base, Item, slot, mark, running, unwinding, resting, Point, Entry, point, words, push, push_slots, frame_of, slot_at, slots_at, top_mark, below_mark, unwind, unwind_point, aim_cleanup, joins_at, silent, settled, place_of_slot, held_word, one_want, store_want, throw_want, return_want, exit_want, leave_want, clean_want, operand_count, prim_want, call_want, op_want, unwinding_want, running_want, cleanups_on, want_in, word_go, one_go, touch_go, bind_go, branch_go, funcall_go, mode_go, catch_go, throw_go, protect_go, begin_go, finish_go, exit_go, leave_go, clean_go, return_to, prim_go, call_go, unary_go, op_go, land_go, unwinding_go, running_go, go_in, child_stack, children_from, op_children, children_by, op_entry, entry_by, next_of, code_machine}
use Rattle.ql_code.specs.Sound.{Part, value, boxed, catching, protecting, cleaning, Shape, Start, main, body, child, slots_in, part_at, part_of, is_value, are_slots, values, over, variables, have_all, parts_at, is_constant, is_entry, is_mask, is_body, op_rule, children, after, All, Leads, Has, Enters, Sound}
use Rattle.ql_code.specs.Standing.{Made, IsMade, AreMade, IsSlot, AreSlots, IsBottom, IsServing, Fits, IsEntry, IsRunning, IsStandingIn, IsStanding, IsStore, AreFutures, Suits, Holds}
use Rattle.ql_code.proofs.Within.{cases}
use Rattle.ql_code.proofs.Frames.{Led, led_is, IsSome, slot_is, captured_are, slots_append, words_top, push_top, push_slots_top, slots_put, nils_put, frame_is, Ends, end_of, own_top, aimed_fits, unwind_fits, unwind_stops}
use Rattle.ql_code.proofs.Settles.{and_left, and_right, join_led, settled_fits}
use Rattle.ql_code.proofs.Asks.{taken, halted, box_place}

module _ (m : Made) where
  with_value_made : (v : Word) (ws : List Word) → IsMade m v → AreMade m ws → AreMade m (with_value v ws)
  with_value_made v [] h k = tt
  with_value_made v (future f ∷ ws) h k = (h, k.1)
  with_value_made v (integer z ∷ ws) h k = (k.0, with_value_made v ws h k.1)
  with_value_made v (symbol n ∷ ws) h k = (k.0, with_value_made v ws h k.1)
  with_value_made v (pair n ∷ ws) h k = (k.0, with_value_made v ws h k.1)
  with_value_made v (closure n ∷ ws) h k = (k.0, with_value_made v ws h k.1)
  with_value_made v (process_closure n ∷ ws) h k = (k.0, with_value_made v ws h k.1)

  with_value_long : (v : Word) (ws : List Word) → length (with_value v ws) ≡ length ws
  with_value_long v [] = refl
  with_value_long v (future f ∷ ws) = refl
  with_value_long v (integer z ∷ ws) = ap suc (with_value_long v ws)
  with_value_long v (symbol n ∷ ws) = ap suc (with_value_long v ws)
  with_value_long v (pair n ∷ ws) = ap suc (with_value_long v ws)
  with_value_long v (closure n ∷ ws) = ap suc (with_value_long v ws)
  with_value_long v (process_closure n ∷ ws) = ap suc (with_value_long v ws)

  futures_made : (fs : List ℕ) → AreFutures m fs → AreMade m (map future fs)
  futures_made [] h = tt
  futures_made (f ∷ fs) h = (h.0, futures_made fs h.1)

  pub constant_made : (n : ℕ) (w : Word) → n ≤ m.pairs → is_constant n w ≡ true → IsMade m w
  constant_made n (integer z) l e = tt
  constant_made n (symbol i) l e = tt
  constant_made n (pair i) l e = let k = ltb-true i n e in omega (arith, k, l)
  constant_made n (closure i) l e = absurd cc
  constant_made n (process_closure i) l e = absurd cc
  constant_made n (future f) l e = absurd cc

  held_made : (is : List Instruction) (o : Option Part) (q : Option Slot) → is_value o ≡ true → IsSome m o q → IsMade m (held_word is q)
  held_made is None q e h = absurd cc
  held_made is (Some boxed) q e h = absurd cc
  held_made is (Some catching) q e h = absurd cc
  held_made is (Some protecting) q e h = absurd cc
  held_made is (Some cleaning) q e h = absurd cc
  held_made is (Some value) None e h = absurd h
  held_made is (Some value) (Some (plain w)) e h = h
  held_made is (Some value) (Some (word_boxed n)) e h = absurd h

module _ (code : Code) (so : Sound code) (m : Made) (kind : Kind) (names : Holds code m) where
  abbrev At : Start → ℕ → Shape → Type 0
  At = Has so.table

  abbrev F : Start → Shape → List Item → Type 0
  F = Fits At m kind

  abbrev is : List Instruction
  is = code.instructions

  abbrev IsOn : Point → Type 0
  IsOn = IsStanding At m is kind

  on : (s : Start) (pc : ℕ) (sh : Shape) (st : List Item) → At s pc sh → F s sh st → IsOn (settled is pc st)
  on = settled_fits code so m kind

  -- it unwinds
  off : (s : Start) (sh : Shape) (pc : ℕ) (st : List Item) → F s sh st → IsOn (unwind_point pc st)
  off s sh pc st h = (unwind_stops At m kind s sh st h, unwind_fits At m kind s sh st h)

  word_goes : (n : ℕ) (want : Want) (s : Start) (pc q : ℕ) (r : Shape) (st : List Item) (a : Answer Entry) → ((a : Answer Entry) → Suits At m n want a → (w : Word) × (a ≡ got w) × IsMade m w) → Suits At m n want a
      → At s q (value ∷ r) → F s r st → IsOn (word_go is q a pc st)
  word_goes n want s pc q r st a f u t h =
      let g = f a u in
      subst (λ z. IsOn (word_go is q z pc st)) (sym g.1) (on s q (value ∷ r) (slot (plain g.0) ∷ st) t (g.2, h))

  read_got : (n : ℕ) (place : Place) (at : ℕ) → IsStore m kind place → (a : Answer Entry) → Suits At m n (reads place at) a → (w : Word) × (a ≡ got w) × IsMade m w
  read_got n held at p a u = absurd p
  read_got n (box i) at p (got w) u = (w, refl, u)
  read_got n (box i) at p a u = absurd u
  read_got n (global i) at p (got w) u = (w, refl, u)
  read_got n (global i) at p a u = absurd u

  closes_got : (n : ℕ) (a : Answer Entry) → Suits At m n closes a → (w : Word) × (a ≡ got w) × IsMade m w
  closes_got n (got w) u = (w, refl, u)
  closes_got n a u = absurd u

  makes_got : (n : ℕ) (x : Word) (a : Answer Entry) → Suits At m n (makes x) a → (w : Word) × (a ≡ got w) × IsMade m w
  makes_got n x (got w) u = (w, refl, u)
  makes_got n x a u = absurd u

  computes_got : (n : ℕ) (o : Operator) (ws : List Word) (at : ℕ) (a : Answer Entry) → Suits At m n (computes o ws at) a → (w : Word) × (a ≡ got w) × IsMade m w
  computes_got n o ws at (got w) u = (w, refl, u)
  computes_got n o ws at a u = absurd u

  sends_got : (n k : ℕ) (ws : List Word) (used : Bool) (at : ℕ) (a : Answer Entry) → Suits At m n (sends k ws used at) a → (w : Word) × (a ≡ got w) × IsMade m w
  sends_got n k ws used at (got w) u = (w, refl, u)
  sends_got n k ws used at a u = absurd u

  awaits_got : (n f at : ℕ) (a : Answer Entry) → Suits At m n (awaits f at) a → (w : Word) × (a ≡ got w) × IsMade m w
  awaits_got n f at (got w) u = (w, refl, u)
  awaits_got n f at a u = absurd u

  -- an operand that is touched
  one_goes : (n : ℕ) (s : Start) (pc at : ℕ) (r : Shape) (st : List Item) (w : Word) (want : Want) (a : Answer Entry) (next : Point) → At s pc (value ∷ r) → IsMade m w → F s r st
      → Suits At m n (await_word w at want) a → (Suits At m n want a → IsOn next) → IsOn (one_go is (w ∷ []) a pc st next)
  one_goes n s pc at r st (integer z) want a next t w h u k = k u
  one_goes n s pc at r st (symbol i) want a next t w h u k = k u
  one_goes n s pc at r st (pair i) want a next t w h u k = k u
  one_goes n s pc at r st (closure i) want a next t w h u k = k u
  one_goes n s pc at r st (process_closure i) want a next t w h u k = k u
  one_goes n s pc at r st (future f) want a next t w h u k =
      let g = awaits_got n f at a u in
      subst (λ z. IsOn (one_go is (future f ∷ []) z pc st next)) (sym g.1) (on s pc (value ∷ r) (slot (plain g.0) ∷ st) t (g.2, h))

  unary_goes : (n : ℕ) (s : Start) (pc at : ℕ) (r : Shape) (st : List Item) (want : Word → Want) (a : Answer Entry) (next : List Item → Point) → At s pc (value ∷ r) → F s (value ∷ r) st
      → Suits At m n (one_want (words 1 st) at want) a
      → ((w : Word) (u : List Item) → st ≡ slot (plain w) ∷ u → IsMade m w → F s r u → Suits At m n (want w) a → IsOn (next u)) → IsOn (unary_go is a pc st next)
  unary_goes n s pc at r [] want a next t h u k = absurd h
  unary_goes n s pc at r (slot (plain w) ∷ st) want a next t h u k = one_goes n s pc at r st w (want w) a (next st) t h.0 h.1 u (k w st refl h.0 h.1)
  unary_goes n s pc at r (slot (word_boxed i) ∷ st) want a next t h u k = absurd h.0
  unary_goes n s pc at r (mark l ∷ st) want a next t h u k = absurd h.0

  -- several words of which some are touched
  touch_goes : (n : ℕ) (s : Start) (pc at : ℕ) (r : Shape) (st : List Item) (o : Option ℕ) (ws : List Word) (want : Want) (a : Answer Entry) (next : Point) → At s pc (values (length ws) ++ r) → AreMade m ws → F s r st
      → Suits At m n (await_or o at want) a → (Suits At m n want a → IsOn next) → IsOn (touch_go is o ws a pc st next)
  touch_goes n s pc at r st None ws want a next t w h u k = k u
  touch_goes n s pc at r st (Some f) ws want a next t w h u k =
      let g = awaits_got n f at a u in
      let e : length (with_value g.0 ws) ≡ length ws = with_value_long m g.0 ws in
      subst (λ z. IsOn (touch_go is (Some f) ws z pc st next)) (sym g.1)
      (on s pc (values (length ws) ++ r) (push (with_value g.0 ws) st) t
      (subst (λ z. F s (values z ++ r) (push (with_value g.0 ws) st)) e (push_top At m kind (with_value g.0 ws) s r st (with_value_made m g.0 ws g.2 w) h)))

  -- the entry that a `call` names
  entry_there : (es : List FunEntry) (l n mask : ℕ) → is_entry es l n mask ≡ true → Enters so.table es → At (body l) l (over (variables n mask) [])
  entry_there [] l n mask e h = absurd cc
  entry_there (x ∷ es) l n mask e h =
      ⊎_elim
      (λ (t : (x.place == l && (x.params == n && x.mask == mask)) ≡ true).
      let a : x.place ≡ l = eqb-true x.place l (and_left (x.place == l) (x.params == n && x.mask == mask) t) in
      let r = and_right (x.place == l) (x.params == n && x.mask == mask) t in
      let b : x.params ≡ n = eqb-true x.params n (and_left (x.params == n) (x.mask == mask) r) in
      let c : x.mask ≡ mask = eqb-true x.mask mask (and_right (x.params == n) (x.mask == mask) r) in
      subst (λ z. At (body z) z (over (variables n mask) [])) a (subst (λ z. At (body x.place) x.place (over (variables z mask) [])) b (subst (λ z. At (body x.place) x.place (over (variables x.params z) [])) c h.1)))
      (λ (t : (x.place == l && (x.params == n && x.mask == mask)) ≡ false). entry_there es l n mask (rw t at e) h.2)
      (cases (x.place == l && (x.params == n && x.mask == mask)))

  bind_goes : (n : ℕ) (bs : List Bool) (ws : List Word) (s : Start) (pc q : ℕ) (r : Shape) (st : List Item) (a : Answer Entry) → Suits At m n (binds bs ws) a → At s q (over (map part_of bs) r) → F s r st → IsOn (bind_go is q a pc st)
  bind_goes n bs ws s pc q r st (bound ss) u t h = on s q (over (map part_of bs) r) (push_slots ss st) t (push_slots_top At m kind (map part_of bs) ss s r st u h)
  bind_goes n bs ws s pc q r st a u t h = absurd u

  branch_goes : (b : Bool) (s : Start) (pc l : ℕ) (r : Shape) (st : List Item) → At s l r → At s (pc + 1) r → F s r st → IsOn (if b then settled is l st else settled is (pc + 1) st)
  branch_goes true s pc l r st t u h = on s l r st t h
  branch_goes false s pc l r st t u h = on s (pc + 1) r st u h

  return_goes : (n : ℕ) (s : Start) (pc at : ℕ) (r : Shape) (st : List Item) (o : Option Mark) (a : Answer Entry) → At s pc (value ∷ r) → F s (value ∷ r) st → Ends At m kind s o (below_mark st)
      → Suits At m n (return_want o (words 1 st) at) a → IsOn (return_to is o a (words 1 st) pc st)
  return_goes n s pc at r [] o a t h k u = absurd h
  return_goes n s pc at r (mark l ∷ st) o a t h k u = absurd h.0
  return_goes n s pc at r (slot (word_boxed i) ∷ st) o a t h k u = absurd h.0
  return_goes n s pc at r (slot (plain w) ∷ st) None a t h k u = absurd k
  return_goes n s pc at r (slot (plain w) ∷ st) (Some (returning q)) a t h k u = on k.1.0 q (value ∷ k.1.1) (slot (plain w) ∷ below_mark st) k.1.2 (h.0, k.1.3)
  return_goes n s pc at r (slot (plain w) ∷ st) (Some (base j)) a t h k u = one_goes n s pc at r st w (replies w) a (machine.ended pc) t h.0 h.1 u (λ v. absurd v)
  return_goes n s pc at r (slot (plain w) ∷ st) (Some (machine.catching c l)) a t h k u = absurd k
  return_goes n s pc at r (slot (plain w) ∷ st) (Some (machine.protecting c l)) a t h k u = absurd k
  return_goes n s pc at r (slot (plain w) ∷ st) (Some (machine.cleaning c l)) a t h k u = absurd k

  enter_goes : (n : ℕ) (w : Word) (ws : List Word) (at : ℕ) (s : Start) (pc back : ℕ) (r : Shape) (st : List Item) (a : Answer Entry) → Suits At m n (funcalls w ws at) a → At s back (value ∷ r) → F s r st → IsOn (funcall_go is back a pc st)
  enter_goes n w ws at s pc back r st (entered k ss) u t h =
      let f : F (body k.place) [] (mark (returning back) ∷ st) = (tt, (s, r, t, h)) in
      on (body k.place) k.place (over (variables k.count k.mask ++ u.0.0) []) (push_slots (ss ++ k.captured) (mark (returning back) ∷ st)) u.0.2
      (push_slots_top At m kind (variables k.count k.mask ++ u.0.0) (ss ++ k.captured) (body k.place) [] (mark (returning back) ∷ st) (slots_append m (variables k.count k.mask) u.0.0 ss k.captured u.1 u.0.1) f)
  enter_goes n w ws at s pc back r st a u t h = absurd u

  send_goes : (n k : ℕ) (ws : List Word) (used : Bool) (at : ℕ) (s : Start) (pc back : ℕ) (r : Shape) (st : List Item) (a : Answer Entry) → Suits At m n (sends k ws used at) a → At s (pc + 1) (value ∷ r) → F s r st → IsOn (funcall_go is back a pc st)
  send_goes n k ws used at s pc back r st (got w) u t h = on s (pc + 1) (value ∷ r) (slot (plain w) ∷ st) t (u, h)
  send_goes n k ws used at s pc back r st a u t h = absurd u

  function_goes : (n : ℕ) (cleans used : Bool) (w : Word) (ws : List Word) (at : ℕ) (s : Start) (pc back : ℕ) (r : Shape) (st : List Item) (a : Answer Entry) → Suits At m n (function_want cleans used w ws at) a
      → At s (pc + 1) (value ∷ r) → At s back (value ∷ r) → F s r st → IsOn (funcall_go is back a pc st)
  function_goes n cleans used (integer z) ws at s pc back r st a u t v h = enter_goes n (integer z) ws at s pc back r st a u v h
  function_goes n cleans used (symbol i) ws at s pc back r st a u t v h = enter_goes n (symbol i) ws at s pc back r st a u v h
  function_goes n cleans used (pair i) ws at s pc back r st a u t v h = enter_goes n (pair i) ws at s pc back r st a u v h
  function_goes n cleans used (closure i) ws at s pc back r st a u t v h = enter_goes n (closure i) ws at s pc back r st a u v h
  function_goes n true used (process_closure i) ws at s pc back r st a u t v h = enter_goes n (process_closure i) ws at s pc back r st a u v h
  function_goes n false used (process_closure i) ws at s pc back r st a u t v h = send_goes n i ws used at s pc back r st a u t h
  function_goes n cleans used (future f) ws at s pc back r st a u t v h = enter_goes n (future f) ws at s pc back r st a u v h

  call_goes : (n : ℕ) (cleans used : Bool) (i : ℕ) (ws : List Word) (at : ℕ) (s : Start) (pc back : ℕ) (r : Shape) (st : List Item) (a : Answer Entry) → length ws ≡ suc i → AreMade m ws → At s pc (values (length ws) ++ r)
      → Suits At m n (call_want cleans used ws at) a → At s (pc + 1) (value ∷ r) → At s back (value ∷ r) → F s r st
      → IsOn (touch_go is (first_future (touched_in_call cleans ws)) ws a pc st (funcall_go is back a pc st))
  call_goes n cleans used i [] at s pc back r st a e w x u t v h = absurd (omega (arith, e))
  call_goes n cleans used i (y ∷ ws) at s pc back r st a e w x u t v h =
      touch_goes n s pc at r st (first_future (touched_in_call cleans (y ∷ ws))) (y ∷ ws) (function_want cleans used y ws at) a (funcall_go is back a pc st) x w h u
      (λ z. function_goes n cleans used y ws at s pc back r st a z t v h)

  primitive_goes : (n : ℕ) (o : Option Operator) (ws : List Word) (at : ℕ) (s : Start) (pc : ℕ) (r : Shape) (st : List Item) (a : Answer Entry) → AreMade m ws → At s pc (values (length ws) ++ r)
      → Suits At m n (prim_want o ws at) a → At s (pc + 1) (value ∷ r) → F s r st → IsOn (touch_go is (first_future (touched_by o ws)) ws a pc st (word_go is (pc + 1) a pc st))
  primitive_goes n None ws at s pc r st a w x u t h = touch_goes n s pc at r st None ws rests a (word_go is (pc + 1) a pc st) x w h u (λ z. absurd z)
  primitive_goes n (Some o) ws at s pc r st a w x u t h =
      touch_goes n s pc at r st (first_future (touched_by (Some o) ws)) ws (computes o ws at) a (word_go is (pc + 1) a pc st) x w h u
      (λ z. word_goes n (computes o ws at) s pc (pc + 1) r st a (computes_got n o ws at) z t h)

  mode_goes : (n : ℕ) (w : Word) (s : Start) (pc t b : ℕ) (r : Shape) (st : List Item) (a : Answer Entry) → Suits At m n (chooses w) a → At s (pc + 1) r → At s t (values n ++ r) → At s b (values n ++ r) → F s r st → IsOn (mode_go is t b a pc st)
  mode_goes n w s pc t b r st in_line u x y z h = on s (pc + 1) r st x h
  mode_goes n w s pc t b r st (spawned true fs) u x y z h =
      let e : length (map future fs) ≡ n = length-map fs future ∙ u.0 in
      on s b (values n ++ r) (push (map future fs) st) z (subst (λ i. F s (values i ++ r) (push (map future fs) st)) e (push_top At m kind (map future fs) s r st (futures_made m fs u.1) h))
  mode_goes n w s pc t b r st (spawned false fs) u x y z h =
      let e : length (map future fs) ≡ n = length-map fs future ∙ u.0 in
      on s t (values n ++ r) (push (map future fs) st) y (subst (λ i. F s (values i ++ r) (push (map future fs) st)) e (push_top At m kind (map future fs) s r st (futures_made m fs u.1) h))
  mode_goes n w s pc t b r st a u x y z h = absurd u

  catch_goes : (n : ℕ) (w : Word) (waits : Bool) (s : Start) (pc l : ℕ) (r : Shape) (st : List Item) (a : Answer Entry) → Suits At m n (opens w waits) a → At s (pc + 1) (catching ∷ r) → At s l (value ∷ r) → F s r st → IsOn (catch_go is l a pc st)
  catch_goes n w waits s pc l r st (numbered c) u x y h = on s (pc + 1) (catching ∷ r) (mark (machine.catching c l) ∷ st) x ((u, y), h)
  catch_goes n w waits s pc l r st a u x y h = absurd u

  throws_goes : (n : ℕ) (tag w : Word) (at : ℕ) (s : Start) (pc : ℕ) (r : Shape) (st : List Item) (a : Answer Entry) → Suits At m n (throws tag w at) a → F s r st → IsOn (throw_go is a pc st)
  throws_goes n tag w at s pc r st (aimed a) u h = off s r pc (aim_cleanup a st) (aimed_fits At m kind a s r st u h)
  throws_goes n tag w at s pc r st a u h = absurd u

  throw_goes : (n : ℕ) (ws : List Word) (at : ℕ) (s : Start) (pc : ℕ) (r : Shape) (st : List Item) (a : Answer Entry) → length ws ≡ 2 → AreMade m ws → At s pc (values (length ws) ++ r) → Suits At m n (throw_want ws at) a → F s r st
      → IsOn (touch_go is (first_future ws) ws a pc st (throw_go is a pc st))
  throw_goes n [] at s pc r st a e w x u h = absurd (omega (arith, e))
  throw_goes n (y ∷ []) at s pc r st a e w x u h = absurd (omega (arith, e))
  throw_goes n (y ∷ (z ∷ [])) at s pc r st a e w x u h =
      touch_goes n s pc at r st (first_future (y ∷ (z ∷ []))) (y ∷ (z ∷ [])) (throws y z at) a (throw_go is a pc st) x w h u (λ v. throws_goes n y z at s pc r st a v h)
  throw_goes n (y ∷ (z ∷ (v ∷ ws))) at s pc r st a e w x u h = absurd (omega (arith, e))

  protect_goes : (n : ℕ) (s : Start) (pc l : ℕ) (r : Shape) (st : List Item) (a : Answer Entry) → Suits At m n protects a → At s (pc + 1) (protecting ∷ r) → At s l (cleaning ∷ (value ∷ r)) → F s r st → IsOn (protect_go is l a pc st)
  protect_goes n s pc l r st (numbered u) v x y h = on s (pc + 1) (protecting ∷ r) (mark (machine.protecting u l) ∷ st) x (y, h)
  protect_goes n s pc l r st a v x y h = absurd v

  begin_goes : (n u : ℕ) (s : Start) (pc q : ℕ) (r : Shape) (st : List Item) (x : Slot) (a : Answer Entry) → Suits At m n (begins u) a → At s q (cleaning ∷ (value ∷ r)) → IsSlot m value x → F s r st → IsOn (begin_go is q u x a pc st)
  begin_goes n u s pc q r st x (numbered floor) v t i h = on s q (cleaning ∷ (value ∷ r)) _ t (tt, (i, h))
  begin_goes n u s pc q r st x a v t i h = absurd v

  finish_goes : (n u : ℕ) (s : Start) (pc : ℕ) (r : Shape) (st : List Item) (a : Answer Entry) → Suits At m n (finishes u) a → At s (pc + 1) r → F s r st → IsOn (finish_go is a pc st)
  finish_goes n u s pc r st done v t h = on s (pc + 1) r st t h
  finish_goes n u s pc r st unwinds v t h = off s r pc st h
  finish_goes n u s pc r st a v t h = absurd v

  exit_goes : (s : Start) (pc : ℕ) (r : Shape) (st : List Item) → F s (value ∷ (catching ∷ r)) st → At s (pc + 1) (value ∷ r) → IsOn (exit_go is pc st)
  exit_goes s pc r [] h t = absurd h
  exit_goes s pc r (mark k ∷ st) h t = absurd h.0
  exit_goes s pc r (slot x ∷ []) h t = absurd h.1
  exit_goes s pc r (slot x ∷ (slot y ∷ st)) h t = absurd h.1.0
  exit_goes s pc r (slot x ∷ (mark k ∷ st)) h t = on s (pc + 1) (value ∷ r) (slot x ∷ st) t (h.0, h.1.1)

  leave_goes : (n : ℕ) (s : Start) (pc : ℕ) (r : Shape) (st : List Item) (a : Answer Entry) → F s (value ∷ (protecting ∷ r)) st → Suits At m n (leave_want st) a → At s (pc + 1) (cleaning ∷ (value ∷ r)) → IsOn (leave_go is a pc st)
  leave_goes n s pc r [] a h u t = absurd h
  leave_goes n s pc r (mark k ∷ st) a h u t = absurd h.0
  leave_goes n s pc r (slot x ∷ []) a h u t = absurd h.1
  leave_goes n s pc r (slot x ∷ (mark (machine.protecting v l) ∷ st)) a h u t = begin_goes n v s pc (pc + 1) r st x a u t h.0 h.1.1
  leave_goes n s pc r (slot x ∷ (i ∷ st)) a h u t = absurd h.1.0

  clean_goes : (n : ℕ) (s : Start) (pc : ℕ) (r : Shape) (st : List Item) (a : Answer Entry) → F s (value ∷ (cleaning ∷ r)) st → Suits At m n (clean_want st) a → At s (pc + 1) r → IsOn (clean_go is a pc st)
  clean_goes n s pc r [] a h u t = absurd h
  clean_goes n s pc r (mark k ∷ st) a h u t = absurd h.0
  clean_goes n s pc r (slot x ∷ []) a h u t = absurd h.1
  clean_goes n s pc r (slot x ∷ (mark (machine.cleaning v c) ∷ st)) a h u t = finish_goes n v s pc r st a u t h.1.1
  clean_goes n s pc r (slot x ∷ (i ∷ st)) a h u t = absurd h.1.0

  children_long : (i : ℕ) (starts : List ℕ) (t : ℕ) (ss : List Slot) → length (children_from is i starts t ss) ≡ length starts
  children_long i [] t ss = refl
  children_long i (l ∷ []) t ss = refl
  children_long i (l ∷ (k ∷ ls)) t ss = ap suc (children_long (i + 1) (k ∷ ls) t ss)

  op_goes : (s : Start) (pc at : ℕ) (sh : Shape) (st : List Item) (op : Op) (a : Answer Entry) → At s pc sh → Led At (op_rule code s pc sh op) sh → F s sh st → silent op pc st ≡ None
      → Suits At m (length (op_children is op st)) (op_want op at st) a → IsOn (op_go is op a pc st)
  op_goes s pc at sh st (lit w) a t d h q u =
      on s (pc + 1) (value ∷ d.rest) (slot (plain w) ∷ st) d.goes.0 (constant_made m (length code.quoted) w names.quoted d.asks, subst (λ z. F s z st) d.takes h)
  op_goes s pc at sh st (local i) a t d h q u =
      on s (pc + 1) (value ∷ d.rest) _ d.goes.0
      (held_made m is (part_at (slots_in sh) i) (slot_at (frame_of st) i) d.asks (slot_is m (slots_in sh) (frame_of st) i (frame_is At m kind s sh st h)), subst (λ z. F s z st) d.takes h)
  op_goes s pc at sh st (box_get i) a t d h q u =
      let place = place_of_slot (slot_at (frame_of st) i) in
      let p = box_place m kind (part_at (slots_in sh) i) (slot_at (frame_of st) i) d.asks (slot_is m (slots_in sh) (frame_of st) i (frame_is At m kind s sh st h)) in
      word_goes 0 (reads place at) s pc (pc + 1) d.rest st a (read_got 0 place at p.1) u d.goes.0 (subst (λ z. F s z st) d.takes h)
  op_goes s pc at sh st (global_get g) a t d h q u =
      let l = ltb-true g code.globals d.asks in let n = names.globals in
      let k : g < m.globals = omega (arith, l, n) in
      word_goes 0 (reads (global g) at) s pc (pc + 1) d.rest st a (read_got 0 (global g) at k) u d.goes.0 (subst (λ z. F s z st) d.takes h)
  op_goes s pc at sh st (box_set i) a t d h q u = on s (pc + 1) (value ∷ d.rest) st d.goes.0 (taken code so m kind names s sh st (op_rule code s pc sh (box_set i)) d h)
  op_goes s pc at sh st (global_set g) a t d h q u = on s (pc + 1) (value ∷ d.rest) st d.goes.0 (taken code so m kind names s sh st (op_rule code s pc sh (global_set g)) d h)
  op_goes s pc at sh st (branch l) a t d h q u =
      unary_goes 0 s pc at d.rest st (λ w. branches) a (branch_go is (words 1 st) l pc) (subst (At s pc) d.takes t) (taken code so m kind names s sh st (op_rule code s pc sh (branch l)) d h) u
      (λ w r e i f v. subst (λ z. IsOn (branch_go is (words 1 z) l pc r)) (sym e) (branch_goes (is_nil w) s pc l d.rest r d.goes.0 d.goes.1.0 f))
  op_goes s pc at sh st (jump l) a t d h q u = absurd cc
  op_goes s pc at sh st drop a t d h q u = absurd cc
  op_goes s pc at sh st (slide n) a t d h q u = absurd cc
  op_goes s pc at sh st (bind n mask) a t d h q u =
      let w = words_top At m kind n s d.rest st (taken code so m kind names s sh st (op_rule code s pc sh (bind n mask)) d h) in
      bind_goes 0 (unmasked n mask) (words n st) s pc (pc + 1) d.rest (without_first n st) a u d.goes.0 w.below
  op_goes s pc at sh st (call l n mask) a t d h q u =
      let w = words_top At m kind n s d.rest st (taken code so m kind names s sh st (op_rule code s pc sh (call l n mask)) d h) in
      let f : F (body l) [] (mark (returning (pc + 1)) ∷ without_first n st) = (tt, (s, d.rest, d.goes.0, w.below)) in
      bind_goes 0 (unmasked n mask) (words n st) (body l) pc l [] (mark (returning (pc + 1)) ∷ without_first n st) a u (entry_there code.entries l n mask d.asks so.enters) f
  op_goes s pc at sh st return a t d h q u =
      return_goes 0 s pc at d.rest st (top_mark st) a (subst (At s pc) d.takes t) (taken code so m kind names s sh st (op_rule code s pc sh return) d h) (end_of At m kind s sh st (and_right (is_body s) (are_slots sh) d.asks) h) u
  op_goes s pc at sh st (close n mask ks l) a t d h q u = word_goes 0 closes s pc l d.rest st a (closes_got 0) u d.goes.0 (subst (λ z. F s z st) d.takes h)
  op_goes s pc at sh st (funcall n) a t d h q u =
      let w = words_top At m kind (suc n) s d.rest st (taken code so m kind names s sh st (op_rule code s pc sh (funcall n)) d h) in
      let e : At s pc (values (length (words (suc n) st)) ++ d.rest) = subst (λ z. At s pc (values z ++ d.rest)) (sym w.long) (subst (At s pc) d.takes t) in
      call_goes 0 (in_cleanup (cleanups_on st)) true n (words (suc n) st) at s pc (pc + 2) d.rest (without_first (suc n) st) a w.long w.made e u d.goes.0 d.goes.1.0 w.below
  op_goes s pc at sh st (funcall_drop n) a t d h q u =
      let w = words_top At m kind (suc n) s d.rest st (taken code so m kind names s sh st (op_rule code s pc sh (funcall_drop n)) d h) in
      let e : At s pc (values (length (words (suc n) st)) ++ d.rest) = subst (λ z. At s pc (values z ++ d.rest)) (sym w.long) (subst (At s pc) d.takes t) in
      call_goes 0 (in_cleanup (cleanups_on st)) false n (words (suc n) st) at s pc (pc + 1) d.rest (without_first (suc n) st) a w.long w.made e u d.goes.0 d.goes.0 w.below
  op_goes s pc at sh st (touch n) a t d h q u =
      let w = words_top At m kind n s d.rest st (taken code so m kind names s sh st (op_rule code s pc sh (touch n)) d h) in
      let e : At s pc (values (length (words n st)) ++ d.rest) = subst (λ z. At s pc (values z ++ d.rest)) (sym w.long) (subst (At s pc) d.takes t) in
      touch_goes 0 s pc at d.rest (without_first n st) (first_future (words n st)) (words n st) rests a (machine.ended pc) e w.made w.below u (λ z. absurd z)
  op_goes s pc at sh st (qlet starts x y) a t d h q u =
      let n = length (op_children is (qlet starts x y) st) in
      let e : length starts ≡ n = sym (children_long 0 starts x (frame_of (without_first 1 st))) in
      unary_goes n s pc at d.rest st chooses a (mode_go is x y a pc) (subst (At s pc) d.takes t) (taken code so m kind names s sh st (op_rule code s pc sh (qlet starts x y)) d h) u
      (λ w r i j f v. mode_goes n w s pc x y d.rest r a v d.goes.0 (subst (λ z. At s x (values z ++ d.rest)) e d.goes.1.0) (subst (λ z. At s y (values z ++ d.rest)) e d.goes.1.1.0) f)
  op_goes s pc at sh st join a t d h q u =
      let o = own_top At m kind pc s sh st (halted code so m kind names (joins_at pc (top_mark st)) (pc + 1, st) q) h in
      let e = join_led code so m kind s pc sh true o.0 d in
      unary_goes 0 s pc at e.rest st (λ w. ends (with_word w)) a (λ r. machine.ended pc) (subst (At s pc) e.takes t) (subst (λ z. F s z st) e.takes h) u (λ w r i j f v. absurd v)
  op_goes s pc at sh st (qlambda n mask ks l) a t d h q u =
      unary_goes 0 s pc at d.rest st makes a (word_go is l a pc) (subst (At s pc) d.takes t) (taken code so m kind names s sh st (op_rule code s pc sh (qlambda n mask ks l)) d h) u
      (λ w r e i f v. word_goes 0 (makes w) s pc l d.rest r a (makes_got 0 w) v d.goes.0 f)
  op_goes s pc at sh st (catch l) a t d h q u =
      unary_goes 0 s pc at d.rest st (λ w. opens w false) a (catch_go is l a pc) (subst (At s pc) d.takes t) (taken code so m kind names s sh st (op_rule code s pc sh (catch l)) d h) u
      (λ w r e i f v. catch_goes 0 w false s pc l d.rest r a v d.goes.0 d.goes.1.0 f)
  op_goes s pc at sh st (qcatch l) a t d h q u =
      unary_goes 0 s pc at d.rest st (λ w. opens w true) a (catch_go is l a pc) (subst (At s pc) d.takes t) (taken code so m kind names s sh st (op_rule code s pc sh (qcatch l)) d h) u
      (λ w r e i f v. catch_goes 0 w true s pc l d.rest r a v d.goes.0 d.goes.1.0 f)
  op_goes s pc at sh st exit a t d h q u = exit_goes s pc d.rest st (taken code so m kind names s sh st (op_rule code s pc sh exit) d h) d.goes.0
  op_goes s pc at sh st throw a t d h q u =
      let w = words_top At m kind 2 s d.rest st (taken code so m kind names s sh st (op_rule code s pc sh throw) d h) in
      let e : At s pc (values (length (words 2 st)) ++ d.rest) = subst (λ z. At s pc (values z ++ d.rest)) (sym w.long) (subst (At s pc) d.takes t) in
      throw_goes 0 (words 2 st) at s pc d.rest (without_first 2 st) a w.long w.made e u w.below
  op_goes s pc at sh st (protect l) a t d h q u = protect_goes 0 s pc l d.rest st a u d.goes.0 d.goes.1.0 (subst (λ z. F s z st) d.takes h)
  op_goes s pc at sh st leave a t d h q u = leave_goes 0 s pc d.rest st a (taken code so m kind names s sh st (op_rule code s pc sh leave) d h) u d.goes.0
  op_goes s pc at sh st end_clean a t d h q u = clean_goes 0 s pc (value ∷ d.rest) st a (taken code so m kind names s sh st (op_rule code s pc sh end_clean) d h) u d.goes.0
  op_goes s pc at sh st (prim n) a t d h q u =
      let k = operand_count (operator_of n) in
      let w = words_top At m kind k s d.rest st (taken code so m kind names s sh st (op_rule code s pc sh (prim n)) d h) in
      let e : At s pc (values (length (words k st)) ++ d.rest) = subst (λ z. At s pc (values z ++ d.rest)) (sym w.long) (subst (At s pc) d.takes t) in
      primitive_goes 0 (operator_of n) (words k st) at s pc d.rest (without_first k st) a w.made e u d.goes.0 w.below
  op_goes s pc at sh st cons a t d h q u =
      let w = words_top At m kind 2 s d.rest st (taken code so m kind names s sh st (op_rule code s pc sh cons) d h) in
      let e : At s pc (values (length (words 2 st)) ++ d.rest) = subst (λ z. At s pc (values z ++ d.rest)) (sym w.long) (subst (At s pc) d.takes t) in
      primitive_goes 0 (Some cons_operator) (words 2 st) at s pc d.rest (without_first 2 st) a w.made e u d.goes.0 w.below
  op_goes s pc at sh st print a t d h q u =
      let k = taken code so m kind names s sh st (op_rule code s pc sh print) d h in
      unary_goes 0 s pc at d.rest st prints a (λ r. settled is (pc + 1) st) (subst (At s pc) d.takes t) k u (λ w r e i f v. on s (pc + 1) (value ∷ d.rest) st d.goes.0 k)
  op_goes s pc at sh st end a t d h q u = absurd u

  running_goes : (pc : ℕ) (st : List Item) (a : Answer Entry) (r : IsRunning At m is kind pc st) → Suits At m (length (op_children is r.next.op st)) (op_want r.next.op r.next.at st) a → IsOn (running_go is (Some r.next) a pc st)
  running_goes pc st a r u =
      let d = led_is At (op_rule code r.start pc r.shape r.next.op) r.shape (subst (λ o. Leads At (after code r.start pc r.shape o)) r.stands (so.kept r.start pc r.shape r.here)) in
      op_goes r.start pc r.next.at r.shape st r.next.op a r.here d r.fits r.halts u

  land_goes : (n c : ℕ) (s : Start) (pc l : ℕ) (sh : Shape) (st : List Item) (a : Answer Entry) → Suits At m n (leaves c) a → At s l (value ∷ sh) → F s sh st → IsOn (land_go is l a pc st)
  land_goes n c s pc l sh st (got w) u t h = on s l (value ∷ sh) (slot (plain w) ∷ aim_cleanup free st) t (u, aimed_fits At m kind free s sh st tt h)
  land_goes n c s pc l sh st unwinds u t h = off s sh pc st h
  land_goes n c s pc l sh st a u t h = absurd u

  unwinding_goes : (n : ℕ) (s : Start) (sh : Shape) (pc : ℕ) (st : List Item) (a : Answer Entry) → F s sh st → Suits At m n (unwinding_want st) a → IsOn (unwinding_go is a pc st)
  unwinding_goes n s sh pc [] a h u = absurd u
  unwinding_goes n s sh pc (slot x ∷ st) a h u = absurd u
  unwinding_goes n s sh pc (mark (returning q) ∷ st) a h u = absurd u
  unwinding_goes n s sh pc (mark (base j) ∷ st) a h u = absurd u
  unwinding_goes n s sh pc (mark (machine.cleaning c d) ∷ st) a h u = absurd u
  unwinding_goes n s (catching ∷ sh) pc (mark (machine.catching c l) ∷ st) a h u = land_goes n c s pc l sh st a u h.0.1 h.1
  unwinding_goes n s [] pc (mark (machine.catching c l) ∷ st) a h u = absurd h
  unwinding_goes n s (p ∷ sh) pc (mark (machine.catching c l) ∷ st) a h u = absurd h.0
  unwinding_goes n s (protecting ∷ sh) pc (mark (machine.protecting c l) ∷ st) a h u = begin_goes n c s pc l sh st (plain word.nil) a u h.0 tt h.1
  unwinding_goes n s [] pc (mark (machine.protecting c l) ∷ st) a h u = absurd h
  unwinding_goes n s (p ∷ sh) pc (mark (machine.protecting c l) ∷ st) a h u = absurd h.0

  abbrev count_in : machine.State → ℕ → List Item → ℕ
  count_in state pc st = length ((code_machine is).children (point pc st state))

  goes_in : (state : machine.State) (pc : ℕ) (st : List Item) (a : Answer Entry) → IsStandingIn At m is kind state pc st → Suits At m (count_in state pc st) (want_in is state pc st) a → IsOn (go_in is state a pc st)
  goes_in running pc st a h u =
      let v = subst (λ o. Suits At m (length (children_by is o st)) (running_want o st) a) h.stands u in
      subst (λ o. IsOn (running_go is o a pc st)) (sym h.stands) (running_goes pc st a h v)
  goes_in unwinding pc st a h u = unwinding_goes 0 h.1.0 h.1.1 pc st a h.1.2 u
  goes_in resting pc st a h u = absurd u
  goes_in machine.over pc st a h u = absurd h

  -- With an answer that suits a process goes on to stand.
  pub goes_on : (p : Point) (a : Answer Entry) → IsStanding At m is kind p → Suits At m (length ((code_machine is).children p)) ((code_machine is).want p) a → IsStanding At m is kind ((code_machine is).go p a)
  goes_on p a h u = goes_in p.state p.place p.stack a h u

  rest_bottom : (k : Kind) → IsServing k → IsBottom k (body 0) None
  rest_bottom world_main h = absurd h
  rest_bottom (world_child f) h = absurd h
  rest_bottom (serving k) h = tt

  unwound_in : (state : machine.State) (pc : ℕ) (st : List Item) → IsStandingIn At m is kind state pc st → IsOn (unwind_point pc st)
  unwound_in running pc st h = off h.start h.shape pc st h.fits
  unwound_in unwinding pc st h = off h.1.0 h.1.1 pc st h.1.2
  unwound_in resting pc st h = off (body 0) [] pc st (subst (F (body 0) []) (sym h.1) (rest_bottom kind h.0))
  unwound_in machine.over pc st h = absurd h

  -- a process that unwinds from now on
  pub unwound_stands : (p : Point) → IsStanding At m is kind p → IsStanding At m is kind ((code_machine is).unwound p)
  unwound_stands p h = unwound_in p.state p.place p.stack h

  abbrev pub IsEntryOf : Option Entry → Type 0
  IsEntryOf None = Unit {0}
  IsEntryOf (Some k) = IsEntry At m k

  closed_is : (s : Start) (pc : ℕ) (sh : Shape) (st : List Item) (n mask : ℕ) (ks : List ℕ) → have_all (slots_in sh) ks ≡ true → F s sh st → At (body (pc + 1)) (pc + 1) (over (variables n mask ++ parts_at (slots_in sh) ks) [])
      → IsEntry At m (record { place = pc + 1; count = n; mask = mask; captured = slots_at (frame_of st) ks })
  closed_is s pc sh st n mask ks e h t = (parts_at (slots_in sh) ks, captured_are m (slots_in sh) (frame_of st) ks (frame_is At m kind s sh st h) e, t)

  op_closes : (s : Start) (pc : ℕ) (sh : Shape) (st : List Item) (op : Op) → Led At (op_rule code s pc sh op) sh → F s sh st → IsEntryOf (op_entry op pc st)
  op_closes s pc sh st (close n mask ks l) d h = closed_is s pc sh st n mask ks (and_right (is_mask n mask) (have_all (slots_in sh) ks) d.asks) h d.goes.1.0
  op_closes s pc sh st (qlambda n mask ks l) d h = closed_is s pc sh st n mask ks (and_right (is_mask n mask) (have_all (slots_in sh) ks) d.asks) h d.goes.1.0
  op_closes s pc sh st op d h = tt

  -- the closure that a process makes
  closes_in : (state : machine.State) (pc : ℕ) (st : List Item) → IsStandingIn At m is kind state pc st → IsEntryOf (entry_by is (next_of is state pc) pc st)
  closes_in running pc st h =
      let d = led_is At (op_rule code h.start pc h.shape h.next.op) h.shape (subst (λ o. Leads At (after code h.start pc h.shape o)) h.stands (so.kept h.start pc h.shape h.here)) in
      subst (λ o. IsEntryOf (entry_by is o pc st)) (sym h.stands) (op_closes h.start pc h.shape st h.next.op d h.fits)
  closes_in unwinding pc st h = tt
  closes_in resting pc st h = tt
  closes_in machine.over pc st h = tt

  pub closes_entry : (p : Point) → IsStanding At m is kind p → IsEntryOf ((code_machine is).closure p)
  closes_entry p h = closes_in p.state p.place p.stack h

-- the processes that are spawned
module _ (code : Code) (so : Sound code) (m : Made) where
  abbrev pub AreChildren : List Point → Type 0
  AreChildren [] = Unit {0}
  AreChildren (p ∷ ps) = ((f : ℕ) → IsStanding (Has so.table) m code.instructions (world_child f) p) × AreChildren ps

  child_stands : (i j l : ℕ) (parts : List Part) (ss : List Slot) → AreSlots m parts ss → Has so.table (child l j) l (values i ++ parts) → (f : ℕ)
      → IsStanding (Has so.table) m code.instructions (world_child f) (settled code.instructions l (child_stack i j ss))
  child_stands i j l parts ss h t f =
      let b : Fits (Has so.table) m (world_child f) (child l j) [] (mark (base (Some j)) ∷ []) = refl in
      let e : parts ++ [] ≡ parts = append-nil parts in
      let a : child_stack i j ss ≡ replicate i (slot (plain word.nil)) ++ (map slot ss ++ mark (base (Some j)) ∷ []) = append_assoc (replicate i (slot (plain word.nil))) (map slot ss) (mark (base (Some j)) ∷ []) in
      settled_fits code so m (world_child f) (child l j) l (values i ++ parts) (child_stack i j ss) t
      (subst (Fits (Has so.table) m (world_child f) (child l j) (values i ++ parts)) (sym a) (nils_put (Has so.table) m (world_child f) i (child l j) parts (map slot ss ++ mark (base (Some j)) ∷ [])
      (subst (λ z. Fits (Has so.table) m (world_child f) (child l j) z (map slot ss ++ mark (base (Some j)) ∷ [])) e (slots_put (Has so.table) m (world_child f) parts ss (child l j) [] (mark (base (Some j)) ∷ []) h b))))

  children_stand : (i : ℕ) (starts : List ℕ) (t : ℕ) (r : Shape) (ss : List Slot) → AreSlots m (slots_in r) ss → All (Has so.table) (children i starts t r) → AreChildren (children_from code.instructions i starts t ss)
  children_stand i [] t r ss h a = tt
  children_stand i (l ∷ []) t r ss h a = (child_stands i (t - 2) l (slots_in r) ss h a.0, tt)
  children_stand i (l ∷ (k ∷ ls)) t r ss h a = (child_stands i (k - 1) l (slots_in r) ss h a.0, children_stand (i + 1) (k ∷ ls) t r ss h a.1)

  module _ (kind : Kind) where
    op_spawns : (s : Start) (pc : ℕ) (sh : Shape) (st : List Item) (op : Op) → Led (Has so.table) (op_rule code s pc sh op) sh → Fits (Has so.table) m kind s sh st → AreChildren (op_children code.instructions op st)
    op_spawns s pc sh st (qlet starts x y) d h =
        let k = subst (λ z. Fits (Has so.table) m kind s z st) d.takes h in
        let w = words_top (Has so.table) m kind 1 s d.rest st k in
        children_stand 0 starts x d.rest (frame_of (without_first 1 st)) (frame_is (Has so.table) m kind s d.rest (without_first 1 st) w.below) d.goes.1.1.1
    op_spawns s pc sh st op d h = tt

    spawns_in : (state : machine.State) (pc : ℕ) (st : List Item) → IsStandingIn (Has so.table) m code.instructions kind state pc st → AreChildren (children_by code.instructions (next_of code.instructions state pc) st)
    spawns_in running pc st h =
        let d = led_is (Has so.table) (op_rule code h.start pc h.shape h.next.op) h.shape (subst (λ o. Leads (Has so.table) (after code h.start pc h.shape o)) h.stands (so.kept h.start pc h.shape h.here)) in
        subst (λ o. AreChildren (children_by code.instructions o st)) (sym h.stands) (op_spawns h.start pc h.shape st h.next.op d h.fits)
    spawns_in unwinding pc st h = tt
    spawns_in resting pc st h = tt
    spawns_in machine.over pc st h = tt

    pub spawns_children : (p : Point) → IsStanding (Has so.table) m code.instructions kind p → AreChildren ((code_machine code.instructions).children p)
    spawns_children p h = spawns_in p.state p.place p.stack h

  -- a process closure's process, at rest and where its body begins
  pub rest_stands : (n : ℕ) (k : Entry) → IsStanding (Has so.table) m code.instructions (serving n) ((code_machine code.instructions).at_rest k)
  rest_stands n k = (tt, refl)

  pub started_stands : (n : ℕ) (k : Entry) (ss : List Slot) → IsEntry (Has so.table) m k → AreSlots m (variables k.count k.mask) ss → IsStanding (Has so.table) m code.instructions (serving n) ((code_machine code.instructions).started k ss)
  started_stands n k ss h a =
      let b : Fits (Has so.table) m (serving n) (body k.place) [] (mark (base None) ∷ []) = tt in
      settled_fits code so m (serving n) (body k.place) k.place (over (variables k.count k.mask ++ h.0) []) (push_slots (ss ++ k.captured) (mark (base None) ∷ [])) h.2
      (push_slots_top (Has so.table) m (serving n) (variables k.count k.mask ++ h.0) (ss ++ k.captured) (body k.place) [] (mark (base None) ∷ []) (slots_append m (variables k.count k.mask) h.0 ss k.captured a h.1) b)

  -- before the first tick
  pub begins_standing : IsStanding (Has so.table) m code.instructions world_main (settled code.instructions 0 (mark (base None) ∷ []))
  begins_standing = settled_fits code so m world_main main 0 [] (mark (base None) ∷ []) so.begins tt
