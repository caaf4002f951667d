-- On sound code a process asks for what there is.
use Rattle.std.proofs.Common.{◌≡◌, ℕ, zero, suc, ◌+◌, ◌<◌, ◌==◌, Bool, true, false, List, [], ◌∷◌, ◌++◌, length, Option, Some, None, refl, sym, ap, ◌∙◌, subst, arith}
use Rattle.std.specs.Prelude.{◌&&◌, not, if◌then◌else◌, slice_get, is_none, is_some}
use Rattle.std.proofs.lemmas.Bool.{ltb-true}
use Rattle.ql_world.specs.declared.word.Slot.TheVariants.{Cell as word_boxed}
use Rattle.ql_world.specs.Word.{first_future}
use Rattle.ql_world.specs.declared.word.Word.{Word}
use Rattle.ql_world.specs.declared.word.Word.TheVariants.{Int as integer, Sym as symbol, Pair as pair, Fun as closure, Proc as process_closure, Fut as future}
use Rattle.ql_world.specs.declared.word.Slot.{Slot}
use Rattle.ql_world.specs.declared.word.Slot.TheVariants.{Val as plain}
use Rattle.ql_world.specs.Operator.{operator_of, touches}
use Rattle.ql_world.specs.declared.operator.Operator.{Operator}
use Rattle.ql_world.specs.declared.operator.Operator.TheVariants.{Cons as cons_operator}
use Rattle.ql_world.specs.declared.world.Kind.TheVariants.{Main as world_main, Child as world_child}
use Rattle.ql_world.specs.declared.world.Kind.{Kind}
use Rattle.ql_world.specs.declared.world.Kind.TheVariants.{Closure as serving}
use Rattle.ql_world.specs.Machine.{Place, global, Want, computes, throws, replies, rests, branches, chooses, ends, with_word, makes, opens, prints}
use Rattle.ql_world.specs.Touch.{await_or, await_word, is_process_closure, touched_in_call, touched_by, function_want}
use Rattle.ql_world.specs.Idle.{in_cleanup}
use Rattle.ql_code.specs.Code.{Op, lit, local, box_get, global_get, box_set, global_set, branch, jump, drop, slide, bind, call, return, close, funcall, funcall_drop, touch, qlet, join, qlambda, catch, qcatch, exit, throw, protect, leave, end_clean, prim, cons, print, end, unmasked, Code}
use Rattle.ql_code.specs.Machine as machine
use Rattle.ql_code.specs.Machine.{Mark, returning, base, Item, slot, mark, running, unwinding, resting, Point, Entry, words, frame_of, slot_at, top_mark, below_mark, joins_at, silent, place_of_slot, one_want, store_want, throw_want, return_want, exit_want, leave_want, clean_want, operand_count, prim_want, call_want, op_want, unwinding_want, running_want, cleanups_on, want_in, code_machine}
use Rattle.ql_code.specs.Sound.{Part, value, boxed, catching, protecting, cleaning, Shape, Start, main, body, child, slots_in, part_at, is_box, are_slots, is_main, is_body, Rule, op_rule, after, Leads, Has, Sound}
use Rattle.ql_code.specs.Standing.{Made, IsNumber, IsMade, AreMade, IsBottom, IsMain, IsServing, IsUnwound, IsOff, Fits, IsRunning, IsStandingIn, IsStanding, IsPlace, IsStore, IsAsked, Holds}
use Rattle.ql_code.proofs.Frames.{Led, led_is, IsSome, slot_is, words_top, frame_is, Ends, end_of, own_top}
use Rattle.ql_code.proofs.Settles.{and_left, and_right, join_led}

module _ (m : Made) (kind : Kind) where
  await_asked : (w : Word) (at : ℕ) (want : Want) → IsMade m w → IsAsked m kind want → IsAsked m kind (await_word w at want)
  await_asked (integer z) at want h k = k
  await_asked (symbol n) at want h k = k
  await_asked (pair n) at want h k = k
  await_asked (closure n) at want h k = k
  await_asked (process_closure n) at want h k = k
  await_asked (future f) at want h k = h

  abbrev pub IsFuture : Option ℕ → Type 0
  IsFuture None = Unit {0}
  IsFuture (Some f) = IsNumber f m.futures

  pub future_is : (ws : List Word) → AreMade m ws → IsFuture (first_future ws)
  future_is [] h = tt
  future_is (integer z ∷ ws) h = future_is ws h.1
  future_is (symbol n ∷ ws) h = future_is ws h.1
  future_is (pair n ∷ ws) h = future_is ws h.1
  future_is (closure n ∷ ws) h = future_is ws h.1
  future_is (process_closure n ∷ ws) h = future_is ws h.1
  future_is (future f ∷ ws) h = h.0

  or_asked : (o : Option ℕ) (at : ℕ) (want : Want) → IsFuture o → IsAsked m kind want → IsAsked m kind (await_or o at want)
  or_asked None at want h k = k
  or_asked (Some f) at want h k = h

  made_if : (b : Bool) (a c : List Word) → AreMade m a → AreMade m c → AreMade m (if b then a else c)
  made_if true a c h k = h
  made_if false a c h k = k

  pub called_made : (cleans : Bool) (ws : List Word) → AreMade m ws → AreMade m (touched_in_call cleans ws)
  called_made cleans [] h = tt
  called_made cleans (w ∷ ws) h = made_if (not cleans && is_process_closure w) (w ∷ ws) (w ∷ []) h (h.0, tt)

  pub touched_made : (o : Option Operator) (ws : List Word) → AreMade m ws → AreMade m (touched_by o ws)
  touched_made None ws h = tt
  touched_made (Some o) ws h = made_if (touches o) ws [] h tt

  function_asked : (cleans used : Bool) (w : Word) (ws : List Word) (at : ℕ) → IsMade m w → AreMade m ws → IsAsked m kind (function_want cleans used w ws at)
  function_asked cleans used (integer z) ws at h k = (h, k)
  function_asked cleans used (symbol n) ws at h k = (h, k)
  function_asked cleans used (pair n) ws at h k = (h, k)
  function_asked cleans used (closure n) ws at h k = (h, k)
  function_asked true used (process_closure n) ws at h k = (h, k)
  function_asked false used (process_closure n) ws at h k = (h, k)
  function_asked cleans used (future f) ws at h k = (h, k)

  call_asked : (cleans used : Bool) (n : ℕ) (ws : List Word) (at : ℕ) → length ws ≡ suc n → AreMade m ws → IsAsked m kind (call_want cleans used ws at)
  call_asked cleans used n [] at e h = absurd (omega (arith, e))
  call_asked cleans used n (w ∷ ws) at e h =
      or_asked (first_future (touched_in_call cleans (w ∷ ws))) at (function_want cleans used w ws at) (future_is (touched_in_call cleans (w ∷ ws)) (called_made cleans (w ∷ ws) h)) (function_asked cleans used w ws at h.0 h.1)

  prim_asked : (o : Operator) (ws : List Word) (at : ℕ) → length ws ≡ operand_count (Some o) → AreMade m ws → IsAsked m kind (prim_want (Some o) ws at)
  prim_asked o ws at e h = or_asked (first_future (touched_by (Some o) ws)) at (computes o ws at) (future_is (touched_by (Some o) ws) (touched_made (Some o) ws h)) (e, h)

  primitive_asked : (o : Option Operator) (ws : List Word) (at : ℕ) → is_some o ≡ true → length ws ≡ operand_count o → AreMade m ws → IsAsked m kind (prim_want o ws at)
  primitive_asked None ws at s e h = absurd cc
  primitive_asked (Some o) ws at s e h = prim_asked o ws at e h

  pub box_place : (o : Option Part) (q : Option Slot) → is_box o ≡ true → IsSome m o q → IsPlace m kind (place_of_slot q) × IsStore m kind (place_of_slot q)
  box_place None q e h = absurd cc
  box_place (Some value) q e h = absurd cc
  box_place (Some catching) q e h = absurd cc
  box_place (Some protecting) q e h = absurd cc
  box_place (Some cleaning) q e h = absurd cc
  box_place (Some boxed) None e h = absurd h
  box_place (Some boxed) (Some (plain w)) e h = absurd h
  box_place (Some boxed) (Some (word_boxed n)) e h = (h, h)

  throw_asked : (ws : List Word) (at : ℕ) → length ws ≡ 2 → AreMade m ws → IsAsked m kind (throw_want ws at)
  throw_asked [] at e h = absurd (omega (arith, e))
  throw_asked (a ∷ []) at e h = absurd (omega (arith, e))
  throw_asked (a ∷ (b ∷ [])) at e h = or_asked (first_future (a ∷ (b ∷ []))) at (throws a b at) (future_is (a ∷ (b ∷ [])) h) (h.0, h.1.0)
  throw_asked (a ∷ (b ∷ (c ∷ ws))) at e h = absurd (omega (arith, e))

unmasked_long : (n mask : ℕ) → length (unmasked n mask) ≡ n
unmasked_long zero mask = refl
unmasked_long (suc n) mask = ap suc (unmasked_long n _)

module _ (code : Code) (so : Sound code) (m : Made) (kind : Kind) (names : Holds code m) where
  abbrev At : Start → ℕ → Shape → Type 0
  At = Has so.table

  abbrev F : Start → Shape → List Item → Type 0
  F = Fits At m kind

  one_asked : (s : Start) (r : Shape) (st : List Item) (at : ℕ) (want : Word → Want) → F s (value ∷ r) st → ((w : Word) → IsMade m w → IsAsked m kind (want w)) → IsAsked m kind (one_want (words 1 st) at want)
  one_asked s r [] at want h k = absurd h
  one_asked s r (slot (plain w) ∷ st) at want h k = await_asked m kind w at (want w) h.0 (k w h.0)
  one_asked s r (slot (word_boxed n) ∷ st) at want h k = absurd h.0
  one_asked s r (mark l ∷ st) at want h k = absurd h.0

  store_asked : (s : Start) (r : Shape) (st : List Item) (place : Place) → F s (value ∷ r) st → IsStore m kind place → IsAsked m kind (store_want place (words 1 st))
  store_asked s r [] place h k = absurd h
  store_asked s r (slot (plain w) ∷ st) place h k = (k, h.0)
  store_asked s r (slot (word_boxed n) ∷ st) place h k = absurd h.0
  store_asked s r (mark l ∷ st) place h k = absurd h.0

  -- what stands on top, where a rule takes it
  pub taken : (s : Start) (sh : Shape) (st : List Item) (r : Rule) (d : Led At r sh) → F s sh st → F s (r.takes ++ d.rest) st
  taken s sh st r d h = subst (λ z. F s z st) d.takes h

  serving_bottom : (s : Start) (j : Option ℕ) (k : Kind) → is_body s ≡ true → IsBottom k s j → IsServing k
  serving_bottom main j k e h = absurd cc
  serving_bottom (child q own) j k e h = absurd cc
  serving_bottom (body q) None world_main e h = absurd h
  serving_bottom (body q) (Some j) world_main e h = absurd h
  serving_bottom (body q) None (world_child f) e h = absurd h
  serving_bottom (body q) (Some j) (world_child f) e h = absurd h
  serving_bottom (body q) None (serving k) e h = tt
  serving_bottom (body q) (Some j) (serving k) e h = absurd h

  main_bottom : (s : Start) (o : Option Mark) (st : List Item) → is_main s ≡ true → Ends At m kind s o st → IsMain kind
  main_bottom (body q) o st e h = absurd cc
  main_bottom (child q own) o st e h = absurd cc
  main_bottom main None st e h = absurd h
  main_bottom main (Some (returning pc)) st e h = absurd h.0
  main_bottom main (Some (machine.catching c l)) st e h = absurd h
  main_bottom main (Some (machine.protecting u l)) st e h = absurd h
  main_bottom main (Some (machine.cleaning u c)) st e h = absurd h
  main_bottom main (Some (base j)) st e h = at_bottom kind j h
    where
      at_bottom : (k : Kind) (j : Option ℕ) → IsBottom k main j → IsMain k
      at_bottom world_main j h = tt
      at_bottom (world_child f) None h = absurd h
      at_bottom (world_child f) (Some j) h = absurd h
      at_bottom (serving k) None h = absurd h
      at_bottom (serving k) (Some j) h = absurd h

  return_asked : (s : Start) (r : Shape) (st : List Item) (o : Option Mark) (u : List Item) (at : ℕ) → is_body s ≡ true → F s (value ∷ r) st → Ends At m kind s o u → IsAsked m kind (return_want o (words 1 st) at)
  return_asked s r st None u at e h k = absurd k
  return_asked s r st (Some (returning pc)) u at e h k = tt
  return_asked s r st (Some (base j)) u at e h k = one_asked s r st at replies h (λ w i. (serving_bottom s j kind e k, i))
  return_asked s r st (Some (machine.catching c l)) u at e h k = absurd k
  return_asked s r st (Some (machine.protecting c l)) u at e h k = absurd k
  return_asked s r st (Some (machine.cleaning c l)) u at e h k = absurd k

  exit_asked : (s : Start) (r : Shape) (st : List Item) → F s (value ∷ (catching ∷ r)) st → IsAsked m kind (exit_want st)
  exit_asked s r [] h = absurd h
  exit_asked s r (mark k ∷ st) h = absurd h.0
  exit_asked s r (slot x ∷ []) h = absurd h.1
  exit_asked s r (slot x ∷ (mark (machine.catching c l) ∷ st)) h = h.1.0.0
  exit_asked s r (slot x ∷ (i ∷ st)) h = absurd h.1.0

  leave_asked : (s : Start) (r : Shape) (st : List Item) → F s (value ∷ (protecting ∷ r)) st → IsAsked m kind (leave_want st)
  leave_asked s r [] h = absurd h
  leave_asked s r (mark k ∷ st) h = absurd h.0
  leave_asked s r (slot x ∷ []) h = absurd h.1
  leave_asked s r (slot x ∷ (mark (machine.protecting u l) ∷ st)) h = tt
  leave_asked s r (slot x ∷ (i ∷ st)) h = absurd h.1.0

  clean_asked : (s : Start) (r : Shape) (st : List Item) → F s (value ∷ (cleaning ∷ r)) st → IsAsked m kind (clean_want st)
  clean_asked s r [] h = absurd h
  clean_asked s r (mark k ∷ st) h = absurd h.0
  clean_asked s r (slot x ∷ []) h = absurd h.1
  clean_asked s r (slot x ∷ (mark (machine.cleaning u c) ∷ st)) h = tt
  clean_asked s r (slot x ∷ (i ∷ st)) h = absurd h.1.0

  pub halted : (b : Bool) (x : ℕ × List Item) → (if b then None else Some x) ≡ None → b ≡ true
  halted true x e = refl
  halted false x e = absurd cc

  touch_asked : (o : Option ℕ) (at : ℕ) (x : ℕ × List Item) → IsFuture m kind o → (if is_none o then Some x else None) ≡ None → IsAsked m kind (await_or o at rests)
  touch_asked None at x h e = absurd cc
  touch_asked (Some f) at x h e = h

  op_asked : (s : Start) (pc at : ℕ) (sh : Shape) (st : List Item) (op : Op) → Led At (op_rule code s pc sh op) sh → F s sh st → silent op pc st ≡ None → IsAsked m kind (op_want op at st)
  op_asked s pc at sh st (lit w) d h q = tt
  op_asked s pc at sh st (local i) d h q = tt
  op_asked s pc at sh st (box_get i) d h q = (box_place m kind (part_at (slots_in sh) i) (slot_at (frame_of st) i) d.asks (slot_is m (slots_in sh) (frame_of st) i (frame_is At m kind s sh st h))).0
  op_asked s pc at sh st (global_get g) d h q = let l = ltb-true g code.globals d.asks in let n = names.globals in omega (arith, l, n)
  op_asked s pc at sh st (box_set i) d h q =
      store_asked s d.rest st _ (taken s sh st (op_rule code s pc sh (box_set i)) d h)
      (box_place m kind (part_at (slots_in sh) i) (slot_at (frame_of st) i) d.asks (slot_is m (slots_in sh) (frame_of st) i (frame_is At m kind s sh st h))).1
  op_asked s pc at sh st (global_set g) d h q =
      let l = ltb-true g code.globals d.asks in let n = names.globals in
      let k : g < m.globals = omega (arith, l, n) in
      store_asked s d.rest st (global g) (taken s sh st (op_rule code s pc sh (global_set g)) d h) k
  op_asked s pc at sh st (branch l) d h q = one_asked s d.rest st at (λ w. branches) (taken s sh st (op_rule code s pc sh (branch l)) d h) (λ w i. tt)
  op_asked s pc at sh st (jump l) d h q = absurd cc
  op_asked s pc at sh st drop d h q = absurd cc
  op_asked s pc at sh st (slide n) d h q = absurd cc
  op_asked s pc at sh st (bind n mask) d h q = let t = words_top At m kind n s d.rest st (taken s sh st (op_rule code s pc sh (bind n mask)) d h) in (t.long ∙ sym (unmasked_long n mask), t.made)
  op_asked s pc at sh st (call l n mask) d h q = let t = words_top At m kind n s d.rest st (taken s sh st (op_rule code s pc sh (call l n mask)) d h) in (t.long ∙ sym (unmasked_long n mask), t.made)
  op_asked s pc at sh st return d h q =
      return_asked s d.rest st (top_mark st) (below_mark st) at (and_left (is_body s) (are_slots sh) d.asks) (taken s sh st (op_rule code s pc sh return) d h) (end_of At m kind s sh st (and_right (is_body s) (are_slots sh) d.asks) h)
  op_asked s pc at sh st (close n mask is l) d h q = tt
  op_asked s pc at sh st (funcall n) d h q =
      let t = words_top At m kind (suc n) s d.rest st (taken s sh st (op_rule code s pc sh (funcall n)) d h) in
      call_asked m kind (in_cleanup (cleanups_on st)) true n (words (suc n) st) at t.long t.made
  op_asked s pc at sh st (funcall_drop n) d h q =
      let t = words_top At m kind (suc n) s d.rest st (taken s sh st (op_rule code s pc sh (funcall_drop n)) d h) in
      call_asked m kind (in_cleanup (cleanups_on st)) false n (words (suc n) st) at t.long t.made
  op_asked s pc at sh st (touch n) d h q =
      let t = words_top At m kind n s d.rest st (taken s sh st (op_rule code s pc sh (touch n)) d h) in
      touch_asked (first_future (words n st)) at (pc + 1, st) (future_is m kind (words n st) t.made) q
  op_asked s pc at sh st (qlet starts t b) d h q = one_asked s d.rest st at chooses (taken s sh st (op_rule code s pc sh (qlet starts t b)) d h) (λ w i. i)
  op_asked s pc at sh st join d h q =
      let o = own_top At m kind pc s sh st (halted (joins_at pc (top_mark st)) (pc + 1, st) q) h in
      let e = join_led code so m kind s pc sh true o.0 d in
      one_asked s e.rest st at (λ w. ends (with_word w)) (subst (λ z. F s z st) e.takes h) (λ w i. (o.1, i))
  op_asked s pc at sh st (qlambda n mask is l) d h q = one_asked s d.rest st at makes (taken s sh st (op_rule code s pc sh (qlambda n mask is l)) d h) (λ w i. i)
  op_asked s pc at sh st (catch l) d h q = one_asked s d.rest st at (λ w. opens w false) (taken s sh st (op_rule code s pc sh (catch l)) d h) (λ w i. i)
  op_asked s pc at sh st (qcatch l) d h q = one_asked s d.rest st at (λ w. opens w true) (taken s sh st (op_rule code s pc sh (qcatch l)) d h) (λ w i. i)
  op_asked s pc at sh st exit d h q = exit_asked s d.rest st (taken s sh st (op_rule code s pc sh exit) d h)
  op_asked s pc at sh st throw d h q = let t = words_top At m kind 2 s d.rest st (taken s sh st (op_rule code s pc sh throw) d h) in throw_asked m kind (words 2 st) at t.long t.made
  op_asked s pc at sh st (protect l) d h q = tt
  op_asked s pc at sh st leave d h q = leave_asked s d.rest st (taken s sh st (op_rule code s pc sh leave) d h)
  op_asked s pc at sh st end_clean d h q = clean_asked s (value ∷ d.rest) st (taken s sh st (op_rule code s pc sh end_clean) d h)
  op_asked s pc at sh st (prim n) d h q =
      let t = words_top At m kind (operand_count (operator_of n)) s d.rest st (taken s sh st (op_rule code s pc sh (prim n)) d h) in
      primitive_asked m kind (operator_of n) (words (operand_count (operator_of n)) st) at (and_left (is_some (operator_of n)) (not (n == 19)) d.asks) t.long t.made
  op_asked s pc at sh st cons d h q = let t = words_top At m kind 2 s d.rest st (taken s sh st (op_rule code s pc sh cons) d h) in prim_asked m kind cons_operator (words 2 st) at t.long t.made
  op_asked s pc at sh st print d h q = one_asked s d.rest st at prints (taken s sh st (op_rule code s pc sh print) d h) (λ w i. i)
  op_asked s pc at sh st end d h q = main_bottom s (top_mark st) (below_mark st) (and_left (is_main s) (are_slots sh) d.asks) (end_of At m kind s sh st (and_right (is_main s) (are_slots sh) d.asks) h)

  running_asked : (pc : ℕ) (st : List Item) → IsRunning At m code.instructions kind pc st → IsAsked m kind (running_want (slice_get code.instructions pc) st)
  running_asked pc st r =
      let d = led_is At (op_rule code r.start pc r.shape r.next.op) r.shape (subst (λ o. Leads At (after code r.start pc r.shape o)) r.stands (so.kept r.start pc r.shape r.here)) in
      subst (λ o. IsAsked m kind (running_want o st)) (sym r.stands) (op_asked r.start pc r.next.at r.shape st r.next.op d r.fits r.halts)

  unwinding_asked : (s : Start) (sh : Shape) (st : List Item) → IsUnwound st → F s sh st → IsOff unwinding st → IsAsked m kind (unwinding_want st)
  unwinding_asked s sh [] u h o = absurd u
  unwinding_asked s sh (slot x ∷ st) u h o = absurd u
  unwinding_asked s sh (mark (returning pc) ∷ st) u h o = absurd u
  unwinding_asked s sh (mark (machine.cleaning c d) ∷ st) u h o = absurd o
  unwinding_asked s sh (mark (base j) ∷ st) u h o = tt
  unwinding_asked s sh (mark (machine.protecting c l) ∷ st) u h o = tt
  unwinding_asked s (catching ∷ sh) (mark (machine.catching c l) ∷ st) u h o = h.0.0
  unwinding_asked s (p ∷ sh) (mark (machine.catching c l) ∷ st) u h o = absurd h.0
  unwinding_asked s [] (mark (machine.catching c l) ∷ st) u h o = absurd h

  asked_in : (state : machine.State) (pc : ℕ) (st : List Item) → IsStandingIn At m code.instructions kind state pc st → IsOff state st → IsAsked m kind (want_in code.instructions state pc st)
  asked_in running pc st h o = running_asked pc st h
  asked_in unwinding pc st h o = unwinding_asked h.1.0 h.1.1 st h.0 h.1.2 o
  asked_in resting pc st h o = h.0
  asked_in machine.over pc st h o = absurd h

  -- A process that hasn't ended asks for what there is.
  pub asked : (p : Point) → IsStanding At m code.instructions kind p → IsOff p.state p.stack → IsAsked m kind ((code_machine code.instructions).want p)
  asked p h o = asked_in p.state p.place p.stack h o
