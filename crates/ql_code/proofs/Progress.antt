-- On sound code a process that can step has a tick.
use Rattle.std.proofs.Common.{◌≡◌, ◌⊎◌, ℕ, zero, suc, ◌<◌, ◌≤◌, ◌==◌, Bool, true, false, List, [], ◌∷◌, length, Option, Some, None, refl, sym, ◌∙◌, subst, ⊎_elim, inl, inr, arith, eqb-true, eq-eqb}
use Rattle.std.specs.Prelude.{◌&&◌, ◌||◌, not, if◌then◌else◌, slice_get, is_some, option_and_then}
use Rattle.std.proofs.lemmas.Bool.{cases_lt}
use Rattle.ql_base.specs.declared.limits.Limits.{Limits}
use Rattle.ql_world.specs.Word.{is_nil, is_eager, first_future}
use Rattle.ql_world.specs.declared.word.Word.{Word}
use Rattle.ql_world.specs.declared.word.Word.TheVariants.{Int as integer, Sym as symbol, Pair as pair, Fun as closure, Proc as process_closure, Fut as future}
use Rattle.ql_world.specs.Operator.{operator_of, computed, takes_one}
use Rattle.ql_world.specs.declared.operator.Operator.{Operator}
use Rattle.ql_world.specs.declared.operator.Operator.TheVariants.{Cons as cons_operator}
use Rattle.ql_world.specs.declared.operator.Computed.{Computed as Result}
use Rattle.ql_world.specs.declared.operator.Computed.TheVariants.{Gives as gives, Fails as fails, Joins as joins}
use Rattle.ql_world.specs.declared.world.Kind.TheVariants.{Main as world_main, Child as world_child}
use Rattle.ql_world.specs.World.{or_pending, Call, ProcessClosure, World, numbered, catch_at, counted}
use Rattle.ql_world.specs.declared.world.FutState.{FutState as Future}
use Rattle.ql_world.specs.declared.world.FutState.TheVariants.{Pending as pending, Value as valued, Dead as dead}
use Rattle.ql_world.specs.declared.world.Catch.{Catch}
use Rattle.ql_world.specs.declared.world.Kind.{Kind}
use Rattle.ql_world.specs.declared.world.Kind.TheVariants.{Closure as serving}
use Rattle.ql_world.specs.declared.world.Process.{Process}
use Rattle.ql_world.specs.Within.{tagged, has_tag}
use Rattle.ql_world.specs.Idle.{in_cleanup, is_pending, is_empty}
use Rattle.ql_world.specs.Touch.{await_or, await_word, touched_in_call, touched_by, function_want}
use Rattle.ql_world.specs.Machine.{Place, held, box, global, Ending, last_form, with_word, unwound, Want, awaits, takes_literal, reads, stores, branches, computes, prints, binds, calls, returns, closes, funcalls, chooses, makes, sends, takes_call, replies, opens, exits, throws, protects, begins, finishes, leaves, ends, rests, Machine}
use Rattle.ql_world.specs.Tick.{await_row, of_box, of_global, variable_row, store_row, primitive_row, close_row, enter_row, funcall_row, process_row, send_row, taken_row, take_row, reply_to, reply_row, exit_row, thrown_row, throw_row, end_row, server_row, row, has_queued, may_reply, of_server, is_ready, can_step, step, tick}
use Rattle.ql_code.specs.Code.{Op, lit, local, box_get, global_get, box_set, global_set, branch, jump, drop, slide, bind, call, return, close, funcall, funcall_drop, touch, qlet, join, qlambda, catch, qcatch, exit, throw, protect, leave, end_clean, prim, cons, print, end, Instruction, Code}
use Rattle.ql_code.specs.Machine as machine
use Rattle.ql_code.specs.Machine.{Mark, returning, base, Item, slot, mark, Point, Entry, words, cleanups_on, frame_of, slot_at, top_mark, place_of_slot, op_want, op_entry, one_want, store_want, throw_want, return_want, exit_want, leave_want, clean_want, prim_want, call_want, operand_count, running_want, unwinding_want, want_in, entry_by, next_of, code_machine}
use Rattle.ql_code.specs.Sound.{Has, Sound}
use Rattle.ql_code.specs.Standing.{IsNumber, IsMade, IsStanding, IsPlace, IsStore, IsAsked, IsOff}
use Rattle.ql_code.specs.SoundWorld.{made_of, IsProcess, IsSoundWorld}
use Rattle.ql_code.proofs.Asks.{asked}
use Rattle.ql_code.proofs.Settles.{and_left, and_right}
use Rattle.ql_code.proofs.Worlds.{each_numbered}
use Rattle.ql_code.proofs.SoundTicks.{off_or_rests}

-- what is asked takes a closure that the process makes
abbrev NeedsEntry : Want → Type 0
NeedsEntry closes = Unit {0}
NeedsEntry (makes x) = Unit {0}
NeedsEntry want = ⊥

word_needs : (w : Word) (at : ℕ) (want : Want) → (NeedsEntry want → ⊥) → NeedsEntry (await_word w at want) → ⊥
word_needs (integer z) at want f h = f h
word_needs (symbol n) at want f h = f h
word_needs (pair n) at want f h = f h
word_needs (closure n) at want f h = f h
word_needs (process_closure n) at want f h = f h
word_needs (future n) at want f h = h

or_needs : (o : Option ℕ) (at : ℕ) (want : Want) → (NeedsEntry want → ⊥) → NeedsEntry (await_or o at want) → ⊥
or_needs None at want f h = f h
or_needs (Some x) at want f h = h

one_needs : (ws : List Word) (at : ℕ) (want : Word → Want) → ((w : Word) → NeedsEntry (want w) → ⊥) → NeedsEntry (one_want ws at want) → ⊥
one_needs [] at want f h = h
one_needs (w ∷ []) at want f h = word_needs w at (want w) (f w) h
one_needs (w ∷ (v ∷ ws)) at want f h = h

store_needs : (place : Place) (ws : List Word) → NeedsEntry (store_want place ws) → ⊥
store_needs place [] h = h
store_needs place (w ∷ []) h = h
store_needs place (w ∷ (v ∷ ws)) h = h

throw_needs : (ws : List Word) (at : ℕ) → NeedsEntry (throw_want ws at) → ⊥
throw_needs [] at h = h
throw_needs (a ∷ []) at h = h
throw_needs (a ∷ (b ∷ [])) at h = or_needs (first_future (a ∷ (b ∷ []))) at (throws a b at) (λ k. k) h
throw_needs (a ∷ (b ∷ (c ∷ ws))) at h = h

return_needs : (o : Option Mark) (ws : List Word) (at : ℕ) → NeedsEntry (return_want o ws at) → ⊥
return_needs None ws at h = h
return_needs (Some (returning pc)) ws at h = h
return_needs (Some (base j)) ws at h = one_needs ws at replies (λ w k. k) h
return_needs (Some (machine.catching c l)) ws at h = h
return_needs (Some (machine.protecting c l)) ws at h = h
return_needs (Some (machine.cleaning c l)) ws at h = h

exit_needs : (st : List Item) → NeedsEntry (exit_want st) → ⊥
exit_needs [] h = h
exit_needs (mark k ∷ st) h = h
exit_needs (slot x ∷ []) h = h
exit_needs (slot x ∷ (slot y ∷ st)) h = h
exit_needs (slot x ∷ (mark (machine.catching c l) ∷ st)) h = h
exit_needs (slot x ∷ (mark k ∷ st)) h = h

leave_needs : (st : List Item) → NeedsEntry (leave_want st) → ⊥
leave_needs [] h = h
leave_needs (mark k ∷ st) h = h
leave_needs (slot x ∷ []) h = h
leave_needs (slot x ∷ (slot y ∷ st)) h = h
leave_needs (slot x ∷ (mark (machine.protecting c l) ∷ st)) h = h
leave_needs (slot x ∷ (mark k ∷ st)) h = h

clean_needs : (st : List Item) → NeedsEntry (clean_want st) → ⊥
clean_needs [] h = h
clean_needs (mark k ∷ st) h = h
clean_needs (slot x ∷ []) h = h
clean_needs (slot x ∷ (slot y ∷ st)) h = h
clean_needs (slot x ∷ (mark (machine.cleaning c l) ∷ st)) h = h
clean_needs (slot x ∷ (mark k ∷ st)) h = h

function_needs : (cleans used : Bool) (w : Word) (ws : List Word) (at : ℕ) → NeedsEntry (function_want cleans used w ws at) → ⊥
function_needs cleans used (integer z) ws at h = h
function_needs cleans used (symbol n) ws at h = h
function_needs cleans used (pair n) ws at h = h
function_needs cleans used (closure n) ws at h = h
function_needs true used (process_closure n) ws at h = h
function_needs false used (process_closure n) ws at h = h
function_needs cleans used (future n) ws at h = h

call_needs : (cleans used : Bool) (ws : List Word) (at : ℕ) → NeedsEntry (call_want cleans used ws at) → ⊥
call_needs cleans used [] at h = h
call_needs cleans used (w ∷ ws) at h = or_needs (first_future (touched_in_call cleans (w ∷ ws))) at (function_want cleans used w ws at) (function_needs cleans used w ws at) h

prim_needs : (o : Option Operator) (ws : List Word) (at : ℕ) → NeedsEntry (prim_want o ws at) → ⊥
prim_needs None ws at h = h
prim_needs (Some o) ws at h = or_needs (first_future (touched_by (Some o) ws)) at (computes o ws at) (λ k. k) h

abbrev pub IsThere : {A : Type 0} → Option A → Type 0
IsThere None = ⊥
IsThere (Some x) = Unit {0}

op_there : (op : Op) (pc at : ℕ) (st : List Item) → NeedsEntry (op_want op at st) → IsThere (op_entry op pc st)
op_there (close n mask is l) pc at st h = tt
op_there (qlambda n mask is l) pc at st h = tt
op_there (lit w) pc at st h = absurd h
op_there (local i) pc at st h = absurd h
op_there (box_get i) pc at st h = absurd h
op_there (global_get g) pc at st h = absurd h
op_there (box_set i) pc at st h = absurd (store_needs (place_of_slot (slot_at (frame_of st) i)) (words 1 st) h)
op_there (global_set g) pc at st h = absurd (store_needs (global g) (words 1 st) h)
op_there (branch l) pc at st h = absurd (one_needs (words 1 st) at (λ w. branches) (λ w k. k) h)
op_there (jump l) pc at st h = absurd h
op_there drop pc at st h = absurd h
op_there (slide n) pc at st h = absurd h
op_there (bind n mask) pc at st h = absurd h
op_there (call l n mask) pc at st h = absurd h
op_there return pc at st h = absurd (return_needs (top_mark st) (words 1 st) at h)
op_there (funcall n) pc at st h = absurd (call_needs (in_cleanup (cleanups_on st)) true (words (suc n) st) at h)
op_there (funcall_drop n) pc at st h = absurd (call_needs (in_cleanup (cleanups_on st)) false (words (suc n) st) at h)
op_there (touch n) pc at st h = absurd (or_needs (first_future (words n st)) at rests (λ k. k) h)
op_there (qlet starts t b) pc at st h = absurd (one_needs (words 1 st) at chooses (λ w k. k) h)
op_there join pc at st h = absurd (one_needs (words 1 st) at (λ w. ends (with_word w)) (λ w k. k) h)
op_there (catch l) pc at st h = absurd (one_needs (words 1 st) at (λ w. opens w false) (λ w k. k) h)
op_there (qcatch l) pc at st h = absurd (one_needs (words 1 st) at (λ w. opens w true) (λ w k. k) h)
op_there exit pc at st h = absurd (exit_needs st h)
op_there throw pc at st h = absurd (throw_needs (words 2 st) at h)
op_there (protect l) pc at st h = absurd h
op_there leave pc at st h = absurd (leave_needs st h)
op_there end_clean pc at st h = absurd (clean_needs st h)
op_there (prim n) pc at st h = absurd (prim_needs (operator_of n) (words (operand_count (operator_of n)) st) at h)
op_there cons pc at st h = absurd (prim_needs (Some cons_operator) (words 2 st) at h)
op_there print pc at st h = absurd (one_needs (words 1 st) at prints (λ w k. k) h)
op_there end pc at st h = absurd h

by_there : (o : Option Instruction) (pc : ℕ) (st : List Item) (is : List Instruction) → NeedsEntry (running_want o st) → IsThere (entry_by is o pc st)
by_there None pc st is h = absurd h
by_there (Some i) pc st is h = op_there i.op pc i.at st h

unwinding_needs : (st : List Item) → NeedsEntry (unwinding_want st) → ⊥
unwinding_needs [] h = h
unwinding_needs (slot x ∷ st) h = h
unwinding_needs (mark (returning pc) ∷ st) h = h
unwinding_needs (mark (base j) ∷ st) h = h
unwinding_needs (mark (machine.catching c l) ∷ st) h = h
unwinding_needs (mark (machine.protecting c l) ∷ st) h = h
unwinding_needs (mark (machine.cleaning c l) ∷ st) h = h

entry_there : (is : List Instruction) (state : machine.State) (pc : ℕ) (st : List Item) → NeedsEntry (want_in is state pc st) → IsThere (entry_by is (next_of is state pc) pc st)
entry_there is machine.running pc st h = by_there (slice_get is pc) pc st is h
entry_there is machine.unwinding pc st h = absurd (unwinding_needs st h)
entry_there is machine.resting pc st h = absurd h
entry_there is machine.over pc st h = absurd h

got_there : {A : Type 0} (xs : List A) (n : ℕ) → n < length xs → IsThere (slice_get xs n)
got_there [] n l = absurd (omega (arith, l))
got_there (x ∷ xs) zero l = tt
got_there (x ∷ xs) (suc n) l = got_there xs n (omega (arith, l))

numbered_there : {A : Type 0} (xs : List A) (n : ℕ) → IsNumber n (length xs) → IsThere (numbered xs n)
numbered_there xs zero l = absurd (omega (arith, l))
numbered_there xs (suc n) l = got_there xs n (omega (arith, l))

catch_if : (b : Bool) (x : Catch) (o : Option Catch) → (b ≡ false → IsThere o) → IsThere (if b then Some x else o)
catch_if true x o f = tt
catch_if false x o f = f refl

catch_there : (ks : List Catch) (c : ℕ) → c < length ks → IsThere (catch_at ks c)
catch_there [] c l = absurd (omega (arith, l))
catch_there (k ∷ ks) c l =
    catch_if (c == length ks) k (catch_at ks c) (λ e. let ne : (c ≡ length ks) → ⊥ = (λ z. let y : (c == length ks) ≡ true = eq-eqb c (length ks) z in let bad : true ≡ false = sym y ∙ e in absurd cc) in
    ⊎_elim (λ (z : c < length ks). catch_there ks c z) (λ (z : length ks ≤ c). absurd (ne (omega (arith, l, z)))) (cases_lt c (length ks)))

-- the catch that is found is there
abbrev Found : Option ℕ → List Catch → Type 0
Found None ks = Unit {0}
Found (Some c) ks = c < length ks

found_more : (o : Option ℕ) (k : Catch) (ks : List Catch) → Found o ks → Found o (k ∷ ks)
found_more None k ks h = tt
found_more (Some c) k ks h = omega (arith, h)

found_if : (b : Bool) (o r : Option ℕ) (ks : List Catch) → (b ≡ true → Found o ks) → Found r ks → Found (if b then o else r) ks
found_if true o r ks h k = h refl
found_if false o r ks h k = k

tagged_found : (f : ℕ → Bool) (ks : List Catch) (w : Word) (d : ℕ) → Found (tagged f ks w d) ks
tagged_found f [] w d = tt
tagged_found f (k ∷ ks) w d =
    found_if (d == length ks) _ _ (k ∷ ks)
    (λ e. let y : d ≡ length ks = eqb-true d (length ks) e in
    found_if (f d) _ _ (k ∷ ks)
    (λ z. found_if (k.open_still && has_tag w k.tag) _ _ (k ∷ ks) (λ a. let l : d < suc (length ks) = omega (arith, y) in l) (found_more (tagged f ks w k.enclosing) k ks (tagged_found f ks w k.enclosing)))
    tt)
    (found_more (tagged f ks w d) k ks (tagged_found f ks w d))

some_there : {A : Type 0} (o : Option A) → is_some o ≡ true → IsThere o
some_there None e = absurd cc
some_there (Some x) e = tt

there_some : {A : Type 0} (o : Option A) → IsThere o → is_some o ≡ true
there_some None h = absurd h
there_some (Some x) h = refl

abbrev IsOneOrTwo : ℕ → Type 0
IsOneOrTwo n = (n ≡ 1) ⊎ (n ≡ 2)

one_or_two : (b : Bool) → IsOneOrTwo (if b then 1 else 2)
one_or_two true = inl refl
one_or_two false = inr refl

module _ (code : Code) (so : Sound code) (names : List (List ℕ)) (limits : Limits) where
  abbrev W : Type 0
  W = World Point Entry

  abbrev M : Machine Point Entry
  M = code_machine code.instructions

  there_if : {A : Type 0} (b : Bool) (o r : Option A) → IsThere o → IsThere r → IsThere (if b then o else r)
  there_if true o r h k = h
  there_if false o r h k = k

  sent_if : (b c : Bool) (v u t : W) → IsThere (if not b then Some v else (if c then Some u else Some t))
  sent_if false c v u t = tt
  sent_if true true v u t = tt
  sent_if true false v u t = tt

  module _ (p : ℕ) (q : Process Point) (w : W) where
    await_there : (o : Future) (pc : ℕ) → not (is_pending o) ≡ true → IsThere (await_row M names limits p q (counted w p) o pc)
    await_there pending pc e = absurd cc
    await_there (valued x) pc e = tt
    await_there dead pc e = tt

    box_there : (o : Option Word) → IsThere o → IsThere (of_box M names limits p q (counted w p) o)
    box_there None h = absurd h
    box_there (Some x) h = tt

    global_there : (o : Option (Option Word)) (pc : ℕ) → IsThere o → IsThere (of_global M names limits p q (counted w p) o pc)
    global_there None pc h = absurd h
    global_there (Some None) pc h = tt
    global_there (Some (Some x)) pc h = tt

    read_there : (place : Place) (pc : ℕ) → IsPlace (made_of w) q.kind place → IsThere (variable_row M names limits p q (counted w p) place pc)
    read_there held pc h = tt
    read_there (box n) pc h = box_there (slice_get w.boxes n) (got_there w.boxes n h)
    read_there (global n) pc h = global_there (slice_get w.globals n) pc (got_there w.globals n h)

    store_there : (place : Place) (x : Word) → IsStore (made_of w) q.kind place → IsThere (store_row M names limits p q (counted w p) place x)
    store_there held x h = absurd h
    store_there (box n) x h = tt
    store_there (global n) x h = tt

    count_some : (o : Operator) → IsOneOrTwo (operand_count (Some o))
    count_some o = one_or_two (takes_one o)

    computed_there : (o : Operator) (xs : List Word) → length xs ≡ operand_count (Some o) → IsThere (computed w.pairs o xs)
    computed_there o [] e = absurd (⊎_elim (λ (a : operand_count (Some o) ≡ 1). omega (arith, a, e)) (λ (a : operand_count (Some o) ≡ 2). omega (arith, a, e)) (count_some o))
    computed_there o (a ∷ []) e = tt
    computed_there o (a ∷ (b ∷ [])) e = tt
    computed_there o (a ∷ (b ∷ (c ∷ xs))) e = absurd (⊎_elim (λ (a : operand_count (Some o) ≡ 1). omega (arith, a, e)) (λ (a : operand_count (Some o) ≡ 2). omega (arith, a, e)) (count_some o))

    primitive_there : (r : Option Result) (pc : ℕ) → IsThere r → IsThere (primitive_row M names limits p q (counted w p) r pc)
    primitive_there None pc h = absurd h
    primitive_there (Some (gives x)) pc h = tt
    primitive_there (Some (fails k)) pc h = tt
    primitive_there (Some (joins a b)) pc h = there_if _ (Some _) (Some _) tt tt

    close_there : (o : Option Entry) → IsThere o → IsThere (close_row M names limits p q (counted w p) o)
    close_there None h = absurd h
    close_there (Some k) h = there_if _ (Some _) (Some _) tt tt

    process_there : (e : Bool) (o : Option Entry) → IsThere o → IsThere (process_row M names limits p q (counted w p) e o)
    process_there e None h = absurd h
    process_there e (Some k) h = there_if _ (Some _) (Some _) tt tt

    enter_there : (o : Option Entry) (xs : List Word) (pc : ℕ) → IsThere o → IsThere (enter_row M names limits p q (counted w p) o xs pc)
    enter_there None xs pc h = absurd h
    enter_there (Some k) xs pc h = there_if _ (Some _) (Some _) tt tt

    funcall_there : (x : Word) (xs : List Word) (pc : ℕ) → IsMade (made_of w) x → IsThere (funcall_row M names limits p q (counted w p) x xs pc)
    funcall_there (closure n) xs pc h = enter_there (numbered w.closures n) xs pc (numbered_there w.closures n h)
    funcall_there (process_closure n) xs pc h = tt
    funcall_there (integer z) xs pc h = tt
    funcall_there (symbol n) xs pc h = tt
    funcall_there (pair n) xs pc h = tt
    funcall_there (future n) xs pc h = tt

    send_there : (k : ℕ) (o : Option (ProcessClosure Entry)) (xs : List Word) (used : Bool) (pc : ℕ) → IsThere o → IsThere (send_row M names limits p q (counted w p) k o xs used pc)
    send_there k None xs used pc h = absurd h
    send_there k (Some c) xs used pc h = sent_if (length xs == length (M.stored c.body)) c.dead _ _ _

    taken_there : (k : ℕ) (c : ProcessClosure Entry) (ds : List Call) → not (is_empty ds) ≡ true → IsThere (taken_row M names limits p q (counted w p) k c ds)
    taken_there k c [] e = absurd cc
    taken_there k c (d ∷ ds) e = there_if _ (Some _) (Some _) tt tt

    take_there : (k : ℕ) (o : Option (ProcessClosure Entry)) → has_queued M names limits p q o ≡ true → IsThere (take_row M names limits p q (counted w p) k o)
    take_there k None e = absurd cc
    take_there k (Some c) e = taken_there k c c.queue e

    takes_there : (kind : Kind) → of_server M names limits p q w (has_queued M names limits p q) kind ≡ true → IsThere (server_row M names limits p q (λ k. take_row M names limits p q (counted w p) k (numbered w.servers k)) kind)
    takes_there world_main e = absurd cc
    takes_there (world_child f) e = absurd cc
    takes_there (serving k) e = take_there k (numbered w.servers k) e

    to_there : (k : ℕ) (c : ProcessClosure Entry) (o : Option Call) (x : Word) → IsThere o → IsThere (reply_to M names limits p q (counted w p) k c o x)
    to_there k c None x h = absurd h
    to_there k c (Some d) x h = tt

    reply_there : (k : ℕ) (o : Option (ProcessClosure Entry)) (x : Word) → may_reply M names limits p q o ≡ true → IsThere (reply_row M names limits p q (counted w p) k o x)
    reply_there k None x r = absurd cc
    reply_there k (Some c) x r = to_there k c c.current x (some_there c.current r)

    replies_there : (kind : Kind) (x : Word) → of_server M names limits p q w (may_reply M names limits p q) kind ≡ true
        → IsThere (server_row M names limits p q (λ k. reply_row M names limits p q (counted w p) k (numbered w.servers k) x) kind)
    replies_there world_main x e = absurd cc
    replies_there (world_child i) x e = absurd cc
    replies_there (serving k) x e = reply_there k (numbered w.servers k) x e

    exit_there : (c : ℕ) (o : Option Catch) → IsThere o → IsThere (exit_row M names limits p q (counted w p) c o)
    exit_there c None h = absurd h
    exit_there c (Some k) h = tt

    thrown_there : (c : ℕ) (o : Option Catch) (x : Word) → IsThere o → IsThere (thrown_row M names limits p q (counted w p) c o x)
    thrown_there c None x h = absurd h
    thrown_there c (Some k) x h = tt

    throw_there : (o : Option ℕ) (x : Word) (pc : ℕ) → Found o w.catches → IsThere (throw_row M names limits p q (counted w p) o x pc)
    throw_there None x pc h = tt
    throw_there (Some c) x pc h = thrown_there c (catch_at w.catches c) x (catch_there w.catches c h)

    end_there : (kind : Kind) (e : Ending) → IsAsked (made_of w) kind (ends e) → IsThere (end_row M names limits p q (counted w p) kind e)
    end_there kind last_form h = tt
    end_there (world_child f) (with_word x) h = tt
    end_there world_main (with_word x) h = absurd h.0
    end_there (serving k) (with_word x) h = absurd h.0
    end_there world_main unwound h = tt
    end_there (world_child f) unwound h = tt
    end_there (serving k) unwound h = tt

    row_there : (u : Want) → IsAsked (made_of w) q.kind u → (NeedsEntry u → IsThere (M.closure q.thread)) → is_ready M names limits p q w u ≡ true → IsThere (row M names limits p q (counted w p) u)
    row_there (awaits f pc) h n e = await_there (or_pending (numbered w.futures f)) pc e
    row_there takes_literal h n e = tt
    row_there (reads place pc) h n e = read_there place pc h
    row_there (stores place x) h n e = store_there place x h.0
    row_there branches h n e = tt
    row_there (computes o xs pc) h n e = primitive_there (computed w.pairs o xs) pc (computed_there o xs h.0)
    row_there (prints x) h n e = tt
    row_there (binds bs xs) h n e = tt
    row_there (calls bs xs) h n e = tt
    row_there returns h n e = tt
    row_there closes h n e = close_there (M.closure q.thread) (n tt)
    row_there (funcalls x xs pc) h n e = funcall_there x xs pc h.0
    row_there (chooses x) h n e = tt
    row_there (makes x) h n e =
        there_if (is_nil x || in_cleanup (M.cleanups q.thread)) (close_row M names limits p q (counted w p) (M.closure q.thread)) (process_row M names limits p q (counted w p) (is_eager x) (M.closure q.thread))
        (close_there (M.closure q.thread) (n tt)) (process_there (is_eager x) (M.closure q.thread) (n tt))
    row_there (sends k xs used pc) h n e = send_there k (numbered w.servers k) xs used pc (numbered_there w.servers k h.0)
    row_there takes_call h n e = takes_there q.kind e
    row_there (replies x) h n e = replies_there q.kind x e
    row_there (opens x waits) h n e = tt
    row_there (exits c) h n e = exit_there c (catch_at w.catches c) (catch_there w.catches c h)
    row_there (throws tag x pc) h n e = throw_there _ x pc (tagged_found _ w.catches tag _)
    row_there protects h n e = tt
    row_there (begins u) h n e = tt
    row_there (finishes u) h n e = tt
    row_there (leaves c) h n e = tt
    row_there (ends ending) h n e = end_there q.kind ending h
    row_there rests h n e = absurd cc

    and_there : (b : Bool) (o : Option W) → b ≡ true → IsThere o → IsThere (if b then o else None)
    and_there true o e h = h
    and_there false o e h = absurd cc

    -- A process that can step has a tick.
    step_there : IsSoundWorld code so w → numbered w.procs p ≡ Some q → can_step M names limits p q w ≡ true → IsThere (step M names limits p q w)
    step_there s e c =
        let a = and_left (not q.ended) (is_ready M names limits p q w (M.want q.thread)) c in
        let r = and_right (not q.ended) (is_ready M names limits p q w (M.want q.thread)) c in
        let k = each_numbered (IsProcess code so (made_of w)) w.procs p q e s.procs_are in
        and_there (can_step M names limits p q w) (row M names limits p q (counted w p) (M.want q.thread)) c
        (⊎_elim
        (λ (t : q.ended ≡ true). let bad : false ≡ true = subst (λ z. not z ≡ true) t a in absurd cc)
        (λ (h : IsStanding (Has so.table) (made_of w) code.instructions q.kind q.thread).
        ⊎_elim
        (λ (o : IsOff q.thread.state q.thread.stack).
        row_there (M.want q.thread) (asked code so (made_of w) q.kind s.names q.thread h o) (entry_there code.instructions q.thread.state q.thread.place q.thread.stack) r)
        (λ (o : M.want q.thread ≡ rests). let bad : false ≡ true = subst (λ u. is_ready M names limits p q w u ≡ true) o r in absurd cc)
        (off_or_rests code so q.thread.state q.thread.place q.thread.stack))
        k.2)

  tick_by : (p : ℕ) (w : W) (q : Process Point) (o : Option (Process Point)) → o ≡ Some q → IsThere (step M names limits p q w) → IsThere (option_and_then (λ r. step M names limits p r w) o)
  tick_by p w q None e h = absurd cc
  tick_by p w q (Some r) e h = let z : q ≡ r = cc in subst (λ y. IsThere (step M names limits p y w)) z h

  -- On sound code each process that can step has a tick.
  pub tick_there : (w : W) (p : ℕ) (q : Process Point) → IsSoundWorld code so w → numbered w.procs p ≡ Some q → can_step M names limits p q w ≡ true → is_some (tick M names limits w p) ≡ true
  tick_there w p q s e c = there_some (tick M names limits w p) (tick_by p w q (numbered w.procs p) e (step_there p q w s e c))
