-- Calls of process closures.
use Rattle.std.proofs.Common.{◌≡◌, ◌<◌, ℕ, zero, suc, ◌+◌, ◌==◌, Bool, true, false, not, List, [], ◌∷◌, ◌++◌, length, Option, Some, None, refl, sym, ap, ap₂, ◌∙◌, arith, length-append, ⊎_elim, ◌⊎◌, inl, inr}
use Rattle.std.specs.Prelude.{if◌then◌else◌, drop as without_first}
use Rattle.std.proofs.lemmas.Bool.Decides.{nat_tests}
use Rattle.std.proofs.lemmas.Option.{same_Some}
use Rattle.ql_base.specs.declared.fault.RunFault.TheVariants.{WrongCount, DeadClosure}
use Rattle.ql_base.specs.declared.limits.Limits.{Limits}
use Rattle.ql_world.specs.declared.word.Word.{Word}
use Rattle.ql_world.specs.declared.word.Word.TheVariants.{Int as integer, Sym as symbol, Pair as pair, Fun as closure, Proc as process_closure, Fut as future}
use Rattle.ql_world.specs.declared.event.Event.TheVariants.{Send as send}
use Rattle.ql_world.specs.declared.event.Stop.TheVariants.{Fault as fault}
use Rattle.ql_world.specs.World.{World, Call, ProcessClosure, numbered, counted, marked, with_event, with_server, with_thread}
use Rattle.ql_world.specs.Machine.{Machine, sends, got}
use Rattle.ql_world.specs.Touch.{await_or, function_want, funcall_want}
use Rattle.ql_world.specs.Idle.{in_cleanup}
use Rattle.ql_world.specs.Tick.{goes, sent_row, send_row, row, with_call}
use Rattle.ql_calls.specs.Sending.{takes_at_once, after_send, next_call}
use Rattle.ql_tree.specs.declared.person.Person.{Person}
use Rattle.ql_tree.specs.Persons.{process_of_person}
use Rattle.ql_code.specs.Code.{Code, unmasked}
use Rattle.ql_world.specs.declared.word.Slot.TheVariants.{Val as plain, Cell as boxed}
use Rattle.ql_code.specs.Machine.{Point, Entry, Item, slot, mark, word, words, cleanups_on, settled, touch_go, funcall_go, op_want, op_go, code_machine}
use Rattle.ql_host.specs.Awaited.{awaited}
use Rattle.ql_host.specs.Called.{call_op, process_closure_first, sent_to}
use Rattle.ql_host.specs.Sending.{reply_for, value_for, with_reply_future, sent_world, taken_world}
use Rattle.ql_host.specs.declared.shared.Shared.{Shared}
use Rattle.ql_host.specs.World.{world_of, Acts, IsAt}
use Rattle.ql_host.proofs.CallRows.{fewer_words, function_there, unmasked_length, wanted_by, gone_by, awaited_by, back_to}
use Rattle.ql_host.proofs.RowTicks.{acts_at, stops_at}

cases : (b : Bool) → (b ≡ true) ⊎ (b ≡ false)
cases true = inl refl
cases false = inr refl

-- A call that was sent is in the queue, or an eager turn has taken it.

module _ (p k : ℕ) (w : World Point Entry) (s : ProcessClosure Entry) (c : Call) where
  abbrev after_by : Bool → ProcessClosure Entry
  after_by b = if b then record s { sent = c.number; current = Some c } else record s { sent = c.number; queue = s.queue ++ c ∷ [] }

  sent_queued : takes_at_once s ≡ false → with_server (with_event w (send p k c.number)) k (after_send s c) ≡ sent_world p k w s c
  sent_queued e =
      ap (λ b. with_server (with_event w (send p k c.number)) k (after_by b)) e
      ∙ sym (ap (λ (b : Bool). if b
      then with_call (with_event w (send p k c.number)) k (record s { sent = c.number }) c
      else with_server (with_event w (send p k c.number)) k (record s { sent = c.number; queue = s.queue ++ c ∷ [] })) e)

  sent_taken : takes_at_once s ≡ true → taken_world k (with_server (with_event w (send p k c.number)) k (after_send s c)) (after_send s c) c ≡ sent_world p k w s c
  sent_taken e =
      ap (λ b. taken_world k (with_server (with_event w (send p k c.number)) k (after_by b)) (after_by b) c) e
      ∙ sym (ap (λ (b : Bool). if b
      then with_call (with_event w (send p k c.number)) k (record s { sent = c.number }) c
      else with_server (with_event w (send p k c.number)) k (record s { sent = c.number; queue = s.queue ++ c ∷ [] })) e)

  pub sent_either : (mid new : Shared) (threads : List Point) (b : Bool) → b ≡ takes_at_once s → numbered mid.calls.servers k ≡ Some (after_send s c)
      → world_of mid threads ≡ with_server (with_event w (send p k c.number)) k (after_send s c)
      → (b ≡ true → (t : ProcessClosure Entry) (d : Call) → numbered mid.calls.servers k ≡ Some t → t.current ≡ Some d → world_of new threads ≡ taken_world k (world_of mid threads) t d)
      → (b ≡ false → new ≡ mid)
      → world_of new threads ≡ sent_world p k w s c
  sent_either mid new threads b e n g f h =
      ⊎_elim
      (λ (t : b ≡ true).
      f t (after_send s c) c n (ap (λ a. (after_by a).current) (sym e ∙ t))
      ∙ ap (λ v. taken_world k v (after_send s c) c) g
      ∙ sent_taken (sym e ∙ t))
      (λ (t : b ≡ false). ap (λ v. world_of v threads) (h t) ∙ g ∙ sent_queued (sym e ∙ t))
      (cases b)

-- the words under the topmost so many and one more
tail_append : (xs ys : List Word) → 0 < length xs → without_first 1 (xs ++ ys) ≡ without_first 1 xs ++ ys
tail_append [] ys e = absurd (omega (arith, e))
tail_append (x ∷ xs) ys e = refl

tail_words : (n : ℕ) (st : List Item) → length (words (suc n) st) ≡ suc n → without_first 1 (words (suc n) st) ≡ words n st
tail_words zero [] e = refl
tail_words zero (mark m ∷ st) e = refl
tail_words zero (slot (boxed b) ∷ st) e = refl
tail_words zero (slot (plain w) ∷ st) e = refl
tail_words (suc n) [] e = absurd (omega (arith, e))
tail_words (suc n) (mark m ∷ st) e = absurd (omega (arith, e))
tail_words (suc n) (slot (boxed b) ∷ st) e = absurd (omega (arith, e))
tail_words (suc n) (slot (plain w) ∷ st) e =
    let l : length (words (suc n) st ++ w ∷ []) ≡ length (words (suc n) st) + 1 = length-append (words (suc n) st) (w ∷ []) in
    let k : length (words (suc n) st) ≡ suc n = omega (arith, l, e) in
    tail_append (words (suc n) st) (w ∷ []) (omega (arith, k)) ∙ ap (λ ws. ws ++ w ∷ []) (tail_words n st k)

first_is : (ws vs : List Word) (k : ℕ) → process_closure_first ws ≡ Some k → without_first 1 ws ≡ vs → ws ≡ process_closure k ∷ vs
first_is [] vs k e f = absurd cc
first_is (integer z ∷ ws) vs k e f = absurd cc
first_is (symbol m ∷ ws) vs k e f = absurd cc
first_is (pair m ∷ ws) vs k e f = absurd cc
first_is (closure m ∷ ws) vs k e f = absurd cc
first_is (process_closure m ∷ ws) vs k e f = ap₂ (λ m us. process_closure m ∷ us) (same_Some m k e) f
first_is (future m ∷ ws) vs k e f = absurd cc

sent_where : (b : Bool) (o : Option ℕ) (k : ℕ) → (if b then None else o) ≡ Some k → (b ≡ false) × (o ≡ Some k)
sent_where true o k e = absurd cc
sent_where false o k e = (refl, e)

-- the process closure to which a call is sent stands under the arguments, and no cleanup runs
module _ (n : ℕ) (st : List Item) (k : ℕ) (e : sent_to n st ≡ Some k) where
  abbrev parts : (in_cleanup (cleanups_on st) ≡ false) × (process_closure_first (words (suc n) st) ≡ Some k)
  parts = sent_where (in_cleanup (cleanups_on st)) (process_closure_first (words (suc n) st)) k e

  pub sent_at_work : in_cleanup (cleanups_on st) ≡ false
  sent_at_work = parts.0

  pub sent_function : length (words (suc n) st) ≡ suc n → words (suc n) st ≡ process_closure k ∷ words n st
  sent_function l = first_is (words (suc n) st) (words n st) k parts.1 (tail_words n st l)

module _ (code : Code) (names : List (List ℕ)) (limits : Limits) (p : ℕ) (r : Person) (old : Shared) (t : Point) (used : Bool) (count at : ℕ) (h : IsAt code names limits p old r t (call_op used count) at)
    (calm : awaited (call_op used count) t.stack ≡ None) (k : ℕ) (there : words (suc count) t.stack ≡ process_closure k ∷ words count t.stack) (work : in_cleanup (cleanups_on t.stack) ≡ false)
    (s : ProcessClosure Entry) (known : numbered old.calls.servers k ≡ Some s) where
  abbrev M : Machine Point Entry
  M = code_machine code.instructions

  abbrev W : List Point → World Point Entry
  W threads = counted (world_of old threads) p

  wanted : op_want (call_op used count) at t.stack ≡ sends k (words count t.stack) used at
  wanted =
      wanted_by used count at t.stack
      ∙ ap (λ (o : Option ℕ). await_or o at (funcall_want (in_cleanup (cleanups_on t.stack)) used (words (suc count) t.stack) at)) (sym (awaited_by used count t.stack) ∙ calm)
      ∙ ap (λ ws. funcall_want (in_cleanup (cleanups_on t.stack)) used ws at) there
      ∙ ap (λ (b : Bool). function_want b used (process_closure k) (words count t.stack) at) work

  gone : (v : Word) → op_go code.instructions (call_op used count) (got v) t.place t.stack ≡ settled code.instructions (t.place + 1) (word v ∷ without_first (suc count) t.stack)
  gone v =
      gone_by code.instructions used count (got v) t.place t.stack
      ∙ ap (λ (o : Option ℕ). touch_go code.instructions o (words (suc count) t.stack) (got v) t.place (without_first (suc count) t.stack)
      (funcall_go code.instructions (back_to used t.place) (got v) t.place (without_first (suc count) t.stack))) (sym (awaited_by used count t.stack) ∙ calm)

  -- as many arguments as parameters or not, and dead or not
  abbrev sent_if : List Point → (dead fits : Bool) → Option (World Point Entry)
  sent_if threads dead fits =
      if not fits
      then Some (marked (W threads) (fault WrongCount p at))
      else (if dead then Some (marked (W threads) (fault DeadClosure p at)) else Some (sent_row M names limits p (process_of_person r t) (W threads) k s (words count t.stack) used))

  sending : (threads : List Point) (b : Bool) → (count == s.body.count) ≡ b → row M names limits p (process_of_person r t) (W threads) (op_want (call_op used count) at t.stack) ≡ sent_if threads s.dead b
  sending threads b e =
      ap (row M names limits p (process_of_person r t) (W threads)) wanted
      ∙ ap (λ o. send_row M names limits p (process_of_person r t) (W threads) k o (words count t.stack) used at) known
      ∙ ap (sent_if threads s.dead)
      (ap (λ (n : ℕ). n == length (unmasked s.body.count s.body.mask)) (fewer_words count t.stack (function_there used count t.stack h.operands))
      ∙ ap (λ (n : ℕ). count == n) (unmasked_length s.body.count s.body.mask) ∙ e)

  pub send_counted : (s.body.count ≡ count → ⊥) → (new : Shared) → ((threads : List Point) → world_of new threads ≡ marked (W threads) (fault WrongCount p at)) → Acts code names limits p r old t new t
  send_counted a new m =
      let e : (count == s.body.count) ≡ false = grind (arith, nat_tests, a) in
      stops_at code names limits p r old new t (call_op used count) at h (fault WrongCount p at) (λ threads. sending threads false e) m

  pub send_dead : s.body.count ≡ count → s.dead ≡ true → (new : Shared) → ((threads : List Point) → world_of new threads ≡ marked (W threads) (fault DeadClosure p at)) → Acts code names limits p r old t new t
  send_dead a d new m =
      let e : (count == s.body.count) ≡ true = grind (arith, nat_tests, a) in
      stops_at code names limits p r old new t (call_op used count) at h (fault DeadClosure p at) (λ threads. sending threads true e ∙ ap (λ b. sent_if threads b true) d) m

  abbrev sent_by : List Point → Option ℕ → World Point Entry
  sent_by threads reply = sent_world p k (record (W threads) { futures = with_reply_future reply old.futures.states }) s (next_call s (words count t.stack) reply)

  sent_is : (threads : List Point) (b : Bool)
      → sent_row M names limits p (process_of_person r t) (W threads) k s (words count t.stack) b
      ≡ goes M names limits p (process_of_person r t) (sent_by threads (reply_for b (length old.futures.states + 1))) (got (value_for (reply_for b (length old.futures.states + 1))))
  sent_is threads true = refl
  sent_is threads false = refl

  pub send_done : s.body.count ≡ count → s.dead ≡ false → (new : Shared) (u : Point) (reply : Option ℕ) → reply ≡ reply_for used (length old.futures.states + 1)
      → ((threads : List Point) → world_of new threads ≡ sent_by threads reply)
      → u ≡ settled code.instructions (t.place + 1) (word (value_for reply) ∷ without_first (suc count) t.stack)
      → Acts code names limits p r old t new u
  send_done a d new u reply y f z =
      let e : (count == s.body.count) ≡ true = grind (arith, nat_tests, a) in
      acts_at code names limits p r old new t u (call_op used count) at h (got (value_for reply))
      (λ threads c. sending threads true e
      ∙ ap (λ b. sent_if threads b true) d
      ∙ ap Some (sent_is threads used)
      ∙ ap (λ o. Some (goes M names limits p (process_of_person r t) (sent_by threads o) (got (value_for o)))) (sym y)
      ∙ ap (λ x. Some (with_thread x p (M.go t (got (value_for reply))))) (sym (f threads)))
      (gone (value_for reply) ∙ sym z)
