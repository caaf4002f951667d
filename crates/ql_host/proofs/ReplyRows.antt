-- An eager process closure answers a call and begins its next turn.
use Rattle.std.proofs.Common.{◌≡◌, ℕ, zero, suc, ◌+◌, Bool, true, false, List, [], ◌∷◌, ◌++◌, length, map, Option, Some, None, refl, sym, ap, ◌∙◌, leb}
use Rattle.std.specs.Prelude.{if◌then◌else◌, is_some, slice_get}
use Rattle.std.proofs.lemmas.Option.{same_Some}
use Rattle.ql_base.specs.declared.limits.Limits.{Limits}
use Rattle.ql_base.specs.declared.limits.LimitKind.TheVariants.{Cells}
use Rattle.ql_world.specs.declared.word.Word.{Word}
use Rattle.ql_world.specs.declared.word.Word.TheVariants.{Fut as future}
use Rattle.ql_world.specs.declared.world.FutState.{FutState}
use Rattle.ql_world.specs.declared.event.Event.TheVariants.{Take as take}
use Rattle.ql_world.specs.declared.event.Stop.TheVariants.{Limit as limit}
use Rattle.ql_world.specs.World.{World, Call, ProcessClosure, change, numbered, change_numbered, numbers, counted, marked, with_event, with_server, with_thread}
use Rattle.ql_world.specs.Machine.{Machine}
use Rattle.ql_world.specs.Text.{short_text}
use Rattle.ql_world.specs.Tick.{words_boxed, slots_of, filled, answered, has_cells, turn_boxes, with_boxes, with_futures, with_next_turn, with_next_call, with_reply, row}
use Rattle.ql_cells.specs.Cells.{allows}
use Rattle.ql_calls.specs.Facts.{changed-as}
use Rattle.ql_calls.specs.Taking.{oldest, taken, after_take}
use Rattle.ql_tree.specs.declared.person.Person.{Person}
use Rattle.ql_tree.specs.Persons.{process_of_person}
use Rattle.ql_code.specs.Code.{Code, unmasked}
use Rattle.ql_code.specs.declared.code.Op.TheVariants.{Return as return}
use Rattle.ql_code.specs.declared.mark.Mark.TheVariants.{Base as base}
use Rattle.ql_code.specs.Machine.{Point, Entry, mark, words, top_mark, push_slots, settled, code_machine}
use Rattle.ql_host.specs.declared.shared.Shared.{Shared}
use Rattle.ql_host.specs.declared.turns.Turn.{Turn}
use Rattle.ql_host.specs.Awaited.{awaited}
use Rattle.ql_host.specs.Resting.{IsAnswering, answered_world}
use Rattle.ql_host.specs.Sending.{taken_world}
use Rattle.ql_host.specs.Turns.{IsTurn, turned_world}
use Rattle.ql_host.specs.World.{world_of, Acts, IsAt}
use Rattle.ql_host.proofs.CallRows.{unmasked_length}
use Rattle.ql_host.proofs.Killing.{length_changed}
use Rattle.ql_host.proofs.ServerRows.{its_row, replying, next_taken, next_server}
use Rattle.ql_host.proofs.RowTicks.{acts, stops_at, want_at}
use Rattle.ql_host.proofs.TurnNumbers.{turn_futures}

module _ {A : Type 0} where
  change_still : (xs : List A) (i : ℕ) (x : A) → slice_get xs i ≡ Some x → change (λ y. x) xs i ≡ xs
  change_still [] i x e = refl
  change_still (y ∷ xs) zero x e = ap (λ z. z ∷ xs) (sym (same_Some y x e))
  change_still (y ∷ xs) (suc i) x e = ap (λ ys. y ∷ ys) (change_still xs i x e)

  -- to put in its place what is there changes nothing
  pub changed_still : (xs : List A) (k : ℕ) (x : A) → numbered xs k ≡ Some x → change_numbered (λ y. x) xs k ≡ xs
  changed_still xs zero x e = refl
  changed_still xs (suc i) x e = change_still xs i x e

-- the turn of a closure takes a call, if one waits
module _ (old : Shared) (threads : List Point) (k : ℕ) (s : ProcessClosure Entry) (known : numbered old.calls.servers k ≡ Some s) where
  abbrev after : World Point Entry
  after = record (world_of old threads) { servers = change_numbered after_take old.calls.servers k }

  served_some : (v : World Point Entry) → ((t : ProcessClosure Entry) (c : Call) → numbered (change_numbered after_take old.calls.servers k) k ≡ Some t → t.current ≡ Some c → v ≡ taken_world k after t c)
      → (q : List Call) → s.queue ≡ q → is_some (oldest q) ≡ true → v ≡ with_next_call (world_of old threads) k s q
  served_some v g [] e f = absurd cc
  served_some v g (c ∷ cs) e f =
      g (record s { queue = cs; current = Some c }) c (next_server old.calls.servers k s c cs known e) refl
      ∙ ap (λ (ss : List (ProcessClosure Entry)). with_event (record (world_of old threads) { servers = ss; futures = filled s.turn c.arguments old.futures.states }) (take s.process k c.number))
      (next_taken old.calls.servers k s c cs known e)

  served_none : (q : List Call) → s.queue ≡ q → is_some (oldest q) ≡ false → after ≡ with_next_call (world_of old threads) k s q
  served_none [] e f =
      ap (λ (ss : List (ProcessClosure Entry)). record (world_of old threads) { servers = ss })
      (changed-as after_take old.calls.servers k s known
      ∙ ap (λ q. change_numbered (λ t. taken s q) old.calls.servers k) e
      ∙ changed_still old.calls.servers k s known)
  served_none (c ∷ cs) e f = absurd cc

  pub serves_one : (v : World Point Entry) → ((t : ProcessClosure Entry) (c : Call) → numbered (change_numbered after_take old.calls.servers k) k ≡ Some t → t.current ≡ Some c → v ≡ taken_world k after t c)
      → is_some (oldest s.queue) ≡ true → v ≡ with_next_call (world_of old threads) k s s.queue
  serves_one v g f = served_some v g s.queue refl f

  pub serves_none : is_some (oldest s.queue) ≡ false → after ≡ with_next_call (world_of old threads) k s s.queue
  serves_none f = served_none s.queue refl f

-- a reply makes no future
pub answered_length : (reply : Option ℕ) (x : Word) (states : List FutState) → length (answered reply x states) ≡ length states
answered_length None x states = refl
answered_length (Some f) x states = length_changed _ states f

-- what takes a call leaves the threads
next_apart : (w : World Point Entry) (p : ℕ) (u : Point) (k : ℕ) (t : ProcessClosure Entry) (q : List Call) → with_next_call (with_thread w p u) k t q ≡ with_thread (with_next_call w k t q) p u
next_apart w p u k t [] = refl
next_apart w p u k t (c ∷ cs) = refl

module _ (code : Code) (names : List (List ℕ)) (limits : Limits) (p : ℕ) (r : Person) (old : Shared) (t : Point) (at : ℕ) (h : IsAt code names limits p old r t return at) (calm : awaited return t.stack ≡ None)
    (j : Option ℕ) (bottom : top_mark t.stack ≡ Some (base j)) (x : Word) (top : words 1 t.stack ≡ x ∷ []) (a : IsAnswering old r)
    (eager : a.server.eager ≡ true) (turn : Turn) (its : IsTurn (length old.futures.states + 1) a.server.body.count a.server.body.mask turn) where
  abbrev M : Machine Point Entry
  M = code_machine code.instructions

  abbrev W : List Point → World Point Entry
  W threads = counted (world_of old threads) p

  abbrev mask : List Bool
  mask = unmasked a.server.body.count a.server.body.mask

  abbrev thread_of : List Word → Point
  thread_of ws = settled code.instructions a.server.body.place (push_slots (slots_of mask ws (length old.cells.boxes) ++ a.server.body.captured) (mark (base None) ∷ []))

  abbrev replied : List Point → World Point Entry
  replied threads = answered_world p a.number a.call.number a.call.reply x (short_text names old.cells.pairs x) (W threads)

  abbrev next_world : World Point Entry → (m : ℕ) → (stored : List Word) → (turn : List ℕ) → (u : Point) → World Point Entry
  next_world w m stored fs u =
      let s = record a.server { current = None; turn = fs } in
      with_next_call (with_thread (with_server (with_boxes (with_futures w m) stored) a.number s) p u) a.number s a.server.queue

  abbrev turned_by : List Point → Bool → World Point Entry → (m : ℕ) → (stored : List Word) → (turn : List ℕ) → (u : Point) → Option (World Point Entry)
  turned_by threads b w m stored fs u = Some (if b then next_world w m stored fs u else marked (W threads) (limit Cells))

  abbrev turned_of : List Point → Bool → World Point Entry → (made m : ℕ) → Option (World Point Entry)
  turned_of threads b w made m =
      let fs = numbers (made + 1) m in turned_by threads b w m (words_boxed mask (map future fs)) fs (thread_of (map future fs))

  abbrev boxed : ℕ → Bool
  boxed m = leb (old.cells.made + length (words_boxed mask (map future (numbers (length old.futures.states + 1) m)))) limits.cells

  turned_row : (threads : List Point) (b : Bool) → allows old.cells (length turn.stored.items) ≡ b
      → row M names limits p (process_of_person r t) (W threads) (M.want t) ≡ turned_by threads b (replied threads) (length turn.futures.items) turn.stored.items turn.futures.items (thread_of turn.words.items)
  turned_row threads b q =
      let made = length old.futures.states in
      let n = a.server.body.count in
      let fs = numbers (made + 1) n in
      ap (its_row code names limits p r old t at h calm j bottom x top a threads) (want_at code names limits p t return at h.runs h.here)
      ∙ replying code names limits p r old t at h calm j bottom x top a threads
      ∙ ap (λ (b : Bool). Some (if b
      then (if has_cells limits (W threads) (length (turn_boxes M names limits p (process_of_person r t) (W threads) a.server.body))
      then with_next_turn M names limits p (process_of_person r t) (with_reply M names limits p (process_of_person r t) (W threads) a.number a.server a.call x) a.number a.server
      else marked (W threads) (limit Cells))
      else with_thread (with_reply M names limits p (process_of_person r t) (W threads) a.number a.server a.call x) p (M.at_rest a.server.body))) eager
      ∙ ap (λ (ss : List (ProcessClosure Entry)). turned_of threads (boxed (length mask)) (record (replied threads) { servers = ss }) (length (answered a.call.reply x old.futures.states)) (length mask))
      (sym (changed-as (λ s. record s { current = None }) old.calls.servers a.number a.server a.known))
      ∙ ap (λ m. turned_of threads (boxed (length mask)) (replied threads) m (length mask)) (answered_length a.call.reply x old.futures.states)
      ∙ ap (λ m. turned_of threads (boxed m) (replied threads) made m) (unmasked_length n a.server.body.mask)
      ∙ ap (λ (ws : List Word). turned_by threads (leb (old.cells.made + length ws) limits.cells) (replied threads) n ws fs (thread_of (map future fs))) (sym its.stored)
      ∙ ap (λ ws. turned_by threads (leb (old.cells.made + length turn.stored.items) limits.cells) (replied threads) n turn.stored.items fs (thread_of ws)) (sym its.words)
      ∙ ap (λ is. turned_by threads (leb (old.cells.made + length turn.stored.items) limits.cells) (replied threads) n turn.stored.items is (thread_of turn.words.items)) (sym its.futures)
      ∙ ap (λ m. turned_by threads (leb (old.cells.made + length turn.stored.items) limits.cells) (replied threads) m turn.stored.items turn.futures.items (thread_of turn.words.items))
      (sym (turn_futures (made + 1) n a.server.body.mask turn its))
      ∙ ap (λ v. turned_by threads v (replied threads) (length turn.futures.items) turn.stored.items turn.futures.items (thread_of turn.words.items))
      (ap (leb (old.cells.made + length turn.stored.items)) (sym h.fit.cells) ∙ q)

  -- there would be too many cells
  pub reply_full : allows old.cells (length turn.stored.items) ≡ false → (new : Shared)
      → ((threads : List Point) → world_of new threads ≡ marked (W threads) (limit Cells))
      → Acts code names limits p r old t new t
  reply_full q new f =
      stops_at code names limits p r old new t return at h (limit Cells)
      (λ threads. ap (its_row code names limits p r old t at h calm j bottom x top a threads) (sym (want_at code names limits p t return at h.runs h.here)) ∙ turned_row threads false q) f

  pub reply_turns : allows old.cells (length turn.stored.items) ≡ true → (new : Shared) (u : Point)
      → ((threads : List Point) → world_of new threads ≡ turned_world a.number (record a.server { current = None }) turn.futures.items turn.stored.items (replied threads))
      → u ≡ thread_of turn.words.items
      → Acts code names limits p r old t new u
  reply_turns q new u f z =
      acts code names limits p r old new t u
      (λ threads c.
      turned_row threads true q
      ∙ ap Some (next_apart (with_server (with_boxes (with_futures (replied threads) (length turn.futures.items)) turn.stored.items) a.number (record a.server { current = None; turn = turn.futures.items }))
      p (thread_of turn.words.items) a.number (record a.server { current = None; turn = turn.futures.items }) a.server.queue)
      ∙ ap (λ w. Some (with_thread w p (thread_of turn.words.items))) (sym (f threads))
      ∙ ap (λ v. Some (with_thread (world_of new threads) p v)) (sym z))
