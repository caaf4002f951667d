-- Processes of process closures take calls.
use Rattle.std.proofs.Common.{◌≡◌, ℕ, ◌+◌, Bool, true, false, List, [], ◌∷◌, ◌++◌, length, Option, Some, None, sym, ap, ◌∙◌, leb}
use Rattle.std.specs.Prelude.{if◌then◌else◌, slice_get}
use Rattle.std.proofs.lemmas.Option.{same_Some}
use Rattle.ql_base.specs.declared.limits.Limits.{Limits}
use Rattle.ql_base.specs.declared.limits.LimitKind.TheVariants.{Cells}
use Rattle.ql_world.specs.declared.word.Word.{Word}
use Rattle.ql_world.specs.declared.world.Kind.TheVariants.{Closure as serving}
use Rattle.ql_world.specs.declared.event.Event.TheVariants.{Take as take}
use Rattle.ql_world.specs.declared.event.Stop.{Stop}
use Rattle.ql_world.specs.declared.event.Stop.TheVariants.{Limit as limit}
use Rattle.ql_world.specs.World.{World, Call, ProcessClosure, numbered, change_numbered, counted, marked, with_event, with_server, with_thread}
use Rattle.ql_world.specs.Machine.{Machine, Want, replies}
use Rattle.ql_world.specs.Text.{short_text}
use Rattle.ql_world.specs.Word.{first_future}
use Rattle.ql_world.specs.Tick.{words_boxed, slots_of, with_boxes, has_cells, turn_boxes, with_next_turn, with_reply, replied_row, reply_to, reply_row, server_row, take_row, taken_row, row}
use Rattle.ql_cells.specs.Cells.{allows}
use Rattle.ql_calls.specs.Facts.{changed-at, changed-as}
use Rattle.ql_calls.specs.Taking.{oldest, oldest_at, taken, after_take}
use Rattle.ql_tree.specs.declared.person.Person.{Person}
use Rattle.ql_tree.specs.Persons.{process_of_person}
use Rattle.ql_code.specs.Code.{Code, unmasked}
use Rattle.ql_code.specs.declared.code.Op.TheVariants.{Return as return}
use Rattle.ql_code.specs.declared.mark.Mark.{Mark}
use Rattle.ql_code.specs.declared.mark.Mark.TheVariants.{Base as base}
use Rattle.ql_code.specs.declared.mark.State.TheVariants.{Resting as resting}
use Rattle.ql_code.specs.Machine.{Point, Entry, point, mark, words, top_mark, push_slots, settled, want_in, op_want, return_want, code_machine}
use Rattle.ql_host.specs.declared.shared.Shared.{Shared}
use Rattle.ql_host.specs.Awaited.{replied, awaited}
use Rattle.ql_host.specs.Resting.{IsCalled, IsAnswering, answered_world}
use Rattle.ql_host.specs.Room.{with_room}
use Rattle.ql_host.specs.World.{world_of, Acts, IsAt}
use Rattle.ql_host.proofs.Rooms.{fit_still}
use Rattle.ql_host.proofs.Making.{set_same}
use Rattle.ql_host.proofs.Awaits.{calm_want}
use Rattle.ql_host.proofs.RowTicks.{acts, row_tick, process_there, want_at}

-- what becomes of a closure whose oldest call is taken
module _ (servers : List (ProcessClosure Entry)) (k : ℕ) (s : ProcessClosure Entry) (c : Call) (cs : List Call) (e : numbered servers k ≡ Some s) (g : s.queue ≡ c ∷ cs) where
  pub next_taken : change_numbered after_take servers k ≡ change_numbered (λ t. record s { queue = cs; current = Some c }) servers k
  next_taken = changed-as after_take servers k s e ∙ ap (λ q. change_numbered (λ t. taken s q) servers k) g

  pub next_server : numbered (change_numbered after_take servers k) k ≡ Some (record s { queue = cs; current = Some c })
  next_server = changed-at after_take servers k s e ∙ ap (λ q. Some (taken s q)) g

  pub next_number : (o : Option ℕ) (n : ℕ) → o ≡ oldest_at (numbered servers k) → o ≡ Some n → n ≡ c.number
  next_number o n a b = same_Some n c.number (sym b ∙ a ∙ ap oldest_at e ∙ ap oldest g)

module _ (code : Code) (names : List (List ℕ)) (limits : Limits) (p : ℕ) where
  abbrev M : Machine Point Entry
  M = code_machine code.instructions

  -- Where the row of what a process wants errs or meets a limit, the tick is counted, and the run is marked.
  pub stops_wanting : (r : Person) (old new : Shared) (t : Point) (stop : Stop)
      → ((threads : List Point) → row M names limits p (process_of_person r t) (counted (world_of old threads) p) (M.want t) ≡ Some (marked (counted (world_of old threads) p) stop))
      → ((threads : List Point) → world_of new threads ≡ marked (counted (world_of old threads) p) stop)
      → Acts code names limits p r old t new t
  stops_wanting r old new t stop f g threads i e s n c =
      row_tick code names limits p (process_of_person r t) (world_of old threads) (process_there code names limits p old r t threads i e s n) c
      ∙ f threads
      ∙ ap Some (sym (g threads) ∙ ap (world_of new) (sym (set_same threads i t s)))

  -- a process at rest for which a call waits
  module _ (r : Person) (old : Shared) (t : Point) (h : IsCalled names limits old r t) where
    abbrev W : List Point → World Point Entry
    W threads = counted (world_of old threads) p

    abbrev mask : List Bool
    mask = unmasked h.server.body.count h.server.body.mask

    abbrev stored : ℕ
    stored = length (words_boxed mask h.next.arguments)

    abbrev taken_if : List Point → Bool → Option (World Point Entry)
    taken_if threads b =
        if b
        then Some (with_thread (with_event (with_server (with_boxes (W threads) (words_boxed mask h.next.arguments)) h.number (record h.server { queue = h.later; current = Some h.next })) (take p h.number h.next.number))
        p (M.started h.server.body (slots_of mask h.next.arguments (length old.cells.boxes))))
        else Some (marked (W threads) (limit Cells))

    taking : (threads : List Point) (b : Bool) → allows old.cells stored ≡ b → row M names limits p (process_of_person r t) (W threads) (M.want t) ≡ taken_if threads b
    taking threads b e =
        ap (λ s. row M names limits p (process_of_person r t) (W threads) (want_in code.instructions s t.place t.stack)) h.rests
        ∙ ap (server_row M names limits p (process_of_person r t) (λ k. take_row M names limits p (process_of_person r t) (W threads) k (numbered old.calls.servers k))) h.serves
        ∙ ap (take_row M names limits p (process_of_person r t) (W threads) h.number) h.known
        ∙ ap (taken_row M names limits p (process_of_person r t) (W threads) h.number h.server) h.queue
        ∙ ap (taken_if threads) (ap (leb (old.cells.made + stored)) (sym h.fit.cells) ∙ e)

    pub take_full : allows old.cells stored ≡ false → (new : Shared) → ((threads : List Point) → world_of new threads ≡ marked (W threads) (limit Cells)) → Acts code names limits p r old t new t
    take_full e new m = stops_wanting r old new t (limit Cells) (λ threads. taking threads false e) m

    pub take_done : allows old.cells stored ≡ true → (new : Shared) (u : Point)
        → ((threads : List Point) → world_of new threads
        ≡ with_event (with_server (with_boxes (W threads) (words_boxed mask h.next.arguments)) h.number (record h.server { queue = h.later; current = Some h.next })) (take p h.number h.next.number))
        → u ≡ settled code.instructions h.server.body.place (push_slots (slots_of mask h.next.arguments (length old.cells.boxes) ++ h.server.body.captured) (mark (base None) ∷ []))
        → Acts code names limits p r old t new u
    take_done e new u f z =
        acts code names limits p r old new t u
        (λ threads c. taking threads true e
        ∙ ap (λ w. Some (with_thread w p (M.started h.server.body (slots_of mask h.next.arguments (length old.cells.boxes))))) (sym (f threads))
        ∙ ap (λ v. Some (with_thread (world_of new threads) p v)) (sym z))

-- room that was taken changes nothing of it
abbrev pub called_still : (code : Code) (names : List (List ℕ)) (limits : Limits) (p : ℕ) (r : Person) (old mid : Shared) (t : Point) → mid ≡ with_room old mid → IsCalled names limits old r t → IsCalled names limits mid r t
called_still code names limits p r old mid t same h =
    record {
      fit = fit_still code names limits p r old mid same h.fit;
      rests = h.rests;
      number = h.number;
      server = h.server;
      next = h.next;
      later = h.later;
      serves = h.serves;
      known = ap (λ (x : Shared). numbered x.calls.servers h.number) same ∙ h.known;
      queue = h.queue;
      counts = h.counts;
    }

same_serving : (a b : ℕ) → serving a ≡ serving b → a ≡ b
same_serving a b e = cc

-- what was looked up is what is known
module _ (names : List (List ℕ)) (limits : Limits) (r : Person) (old : Shared) (t : Point) (h : IsCalled names limits old r t) (k : ℕ) (kind : r.kind ≡ serving k) where
  pub number_found : k ≡ h.number
  number_found = same_serving k h.number (sym kind ∙ h.serves)

  module _ (server : ProcessClosure Entry) (found : numbered old.calls.servers k ≡ Some server) where
    pub server_found : server ≡ h.server
    server_found = same_Some server h.server (sym found ∙ ap (numbered old.calls.servers) number_found ∙ h.known)

    pub call_found : (call : Call) → slice_get server.queue 0 ≡ Some call → call ≡ h.next
    call_found call e = same_Some call h.next (sym e ∙ ap (λ (s : ProcessClosure Entry). slice_get s.queue 0) server_found ∙ ap (λ q. slice_get q 0) h.queue)

    pub stored_found : (call : Call) (body : Entry) (arguments stored : List Word) → slice_get server.queue 0 ≡ Some call → body ≡ server.body → arguments ≡ call.arguments
        → stored ≡ words_boxed (unmasked (length arguments) body.mask) arguments
        → stored ≡ words_boxed (unmasked h.server.body.count h.server.body.mask) h.next.arguments
    stored_found call body arguments boxed e b a s =
        s
        ∙ ap (λ (k : Entry). words_boxed (unmasked (length arguments) k.mask) arguments) (b ∙ ap (λ (s : ProcessClosure Entry). s.body) server_found)
        ∙ ap (λ ws. words_boxed (unmasked (length ws) h.server.body.mask) ws) (a ∙ ap (λ (c : Call). c.arguments) (call_found call e))
        ∙ ap (λ n. words_boxed (unmasked n h.server.body.mask) h.next.arguments) h.counts

-- A process answers the call in progress.

module _ (code : Code) (names : List (List ℕ)) (limits : Limits) (p : ℕ) (r : Person) (old : Shared) (t : Point) (at : ℕ) (h : IsAt code names limits p old r t return at) (calm : awaited return t.stack ≡ None)
    (j : Option ℕ) (bottom : top_mark t.stack ≡ Some (base j)) (x : Word) (top : words 1 t.stack ≡ x ∷ []) (a : IsAnswering old r) where
  abbrev pub its_row : List Point → Want → Option (World Point Entry)
  its_row threads = row (code_machine code.instructions) names limits p (process_of_person r t) (counted (world_of old threads) p)

  calm_top : first_future (words 1 t.stack) ≡ None
  calm_top = sym (ap (λ (k : Option Mark). replied k (first_future (words 1 t.stack))) bottom) ∙ calm

  pub replying : (threads : List Point) → its_row threads (op_want return at t.stack) ≡ Some (replied_row (code_machine code.instructions) names limits p (process_of_person r t) (counted (world_of old threads) p) a.number a.server a.call x)
  replying threads =
      ap (λ (k : Option Mark). its_row threads (return_want k (words 1 t.stack) at)) bottom
      ∙ ap (its_row threads) (calm_want t.stack x at replies top calm_top)
      ∙ ap (server_row (code_machine code.instructions) names limits p (process_of_person r t)
      (λ k. reply_row (code_machine code.instructions) names limits p (process_of_person r t) (counted (world_of old threads) p) k (numbered old.calls.servers k) x)) a.serves
      ∙ ap (λ s. reply_row (code_machine code.instructions) names limits p (process_of_person r t) (counted (world_of old threads) p) a.number s x) a.known
      ∙ ap (λ c. reply_to (code_machine code.instructions) names limits p (process_of_person r t) (counted (world_of old threads) p) a.number a.server c x) a.current

  pub reply_rests : a.server.eager ≡ false → (new : Shared) (u : Point)
      → ((threads : List Point) → world_of new threads ≡ answered_world p a.number a.call.number a.call.reply x (short_text names old.cells.pairs x) (counted (world_of old threads) p))
      → u ≡ point a.server.body.place (mark (base None) ∷ []) resting
      → Acts code names limits p r old t new u
  reply_rests e new u f z =
      acts code names limits p r old new t u
      (λ threads c.
      ap (its_row threads) (want_at code names limits p t return at h.runs h.here)
      ∙ replying threads
      ∙ ap (λ (b : Bool). Some (if b
      then (if has_cells limits (counted (world_of old threads) p) (length (turn_boxes (code_machine code.instructions) names limits p (process_of_person r t) (counted (world_of old threads) p) a.server.body))
      then with_next_turn (code_machine code.instructions) names limits p (process_of_person r t) (with_reply (code_machine code.instructions) names limits p (process_of_person r t) (counted (world_of old threads) p) a.number a.server a.call x) a.number a.server
      else marked (counted (world_of old threads) p) (limit Cells))
      else with_thread (with_reply (code_machine code.instructions) names limits p (process_of_person r t) (counted (world_of old threads) p) a.number a.server a.call x) p ((code_machine code.instructions).at_rest a.server.body))) e
      ∙ ap (λ (ss : List (ProcessClosure Entry)). Some (with_thread (record (answered_world p a.number a.call.number a.call.reply x (short_text names old.cells.pairs x) (counted (world_of old threads) p)) { servers = ss }) p ((code_machine code.instructions).at_rest a.server.body)))
      (sym (changed-as (λ s. record s { current = None }) old.calls.servers a.number a.server a.known))
      ∙ ap (λ w. Some (with_thread w p ((code_machine code.instructions).at_rest a.server.body))) (sym (f threads))
      ∙ ap (λ v. Some (with_thread (world_of new threads) p v)) (sym z))

-- room that was taken changes nothing of it
abbrev pub answering_still : (r : Person) (old mid : Shared) → mid ≡ with_room old mid → IsAnswering old r → IsAnswering mid r
answering_still r old mid same a =
    record {
      number = a.number;
      server = a.server;
      call = a.call;
      serves = a.serves;
      known = ap (λ (x : Shared). numbered x.calls.servers a.number) same ∙ a.known;
      current = a.current;
    }

module _ (r : Person) (old : Shared) (a : IsAnswering old r) (k : ℕ) (kind : r.kind ≡ serving k) where
  pub answered_number : k ≡ a.number
  answered_number = same_serving k a.number (sym kind ∙ a.serves)

  pub answered_server : (server : ProcessClosure Entry) → numbered old.calls.servers k ≡ Some server → server ≡ a.server
  answered_server server found = same_Some server a.server (sym found ∙ ap (numbered old.calls.servers) answered_number ∙ a.known)

  pub answered_call : (server : ProcessClosure Entry) → numbered old.calls.servers k ≡ Some server → (call : Call) → server.current ≡ Some call → call ≡ a.call
  answered_call server found call e = same_Some call a.call (sym e ∙ ap (λ (s : ProcessClosure Entry). s.current) (answered_server server found) ∙ a.current)
