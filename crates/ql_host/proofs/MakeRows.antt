-- The tick that makes a process closure.
use Rattle.std.proofs.Common.{◌≡◌, ◌≤◌, ◌<◌, ℕ, ◌+◌, Bool, true, false, ◌||◌, if◌then◌else◌, List, [], ◌∷◌, ◌++◌, length, map, Option, Some, None, sym, ap, ◌∙◌, leb}
use Rattle.std.specs.Prelude.{drop as without_first}
use Rattle.std.proofs.lemmas.Bool.{le-leb, lt-leb}
use Rattle.ql_base.specs.declared.limits.Limits.{Limits}
use Rattle.ql_base.specs.declared.limits.LimitKind.TheVariants.{Cells, Procs}
use Rattle.ql_world.specs.Word.{is_nil, is_eager}
use Rattle.ql_world.specs.declared.word.Word.{Word}
use Rattle.ql_world.specs.declared.word.Word.TheVariants.{Fun as closure, Proc as process_closure, Fut as future}
use Rattle.ql_world.specs.declared.world.Closure.{Closure}
use Rattle.ql_world.specs.declared.world.Kind.TheVariants.{Closure as serving}
use Rattle.ql_world.specs.declared.world.Process.{Process}
use Rattle.ql_world.specs.declared.event.Mode.{Mode}
use Rattle.ql_world.specs.declared.event.Mode.TheVariants.{Call as called, Eager as begun_at_once}
use Rattle.ql_world.specs.declared.event.Event.TheVariants.{Spawn as spawn}
use Rattle.ql_world.specs.declared.event.Stop.TheVariants.{Limit as limit}
use Rattle.ql_world.specs.World.{World, counted, marked, with_thread, numbers, process_of}
use Rattle.ql_world.specs.Machine.{Machine, makes, got}
use Rattle.ql_world.specs.Idle.{in_cleanup}
use Rattle.ql_world.specs.Tick.{goes, meets, row, make_row, close_row, process_row, made_eager, made_plain, or_home, slots_of, words_boxed, with_boxes, with_futures, with_server_made}
use Rattle.ql_cells.specs.Cells.{allows}
use Rattle.ql_calls.specs.Calls.{new_server}
use Rattle.ql_tree.specs.declared.person.Person.{Person}
use Rattle.ql_tree.specs.Tree.{new_person}
use Rattle.ql_tree.specs.Persons.{process_of_person, joined}
use Rattle.ql_tree.specs.Joined.{joined-append, joined-length}
use Rattle.ql_code.specs.declared.code.Op.TheVariants.{Qlambda as qlambda}
use Rattle.ql_code.specs.declared.mark.Mark.TheVariants.{Base as base}
use Rattle.ql_code.specs.declared.mark.State.{State}
use Rattle.ql_code.specs.declared.mark.State.TheVariants.{Resting as resting}
use Rattle.ql_code.specs.Code.{Code, Instruction, unmasked}
use Rattle.ql_code.specs.Machine.{Point, Entry, point, mark, word, words, push_slots, settled, frame_of, slots_at, cleanups_on, innermost_on, next_of, entry_by, op_want, op_go, word_go, code_machine}
use Rattle.ql_host.specs.declared.shared.Shared.{Shared}
use Rattle.ql_host.specs.declared.turns.Turn.{Turn}
use Rattle.ql_host.specs.Awaited.{awaited}
use Rattle.ql_host.specs.Turns.{IsTurn}
use Rattle.ql_host.specs.World.{world_of, IsAt}
use Rattle.ql_host.specs.Making.{ActsMaking}
use Rattle.ql_host.proofs.Awaits.{calm_want, calm_go}
use Rattle.ql_host.proofs.CallRows.{unmasked_length}
use Rattle.ql_host.proofs.Making.{makes_at, makes_none, stops_making}
use Rattle.ql_host.proofs.RowTicks.{acts_at}

-- a process closure and its process are made
pub server_added : (old : Shared) (p home k q : ℕ) (mode : Mode) (body : Closure) (eager : Bool) (turn : List ℕ) (threads : List Point) (t : Point)
    → k ≡ length old.calls.servers + 1 → q ≡ length old.tree.persons + 1 → mode ≡ (if eager then begun_at_once k else called k) → length threads ≡ length old.tree.persons
    → record (world_of old threads) {
      servers = old.calls.servers ++ new_server q body eager turn ∷ [];
      procs = joined (old.tree.persons ++ new_person home (serving k) ∷ []) (threads ++ t ∷ []);
      events = spawn p q home mode ∷ old.history.events;
    } ≡ with_server_made (world_of old threads) p home body eager turn t
server_added old p home k q mode body eager turn threads t d e m l =
    ap (λ (ps : List (Process Point)). record (world_of old threads) { servers = old.calls.servers ++ new_server q body eager turn ∷ []; procs = ps; events = spawn p q home mode ∷ old.history.events })
    (joined-append old.tree.persons threads (new_person home (serving k)) t (sym l))
    ∙ ap (λ n. record (world_of old threads) { servers = old.calls.servers ++ new_server q body eager turn ∷ []; procs = joined old.tree.persons threads ++ process_of home (serving k) t ∷ []; events = spawn p q home n ∷ old.history.events }) m
    ∙ ap (λ j. record (world_of old threads) { servers = old.calls.servers ++ new_server q body eager turn ∷ []; procs = joined old.tree.persons threads ++ process_of home (serving j) t ∷ []; events = spawn p q home (if eager then begun_at_once j else called j) ∷ old.history.events }) d
    ∙ ap (λ i. let j = length old.calls.servers + 1 in record (world_of old threads) { servers = old.calls.servers ++ new_server i body eager turn ∷ []; procs = joined old.tree.persons threads ++ process_of home (serving j) t ∷ []; events = spawn p i home (if eager then begun_at_once j else called j) ∷ old.history.events })
    (e ∙ ap (λ n. n + 1) (sym (joined-length old.tree.persons threads (sym l) ∙ l)))

module _ (code : Code) (names : List (List ℕ)) (limits : Limits) (p : ℕ) (r : Person) (old : Shared) (t : Point) (n mask : ℕ) (is : List ℕ) (l at : ℕ) (x : Word)
    (h : IsAt code names limits p old r t (qlambda n mask is l) at) (calm : awaited (qlambda n mask is l) t.stack ≡ None) (top : words 1 t.stack ≡ x ∷ []) where
  abbrev M : Machine Point Entry
  M = code_machine code.instructions

  abbrev W : List Point → World Point Entry
  W threads = counted (world_of old threads) p

  abbrev Q : Process Point
  Q = process_of_person r t

  abbrev home : ℕ
  home = or_home (innermost_on t.stack) r.home

  abbrev body : Closure
  body = record { place = t.place + 1; count = n; mask = mask; captured = slots_at (frame_of t.stack) is }

  its_closure : M.closure t ≡ Some body
  its_closure =
      ap (λ (s : State). entry_by code.instructions (next_of code.instructions s t.place) t.place t.stack) h.runs
      ∙ ap (λ (o : Option Instruction). entry_by code.instructions o t.place t.stack) h.here

  abbrev by_mode : List Point → Bool → Option (World Point Entry)
  by_mode threads b = if b then close_row M names limits p Q (W threads) (Some body) else process_row M names limits p Q (W threads) (is_eager x) (Some body)

  lambda_row : (threads : List Point) (b : Bool) → (is_nil x || in_cleanup (cleanups_on t.stack)) ≡ b → row M names limits p Q (W threads) (op_want (qlambda n mask is l) at t.stack) ≡ by_mode threads b
  lambda_row threads b e =
      ap (row M names limits p Q (W threads)) (calm_want t.stack x at makes top calm)
      ∙ ap (λ (o : Option Closure). make_row M names limits p Q (W threads) x o) its_closure
      ∙ ap (by_mode threads) e

  goes_on : (v : Word) → op_go code.instructions (qlambda n mask is l) (got v) t.place t.stack ≡ settled code.instructions l (word v ∷ without_first 1 t.stack)
  goes_on v = calm_go code.instructions (got v) t.place t.stack x (word_go code.instructions l (got v) t.place) top calm

  abbrev with_closure : List Point → World Point Entry
  with_closure threads = record (W threads) { closures = old.cells.closures ++ body ∷ []; cells = old.cells.made + 1 }

  abbrev closed_by : List Point → Bool → Option (World Point Entry)
  closed_by threads b =
      if b then Some (goes M names limits p Q (with_closure threads) (got (closure (length old.cells.closures + 1)))) else Some (meets M names limits p Q (W threads) Cells)

  closed_row : (threads : List Point) (b : Bool) → (is_nil x || in_cleanup (cleanups_on t.stack)) ≡ true → allows old.cells 1 ≡ b
      → row M names limits p Q (W threads) (op_want (qlambda n mask is l) at t.stack) ≡ closed_by threads b
  closed_row threads b e a = lambda_row threads true e ∙ ap (closed_by threads) (ap (leb (old.cells.made + 1)) (sym h.fit.cells) ∙ a)

  pub lambda_closed : (new : Shared) (u : Point) → (is_nil x || in_cleanup (cleanups_on t.stack)) ≡ true → allows old.cells 1 ≡ true
      → ((threads : List Point) → world_of new threads ≡ with_closure threads)
      → u ≡ settled code.instructions l (word (closure (length old.cells.closures + 1)) ∷ without_first 1 t.stack)
      → ActsMaking code names limits p r old t new u []
  lambda_closed new u e a f z =
      makes_none code names limits p r old new t u
      (acts_at code names limits p r old new t u (qlambda n mask is l) at h (got (closure (length old.cells.closures + 1)))
      (λ threads c.
      closed_row threads true e a
      ∙ ap (λ w. Some (with_thread w p (M.go t (got (closure (length old.cells.closures + 1)))))) (sym (f threads)))
      (goes_on (closure (length old.cells.closures + 1)) ∙ sym z))

  pub lambda_refused : (new : Shared) → (is_nil x || in_cleanup (cleanups_on t.stack)) ≡ true → allows old.cells 1 ≡ false
      → ((threads : List Point) → world_of new threads ≡ marked (W threads) (limit Cells))
      → ActsMaking code names limits p r old t new t []
  lambda_refused new e a f =
      stops_making code names limits p r old new t (qlambda n mask is l) at h (limit Cells) (λ threads k. closed_row threads false e a) f

  abbrev served_by : List Point → Bool → Bool → Option (World Point Entry)
  served_by threads eager b =
      if b then Some (if eager then made_eager M names limits p Q (W threads) body else made_plain M names limits p Q (W threads) body) else Some (meets M names limits p Q (W threads) Procs)

  served_row : (threads : List Point) (b : Bool) → length threads ≡ length old.tree.persons → (is_nil x || in_cleanup (cleanups_on t.stack)) ≡ false
      → leb (length old.tree.persons + 1) old.tree.limit ≡ b
      → row M names limits p Q (W threads) (op_want (qlambda n mask is l) at t.stack) ≡ served_by threads (is_eager x) b
  served_row threads b k e a =
      lambda_row threads false e
      ∙ ap (served_by threads (is_eager x))
      (ap (λ i. leb (i + 1) limits.procs) (joined-length old.tree.persons threads (sym k) ∙ k)
      ∙ ap (leb (length old.tree.persons + 1)) (sym h.fit.procs)
      ∙ a)

  pub lambda_full : (new : Shared) → (is_nil x || in_cleanup (cleanups_on t.stack)) ≡ false → old.tree.limit < length old.tree.persons + 1
      → ((threads : List Point) → world_of new threads ≡ marked (W threads) (limit Procs))
      → ActsMaking code names limits p r old t new t []
  lambda_full new e a f =
      stops_making code names limits p r old new t (qlambda n mask is l) at h (limit Procs)
      (λ threads k. served_row threads false k e (lt-leb (length old.tree.persons + 1) old.tree.limit a)) f

  abbrev its_word : Word
  its_word = process_closure (length old.calls.servers + 1)

  pub lambda_plain : (new : Shared) (u c : Point) → (is_nil x || in_cleanup (cleanups_on t.stack)) ≡ false → is_eager x ≡ false → length old.tree.persons + 1 ≤ old.tree.limit
      → c ≡ point body.place (mark (base None) ∷ []) resting
      → ((threads : List Point) → length threads ≡ length old.tree.persons → world_of new (threads ++ c ∷ []) ≡ with_server_made (W threads) p home body false [] c)
      → u ≡ settled code.instructions l (word its_word ∷ without_first 1 t.stack)
      → ActsMaking code names limits p r old t new u (c ∷ [])
  lambda_plain new u c e g a d f z =
      makes_at code names limits p r old new t u (qlambda n mask is l) at h (got its_word) (c ∷ [])
      (λ threads k.
      served_row threads true k e (le-leb (length old.tree.persons + 1) old.tree.limit a)
      ∙ ap (λ b. served_by threads b true) g
      ∙ ap (λ v. Some (with_thread (with_server_made (W threads) p home body false [] v) p (M.go t (got its_word)))) (sym d)
      ∙ ap (λ w. Some (with_thread w p (M.go t (got its_word)))) (sym (f threads k)))
      (goes_on its_word ∙ sym z)

  -- an eager one
  module _ (turn : Turn) (its : IsTurn (length old.futures.states + 1) n mask turn) where
    abbrev eager_by : List Point → Bool → (m : ℕ) → (stored : List Word) → (turn : List ℕ) → (c : Point) → Option (World Point Entry)
    eager_by threads b m stored fs c =
        Some
        (if b
        then with_thread (with_server_made (with_boxes (with_futures (W threads) m) stored) p home body true fs c) p (M.go t (got its_word))
        else marked (W threads) (limit Cells))

    abbrev thread_of : List Word → Point
    thread_of ws = settled code.instructions body.place (push_slots (slots_of (unmasked n mask) ws (length old.cells.boxes) ++ body.captured) (mark (base None) ∷ []))

    abbrev eager_of : List Point → Bool → (m : ℕ) → Option (World Point Entry)
    eager_of threads b m =
        let fs = numbers (length old.futures.states + 1) m in
        eager_by threads b m (words_boxed (unmasked n mask) (map future fs)) fs (thread_of (map future fs))

    eager_row : (threads : List Point) (b : Bool) → length threads ≡ length old.tree.persons → (is_nil x || in_cleanup (cleanups_on t.stack)) ≡ false → is_eager x ≡ true
        → length old.tree.persons + 1 ≤ old.tree.limit → allows old.cells (length turn.stored.items) ≡ b
        → row M names limits p Q (W threads) (op_want (qlambda n mask is l) at t.stack) ≡ eager_by threads b n turn.stored.items turn.futures.items (thread_of turn.words.items)
    eager_row threads b k e g a q =
        served_row threads true k e (le-leb (length old.tree.persons + 1) old.tree.limit a)
        ∙ ap (λ v. served_by threads v true) g
        ∙ ap (λ m. eager_of threads (leb (old.cells.made + length (words_boxed (unmasked n mask) (map future (numbers (length old.futures.states + 1) m)))) limits.cells) m) (unmasked_length n mask)
        ∙ ap (λ ws. eager_by threads (leb (old.cells.made + length ws) limits.cells) n ws (numbers (length old.futures.states + 1) n) (thread_of (map future (numbers (length old.futures.states + 1) n)))) (sym its.stored)
        ∙ ap (λ ws. eager_by threads (leb (old.cells.made + length turn.stored.items) limits.cells) n turn.stored.items (numbers (length old.futures.states + 1) n) (thread_of ws)) (sym its.words)
        ∙ ap (λ fs. eager_by threads (leb (old.cells.made + length turn.stored.items) limits.cells) n turn.stored.items fs (thread_of turn.words.items)) (sym its.futures)
        ∙ ap (λ v. eager_by threads v n turn.stored.items turn.futures.items (thread_of turn.words.items)) (ap (leb (old.cells.made + length turn.stored.items)) (sym h.fit.cells) ∙ q)

    pub eager_full : (new : Shared) → (is_nil x || in_cleanup (cleanups_on t.stack)) ≡ false → is_eager x ≡ true → length old.tree.persons + 1 ≤ old.tree.limit
        → allows old.cells (length turn.stored.items) ≡ false
        → ((threads : List Point) → world_of new threads ≡ marked (W threads) (limit Cells))
        → ActsMaking code names limits p r old t new t []
    eager_full new e g a q f =
        stops_making code names limits p r old new t (qlambda n mask is l) at h (limit Cells) (λ threads k. eager_row threads false k e g a q) f

    pub eager_made : (new : Shared) (u c : Point) → (is_nil x || in_cleanup (cleanups_on t.stack)) ≡ false → is_eager x ≡ true → length old.tree.persons + 1 ≤ old.tree.limit
        → allows old.cells (length turn.stored.items) ≡ true
        → c ≡ thread_of turn.words.items
        → ((threads : List Point) → length threads ≡ length old.tree.persons
        → world_of new (threads ++ c ∷ []) ≡ with_server_made (with_boxes (with_futures (W threads) n) turn.stored.items) p home body true turn.futures.items c)
        → u ≡ settled code.instructions l (word its_word ∷ without_first 1 t.stack)
        → ActsMaking code names limits p r old t new u (c ∷ [])
    eager_made new u c e g a q d f z =
        makes_at code names limits p r old new t u (qlambda n mask is l) at h (got its_word) (c ∷ [])
        (λ threads k.
        eager_row threads true k e g a q
        ∙ ap (eager_by threads true n turn.stored.items turn.futures.items) (sym d)
        ∙ ap (λ w. Some (with_thread w p (M.go t (got its_word)))) (sym (f threads k)))
        (goes_on its_word ∙ sym z)
