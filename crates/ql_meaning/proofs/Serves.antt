-- Rows on the world by which processes are made, and calls are sent, taken and answered.
use Rattle.std.proofs.Common.{◌≡◌, ℕ, ◌+◌, ◌==◌, Bool, true, false, List, [], ◌∷◌, ◌++◌, length, Option, Some, None, refl, sym, ap, ◌∙◌, subst, eqb-true}
use Rattle.std.specs.Prelude.{if◌then◌else◌, not, ◌&&◌, map, replicate, is_none}
use Rattle.ql_base.specs.declared.limits.Limits.{Limits}
use Rattle.ql_world.specs.Word.{nil}
use Rattle.ql_world.specs.declared.word.Word.{Word}
use Rattle.ql_world.specs.declared.word.Slot.{Slot}
use Rattle.ql_world.specs.declared.word.Word.TheVariants.{Proc as process_closure, Fut as future}
use Rattle.ql_world.specs.declared.event.Mode.TheVariants.{Eager as event_eager}
use Rattle.ql_base.specs.declared.fault.RunFault.TheVariants.{WrongCount, DeadClosure}
use Rattle.ql_base.specs.declared.limits.LimitKind.TheVariants.{Cells}
use Rattle.ql_world.specs.declared.event.Stop.TheVariants.{Fault as fault, Limit as limit}
use Rattle.ql_world.specs.declared.event.Mode.{Mode}
use Rattle.ql_world.specs.declared.event.Mode.TheVariants.{Let as binding, Call as called}
use Rattle.ql_world.specs.declared.event.Event.TheVariants.{Spawn as spawn, Send as send, Take as take, Reply as reply}
use Rattle.ql_world.specs.World.{Call, World, numbered, change_numbered, numbers, process_of, marked, with_event, with_thread, with_server}
use Rattle.ql_world.specs.declared.world.FutState.{FutState as Future}
use Rattle.ql_world.specs.declared.world.FutState.TheVariants.{Pending as pending}
use Rattle.ql_world.specs.declared.world.Aim.TheVariants.{Free as free}
use Rattle.ql_world.specs.declared.world.Kind.TheVariants.{Child as child, Closure as serving}
use Rattle.ql_world.specs.declared.world.Process.{Process}
use Rattle.ql_world.specs.Within.{is_live}
use Rattle.ql_world.specs.Machine.{got, Machine}
use Rattle.ql_world.specs.Idle.{in_cleanup}
use Rattle.ql_world.specs.Tick.{words_boxed, slots_of, filled, answered, or_home, has_cells, with_boxes, next_futures, with_child, with_children, with_server_made, with_call, with_next_call, turn_words, turn_boxes, with_turn, turn_thread, made_eager, made_plain, with_sent, sent_row, send_row, taken_row, take_row, with_reply, with_next_turn, replied_row, reply_to, reply_row}
use Rattle.ql_world.specs.Text.{short_text}
use Rattle.ql_meaning.specs.Context.{Context, stored_among}
use Rattle.ql_meaning.specs.Control.{server_base, Thread, Closure, bind_all, innermost_on, core_machine}
use Rattle.ql_meaning.specs.Sane.{of_child, of_server, Mark, base_mark, Standing, works, rests, standing, Seen, seen, Server, Outline, outline, innermost_or, cleanups_of, Among, Reason, of_reply, of_parameter, Sane}
use Rattle.ql_meaning.proofs.Lists.{not_both, one, put, put_at, put_known, put_again, numbered_longer, push_at, map_push, map_length}
use Rattle.ql_meaning.proofs.Threads.{working, descend_stands}
use Rattle.ql_meaning.proofs.Joins.{row_child, row_server, among_numbers, numbers_length, replicate_length}
use Rattle.ql_meaning.proofs.Calls.{row_send_queued, row_send_taken, row_take, row_reply_plain, row_reply_idle, row_reply_next}
use Rattle.ql_meaning.proofs.Worlds.{Good, sane_by, sane_if, good_if, standing_as, thread_procs, thread_out, seen_at, local}

append_nil : {A : Type 0} (xs : List A) → xs ++ [] ≡ xs
append_nil [] = refl
append_nil (x ∷ xs) = ap (λ z. x ∷ z) (append_nil xs)

-- an item that is known changes once more
put_more : {A : Type 0} (g : A → A) (xs : List A) (k : ℕ) (a y : A) → numbered xs k ≡ Some a → change_numbered g (put xs k y) k ≡ put xs k (g y)
put_more g xs k a y at = put_known g (put xs k y) k y (put_at xs k a y at) ∙ put_again y (g y) xs k

-- each of these threads begins at the base of a child
abbrev pub AllBegin : List Thread → Type 0
AllBegin [] = Unit {0}
AllBegin (t ∷ ts) = (standing t ≡ working (base_mark of_child ∷ [])) × AllBegin ts

module _ (x : Context) (names : List (List ℕ)) (limits : Limits) (p : ℕ) (q : Process Thread) (going : q.ended ≡ false) (free_now : q.aim ≡ free) (no_cleanup : in_cleanup (cleanups_of (seen q).thread.marks) ≡ false) (around : or_home (innermost_on q.thread.frames) q.home ≡ innermost_or q.home (seen q).thread.marks) where
  abbrev m : Machine Thread Closure
  m = core_machine x

  abbrev place : ℕ
  place = or_home (innermost_on q.thread.frames) q.home

  -- children

  one_child : (w : World Thread Closure) → Sane w → numbered w.procs p ≡ Some q → (t : Thread) → standing t ≡ working (base_mark of_child ∷ []) → Sane (with_child w p (or_home (innermost_on q.thread.frames) q.home) t)
  one_child w s at t begins =
      sane_by (with_child w p place t) _
      (λ i. whole (procs i) (sym (map_length seen w.procs) i) (around i))
      (row_child (outline w) s p (seen q) (seen_at w p q at) going free_now no_cleanup binding)
    where
      whole : List Seen → ℕ → ℕ → Outline
      whole rs n h = record { catches = w.catches; procs = rs; servers = w.servers; futures = w.futures ++ pending ∷ []; protects = w.protects; events = spawn p (n + 1) h binding ∷ (outline w).events }

      new : ℕ → Standing → Seen
      new h st = record { home = h; kind = child (length w.futures + 1); aim = free; thread = st; ended = false }

      procs : map seen (w.procs ++ process_of place (child (length w.futures + 1)) t ∷ []) ≡ map seen w.procs ++ new (innermost_or q.home (seen q).thread.marks) (working (base_mark of_child ∷ [])) ∷ []
      procs = map_push seen w.procs (process_of place (child (length w.futures + 1)) t) ∙ (λ i. map seen w.procs ++ new (around i) (begins i) ∷ [])

  pub children_sane : (ts : List Thread) → AllBegin ts → (w : World Thread Closure) → Sane w → numbered w.procs p ≡ Some q → Sane (with_children w p (or_home (innermost_on q.thread.frames) q.home) ts) × (numbered (with_children w p (or_home (innermost_on q.thread.frames) q.home) ts).procs p ≡ Some q)
  children_sane [] a w s at = (s, at)
  children_sane (t ∷ ts) a w s at =
      children_sane ts a.1 (with_child w p place t) (one_child w s at t a.0) (numbered_longer w.procs (process_of place (child (length w.futures + 1)) t ∷ []) p q at)

  -- process closures

  module _ (w : World Thread Closure) (s : Sane w) (at : numbered w.procs p ≡ Some q) (k : Closure) where
    stored_length : length (stored_among x k.parameters) ≡ length k.parameters
    stored_length = map_length _ k.parameters

    abbrev whole : List Seen → ℕ → ℕ → (e : Bool) → List ℕ → List Future → Mode → Outline
    whole rs n h e turn fs mode = record { catches = w.catches; procs = rs; servers = w.servers ++ record { process = n + 1; body = k; eager = e; sent = 0; queue = []; current = None; turn = turn; dead = false } ∷ []; futures = fs; protects = w.protects; events = spawn p (n + 1) h mode ∷ (outline w).events }

    abbrev new : ℕ → Standing → Seen
    new h st = record { home = h; kind = serving (length w.servers + 1); aim = free; thread = st; ended = false }

    procs : (t : Thread) (st : Standing) → standing t ≡ st → map seen (w.procs ++ process_of place (serving (length w.servers + 1)) t ∷ []) ≡ map seen w.procs ++ new (innermost_or q.home (seen q).thread.marks) st ∷ []
    procs t st e = map_push seen w.procs (process_of place (serving (length w.servers + 1)) t) ∙ (λ i. map seen w.procs ++ new (around i) (e i) ∷ [])

    plain_sane : Sane (with_server_made w p place k false [] (m.at_rest k))
    plain_sane =
        sane_by (with_server_made w p place k false [] (m.at_rest k)) _
        (λ i. whole (procs (m.at_rest k) (record { marks = base_mark of_server ∷ []; doing = rests }) refl i) (sym (map_length seen w.procs) i) (around i) false [] (sym (append_nil w.futures) i) (called (length w.servers + 1)))
        (row_server (outline w) s p (seen q) (seen_at w p q at) going free_now no_cleanup rests refl k false [] (λ e. absurd (not_both e refl)) (λ e. refl) (λ e. refl) [] [] refl (called (length w.servers + 1)) (λ f h. absurd h))

    pub made_plain_good : ((v : Word) → standing (m.go q.thread (got v)) ≡ standing q.thread) → Sane (made_plain m names limits p q w k)
    made_plain_good goes =
        local (with_server_made w p place k false [] (m.at_rest k)) p q (m.go q.thread (got (process_closure (length w.servers + 1)))) plain_sane
        (numbered_longer w.procs (process_of place (serving (length w.servers + 1)) (m.at_rest k) ∷ []) p q at) (goes (process_closure (length w.servers + 1)))

    abbrev many : ℕ
    many = length (stored_among x k.parameters)

    eager_sane : Sane (with_server_made (with_turn m names limits p q w k) p place k true (next_futures w many) (turn_thread m names limits p q w k))
    eager_sane =
        sane_by (with_server_made (with_turn m names limits p q w k) p place k true (next_futures w many) (turn_thread m names limits p q w k)) _
        (λ i. whole (procs (turn_thread m names limits p q w k) (working (base_mark of_server ∷ [])) begins i) (sym (map_length seen w.procs) i) (around i) true (next_futures w many) (w.futures ++ replicate many pending) (event_eager (length w.servers + 1)))
        (row_server (outline w) s p (seen q) (seen_at w p q at) going free_now no_cleanup works refl k true (next_futures w many) (λ e. numbers_length (length w.futures + 1) many ∙ stored_length) (λ e. absurd (not_both refl e)) (λ e. absurd (no_rest e)) (replicate many pending) (replicate many (of_parameter (length w.servers + 1))) (replicate_length many (of_parameter (length w.servers + 1)) ∙ sym (replicate_length many pending)) (event_eager (length w.servers + 1))
        (λ f h. (among_numbers s.futures.reasons (of_parameter (length w.servers + 1)) many f (subst (λ z. Among f (numbers (z + 1) many)) (sym s.futures.all) h), among_numbers w.futures pending many f h)))
      where
        no_rest : works ≡ rests → ⊥
        no_rest z = absurd cc

        begins : standing (turn_thread m names limits p q w k) ≡ working (base_mark of_server ∷ [])
        begins = descend_stands k.body (bind_all k.parameters (slots_of (stored_among x k.parameters) (turn_words m names limits p q w k) (length w.boxes)) k.env) (server_base k.at ∷ [])

    pub made_eager_good : ((v : Word) → standing (m.go q.thread (got v)) ≡ standing q.thread) → Sane (made_eager m names limits p q w k)
    made_eager_good goes =
        sane_if (has_cells limits w (length (turn_boxes m names limits p q w k))) _ _
        (local (with_server_made (with_turn m names limits p q w k) p place k true (next_futures w many) (turn_thread m names limits p q w k)) p q (m.go q.thread (got (process_closure (length w.servers + 1)))) eager_sane
        (numbered_longer w.procs (process_of place (serving (length w.servers + 1)) (turn_thread m names limits p q w k) ∷ []) p q at) (goes (process_closure (length w.servers + 1))))
        s

-- calls

module _ (x : Context) (names : List (List ℕ)) (limits : Limits) (w : World Thread Closure) (s : Sane w) (p : ℕ) (q : Process Thread) (at : numbered w.procs p ≡ Some q) where
  abbrev mm : Machine Thread Closure
  mm = core_machine x

  module _ (k : ℕ) (a : Server) (place : numbered w.servers k ≡ Some a) (alive : a.dead ≡ false) (xs : List Word) (fits : length xs ≡ length a.body.parameters) (rep : Option ℕ) (fs fs1 : List Future) (futures : fs ≡ w.futures ++ fs1) (rs : List Reason) (as_many : length rs ≡ length fs1) (mine : (f : ℕ) → rep ≡ Some f → (numbered (s.futures.reasons ++ rs) f ≡ Some (of_reply k (a.sent + 1))) × (numbered (w.futures ++ fs1) f ≡ Some pending)) where
    abbrev c : Call
    c = record { number = a.sent + 1; arguments = xs; reply = rep }

    abbrev told : World Thread Closure
    told = with_event (record w { futures = fs }) (send p k (a.sent + 1))

    abbrev sent_one : Server
    sent_one = record a { sent = a.sent + 1 }

    abbrev longer : Server
    longer = record a { sent = a.sent + 1; queue = a.queue ++ c ∷ [] }

    queued_sane : (a.eager ≡ true → a.current ≡ None → ⊥) → Sane (with_server told k longer)
    queued_sane not_now =
        sane_by (with_server told k longer) _
        (λ i. record { catches = w.catches; procs = map seen w.procs; servers = put w.servers k longer; futures = futures i; protects = w.protects; events = send p k (a.sent + 1) ∷ (outline w).events })
        (row_send_queued (outline w) s k a place alive p xs fits rep fs1 rs as_many mine not_now)

    taken_sane : a.eager ≡ true → a.current ≡ None → Sane (with_call told k sent_one c)
    taken_sane eager none =
        sane_by (with_call told k sent_one c) _
        (λ i. record { catches = w.catches; procs = map seen w.procs; servers = put w.servers k (record a { sent = a.sent + 1; current = Some c }); futures = filled a.turn xs (futures i); protects = w.protects; events = take a.process k (a.sent + 1) ∷ send p k (a.sent + 1) ∷ (outline w).events })
        (row_send_taken (outline w) s k a place alive p xs fits rep fs1 rs as_many mine eager none)

    pub sent_good : (t : Thread) → standing t ≡ standing q.thread → Sane (with_thread (with_sent mm names limits p q (record w { futures = fs }) k a c) p t)
    sent_good t goes = by a.eager a.current refl refl
      where
        none_some : {c : Call} → Some c ≡ None → ⊥
        none_some z = absurd cc

        by : (e : Bool) (d : Option Call) → a.eager ≡ e → a.current ≡ d → Sane (with_thread (if e && is_none d then with_call told k sent_one c else with_server told k longer) p t)
        by true None e d = local (with_call told k sent_one c) p q t (taken_sane e d) at goes
        by true (Some b) e d = local (with_server told k longer) p q t (queued_sane (λ f g. none_some (sym d ∙ g))) at goes
        by false d e f = local (with_server told k longer) p q t (queued_sane (λ g h. not_both g e)) at goes

  pub send_good : (k : ℕ) (xs : List Word) (used : Bool) (offset : ℕ) → ((v : Word) → standing (mm.go q.thread (got v)) ≡ standing q.thread) → Good (send_row mm names limits p q w k (numbered w.servers k) xs used offset)
  send_good k xs used offset goes = met (numbered w.servers k) refl
    where
      sent : (a : Server) → numbered w.servers k ≡ Some a → a.dead ≡ false → length xs ≡ length a.body.parameters → (used : Bool) → Sane (sent_row mm names limits p q w k a xs used)
      sent a e alive fits true =
          sent_good k a e alive xs fits (Some (length w.futures + 1)) (w.futures ++ pending ∷ []) (pending ∷ []) refl (of_reply k (a.sent + 1) ∷ []) refl
          (λ f g.
          let is : f ≡ length w.futures + 1 = some_is (sym g) in (
            subst (λ z. numbered (s.futures.reasons ++ of_reply k (a.sent + 1) ∷ []) z ≡ Some (of_reply k (a.sent + 1))) (ap (λ z. z + 1) s.futures.all ∙ sym is) (push_at s.futures.reasons (of_reply k (a.sent + 1))),
            subst (λ z. numbered (w.futures ++ pending ∷ []) z ≡ Some pending) (sym is) (push_at w.futures pending),
          ))
          (mm.go q.thread (got (future (length w.futures + 1)))) (goes (future (length w.futures + 1)))
        where
          some_is : {i j : ℕ} → Some i ≡ Some j → i ≡ j
          some_is z = cc
      sent a e alive fits false =
          sent_good k a e alive xs fits None w.futures [] (sym (append_nil w.futures)) [] refl (λ f g. absurd (none_is g))
          (mm.go q.thread (got nil)) (goes nil)
        where
          none_is : {i : ℕ} → None ≡ Some i → ⊥
          none_is z = absurd cc

      tested : (a : Server) → numbered w.servers k ≡ Some a → (b d : Bool) → (length xs == length (stored_among x a.body.parameters)) ≡ b → a.dead ≡ d → Good (if not b then Some (marked w (fault WrongCount p offset)) else (if d then Some (marked w (fault DeadClosure p offset)) else Some (sent_row mm names limits p q w k a xs used)))
      tested a e false d f g = s
      tested a e true true f g = s
      tested a e true false f g = sent a e g (eqb-true (length xs) (length (stored_among x a.body.parameters)) f ∙ map_length _ a.body.parameters) used

      met : (b : Option Server) → numbered w.servers k ≡ b → Good (send_row mm names limits p q w k b xs used offset)
      met None e = tt
      met (Some a) e = tested a e (length xs == length (stored_among x a.body.parameters)) a.dead refl refl

  -- the process of a process closure

  module _ (going : q.ended ≡ false) (k : ℕ) (is : q.kind ≡ serving k) (live : is_live (seen q) ≡ true) (marks : (seen q).thread.marks ≡ base_mark of_server ∷ []) where
    begins : (a : Server) (ss : List Slot) → standing (mm.started a.body ss) ≡ working (seen q).thread.marks
    begins a ss = descend_stands a.body.body (bind_all a.body.parameters ss a.body.env) (server_base a.body.at ∷ []) ∙ ap working (sym marks)

    same_server : (a : Server) → numbered w.servers k ≡ Some a → a.process ≡ p
    same_server a e = let t = s.servers.serves p (seen q) k (seen_at w p q at) is in ap (λ (z : Server). z.process) (one e t.1) ∙ t.2

    pub take_good : (seen q).thread.doing ≡ rests → Good (take_row mm names limits p q w k (numbered w.servers k))
    take_good at_rest = met (numbered w.servers k) refl
      where
        taken : (a : Server) → numbered w.servers k ≡ Some a → (cs : List Call) → a.queue ≡ cs → Good (taken_row mm names limits p q w k a cs)
        taken a e [] f = tt
        taken a e (c ∷ cs) f = good_if (has_cells limits w (length (words_boxed (stored_among x a.body.parameters) c.arguments))) _ _ took s
          where
            bs : List Bool
            bs = stored_among x a.body.parameters

            w1 : World Thread Closure
            w1 = with_event (with_server (with_boxes w (words_boxed (stored_among x a.body.parameters) c.arguments)) k (record a { queue = cs; current = Some c })) (take p k c.number)

            took : Sane (with_thread w1 p (mm.started a.body (slots_of (stored_among x a.body.parameters) c.arguments (length w.boxes))))
            took =
                sane_by (with_thread w1 p (mm.started a.body (slots_of bs c.arguments (length w.boxes)))) _
                (thread_out w1 p q (mm.started a.body (slots_of bs c.arguments (length w.boxes))) (working (seen q).thread.marks) at (begins a (slots_of bs c.arguments (length w.boxes))))
                (row_take (outline w) s p (seen q) (seen_at w p q at) going k is a e (same_server a e) live marks at_rest c cs f)

        met : (b : Option Server) → numbered w.servers k ≡ b → Good (take_row mm names limits p q w k b)
        met None e = tt
        met (Some a) e = taken a e a.queue refl

    pub reply_good : (seen q).thread.doing ≡ works → (y : Word) → Good (reply_row mm names limits p q w k (numbered w.servers k) y)
    reply_good at_work y = met (numbered w.servers k) refl
      where
        module_text : Option (List ℕ)
        module_text = Some (short_text names w.pairs y)

        answers : (a : Server) → numbered w.servers k ≡ Some a → (c : Call) → a.current ≡ Some c → Sane (replied_row mm names limits p q w k a c y)
        answers a e c busy = by a.eager refl
          where
            w1 : World Thread Closure
            w1 = with_reply mm names limits p q w k a c y

            plain : a.eager ≡ false → Sane (with_thread w1 p (mm.at_rest a.body))
            plain f =
                sane_by (with_thread w1 p (mm.at_rest a.body)) _
                (thread_out w1 p q (mm.at_rest a.body) (record { marks = (seen q).thread.marks; doing = rests }) at (ap (λ (z : List Mark). record { marks = z; doing = rests }) (sym marks)))
                (row_reply_plain (outline w) s p (seen q) (seen_at w p q at) going k is a e (same_server a e) live marks at_work c busy y module_text f)

            so_many : ℕ
            so_many = length (stored_among x a.body.parameters)

            turned : Server
            turned = record a { current = None; turn = next_futures w1 so_many }

            w2 : World Thread Closure
            w2 = with_server (with_turn mm names limits p q w1 a.body) k turned

            t2 : Thread
            t2 = turn_thread mm names limits p q w1 a.body

            turned_is : w2.servers ≡ put w.servers k turned
            turned_is = put_again (record a { current = None }) turned w.servers k

            next_turn : a.eager ≡ true → (cs : List Call) → a.queue ≡ cs → Sane (with_next_call (with_thread w2 p t2) k turned cs)
            next_turn f [] g =
                sane_by (with_thread w2 p t2) _
                (thread_out w2 p q t2 (working (seen q).thread.marks) at (begins a _)
                ∙ (λ i. record { catches = w.catches; procs = put (map seen w.procs) p (standing_as (seen q) (working (seen q).thread.marks)); servers = turned_is i; futures = answered c.reply y w.futures ++ replicate so_many pending; protects = w.protects; events = reply p k c.number module_text ∷ (outline w).events }))
                (row_reply_idle (outline w) s p (seen q) (seen_at w p q at) going k is a e (same_server a e) live marks at_work c busy y module_text f so_many (map_length _ a.body.parameters) g)
            next_turn f (c2 ∷ cs) g =
                sane_by (with_call (with_thread w2 p t2) k (record turned { queue = cs }) c2) _
                (λ i. record { catches = w.catches; procs = thread_procs w2 p q t2 (working (seen q).thread.marks) at (begins a _) i; servers = servers i; futures = filled (next_futures w1 so_many) c2.arguments (answered c.reply y w.futures ++ replicate so_many pending); protects = w.protects; events = take (same_server a e i) k c2.number ∷ reply p k c.number module_text ∷ (outline w).events })
                (row_reply_next (outline w) s p (seen q) (seen_at w p q at) going k is a e (same_server a e) live marks at_work c busy y module_text f so_many (map_length _ a.body.parameters) c2 cs g)
              where
                servers : put w2.servers k (record a { current = Some c2; queue = cs; turn = next_futures w1 so_many }) ≡ put w.servers k (record a { current = Some c2; queue = cs; turn = next_futures w1 so_many })
                servers = ap (λ z. put z k (record a { current = Some c2; queue = cs; turn = next_futures w1 so_many })) turned_is ∙ put_again turned (record a { current = Some c2; queue = cs; turn = next_futures w1 so_many }) w.servers k

            by : (b : Bool) → a.eager ≡ b → Sane (if b then (if has_cells limits w (length (turn_boxes mm names limits p q w a.body)) then with_next_turn mm names limits p q w1 k a else marked w (limit Cells)) else with_thread w1 p (mm.at_rest a.body))
            by false f = plain f
            by true f = sane_if (has_cells limits w (length (turn_boxes mm names limits p q w a.body))) _ _ (next_turn f a.queue refl) s

        replied : (a : Server) → numbered w.servers k ≡ Some a → (d : Option Call) → a.current ≡ d → Good (reply_to mm names limits p q w k a d y)
        replied a e None f = tt
        replied a e (Some c) f = answers a e c f

        met : (b : Option Server) → numbered w.servers k ≡ b → Good (reply_row mm names limits p q w k b y)
        met None e = tt
        met (Some a) e = replied a e a.current refl
