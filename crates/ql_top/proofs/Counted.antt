-- A tick counts once, and adds its process to the schedule that the events spell.
use Rattle.std.proofs.Common.{◌≡◌, ℕ, zero, suc, ◌+◌, ◌==◌, Bool, true, false, List, [], ◌∷◌, ◌++◌, Option, Some, None, refl, sym, ap, ◌∙◌, subst, ⊎_elim, ◌⊎◌, inl, inr, append_assoc, eqb-true, arith}
use Rattle.std.proofs.lemmas.List.{reverse-append, append-nil}
use Rattle.std.specs.Prelude.{leb, not, reverse, replicate, ◌||◌, ◌&&◌, if◌then◌else◌, is_none, slice_get, option_and_then, length}
use Rattle.ql_base.specs.declared.limits.Limits.{Limits}
use Rattle.ql_base.specs.declared.fault.RunFault.TheVariants.{DeadClosure}
use Rattle.ql_base.specs.declared.limits.LimitKind.TheVariants.{Cells}
use Rattle.ql_world.specs.declared.word.Word.{Word}
use Rattle.ql_world.specs.declared.word.Word.TheVariants as words
use Rattle.ql_world.specs.declared.word.Slot.{Slot}
use Rattle.ql_world.specs.Word.{is_nil, is_eager}
use Rattle.ql_world.specs.declared.operator.Computed.{Computed}
use Rattle.ql_world.specs.declared.operator.Computed.TheVariants as results
use Rattle.ql_world.specs.declared.event.Mode.TheVariants as modes
use Rattle.ql_world.specs.Operator.{computed}
use Rattle.ql_world.specs.declared.event.Event.{Event}
use Rattle.ql_world.specs.declared.event.Event.TheVariants.{Turn as turn, Spawn as spawn, Opened as opened, Exit as exit, Throw as throw, Land as land, Kill as kill, Protect as protect, Begin as begin, Finish as finish, Send as send, Take as take, Reply as reply, EndOk as end_ok, EndKilled as end_killed}
use Rattle.ql_world.specs.Event.{with_tick, turns}
use Rattle.ql_world.specs.declared.world.FutState.{FutState as Future}
use Rattle.ql_world.specs.declared.world.FutState.TheVariants.{Pending as pending, Value as valued, Dead as dead}
use Rattle.ql_world.specs.declared.world.Aim.TheVariants.{Die as die}
use Rattle.ql_world.specs.declared.world.Catch.{Catch}
use Rattle.ql_world.specs.declared.world.Kind.{Kind}
use Rattle.ql_world.specs.declared.world.Kind.TheVariants.{Main as main, Child as child, Closure as serving}
use Rattle.ql_world.specs.declared.world.Process.{Process}
use Rattle.ql_world.specs.World.{or_pending, process_of, Call, ProcessClosure, World, numbered, catch_at, counted, with_event, with_thread, with_future, with_server, without_catch, change_numbered}
use Rattle.ql_world.specs.Within.{is_live, is_within}
use Rattle.ql_world.specs.Text.{value_text, short_text}
use Rattle.ql_world.specs.Machine as machine
use Rattle.ql_world.specs.Machine.{Place, held, box, global, Ending, last_form, with_word, unwound, Want, awaits, takes_literal, reads, stores, branches, computes, prints, binds, calls, returns, closes, funcalls, chooses, makes, sends, takes_call, replies, opens, exits, throws, protects, begins, finishes, leaves, ends, rests, Answer, Machine}
use Rattle.ql_world.specs.Idle.{acting, unwinds_at, abandoned, killed_if_within, killed_among, killed_within, abandoned_server}
use Rattle.ql_world.specs.Tick as ticks
use Rattle.ql_world.specs.Tick.{landing, with_children, with_call, with_next_call, row, step, tick, can_step}

turns_append : (xs ys : List Event) → turns (xs ++ ys) ≡ turns xs ++ turns ys
turns_append [] ys = refl
turns_append (turn p n ∷ xs) ys = ap (λ z. replicate n p ++ z) (turns_append xs ys) ∙ sym (append_assoc (replicate n p) (turns xs) (turns ys))
turns_append (e ∷ xs) ys = turns_append xs ys

-- the schedule so far, of events of which the newest stands first
abbrev pub spelled : List Event → List ℕ
spelled es = turns (reverse es)

spelled_first : (e : Event) (es : List Event) → spelled (e ∷ es) ≡ spelled es ++ turns (e ∷ [])
spelled_first e es = ap turns (reverse-append (e ∷ []) es) ∙ turns_append (reverse es) (e ∷ [])

-- an event that is no turn
pub spelled_other : (e : Event) (es : List Event) → turns (e ∷ []) ≡ [] → spelled (e ∷ es) ≡ spelled es
spelled_other e es h = spelled_first e es ∙ ap (λ z. spelled es ++ z) h ∙ append-nil (spelled es)

one_more : (n p : ℕ) → replicate (n + 1) p ≡ replicate n p ++ p ∷ []
one_more zero p = refl
one_more (suc n) p = let e : suc n + 1 ≡ suc (n + 1) = omega arith in ap (λ k. replicate k p) e ∙ ap (λ z. p ∷ z) (one_more n p)

spelled_new : (p : ℕ) (es : List Event) → spelled (turn p 1 ∷ es) ≡ spelled es ++ p ∷ []
spelled_new p es = spelled_first (turn p 1) es

spelled_turn : (p q n : ℕ) (es : List Event) → spelled (with_tick p (turn q n ∷ es)) ≡ spelled (turn q n ∷ es) ++ p ∷ []
spelled_turn p q n es =
    ⊎_elim
    (λ (t : (p == q) ≡ true).
    let same : p ≡ q = eqb-true p q t in
    rw t (spelled_first (turn q (n + 1)) es ∙ ap (λ z. spelled es ++ z) (append-nil (replicate (n + 1) q) ∙ one_more n q ∙ ap (λ z. replicate n q ++ z ∷ []) (sym same))
    ∙ sym (append_assoc (spelled es) (replicate n q) (p ∷ []))
    ∙ ap (λ z. z ++ p ∷ []) (sym (spelled_first (turn q n) es ∙ ap (λ z. spelled es ++ z) (append-nil (replicate n q))))))
    (λ (t : (p == q) ≡ false). rw t (spelled_new p (turn q n ∷ es)))
    (either (p == q))
  where
    either : (b : Bool) → (b ≡ true) ⊎ (b ≡ false)
    either true = inl refl
    either false = inr refl

spelled_tick : (p : ℕ) (es : List Event) → spelled (with_tick p es) ≡ spelled es ++ p ∷ []
spelled_tick p [] = refl
spelled_tick p (turn q n ∷ es) = spelled_turn p q n es
spelled_tick p (e ∷ es) = spelled_new p (e ∷ es)

pub by : {A : Type 0} → (b : Bool) → (b ≡ true → A) → (b ≡ false → A) → A
by true h k = h refl
by false h k = k refl

module _ {P K : Type 0} where
  -- how many ticks were taken, and by whom in turn
  abbrev pub tally : World P K → ℕ × List ℕ
  tally w = (w.ticks, spelled w.events)

  same_event : (w : World P K) (e : Event) → turns (e ∷ []) ≡ [] → tally (with_event w e) ≡ tally w
  same_event w e h = ap (λ z. (w.ticks, z)) (spelled_other e w.events h)

  either : (w : World P K) (b : Bool) (x y : World P K) → tally x ≡ tally w → tally y ≡ tally w → tally (if b then x else y) ≡ tally w
  either w true x y h k = h
  either w false x y h k = k

  -- what a row leaves, if anything, has the same tally
  abbrev Keeps : World P K → Option (World P K) → Type 0
  Keeps w None = Unit {0}
  Keeps w (Some v) = tally v ≡ tally w

  keeps_either : (w : World P K) (b : Bool) (x y : World P K) → tally x ≡ tally w → tally y ≡ tally w → Keeps w (if b then Some x else Some y)
  keeps_either w true x y h k = h
  keeps_either w false x y h k = k

  same_children : (ts : List P) (w : World P K) (p home : ℕ) → tally (with_children w p home ts) ≡ tally w
  same_children [] w p home = refl
  same_children (t ∷ ts) w p home =
      let n = length w.futures + 1 in
      same_children ts (ticks.with_child w p home t) p home
      ∙ same_event (ticks.with_process (ticks.with_futures w 1) (process_of home (child n) t)) (spawn p (length w.procs + 1) home modes.Let) refl

  same_call : (w : World P K) (k : ℕ) (s : ProcessClosure K) (c : Call) → tally (with_call w k s c) ≡ tally w
  same_call w k s c =
      same_event (with_server (record w { futures = ticks.filled s.turn c.arguments w.futures }) k (record s { current = Some c })) (take s.process k c.number) refl

  same_next_call : (w : World P K) (k : ℕ) (s : ProcessClosure K) (cs : List Call) → tally (with_next_call w k s cs) ≡ tally w
  same_next_call w k s [] = refl
  same_next_call w k s (c ∷ cs) = same_call w k (record s { queue = cs }) c

  same_server_made : (w : World P K) (p home : ℕ) (k : K) (e : Bool) (futures : List ℕ) (t : P) → tally (ticks.with_server_made w p home k e futures t) ≡ tally w
  same_server_made w p home k e futures t =
      let n = length w.servers + 1 in
      same_event (ticks.with_process (record w {
        servers = w.servers ++ record { process = length w.procs + 1; body = k; eager = e; sent = 0; queue = []; current = None; turn = futures; dead = false } ∷ [];
      }) (process_of home (serving n) t)) (spawn p (length w.procs + 1) home (if e then modes.Eager n else modes.Call n)) refl

  module _ (m : Machine P K) where
    same_server : (w : World P K) (k : ℕ) (o : Option (ProcessClosure K)) → tally (abandoned_server m w k o) ≡ tally w
    same_server w k None = refl
    same_server w k (Some s) = refl

    same_abandoned : (w : World P K) (kind : Kind) → tally (abandoned m w kind) ≡ tally w
    same_abandoned w main = refl
    same_abandoned w (child f) = refl
    same_abandoned w (serving k) = same_server w k (numbered w.servers k)

    same_killed : (w : World P K) (c owner n : ℕ) (o : Option (Process P)) → tally (killed_if_within m w c owner n o) ≡ tally w
    same_killed w c owner n None = refl
    same_killed w c owner n (Some q) =
        let v = record w { procs = change_numbered (λ q. record q { aim = die; thread = unwinds_at m q.thread }) w.procs n } in
        by (is_live q && (is_within w.catches q c && not (n == owner)))
        (λ t. rw t (same_abandoned (with_event v (kill c n)) q.kind ∙ same_event v (kill c n) refl))
        (λ t. rw t refl)

    same_among : (n : ℕ) (w : World P K) (c owner : ℕ) → tally (killed_among m w c owner n) ≡ tally w
    same_among zero w c owner = refl
    same_among (suc n) w c owner =
        let v = killed_among m w c owner n in
        same_killed v c owner (suc n) (numbered v.procs (suc n)) ∙ same_among n w c owner

    same_within : (w : World P K) (c owner : ℕ) → tally (killed_within m w c owner) ≡ tally w
    same_within w c owner = same_among (length w.procs) w c owner

  module _ (m : Machine P K) (names : List (List ℕ)) (limits : Limits) (p : ℕ) (q : Process P) where
    same_sent : (w : World P K) (k : ℕ) (s : ProcessClosure K) (c : Call) → tally (ticks.with_sent m names limits p q w k s c) ≡ tally w
    same_sent w k s c =
        let e = send p k c.number in
        by (s.eager && is_none s.current)
        (λ t. rw t (same_call (with_event w e) k (record s { sent = c.number }) c ∙ same_event w e refl))
        (λ t. rw t (same_event w e refl))

    same_sent_row : (w : World P K) (k : ℕ) (s : ProcessClosure K) (xs : List Word) (used : Bool) → tally (ticks.sent_row m names limits p q w k s xs used) ≡ tally w
    same_sent_row w k s xs true = same_sent (ticks.with_futures w 1) k s _
    same_sent_row w k s xs false = same_sent w k s _

    keeps_await : (w : World P K) (s : Future) (at : ℕ) → Keeps w (ticks.await_row m names limits p q w s at)
    keeps_await w pending at = tt
    keeps_await w (valued x) at = refl
    keeps_await w dead at = refl

    keeps_box : (w : World P K) (o : Option Word) → Keeps w (ticks.of_box m names limits p q w o)
    keeps_box w None = tt
    keeps_box w (Some x) = refl

    keeps_global : (w : World P K) (o : Option (Option Word)) (at : ℕ) → Keeps w (ticks.of_global m names limits p q w o at)
    keeps_global w None at = tt
    keeps_global w (Some None) at = refl
    keeps_global w (Some (Some x)) at = refl

    keeps_variable : (w : World P K) (place : Place) (at : ℕ) → Keeps w (ticks.variable_row m names limits p q w place at)
    keeps_variable w held at = refl
    keeps_variable w (box n) at = keeps_box w (slice_get w.boxes n)
    keeps_variable w (global g) at = keeps_global w (slice_get w.globals g) at

    keeps_store : (w : World P K) (place : Place) (x : Word) → Keeps w (ticks.store_row m names limits p q w place x)
    keeps_store w held x = tt
    keeps_store w (box n) x = refl
    keeps_store w (global g) x = refl

    keeps_primitive : (w : World P K) (r : Option Computed) (at : ℕ) → Keeps w (ticks.primitive_row m names limits p q w r at)
    keeps_primitive w None at = tt
    keeps_primitive w (Some (results.Gives x)) at = refl
    keeps_primitive w (Some (results.Fails kind)) at = refl
    keeps_primitive w (Some (results.Joins a b)) at = by (ticks.has_cells limits w 1) (λ t. rw t refl) (λ t. rw t refl)

    same_bind : (w : World P K) (bs : List Bool) (xs : List Word) (answer : List Slot → Answer K) → tally (ticks.bind_row m names limits p q w bs xs answer) ≡ tally w
    same_bind w bs xs answer = by (ticks.has_cells limits w (length (ticks.words_boxed bs xs))) (λ t. rw t refl) (λ t. rw t refl)

    keeps_close : (w : World P K) (o : Option K) → Keeps w (ticks.close_row m names limits p q w o)
    keeps_close w None = tt
    keeps_close w (Some k) = by (ticks.has_cells limits w 1) (λ t. rw t refl) (λ t. rw t refl)

    keeps_enter : (w : World P K) (o : Option K) (xs : List Word) (at : ℕ) → Keeps w (ticks.enter_row m names limits p q w o xs at)
    keeps_enter w None xs at = tt
    keeps_enter w (Some k) xs at =
        by (length xs == length (m.stored k)) (λ t. rw t (same_bind w (m.stored k) xs (machine.entered k))) (λ t. rw t refl)

    keeps_funcall : (w : World P K) (x : Word) (xs : List Word) (at : ℕ) → Keeps w (ticks.funcall_row m names limits p q w x xs at)
    keeps_funcall w (words.Fun n) xs at = keeps_enter w (numbered w.closures n) xs at
    keeps_funcall w (words.Proc n) xs at = refl
    keeps_funcall w (words.Int z) xs at = refl
    keeps_funcall w (words.Sym n) xs at = refl
    keeps_funcall w (words.Pair n) xs at = refl
    keeps_funcall w (words.Fut n) xs at = refl

    same_mode : (w : World P K) (x : Word) (ts : List P) → tally (ticks.mode_row m names limits p q w x ts) ≡ tally w
    same_mode w x ts =
        by (is_nil x || ticks.cleans m names limits p q)
        (λ t. rw t refl)
        (λ t. by (ticks.has_procs limits w (length ts)) (λ u. rw (t, u) (same_children ts w p (ticks.around m names limits p q))) (λ u. rw (t, u) refl))

    same_made : (w : World P K) (k : K) (e : Bool) → tally (if e then ticks.made_eager m names limits p q w k else ticks.made_plain m names limits p q w k) ≡ tally w
    same_made w k true =
        let v = ticks.with_turn m names limits p q w k in
        by (ticks.has_cells limits w (length (ticks.turn_boxes m names limits p q w k)))
        (λ t. rw t (same_server_made v p (ticks.around m names limits p q) k true (ticks.next_futures w (length (m.stored k))) (ticks.turn_thread m names limits p q w k)))
        (λ t. rw t refl)
    same_made w k false = same_server_made w p (ticks.around m names limits p q) k false [] (m.at_rest k)

    keeps_process : (w : World P K) (e : Bool) (o : Option K) → Keeps w (ticks.process_row m names limits p q w e o)
    keeps_process w e None = tt
    keeps_process w e (Some k) = by (ticks.has_procs limits w 1) (λ t. rw t (same_made w k e)) (λ t. rw t refl)

    keeps_make : (w : World P K) (x : Word) (o : Option K) → Keeps w (ticks.make_row m names limits p q w x o)
    keeps_make w x o =
        by (is_nil x || ticks.cleans m names limits p q) (λ t. rw t (keeps_close w o)) (λ t. rw t (keeps_process w (is_eager x) o))

    keeps_send : (w : World P K) (k : ℕ) (o : Option (ProcessClosure K)) (xs : List Word) (used : Bool) (at : ℕ)
        → Keeps w (ticks.send_row m names limits p q w k o xs used at)
    keeps_send w k None xs used at = tt
    keeps_send w k (Some s) xs used at =
        by (not (length xs == length (m.stored s.body)))
        (λ t. rw t refl)
        (λ t. rw t (keeps_either w s.dead (ticks.errs m names limits p q w DeadClosure at) (ticks.sent_row m names limits p q w k s xs used) refl (same_sent_row w k s xs used)))

    keeps_taken : (w : World P K) (k : ℕ) (s : ProcessClosure K) (cs : List Call) → Keeps w (ticks.taken_row m names limits p q w k s cs)
    keeps_taken w k s [] = tt
    keeps_taken w k s (c ∷ cs) =
        let boxes = ticks.words_boxed (m.stored s.body) c.arguments in
        by (ticks.has_cells limits w (length boxes))
        (λ t. rw t (same_event (with_server (ticks.with_boxes w boxes) k (record s { queue = cs; current = Some c })) (take p k c.number) refl))
        (λ t. rw t refl)

    keeps_take : (w : World P K) (k : ℕ) (o : Option (ProcessClosure K)) → Keeps w (ticks.take_row m names limits p q w k o)
    keeps_take w k None = tt
    keeps_take w k (Some s) = keeps_taken w k s s.queue

    same_reply : (w : World P K) (k : ℕ) (s : ProcessClosure K) (c : Call) (x : Word) → tally (ticks.with_reply m names limits p q w k s c x) ≡ tally w
    same_reply w k s c x =
        same_event (with_server (record w { futures = ticks.answered c.reply x w.futures }) k (record s { current = None }))
        (reply p k c.number (Some (short_text names w.pairs x))) refl

    same_turn : (w : World P K) (k : ℕ) (s : ProcessClosure K) → tally (ticks.with_next_turn m names limits p q w k s) ≡ tally w
    same_turn w k s =
        let t = record s { current = None; turn = ticks.next_futures w (length (m.stored s.body)) } in
        same_next_call (with_thread (with_server (ticks.with_turn m names limits p q w s.body) k t) p (ticks.turn_thread m names limits p q w s.body)) k t s.queue

    same_replied : (w : World P K) (k : ℕ) (s : ProcessClosure K) (c : Call) (x : Word) → tally (ticks.replied_row m names limits p q w k s c x) ≡ tally w
    same_replied w k s c x =
        let v = ticks.with_reply m names limits p q w k s c x in
        let next = ticks.with_next_turn m names limits p q v k s in
        let few = ticks.has_cells limits w (length (ticks.turn_boxes m names limits p q w s.body)) in
        let full = ticks.meets m names limits p q w Cells in
        either w s.eager (if few then next else full) (with_thread v p (m.at_rest s.body))
        (either w few next full (same_turn v k s ∙ same_reply w k s c x) refl) (same_reply w k s c x)

    keeps_reply_to : (w : World P K) (k : ℕ) (s : ProcessClosure K) (o : Option Call) (x : Word) → Keeps w (ticks.reply_to m names limits p q w k s o x)
    keeps_reply_to w k s None x = tt
    keeps_reply_to w k s (Some c) x = same_replied w k s c x

    keeps_reply : (w : World P K) (k : ℕ) (o : Option (ProcessClosure K)) (x : Word) → Keeps w (ticks.reply_row m names limits p q w k o x)
    keeps_reply w k None x = tt
    keeps_reply w k (Some s) x = keeps_reply_to w k s s.current x

    keeps_exit : (w : World P K) (c : ℕ) (o : Option Catch) → Keeps w (ticks.exit_row m names limits p q w c o)
    keeps_exit w c None = tt
    keeps_exit w c (Some k) = same_within m (with_event w (exit p c)) c k.owner ∙ same_event w (exit p c) refl

    keeps_thrown : (w : World P K) (c : ℕ) (o : Option Catch) (x : Word) → Keeps w (ticks.thrown_row m names limits p q w c o x)
    keeps_thrown w c None x = tt
    keeps_thrown w c (Some k) x =
        let same = same_within m (with_event w (throw p c)) c k.owner ∙ same_event w (throw p c) refl in
        by (ticks.cleans m names limits p q) (λ t. rw t same) (λ t. rw t same)

    keeps_throw : (w : World P K) (o : Option ℕ) (x : Word) (at : ℕ) → Keeps w (ticks.throw_row m names limits p q w o x at)
    keeps_throw w None x at = refl
    keeps_throw w (Some c) x at = keeps_thrown w c (catch_at w.catches c) x

    same_leave : (w : World P K) (c : ℕ) (o : Option Word) → tally (ticks.leave_row m names limits p q w c o) ≡ tally w
    same_leave w c None = refl
    same_leave w c (Some x) =
        let v = without_catch (with_event w (land p c)) c in
        by (ticks.cleans m names limits p q) (λ t. rw t (same_event w (land p c) refl)) (λ t. rw t (same_event w (land p c) refl))

    same_last : (w : World P K) → tally (ticks.last_row m names limits p q w) ≡ tally w
    same_last w =
        let v = without_catch (killed_within m (with_event w (exit p 0)) 0 p) 0 in
        same_event v (end_ok p None) refl ∙ same_within m (with_event w (exit p 0)) 0 p ∙ same_event w (exit p 0) refl

    keeps_end : (w : World P K) (kind : Kind) (ending : Ending) → Keeps w (ticks.end_row m names limits p q w kind ending)
    keeps_end w kind last_form = same_last w
    keeps_end w (child f) (with_word x) = same_event (with_future w f (valued x)) (end_ok p (Some (short_text names w.pairs x))) refl
    keeps_end w main (with_word x) = tt
    keeps_end w (serving k) (with_word x) = tt
    keeps_end w kind unwound = same_event w (end_killed p) refl

    keeps_server : (w : World P K) (f : ℕ → Option (World P K)) → ((k : ℕ) → Keeps w (f k)) → (kind : Kind) → Keeps w (ticks.server_row m names limits p q f kind)
    keeps_server w f h (serving k) = h k
    keeps_server w f h main = tt
    keeps_server w f h (child g) = tt

    same_print : (w : World P K) (text : List ℕ) → tally (ticks.print_row m names limits p q w text) ≡ tally w
    same_print w text = by (leb (length w.output + length text) limits.output) (λ t. rw t refl) (λ t. rw t refl)

    keeps_row : (w : World P K) (want : Want) → Keeps w (row m names limits p q w want)
    keeps_row w (awaits f at) = keeps_await w (or_pending (numbered w.futures f)) at
    keeps_row w takes_literal = refl
    keeps_row w (reads place at) = keeps_variable w place at
    keeps_row w (stores place x) = keeps_store w place x
    keeps_row w branches = refl
    keeps_row w (computes o xs at) = keeps_primitive w (computed w.pairs o xs) at
    keeps_row w (prints x) = same_print w (value_text names w.pairs x ++ 10 ∷ [])
    keeps_row w (binds bs xs) = same_bind w bs xs machine.bound
    keeps_row w (calls bs xs) = same_bind w bs xs machine.bound
    keeps_row w returns = refl
    keeps_row w closes = keeps_close w (m.closure q.thread)
    keeps_row w (funcalls x xs at) = keeps_funcall w x xs at
    keeps_row w (chooses x) = same_mode w x (m.children q.thread)
    keeps_row w (makes x) = keeps_make w x (m.closure q.thread)
    keeps_row w (sends k xs used at) = keeps_send w k (numbered w.servers k) xs used at
    keeps_row w takes_call = keeps_server w (λ k. ticks.take_row m names limits p q w k (numbered w.servers k)) (λ k. keeps_take w k (numbered w.servers k)) q.kind
    keeps_row w (replies x) = keeps_server w (λ k. ticks.reply_row m names limits p q w k (numbered w.servers k) x) (λ k. keeps_reply w k (numbered w.servers k) x) q.kind
    keeps_row w (opens tag waits) =
        let a = ticks.around m names limits p q in
        same_event (record w { catches = record { owner = p; tag = Some tag; enclosing = a; waits = waits; open_still = true } ∷ w.catches }) (opened p (length w.catches) a) refl
    keeps_row w (exits c) = keeps_exit w c (catch_at w.catches c)
    keeps_row w (throws tag x at) = keeps_throw w (ticks.seen_catch m names limits p q w tag) x at
    keeps_row w protects = same_event (record w { protects = w.protects + 1 }) (protect p (w.protects + 1)) refl
    keeps_row w (begins u) = same_event w (begin p u) refl
    keeps_row w (finishes u) = same_event w (finish p u) refl
    keeps_row w (leaves c) = same_leave w c (landing (acting (m.cleanups q.thread) q.aim) c)
    keeps_row w (ends ending) = keeps_end w q.kind ending
    keeps_row w rests = tt

  module _ (m : Machine P K) (names : List (List ℕ)) (limits : Limits) (w v : World P K) (p : ℕ) where
    -- what a tick of process p leaves
    abbrev IsCounted : Type 0
    IsCounted = (v.ticks ≡ w.ticks + 1) × (spelled v.events ≡ spelled w.events ++ p ∷ [])

    counted_row : (o : Option (World P K)) → Keeps (counted w p) o → o ≡ Some v → IsCounted
    counted_row None k e = absurd cc
    counted_row (Some u) k e =
        let same : u ≡ v = cc in
        let tallies : tally v ≡ tally (counted w p) = subst (λ z. tally z ≡ tally (counted w p)) same k in
        (ap (λ (z : ℕ × List ℕ). z.0) tallies, ap (λ (z : ℕ × List ℕ). z.1) tallies ∙ spelled_tick p w.events)

    counted_process : (o : Option (Process P)) → option_and_then (λ q. step m names limits p q w) o ≡ Some v → IsCounted
    counted_process None e = absurd cc
    counted_process (Some q) e =
        by (can_step m names limits p q w)
        (λ t. counted_row (row m names limits p q (counted w p) (m.want q.thread)) (keeps_row m names limits p q (counted w p) (m.want q.thread)) (rw t at e))
        (λ t. let bad : None ≡ Some v = rw t at e in absurd cc)

    pub counted_tick : tick m names limits w p ≡ Some v → IsCounted
    counted_tick e = counted_process (numbered w.procs p) e
