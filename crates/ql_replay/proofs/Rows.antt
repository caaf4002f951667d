-- What a tick adds: events, none of which is a turn, and at most as many processes as the limit lets it.
use Rattle.std.proofs.Common.{◌≡◌, ℕ, zero, suc, ◌+◌, ◌≤◌, ◌==◌, Bool, true, false, List, [], ◌∷◌, ◌++◌, length, Option, Some, None, refl, sym, ap, ◌∙◌, subst, arith, length-append, append_assoc}
use Rattle.std.specs.Prelude.{if◌then◌else◌, not, ◌&&◌, ◌||◌, leb, pred, slice_get, drop, is_none}
use Rattle.std.proofs.lemmas.Bool.Decides.{nat_tests}
use Rattle.ql_base.specs.declared.limits.Limits.{Limits}
use Rattle.ql_world.specs.Word.{nil, is_nil, is_eager}
use Rattle.ql_world.specs.declared.word.Word.{Word}
use Rattle.ql_world.specs.declared.word.Slot.{Slot}
use Rattle.ql_world.specs.declared.word.Word.TheVariants.{Int as integer, Sym as symbol, Pair as pair, Fun as closure, Proc as process_closure, Fut as future}
use Rattle.ql_world.specs.Operator.{computed}
use Rattle.ql_world.specs.declared.operator.Computed.{Computed as Result}
use Rattle.ql_world.specs.declared.operator.Computed.TheVariants.{Gives as gives, Fails as fails, Joins as joins}
use Rattle.ql_world.specs.declared.event.Event.{Event}
use Rattle.ql_world.specs.declared.event.Stop.{Stop}
use Rattle.ql_world.specs.declared.event.Mode.TheVariants.{Call as called, Eager as eager}
use Rattle.ql_world.specs.declared.event.Event.TheVariants.{Spawn as spawn, Opened as opened, Exit as exit, Throw as throw, Land as land, Kill as kill, Protect as protect, Begin as begin, Finish as finish, Send as send, Take as take, Reply as reply, EndOk as end_ok, EndKilled as end_killed}
use Rattle.ql_world.specs.World.{or_pending, Call, ProcessClosure, World, change, numbered, change_numbered, catch_at, counted, marked, with_event, with_thread, with_aim, with_end, with_future, with_server, without_catch}
use Rattle.ql_world.specs.declared.world.FutState.{FutState as Future}
use Rattle.ql_world.specs.declared.world.FutState.TheVariants.{Pending as pending, Value as valued, Dead as dead}
use Rattle.ql_world.specs.declared.world.Aim.TheVariants.{Free as free, To as to, Die as die}
use Rattle.ql_world.specs.declared.world.Catch.{Catch}
use Rattle.ql_world.specs.declared.world.Kind.{Kind}
use Rattle.ql_world.specs.declared.world.Kind.TheVariants.{Main as main, Child as child, Closure as serving}
use Rattle.ql_world.specs.declared.world.Process.{Process}
use Rattle.ql_world.specs.Within.{is_live, is_within}
use Rattle.ql_world.specs.Text.{value_text, short_text}
use Rattle.ql_world.specs.Machine as machine
use Rattle.ql_world.specs.Machine.{Place, held, box, global, Ending, last_form, with_word, unwound, Want, awaits, takes_literal, reads, stores, branches, computes, prints, binds, calls, returns, closes, funcalls, chooses, makes, sends, takes_call, replies, opens, exits, throws, protects, begins, finishes, leaves, ends, rests, Answer, done, got, bound, entered, in_line, spawned, unwinds, aimed, Machine}
use Rattle.ql_world.specs.Idle.{acting, unwinds_at, abandoned_server, abandoned, killed_process, killed_if_within, killed_among, killed_within}
use Rattle.ql_world.specs.Tick.{words_boxed, slots_of, landing, has_cells, has_procs, with_boxes, with_futures, next_futures, with_process, with_child, with_children, with_server_made, with_call, with_next_call, goes, around, cleans, await_row, of_box, of_global, variable_row, store_row, primitive_row, print_row, bind_row, close_row, enter_row, funcall_row, mode_row, turn_boxes, with_turn, turn_thread, made_eager, made_plain, process_row, make_row, with_sent, sent_row, send_row, taken_row, take_row, with_reply, with_next_turn, replied_row, reply_to, reply_row, open_row, exit_row, thrown_row, throw_row, protect_row, finish_answer, leave_row, last_row, end_row, server_row, row, seen_catch, can_step, step, tick}
use Rattle.ql_replay.specs.Book.{AreOneLine}
use Rattle.ql_replay.specs.Replay.{is_turn}
use Rattle.ql_replay.proofs.Basics.{if_some, then_some, same_some}
use Rattle.ql_replay.proofs.Feeds.{is_clean, short_clean}

-- an event of a tick
abbrev pub is_news : Event → Bool
is_news e = not (is_turn e) && is_clean e

abbrev pub all_news : List Event → Bool
all_news [] = true
all_news (e ∷ es) = is_news e && all_news es

both : (b c : Bool) → b ≡ true → c ≡ true → (b && c) ≡ true
both b c h k = rw (h, k) refl

news_append : (xs ys : List Event) → all_news xs ≡ true → all_news ys ≡ true → all_news (xs ++ ys) ≡ true
news_append [] ys h k = k
news_append (x ∷ xs) ys h k = split (is_news x) (all_news xs) (all_news (xs ++ ys)) h (λ t. news_append xs ys t k)
  where
    split : (a b c : Bool) → (a && b) ≡ true → (b ≡ true → c ≡ true) → (a && c) ≡ true
    split true b c h f = f h
    split false b c h f = absurd cc

length_change : {A : Type 0} (f : A → A) (xs : List A) (n : ℕ) → length (change f xs n) ≡ length xs
length_change f [] n = refl
length_change f (x ∷ xs) zero = refl
length_change f (x ∷ xs) (suc n) = ap suc (length_change f xs n)

length_changed : {A : Type 0} (f : A → A) (xs : List A) (n : ℕ) → length (change_numbered f xs n) ≡ length xs
length_changed f xs zero = refl
length_changed f xs (suc n) = length_change f xs n

if_all : {A : Type 0} (F : A → Type 0) (b : Bool) (x y : A) → (b ≡ true → F x) → F y → F (if b then x else y)
if_all F true x y h k = h refl
if_all F false x y h k = k

module _ {P K : Type 0} where
  -- v is w with news, and with at most k more processes
  pub record Adds (k : ℕ) (w v : World P K) : Type 0 where
    pub new : List Event
    pub events : v.events ≡ new ++ w.events
    pub news : all_news new ≡ true
    pub ticks : v.ticks ≡ w.ticks
    pub procs : length v.procs ≤ length w.procs + k

  -- the same by limits
  pub record Fits (most : ℕ) (w v : World P K) : Type 0 where
    pub new : List Event
    pub events : v.events ≡ new ++ w.events
    pub news : all_news new ≡ true
    pub ticks : v.ticks ≡ w.ticks
    pub procs : length w.procs ≤ most → length v.procs ≤ most

  fits : (most : ℕ) (w v : World P K) → Adds 0 w v → Fits most w v
  fits most w v a =
      let l : length v.procs ≤ length w.procs + 0 = a.procs in
      record { new = a.new; events = a.events; news = a.news; ticks = a.ticks; procs = λ (h : length w.procs ≤ most). omega (arith, l, h) }

  fits_some : (most k : ℕ) (w v : World P K) → length w.procs + k ≤ most → Adds k w v → Fits most w v
  fits_some most k w v m a =
      let l : length v.procs ≤ length w.procs + k = a.procs in
      record { new = a.new; events = a.events; news = a.news; ticks = a.ticks; procs = λ (h : length w.procs ≤ most). omega (arith, l, m) }

  -- no events
  quiet : (w v : World P K) → v.events ≡ w.events → v.ticks ≡ w.ticks → length v.procs ≡ length w.procs → Adds 0 w v
  quiet w v e t l = record { new = []; events = e; news = refl; ticks = t; procs = omega (arith, l) }

  -- this state, changed in other ways
  like : (k : ℕ) (w v u : World P K) → v.events ≡ u.events → v.ticks ≡ u.ticks → length v.procs ≡ length u.procs → Adds k w u → Adds k w v
  like k w v u e t l a =
      let m : length u.procs ≤ length w.procs + k = a.procs in
      record { new = a.new; events = e ∙ a.events; news = a.news; ticks = t ∙ a.ticks; procs = omega (arith, m, l) }

  -- one more event
  event : (k : ℕ) (w v : World P K) (e : Event) → is_news e ≡ true → Adds k w v → Adds k w (with_event v e)
  event k w v e h a = record { new = e ∷ a.new; events = ap (λ l. e ∷ l) a.events; news = both (is_news e) (all_news a.new) h a.news; ticks = a.ticks; procs = a.procs }

  also : (j k : ℕ) (w u v : World P K) → Adds j w u → Adds k u v → Adds (j + k) w v
  also j k w u v a b =
      let l : length u.procs ≤ length w.procs + j = a.procs in
      let m : length v.procs ≤ length u.procs + k = b.procs in
      record {
        new = b.new ++ a.new;
        events = b.events ∙ (ap (λ (z : List Event). b.new ++ z) a.events ∙ sym (append_assoc b.new a.new w.events));
        news = news_append b.new a.new b.news a.news;
        ticks = b.ticks ∙ a.ticks;
        procs = omega (arith, l, m);
      }

  itself : (w : World P K) → Adds 0 w w
  itself w = quiet w w refl refl refl

  -- one process more
  process : (k : ℕ) (w v : World P K) (q : Process P) → Adds k w v → Adds (k + 1) w (with_process v q)
  process k w v q a =
      let l : length v.procs ≤ length w.procs + k = a.procs in
      record { new = a.new; events = a.events; news = a.news; ticks = a.ticks; procs = omega (arith, l, length-append {A = Process P}) }

  child_adds : (k : ℕ) (w v : World P K) (p home : ℕ) (t : P) → Adds k w v → Adds (k + 1) w (with_child v p home t)
  child_adds k w v p home t a =
      event (k + 1) w _ _ refl (process k w (with_futures v 1) _ (like k w (with_futures v 1) v refl refl refl a))

  children_adds : (ts : List P) (k : ℕ) (w v : World P K) (p home : ℕ) → Adds k w v → Adds (k + length ts) w (with_children v p home ts)
  children_adds [] k w v p home a = let e : k ≡ k + 0 = omega arith in subst (λ n. Adds n w v) e a
  children_adds (t ∷ ts) k w v p home a =
      let e : k + 1 + length ts ≡ k + suc (length ts) = omega arith in
      subst (λ n. Adds n w (with_children v p home (t ∷ ts))) e (children_adds ts (k + 1) w (with_child v p home t) p home (child_adds k w v p home t a))

  made_adds : (k : ℕ) (w v : World P K) (p home : ℕ) (body : K) (e : Bool) (fs : List ℕ) (t : P) → Adds k w v → Adds (k + 1) w (with_server_made v p home body e fs t)
  made_adds k w v p home body e fs t a =
      event (k + 1) w _ (spawn p (length v.procs + 1) home (if e then eager (length v.servers + 1) else called (length v.servers + 1))) refl (process k w _ _ (like k w (record v {
        servers = v.servers ++ record { process = length v.procs + 1; body = body; eager = e; sent = 0; queue = []; current = None; turn = fs; dead = false } ∷ [];
      }) v refl refl refl a))

  call_adds : (k : ℕ) (w v : World P K) (n : ℕ) (s : ProcessClosure K) (c : Call) → Adds k w v → Adds k w (with_call v n s c)
  call_adds k w v n s c a = event k w _ _ refl (like k w _ v refl refl refl a)

  next_call_adds : (k : ℕ) (w v : World P K) (n : ℕ) (s : ProcessClosure K) (cs : List Call) → Adds k w v → Adds k w (with_next_call v n s cs)
  next_call_adds k w v n s [] a = a
  next_call_adds k w v n s (c ∷ cs) a = call_adds k w v n (record s { queue = cs }) c a

module _ {P K : Type 0} (m : Machine P K) where
  -- ---- kills
  abandoned_server_adds : (k : ℕ) (w v : World P K) (n : ℕ) (s : Option (ProcessClosure K)) → Adds k w v → Adds k w (abandoned_server m v n s)
  abandoned_server_adds k w v n None a = a
  abandoned_server_adds k w v n (Some s) a = like k w _ v refl refl refl a

  abandoned_adds : (k : ℕ) (w v : World P K) (kind : Kind) → Adds k w v → Adds k w (abandoned m v kind)
  abandoned_adds k w v main a = a
  abandoned_adds k w v (child f) a = like k w _ v refl refl refl a
  abandoned_adds k w v (serving n) a = abandoned_server_adds k w v n (numbered v.servers n) a

  killed_adds : (k : ℕ) (w v : World P K) (c n : ℕ) (q : Process P) → Adds k w v → Adds k w (killed_process m v c n q)
  killed_adds k w v c n q a =
      abandoned_adds k w _ q.kind (event k w _ (kill c n) refl (like k w (record v { procs = change_numbered (λ q. record q { aim = die; thread = unwinds_at m q.thread }) v.procs n }) v refl refl
      (length_changed _ v.procs n) a))

  if_within_adds : (k : ℕ) (w v : World P K) (c owner n : ℕ) (q : Option (Process P)) → Adds k w v → Adds k w (killed_if_within m v c owner n q)
  if_within_adds k w v c owner n None a = a
  if_within_adds k w v c owner n (Some q) a =
      if_all (Adds k w) (is_live q && (is_within v.catches q c && not (n == owner))) (killed_process m v c n q) v (λ _. killed_adds k w v c n q a) a

  among_adds : (i : ℕ) (k : ℕ) (w v : World P K) (c owner : ℕ) → Adds k w v → Adds k w (killed_among m v c owner i)
  among_adds zero k w v c owner a = a
  among_adds (suc i) k w v c owner a =
      if_within_adds k w (killed_among m v c owner i) c owner (suc i) (numbered (killed_among m v c owner i).procs (suc i)) (among_adds i k w v c owner a)

  within_adds : (k : ℕ) (w v : World P K) (c owner : ℕ) → Adds k w v → Adds k w (killed_within m v c owner)
  within_adds k w v c owner a = among_adds (length v.procs) k w v c owner a

  module _ (names : List (List ℕ)) (one : AreOneLine names) (limits : Limits) (p : ℕ) (q : Process P) where
    go : World P K → Answer K → World P K
    go w a = goes m names limits p q w a

    goes_adds : (k : ℕ) (w v : World P K) (a : Answer K) → Adds k w v → Adds k w (goes m names limits p q v a)
    goes_adds k w v a h = like k w _ v refl refl (length_changed _ v.procs p) h

    abbrev F : World P K → World P K → Type 0
    F w v = Fits limits.procs w v

    abbrev OF : World P K → Option (World P K) → Type 0
    OF w o = (v : World P K) → o ≡ Some v → F w v

    given : (w v : World P K) → F w v → OF w (Some v)
    given w v f u e = subst (F w) (same_some v u e) f

    none : (w : World P K) → OF w None
    none w v e = absurd cc

    -- it only goes on, after a change without events
    on : (w v : World P K) (a : Answer K) → Adds 0 w v → F w (goes m names limits p q v a)
    on w v a h = fits limits.procs w _ (goes_adds 0 w v a h)

    marked_fits : (w : World P K) (s : Stop) → F w (marked w s)
    marked_fits w s = fits limits.procs w _ (quiet w _ refl refl refl)

    await_fits : (w : World P K) (s : Future) (at : ℕ) → OF w (await_row m names limits p q w s at)
    await_fits w pending at = none w
    await_fits w (valued x) at = given w _ (on w w (got x) (itself w))
    await_fits w dead at = given w _ (marked_fits w _)

    box_fits : (w : World P K) (o : Option Word) → OF w (of_box m names limits p q w o)
    box_fits w None = none w
    box_fits w (Some x) = given w _ (on w w (got x) (itself w))

    global_fits : (w : World P K) (o : Option (Option Word)) (at : ℕ) → OF w (of_global m names limits p q w o at)
    global_fits w None at = none w
    global_fits w (Some None) at = given w _ (marked_fits w _)
    global_fits w (Some (Some x)) at = given w _ (on w w (got x) (itself w))

    variable_fits : (w : World P K) (place : Place) (at : ℕ) → OF w (variable_row m names limits p q w place at)
    variable_fits w held at = given w _ (on w w done (itself w))
    variable_fits w (box n) at = box_fits w (slice_get w.boxes n)
    variable_fits w (global g) at = global_fits w (slice_get w.globals g) at

    store_fits : (w : World P K) (place : Place) (x : Word) → OF w (store_row m names limits p q w place x)
    store_fits w held x = none w
    store_fits w (box n) x = given w _ (on w (record w { boxes = change (λ y. x) w.boxes n }) done (quiet w _ refl refl refl))
    store_fits w (global g) x = given w _ (on w (record w { globals = change (λ y. Some x) w.globals g }) done (quiet w _ refl refl refl))

    primitive_fits : (w : World P K) (r : Option Result) (at : ℕ) → OF w (primitive_row m names limits p q w r at)
    primitive_fits w None at = none w
    primitive_fits w (Some (gives x)) at = given w _ (on w w (got x) (itself w))
    primitive_fits w (Some (fails kind)) at = given w _ (marked_fits w _)
    primitive_fits w (Some (joins a b)) at =
        if_all (OF w) (has_cells limits w 1) _ _ (λ _. given w _ (on w (record w { pairs = w.pairs ++ (a, b) ∷ []; cells = w.cells + 1 }) (got (pair (length w.pairs))) (quiet w _ refl refl refl)))
        (given w _ (marked_fits w _))

    print_fits : (w : World P K) (text : List ℕ) → F w (print_row m names limits p q w text)
    print_fits w text =
        if_all (F w) (leb (length w.output + length text) limits.output) _ _ (λ _. on w (record w { output = w.output ++ text }) done (quiet w _ refl refl refl)) (marked_fits w _)

    bind_fits : (w : World P K) (bs : List Bool) (xs : List Word) (answer : List Slot → Answer K) → F w (bind_row m names limits p q w bs xs answer)
    bind_fits w bs xs answer =
        if_all (F w) (has_cells limits w (length (words_boxed bs xs))) _ _ (λ _. on w (with_boxes w (words_boxed bs xs)) (answer (slots_of bs xs (length w.boxes))) (quiet w _ refl refl refl)) (marked_fits w _)

    close_fits : (w : World P K) (k : Option K) → OF w (close_row m names limits p q w k)
    close_fits w None = none w
    close_fits w (Some k) =
        if_all (OF w) (has_cells limits w 1) _ _
        (λ _. given w _ (on w (record w { closures = w.closures ++ k ∷ []; cells = w.cells + 1 }) (got (closure (length w.closures + 1))) (quiet w _ refl refl refl)))
        (given w _ (marked_fits w _))

    enter_fits : (w : World P K) (k : Option K) (xs : List Word) (at : ℕ) → OF w (enter_row m names limits p q w k xs at)
    enter_fits w None xs at = none w
    enter_fits w (Some k) xs at =
        if_all (OF w) (length xs == length (m.stored k)) _ _ (λ _. given w _ (bind_fits w (m.stored k) xs (entered k))) (given w _ (marked_fits w _))

    funcall_fits : (w : World P K) (x : Word) (xs : List Word) (at : ℕ) → OF w (funcall_row m names limits p q w x xs at)
    funcall_fits w (closure n) xs at = enter_fits w (numbered w.closures n) xs at
    funcall_fits w (process_closure n) xs at = given w _ (marked_fits w _)
    funcall_fits w (integer z) xs at = given w _ (marked_fits w _)
    funcall_fits w (symbol n) xs at = given w _ (marked_fits w _)
    funcall_fits w (pair n) xs at = given w _ (marked_fits w _)
    funcall_fits w (future n) xs at = given w _ (marked_fits w _)

    room : (w : World P K) (n : ℕ) → has_procs limits w n ≡ true → length w.procs + n ≤ limits.procs
    room w n h = grind (arith, nat_tests)

    mode_fits : (w : World P K) (x : Word) (ts : List P) → F w (mode_row m names limits p q w x ts)
    mode_fits w x ts =
        if_all (F w) (is_nil x || cleans m names limits p q) _ _ (λ _. on w w in_line (itself w))
        (if_all (F w) (has_procs limits w (length ts)) _ _
        (λ h. fits_some limits.procs (0 + length ts) w _ (let r : length w.procs + length ts ≤ limits.procs = room w (length ts) h in omega (arith, r))
        (goes_adds (0 + length ts) w _ (spawned (is_eager x) (next_futures w (length ts))) (children_adds ts 0 w w p (around m names limits p q) (itself w))))
        (marked_fits w _))

    eager_fits : (w : World P K) (k : K) → has_procs limits w 1 ≡ true → F w (made_eager m names limits p q w k)
    eager_fits w k h =
        if_all (F w) (has_cells limits w (length (turn_boxes m names limits p q w k))) _ _
        (λ _. fits_some limits.procs 1 w _ (room w 1 h) (goes_adds 1 w _ (got (process_closure (length w.servers + 1)))
        (made_adds 0 w (with_turn m names limits p q w k) p (around m names limits p q) k true (next_futures w (length (m.stored k))) (turn_thread m names limits p q w k) (quiet w _ refl refl refl))))
        (marked_fits w _)

    plain_fits : (w : World P K) (k : K) → has_procs limits w 1 ≡ true → F w (made_plain m names limits p q w k)
    plain_fits w k h =
        fits_some limits.procs 1 w _ (room w 1 h) (goes_adds 1 w _ (got (process_closure (length w.servers + 1)))
        (made_adds 0 w w p (around m names limits p q) k false [] (m.at_rest k) (itself w)))

    process_fits : (w : World P K) (e : Bool) (k : Option K) → OF w (process_row m names limits p q w e k)
    process_fits w e None = none w
    process_fits w e (Some k) =
        if_all (OF w) (has_procs limits w 1) _ _ (λ h. given w _ (if_all (F w) e _ _ (λ _. eager_fits w k h) (plain_fits w k h))) (given w _ (marked_fits w _))

    make_fits : (w : World P K) (x : Word) (k : Option K) → OF w (make_row m names limits p q w x k)
    make_fits w x k = if_all (OF w) (is_nil x || cleans m names limits p q) _ _ (λ _. close_fits w k) (process_fits w (is_eager x) k)

    sent_adds : (w v : World P K) (k : ℕ) (s : ProcessClosure K) (c : Call) → Adds 0 w v → Adds 0 w (with_sent m names limits p q v k s c)
    sent_adds w v k s c a =
        let b : Adds 0 w (with_event v (send p k c.number)) = event 0 w v (send p k c.number) refl a in
        if_all (Adds 0 w) (s.eager && is_none s.current) _ _ (λ _. call_adds 0 w (with_event v (send p k c.number)) k (record s { sent = c.number }) c b)
        (like 0 w _ (with_event v (send p k c.number)) refl refl refl b)

    sent_fits : (w : World P K) (k : ℕ) (s : ProcessClosure K) (xs : List Word) (used : Bool) → F w (sent_row m names limits p q w k s xs used)
    sent_fits w k s xs used =
        if_all (F w) used _ _ (λ _. on w _ (got (future (length w.futures + 1))) (sent_adds w (with_futures w 1) k s (record { number = s.sent + 1; arguments = xs; reply = Some (length w.futures + 1) }) (quiet w _ refl refl refl)))
        (on w _ (got nil) (sent_adds w w k s (record { number = s.sent + 1; arguments = xs; reply = None }) (itself w)))

    send_fits : (w : World P K) (k : ℕ) (s : Option (ProcessClosure K)) (xs : List Word) (used : Bool) (at : ℕ) → OF w (send_row m names limits p q w k s xs used at)
    send_fits w k None xs used at = none w
    send_fits w k (Some s) xs used at =
        if_all (OF w) (not (length xs == length (m.stored s.body))) _ _ (λ _. given w _ (marked_fits w _))
        (if_all (OF w) s.dead _ _ (λ _. given w _ (marked_fits w _)) (given w _ (sent_fits w k s xs used)))

    taken_fits : (w : World P K) (k : ℕ) (s : ProcessClosure K) (cs : List Call) → OF w (taken_row m names limits p q w k s cs)
    taken_fits w k s [] = none w
    taken_fits w k s (c ∷ cs) =
        if_all (OF w) (has_cells limits w (length (words_boxed (m.stored s.body) c.arguments))) _ _
        (λ _. given w _ (fits limits.procs w _ (like 0 w _ (with_event (with_server (with_boxes w (words_boxed (m.stored s.body) c.arguments)) k (record s { queue = cs; current = Some c })) (take p k c.number))
        refl refl (length_changed _ w.procs p) (event 0 w _ (take p k c.number) refl (quiet w _ refl refl refl)))))
        (given w _ (marked_fits w _))

    take_fits : (w : World P K) (k : ℕ) (s : Option (ProcessClosure K)) → OF w (take_row m names limits p q w k s)
    take_fits w k None = none w
    take_fits w k (Some s) = taken_fits w k s s.queue

    clean_of : (x : Bool) → x ≡ false → not x ≡ true
    clean_of true h = absurd cc
    clean_of false h = refl

    reply_adds : (w : World P K) (k : ℕ) (s : ProcessClosure K) (c : Call) (x : Word) → Adds 0 w (with_reply m names limits p q w k s c x)
    reply_adds w k s c x =
        event 0 w _ (reply p k c.number (Some (short_text names w.pairs x))) (clean_of _ (short_clean names one w.pairs x)) (quiet w _ refl refl refl)

    next_turn_adds : (w v : World P K) (k : ℕ) (s : ProcessClosure K) → Adds 0 w v → Adds 0 w (with_next_turn m names limits p q v k s)
    next_turn_adds w v k s a =
        next_call_adds 0 w _ k (record s { current = None; turn = next_futures v (length (m.stored s.body)) }) s.queue
        (like 0 w (with_thread (with_server (with_turn m names limits p q v s.body) k (record s { current = None; turn = next_futures v (length (m.stored s.body)) })) p (turn_thread m names limits p q v s.body)) v
        refl refl (length_changed _ v.procs p) a)

    replied_fits : (w : World P K) (k : ℕ) (s : ProcessClosure K) (c : Call) (x : Word) → F w (replied_row m names limits p q w k s c x)
    replied_fits w k s c x =
        if_all (F w) s.eager _ _
        (λ _. if_all (F w) (has_cells limits w (length (turn_boxes m names limits p q w s.body))) _ _
        (λ _. fits limits.procs w _ (next_turn_adds w (with_reply m names limits p q w k s c x) k s (reply_adds w k s c x))) (marked_fits w _))
        (fits limits.procs w _ (like 0 w _ (with_reply m names limits p q w k s c x) refl refl (length_changed _ w.procs p) (reply_adds w k s c x)))

    reply_to_fits : (w : World P K) (k : ℕ) (s : ProcessClosure K) (c : Option Call) (x : Word) → OF w (reply_to m names limits p q w k s c x)
    reply_to_fits w k s None x = none w
    reply_to_fits w k s (Some c) x = given w _ (replied_fits w k s c x)

    reply_fits : (w : World P K) (k : ℕ) (s : Option (ProcessClosure K)) (x : Word) → OF w (reply_row m names limits p q w k s x)
    reply_fits w k None x = none w
    reply_fits w k (Some s) x = reply_to_fits w k s s.current x

    open_fits : (w : World P K) (tag : Word) (waits : Bool) → F w (open_row m names limits p q w tag waits)
    open_fits w tag waits =
        on w _ (machine.numbered (length w.catches)) (event 0 w (record w { catches = record { owner = p; tag = Some tag; enclosing = around m names limits p q; waits = waits; open_still = true } ∷ w.catches })
        (opened p (length w.catches) (around m names limits p q)) refl (quiet w _ refl refl refl))

    exit_fits : (w : World P K) (c : ℕ) (k : Option Catch) → OF w (exit_row m names limits p q w c k)
    exit_fits w c None = none w
    exit_fits w c (Some k) =
        given w _ (on w _ done (like 0 w _ (killed_within m (with_event w (exit p c)) c k.owner) refl refl refl
        (within_adds 0 w (with_event w (exit p c)) c k.owner (event 0 w w (exit p c) refl (itself w)))))

    thrown_fits : (w : World P K) (c : ℕ) (k : Option Catch) (x : Word) → OF w (thrown_row m names limits p q w c k x)
    thrown_fits w c None x = none w
    thrown_fits w c (Some k) x =
        let v = killed_within m (with_event w (throw p c)) c k.owner in
        let a : Adds 0 w v = within_adds 0 w (with_event w (throw p c)) c k.owner (event 0 w w (throw p c) refl (itself w)) in
        given w _ (if_all (F w) (cleans m names limits p q) _ _ (λ _. on w v (aimed (to c x)) a) (fits limits.procs w _ (like 0 w _ v refl refl (length_changed _ v.procs k.owner) a)))

    throw_fits : (w : World P K) (c : Option ℕ) (x : Word) (at : ℕ) → OF w (throw_row m names limits p q w c x at)
    throw_fits w None x at = given w _ (marked_fits w _)
    throw_fits w (Some c) x at = thrown_fits w c (catch_at w.catches c) x

    protect_fits : (w : World P K) → F w (protect_row m names limits p q w)
    protect_fits w = on w _ (machine.numbered (w.protects + 1)) (event 0 w (record w { protects = w.protects + 1 }) (protect p (w.protects + 1)) refl (quiet w _ refl refl refl))

    leave_fits : (w : World P K) (c : ℕ) (o : Option Word) → F w (leave_row m names limits p q w c o)
    leave_fits w c None = on w _ unwinds (quiet w (without_catch w c) refl refl refl)
    leave_fits w c (Some x) =
        let v = without_catch (with_event w (land p c)) c in
        let a : Adds 0 w v = like 0 w v (with_event w (land p c)) refl refl refl (event 0 w w (land p c) refl (itself w)) in
        on w _ (got x) (if_all (Adds 0 w) (cleans m names limits p q) v (with_aim v p free) (λ _. a) (like 0 w _ v refl refl (length_changed _ v.procs p) a))

    -- it has ended
    end_adds : (w v : World P K) → Adds 0 w v → F w (goes m names limits p q (with_end v p) done)
    end_adds w v a = on w _ done (like 0 w (with_end v p) v refl refl (length_changed _ v.procs p) a)

    last_fits : (w : World P K) → F w (last_row m names limits p q w)
    last_fits w =
        let v = killed_within m (with_event w (exit p 0)) 0 p in
        end_adds w _ (event 0 w (without_catch v 0) (end_ok p None) refl (like 0 w _ v refl refl refl (within_adds 0 w (with_event w (exit p 0)) 0 p (event 0 w w (exit p 0) refl (itself w)))))

    end_fits : (w : World P K) (kind : Kind) (e : Ending) → OF w (end_row m names limits p q w kind e)
    end_fits w main last_form = given w _ (last_fits w)
    end_fits w (child f) last_form = given w _ (last_fits w)
    end_fits w (serving k) last_form = given w _ (last_fits w)
    end_fits w (child f) (with_word x) =
        given w _ (end_adds w _ (event 0 w (with_future w f (valued x)) (end_ok p (Some (short_text names w.pairs x))) (clean_of _ (short_clean names one w.pairs x)) (quiet w _ refl refl refl)))
    end_fits w main (with_word x) = none w
    end_fits w (serving k) (with_word x) = none w
    end_fits w main unwound = given w _ (end_adds w _ (event 0 w w (end_killed p) refl (itself w)))
    end_fits w (child f) unwound = given w _ (end_adds w _ (event 0 w w (end_killed p) refl (itself w)))
    end_fits w (serving k) unwound = given w _ (end_adds w _ (event 0 w w (end_killed p) refl (itself w)))

    server_fits : (w : World P K) (f : ℕ → Option (World P K)) → ((k : ℕ) → OF w (f k)) → (kind : Kind) → OF w (server_row m names limits p q f kind)
    server_fits w f h (serving k) = h k
    server_fits w f h main = none w
    server_fits w f h (child g) = none w

    row_fits : (w : World P K) (want : Want) → OF w (row m names limits p q w want)
    row_fits w (awaits f at) = await_fits w (or_pending (numbered w.futures f)) at
    row_fits w takes_literal = given w _ (on w w done (itself w))
    row_fits w (reads place at) = variable_fits w place at
    row_fits w (stores place x) = store_fits w place x
    row_fits w branches = given w _ (on w w done (itself w))
    row_fits w (computes o xs at) = primitive_fits w (computed w.pairs o xs) at
    row_fits w (prints x) = given w _ (print_fits w (value_text names w.pairs x ++ 10 ∷ []))
    row_fits w (binds bs xs) = given w _ (bind_fits w bs xs bound)
    row_fits w (calls bs xs) = given w _ (bind_fits w bs xs bound)
    row_fits w returns = given w _ (on w w done (itself w))
    row_fits w closes = close_fits w (m.closure q.thread)
    row_fits w (funcalls x xs at) = funcall_fits w x xs at
    row_fits w (chooses x) = given w _ (mode_fits w x (m.children q.thread))
    row_fits w (makes x) = make_fits w x (m.closure q.thread)
    row_fits w (sends k xs used at) = send_fits w k (numbered w.servers k) xs used at
    row_fits w takes_call = server_fits w _ (λ k. take_fits w k (numbered w.servers k)) q.kind
    row_fits w (replies x) = server_fits w _ (λ k. reply_fits w k (numbered w.servers k) x) q.kind
    row_fits w (opens tag waits) = given w _ (open_fits w tag waits)
    row_fits w (exits c) = exit_fits w c (catch_at w.catches c)
    row_fits w (throws tag x at) = throw_fits w (seen_catch m names limits p q w tag) x at
    row_fits w protects = given w _ (protect_fits w)
    row_fits w (begins u) = given w _ (on w _ (machine.numbered (pred (length w.catches))) (event 0 w w (begin p u) refl (itself w)))
    row_fits w (finishes u) = given w _ (on w _ (finish_answer m names limits p q (acting (drop 1 (m.cleanups q.thread)) q.aim)) (event 0 w w (finish p u) refl (itself w)))
    row_fits w (leaves c) = given w _ (leave_fits w c (landing (acting (m.cleanups q.thread) q.aim) c))
    row_fits w (ends ending) = end_fits w q.kind ending
    row_fits w rests = none w

  -- a tick counts itself, and adds what its row does
  pub tick_fits : (names : List (List ℕ)) → AreOneLine names → (limits : Limits) (p : ℕ) (w v : World P K) → tick m names limits w p ≡ Some v → Fits limits.procs (counted w p) v
  tick_fits names one limits p w v h =
      let x = then_some (λ q. step m names limits p q w) (numbered w.procs p) v h in
      let y = if_some (can_step m names limits p x.0 w) (row m names limits p x.0 (counted w p) (m.want x.0.thread)) v x.1.1 in
      row_fits names one limits p x.0 (counted w p) (m.want x.0.thread) v y.1
