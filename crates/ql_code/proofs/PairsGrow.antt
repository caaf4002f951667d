-- Ticks keep the pairs that are there, and the cells within their limit.
use Rattle.std.proofs.Common.{◌≡◌, ℕ, zero, suc, ◌+◌, ◌==◌, leb, Bool, true, false, not, ◌&&◌, ◌||◌, if◌then◌else◌, List, [], ◌∷◌, ◌++◌, length, Option, Some, None, is_none, refl, sym, ap, ◌∙◌, subst, map, ◌≤◌, leb-true, append_assoc, append-nil, arith}
use Rattle.ql_base.specs.declared.limits.Limits.{Limits}
use Rattle.ql_world.specs.Word.{is_nil}
use Rattle.ql_world.specs.declared.word.Word.{Word}
use Rattle.ql_world.specs.declared.word.Word.TheVariants.{Fun as closure, Proc as process_closure, Fut as future}
use Rattle.ql_world.specs.declared.word.Slot.{Slot}
use Rattle.ql_world.specs.declared.event.Event.TheVariants.{Exit as event_exit, Throw as event_throw}
use Rattle.ql_world.specs.declared.operator.Computed.{Computed as Result}
use Rattle.ql_world.specs.declared.operator.Computed.TheVariants.{Gives as gives, Fails as fails, Joins as joins}
use Rattle.ql_world.specs.World.{Call, ProcessClosure, World, numbered, catch_at, counted, with_event, numbers}
use Rattle.ql_world.specs.declared.world.FutState.{FutState as Future}
use Rattle.ql_world.specs.declared.world.FutState.TheVariants.{Pending as pending, Value as valued, Dead as dead}
use Rattle.ql_world.specs.declared.world.Catch.{Catch}
use Rattle.ql_world.specs.declared.world.Kind.{Kind}
use Rattle.ql_world.specs.declared.world.Kind.TheVariants.{Main as main, Child as child, Closure as serving}
use Rattle.ql_world.specs.declared.world.Process.{Process}
use Rattle.ql_world.specs.Within.{is_live, is_within}
use Rattle.ql_world.specs.Machine.{Place, held, box, global, Ending, last_form, with_word, unwound, Want, awaits, takes_literal, reads, stores, branches, computes, prints, binds, calls, returns, closes, funcalls, chooses, makes, sends, takes_call, replies, opens, exits, throws, protects, begins, finishes, leaves, ends, rests, Answer, entered, bound, Machine}
use Rattle.ql_world.specs.Idle.{in_cleanup, killed_within, abandoned_server, abandoned, killed_if_within, killed_among}
use Rattle.ql_world.specs.Tick.{with_child, with_children, next_futures, with_next_call, with_sent, await_row, of_box, of_global, variable_row, store_row, primitive_row, print_row, bind_row, close_row, enter_row, funcall_row, mode_row, turn_boxes, made_eager, made_plain, process_row, make_row, sent_row, send_row, taken_row, take_row, replied_row, reply_to, reply_row, exit_row, thrown_row, throw_row, land_row, leave_row, last_row, end_row, server_row, row, can_step, step, tick, has_cells, has_procs, words_boxed, with_futures, with_reply}
use Rattle.ql_world.specs.Run.{stop_of, run}
use Rattle.ql_code.specs.Code.{Code}
use Rattle.ql_code.specs.Machine.{Point, Entry, code_machine, code_world}
use Rattle.ql_code.proofs.Within.{of_if, of_and_then}

on_if : {A : Type 0} → (Q : A → Type 0) → (b : Bool) → (x y : A) → Q x → Q y → Q (if b then x else y)
on_if Q true x y h k = h
on_if Q false x y h k = k

on_test : {A : Type 0} → (Q : A → Type 0) → (b : Bool) → (x y : A) → (b ≡ true → Q x) → Q y → Q (if b then x else y)
on_test Q true x y h k = h refl
on_test Q false x y h k = k

-- a number of boxes, whichever futures are in them
as_many : (bs : List Bool) (n a b : ℕ) → length (words_boxed bs (map future (numbers a n))) ≡ length (words_boxed bs (map future (numbers b n)))
as_many [] n a b = refl
as_many (true ∷ bs) zero a b = refl
as_many (false ∷ bs) zero a b = refl
as_many (true ∷ bs) (suc n) a b = ap suc (as_many bs n (a + 1) (b + 1))
as_many (false ∷ bs) (suc n) a b = as_many bs n (a + 1) (b + 1)

module _ {P K : Type 0} (m : Machine P K) (names : List (List ℕ)) (limits : Limits) where
  -- these pairs are the first ones, and the cells are within their limit
  pub record Grown (known pairs : List (Word × Word)) (cells : ℕ) : Type 0 where
    pub within : cells ≤ limits.cells
    pub more : List (Word × Word)
    pub grows : known ++ more ≡ pairs

  abbrev pub Keeps : List (Word × Word) → World P K → Type 0
  Keeps known w = Grown known w.pairs w.cells

  server_keeps : (known : List (Word × Word)) (w : World P K) (k : ℕ) (s : Option (ProcessClosure K)) → Keeps known w → Keeps known (abandoned_server m w k s)
  server_keeps known w k None h = h
  server_keeps known w k (Some s) h = h

  abandoned_keeps : (known : List (Word × Word)) (w : World P K) (kind : Kind) → Keeps known w → Keeps known (abandoned m w kind)
  abandoned_keeps known w main h = h
  abandoned_keeps known w (child f) h = h
  abandoned_keeps known w (serving k) h = server_keeps known w k (numbered w.servers k) h

  killed_one_keeps : (known : List (Word × Word)) (w : World P K) (c owner n : ℕ) (o : Option (Process P)) → Keeps known w → Keeps known (killed_if_within m w c owner n o)
  killed_one_keeps known w c owner n None h = h
  killed_one_keeps known w c owner n (Some q) h = on_if (Keeps known) (is_live q && (is_within w.catches q c && not (n == owner))) _ _ (abandoned_keeps known _ q.kind h) h

  killed_keeps : (known : List (Word × Word)) (w : World P K) (c owner n : ℕ) → Keeps known w → Keeps known (killed_among m w c owner n)
  killed_keeps known w c owner zero h = h
  killed_keeps known w c owner (suc n) h = killed_one_keeps known (killed_among m w c owner n) c owner (suc n) _ (killed_keeps known w c owner n h)

  module _ (known : List (Word × Word)) (r : ℕ) (q : Process P) where
    abbrev Good : World P K → Type 0
    Good = Keeps known

    abbrev AllGood : Option (World P K) → Type 0
    AllGood None = Unit {0}
    AllGood (Some v) = Good v

    on_room : (w : World P K) (n : ℕ) {A : Type 0} → (Q : A → Type 0) → (x y : A) → (w.cells + n ≤ limits.cells → Q x) → Q y → Q (if has_cells limits w n then x else y)
    on_room w n Q x y f k = on_test Q (has_cells limits w n) x y (λ t. f (leb-true (w.cells + n) limits.cells t)) k

    more_cells : (w : World P K) (n : ℕ) → Good w → w.cells + n ≤ limits.cells → Grown known w.pairs (w.cells + n)
    more_cells w n h l = record { within = l; more = h.more; grows = h.grows }

    one_pair : (w : World P K) (x : Word × Word) → w.cells + 1 ≤ limits.cells → Good w → Grown known (w.pairs ++ x ∷ []) (w.cells + 1)
    one_pair w x l h = record { within = l; more = h.more ++ x ∷ []; grows = sym (append_assoc known h.more (x ∷ [])) ∙ ap (λ ps. ps ++ x ∷ []) h.grows }

    killed_good : (w : World P K) (c owner : ℕ) → Good w → Good (killed_within m w c owner)
    killed_good w c owner h = killed_keeps known w c owner (length w.procs) h

    await_good : (w : World P K) (s : Future) (at : ℕ) → Good w → AllGood (await_row m names limits r q w s at)
    await_good w pending at h = tt
    await_good w (valued x) at h = h
    await_good w dead at h = h

    box_good : (w : World P K) (x : Option Word) → Good w → AllGood (of_box m names limits r q w x)
    box_good w None h = tt
    box_good w (Some x) h = h

    global_good : (w : World P K) (x : Option (Option Word)) (at : ℕ) → Good w → AllGood (of_global m names limits r q w x at)
    global_good w None at h = tt
    global_good w (Some None) at h = h
    global_good w (Some (Some x)) at h = h

    variable_good : (w : World P K) (place : Place) (at : ℕ) → Good w → AllGood (variable_row m names limits r q w place at)
    variable_good w held at h = h
    variable_good w (box n) at h = box_good w _ h
    variable_good w (global g) at h = global_good w _ at h

    store_good : (w : World P K) (place : Place) (x : Word) → Good w → AllGood (store_row m names limits r q w place x)
    store_good w held x h = tt
    store_good w (box n) x h = h
    store_good w (global g) x h = h

    primitive_good : (w : World P K) (x : Option Result) (at : ℕ) → Good w → AllGood (primitive_row m names limits r q w x at)
    primitive_good w None at h = tt
    primitive_good w (Some (gives x)) at h = h
    primitive_good w (Some (fails k)) at h = h
    primitive_good w (Some (joins a b)) at h = on_room w 1 AllGood _ _ (λ l. one_pair w (a, b) l h) h

    print_good : (w : World P K) (text : List ℕ) → Good w → Good (print_row m names limits r q w text)
    print_good w text h = on_if Good (leb (length w.output + length text) limits.output) _ _ h h

    bind_good : (w : World P K) (bs : List Bool) (xs : List Word) (f : List Slot → Answer K) → Good w → Good (bind_row m names limits r q w bs xs f)
    bind_good w bs xs f h = on_room w (length (words_boxed bs xs)) Good _ _ (more_cells w (length (words_boxed bs xs)) h) h

    close_good : (w : World P K) (k : Option K) → Good w → AllGood (close_row m names limits r q w k)
    close_good w None h = tt
    close_good w (Some k) h = on_room w 1 AllGood _ _ (more_cells w 1 h) h

    enter_good : (w : World P K) (k : Option K) (xs : List Word) (at : ℕ) → Good w → AllGood (enter_row m names limits r q w k xs at)
    enter_good w None xs at h = tt
    enter_good w (Some k) xs at h = on_if AllGood (length xs == length (m.stored k)) _ _ (bind_good w (m.stored k) xs (entered k) h) h

    funcall_good : (w : World P K) (x : Word) (xs : List Word) (at : ℕ) → Good w → AllGood (funcall_row m names limits r q w x xs at)
    funcall_good w (closure n) xs at h = enter_good w _ xs at h
    funcall_good w (process_closure n) xs at h = h
    funcall_good w x xs at h = h

    children_keep : (home : ℕ) (ts : List P) (w : World P K) → Good w → Good (with_children w r home ts)
    children_keep home [] w h = h
    children_keep home (t ∷ ts) w h = children_keep home ts (with_child w r home t) h

    mode_good : (w : World P K) (x : Word) (ts : List P) → Good w → Good (mode_row m names limits r q w x ts)
    mode_good w x ts h =
        on_if Good (is_nil x || in_cleanup (m.cleanups q.thread)) _ _ h
        (on_if Good (has_procs limits w (length ts)) _ _ (children_keep _ ts w h) h)

    made_eager_good : (w : World P K) (k : K) → Good w → Good (made_eager m names limits r q w k)
    made_eager_good w k h = on_room w (length (turn_boxes m names limits r q w k)) Good _ _ (more_cells w (length (turn_boxes m names limits r q w k)) h) h

    made_plain_good : (w : World P K) (k : K) → Good w → Good (made_plain m names limits r q w k)
    made_plain_good w k h = h

    process_good : (w : World P K) (e : Bool) (k : Option K) → Good w → AllGood (process_row m names limits r q w e k)
    process_good w e None h = tt
    process_good w e (Some k) h = on_if AllGood (has_procs limits w 1) _ _ (on_if Good e _ _ (made_eager_good w k h) (made_plain_good w k h)) h

    make_good : (w : World P K) (x : Word) (k : Option K) → Good w → AllGood (make_row m names limits r q w x k)
    make_good w x k h = on_if AllGood (is_nil x || in_cleanup (m.cleanups q.thread)) _ _ (close_good w k h) (process_good w _ k h)

    sent_keeps : (w : World P K) (k : ℕ) (s : ProcessClosure K) (c : Call) → Good w → Good (with_sent m names limits r q w k s c)
    sent_keeps w k s c h = on_if Good (s.eager && is_none s.current) _ _ h h

    sent_good : (w : World P K) (k : ℕ) (s : ProcessClosure K) (xs : List Word) (used : Bool) → Good w → Good (sent_row m names limits r q w k s xs used)
    sent_good w k s xs true h = sent_keeps (with_futures w 1) k s (record { number = s.sent + 1; arguments = xs; reply = Some (length w.futures + 1) }) h
    sent_good w k s xs false h = sent_keeps w k s (record { number = s.sent + 1; arguments = xs; reply = None }) h

    send_good : (w : World P K) (k : ℕ) (s : Option (ProcessClosure K)) (xs : List Word) (used : Bool) (at : ℕ) → Good w → AllGood (send_row m names limits r q w k s xs used at)
    send_good w k None xs used at h = tt
    send_good w k (Some s) xs used at h = on_if AllGood (not (length xs == length (m.stored s.body))) _ _ h (on_if AllGood s.dead _ _ h (sent_good w k s xs used h))

    taken_good : (w : World P K) (k : ℕ) (s : ProcessClosure K) (cs : List Call) → Good w → AllGood (taken_row m names limits r q w k s cs)
    taken_good w k s [] h = tt
    taken_good w k s (c ∷ cs) h = on_room w (length (words_boxed (m.stored s.body) c.arguments)) AllGood _ _ (more_cells w (length (words_boxed (m.stored s.body) c.arguments)) h) h

    take_good : (w : World P K) (k : ℕ) (s : Option (ProcessClosure K)) → Good w → AllGood (take_row m names limits r q w k s)
    take_good w k None h = tt
    take_good w k (Some s) h = taken_good w k s s.queue h

    next_call_keeps : (w : World P K) (k : ℕ) (s : ProcessClosure K) (cs : List Call) → Good w → Good (with_next_call w k s cs)
    next_call_keeps w k s [] h = h
    next_call_keeps w k s (c ∷ cs) h = h

    replied_good : (w : World P K) (k : ℕ) (s : ProcessClosure K) (c : Call) (x : Word) → Good w → Good (replied_row m names limits r q w k s c x)
    replied_good w k s c x h =
        let v = with_reply m names limits r q w k s c x in
        let n = length (turn_boxes m names limits r q w s.body) in
        let same : n ≡ length (turn_boxes m names limits r q v s.body) = as_many (m.stored s.body) (length (m.stored s.body)) (length w.futures + 1) (length v.futures + 1) in
        on_if Good s.eager _ _
        (on_room w n Good _ _
        (λ l. next_call_keeps _ k (record s { current = None; turn = next_futures v (length (m.stored s.body)) }) s.queue (more_cells v (length (turn_boxes m names limits r q v s.body)) h (subst (λ j. w.cells + j ≤ limits.cells) same l)))
        h)
        h

    reply_to_good : (w : World P K) (k : ℕ) (s : ProcessClosure K) (c : Option Call) (x : Word) → Good w → AllGood (reply_to m names limits r q w k s c x)
    reply_to_good w k s None x h = tt
    reply_to_good w k s (Some c) x h = replied_good w k s c x h

    reply_good : (w : World P K) (k : ℕ) (s : Option (ProcessClosure K)) (x : Word) → Good w → AllGood (reply_row m names limits r q w k s x)
    reply_good w k None x h = tt
    reply_good w k (Some s) x h = reply_to_good w k s s.current x h

    exit_good : (w : World P K) (c : ℕ) (k : Option Catch) → Good w → AllGood (exit_row m names limits r q w c k)
    exit_good w c None h = tt
    exit_good w c (Some k) h = killed_good (with_event w (event_exit r c)) c k.owner h

    thrown_good : (w : World P K) (c : ℕ) (k : Option Catch) (x : Word) → Good w → AllGood (thrown_row m names limits r q w c k x)
    thrown_good w c None x h = tt
    thrown_good w c (Some k) x h = on_if Good (in_cleanup (m.cleanups q.thread)) _ _ (killed_good (with_event w (event_throw r c)) c k.owner h) (killed_good (with_event w (event_throw r c)) c k.owner h)

    throw_good : (w : World P K) (c : Option ℕ) (x : Word) (at : ℕ) → Good w → AllGood (throw_row m names limits r q w c x at)
    throw_good w None x at h = h
    throw_good w (Some c) x at h = thrown_good w c (catch_at w.catches c) x h

    land_good : (w : World P K) (c : ℕ) (x : Word) → Good w → Good (land_row m names limits r q w c x)
    land_good w c x h = on_if Good (in_cleanup (m.cleanups q.thread)) _ _ h h

    leave_good : (w : World P K) (c : ℕ) (x : Option Word) → Good w → Good (leave_row m names limits r q w c x)
    leave_good w c None h = h
    leave_good w c (Some x) h = land_good w c x h

    last_good : (w : World P K) → Good w → Good (last_row m names limits r q w)
    last_good w h = killed_good (with_event w (event_exit r 0)) 0 r h

    end_good : (w : World P K) (k : Kind) (e : Ending) → Good w → AllGood (end_row m names limits r q w k e)
    end_good w k last_form h = last_good w h
    end_good w (child f) (with_word x) h = h
    end_good w main (with_word x) h = tt
    end_good w (serving k) (with_word x) h = tt
    end_good w k unwound h = h

    server_good : (f : ℕ → Option (World P K)) (k : Kind) → ((n : ℕ) → AllGood (f n)) → AllGood (server_row m names limits r q f k)
    server_good f (serving k) h = h k
    server_good f main h = tt
    server_good f (child n) h = tt

    row_good : (w : World P K) (want : Want) → Good w → AllGood (row m names limits r q w want)
    row_good w (awaits f at) h = await_good w _ at h
    row_good w takes_literal h = h
    row_good w (reads place at) h = variable_good w place at h
    row_good w (stores place x) h = store_good w place x h
    row_good w branches h = h
    row_good w (computes op xs at) h = primitive_good w _ at h
    row_good w (prints x) h = print_good w _ h
    row_good w (binds bs xs) h = bind_good w bs xs bound h
    row_good w (calls bs xs) h = bind_good w bs xs bound h
    row_good w returns h = h
    row_good w closes h = close_good w _ h
    row_good w (funcalls x xs at) h = funcall_good w x xs at h
    row_good w (chooses x) h = mode_good w x _ h
    row_good w (makes x) h = make_good w x _ h
    row_good w (sends k xs used at) h = send_good w k _ xs used at h
    row_good w takes_call h = server_good _ q.kind (λ k. take_good w k _ h)
    row_good w (replies x) h = server_good _ q.kind (λ k. reply_good w k _ x h)
    row_good w (opens tag waits) h = h
    row_good w (exits c) h = exit_good w c _ h
    row_good w (throws tag x at) h = throw_good w _ x at h
    row_good w protects h = h
    row_good w (begins u) h = h
    row_good w (finishes u) h = h
    row_good w (leaves c) h = leave_good w c _ h
    row_good w (ends e) h = end_good w q.kind e h
    row_good w rests h = tt

    step_good : (w : World P K) → Good w → AllGood (step m names limits r q w)
    step_good w h = on_if AllGood (can_step m names limits r q w) _ _ (row_good (counted w r) (m.want q.thread) h) tt

  pub tick_keeps : (known : List (Word × Word)) (w v : World P K) (r : ℕ) → Keeps known w → tick m names limits w r ≡ Some v → Keeps known v
  tick_keeps known w v r h e =
      let t = of_and_then (λ q. step m names limits r q w) (numbered w.procs r) v e in
      subst (AllGood known r t.0) t.2 (step_good known r t.0 w h)

  pub run_keeps : (schedule : List ℕ) (known : List (Word × Word)) (w v : World P K) → Keeps known w → run m names limits w schedule ≡ Some v → Keeps known v
  run_keeps [] known w v h e = let same : w ≡ v = cc in subst (Keeps known) same h
  run_keeps (r ∷ rs) known w v h e =
      let i = of_if (is_none (stop_of m names limits w)) _ v e in
      let t = of_and_then (λ u. run m names limits u rs) (tick m names limits w r) v i.1 in
      run_keeps rs known t.0 v (tick_keeps known w t.0 r h t.1) t.2

  -- The pairs of a world are the first ones after every schedule.
  pub pairs_stay : (schedule : List ℕ) (w v : World P K) → w.cells ≤ limits.cells → run m names limits w schedule ≡ Some v → Keeps w.pairs v
  pairs_stay schedule w v h e = run_keeps schedule w.pairs w v (record { within = h; more = []; grows = append-nil w.pairs }) e

-- The cells are within their limit in each run of code.
pub cells_fit : (code : Code) (names : List (List ℕ)) (limits : Limits) (schedule : List ℕ) (v : World Point Entry) → run (code_machine code.instructions) names limits (code_world code) schedule ≡ Some v → v.cells ≤ limits.cells
cells_fit code names limits schedule v e = let k = pairs_stay (code_machine code.instructions) names limits schedule (code_world code) v (omega arith) e in k.within
