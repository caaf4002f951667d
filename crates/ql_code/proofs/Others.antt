-- What a tick of another process does to a process: nothing, or a kill, or a throw that it has to leave for.
use Rattle.std.proofs.Common.{◌≡◌, ◌≢◌, ℕ, zero, suc, ◌+◌, ◌==◌, leb, Bool, true, false, not, ◌&&◌, ◌||◌, if◌then◌else◌, List, [], ◌∷◌, ◌++◌, length, Option, Some, None, is_none, option_map, slice_get, refl, sym, ap, ◌∙◌, subst, ⊎_elim, eqb-true, eq-eqb}
use Rattle.ql_base.specs.declared.limits.Limits.{Limits}
use Rattle.ql_world.specs.Word.{is_nil}
use Rattle.ql_world.specs.declared.word.Word.{Word}
use Rattle.ql_world.specs.declared.word.Word.TheVariants.{Fun as closure, Proc as process_closure}
use Rattle.ql_world.specs.declared.word.Slot.{Slot}
use Rattle.ql_world.specs.declared.event.Event.TheVariants.{Exit as event_exit, Throw as event_throw}
use Rattle.ql_world.specs.declared.operator.Computed.{Computed as Result}
use Rattle.ql_world.specs.declared.operator.Computed.TheVariants.{Gives as gives, Fails as fails, Joins as joins}
use Rattle.ql_world.specs.World.{Call, ProcessClosure, World, numbered, change_numbered, catch_at, counted, with_event}
use Rattle.ql_world.specs.declared.world.FutState.{FutState as Future}
use Rattle.ql_world.specs.declared.world.FutState.TheVariants.{Pending as pending, Value as valued, Dead as dead}
use Rattle.ql_world.specs.declared.world.Aim.{Aim}
use Rattle.ql_world.specs.declared.world.Aim.TheVariants.{To as to}
use Rattle.ql_world.specs.declared.world.Catch.{Catch}
use Rattle.ql_world.specs.declared.world.Kind.{Kind}
use Rattle.ql_world.specs.declared.world.Kind.TheVariants.{Main as main, Child as child, Closure as serving}
use Rattle.ql_world.specs.declared.world.Process.{Process}
use Rattle.ql_world.specs.Within.{is_live, is_within}
use Rattle.ql_world.specs.Machine.{Place, held, box, global, Ending, last_form, with_word, unwound, Want, awaits, takes_literal, reads, stores, branches, computes, prints, binds, calls, returns, closes, funcalls, chooses, makes, sends, takes_call, replies, opens, exits, throws, protects, begins, finishes, leaves, ends, rests, Answer, entered, bound, Machine}
use Rattle.ql_world.specs.Idle.{in_cleanup, killed_within, unwinds_at}
use Rattle.ql_world.specs.Tick.{with_child, with_children, next_futures, with_next_call, with_sent, await_row, of_box, of_global, variable_row, store_row, primitive_row, print_row, bind_row, close_row, enter_row, funcall_row, mode_row, turn_boxes, made_eager, made_plain, process_row, make_row, sent_row, send_row, taken_row, take_row, with_next_turn, replied_row, reply_to, reply_row, exit_row, with_owner_aimed, thrown_row, throw_row, land_row, leave_row, last_row, end_row, server_row, row, can_step, step, tick, has_cells, has_procs, words_boxed}
use Rattle.ql_code.proofs.Within.{cases, of_and_then}
use Rattle.ql_code.proofs.Kills.{numbered_other, numbered_here, dying, hit, killed_each}

on_if : {A : Type 0} → (Q : A → Type 0) → (b : Bool) → (x y : A) → Q x → Q y → Q (if b then x else y)
on_if Q true x y h k = h
on_if Q false x y h k = k

module _ {A : Type 0} where
  got_longer : (xs ys : List A) (i : ℕ) (x : A) → slice_get xs i ≡ Some x → slice_get (xs ++ ys) i ≡ Some x
  got_longer [] ys i x e = absurd cc
  got_longer (y ∷ xs) ys zero x e = e
  got_longer (y ∷ xs) ys (suc i) x e = got_longer xs ys i x e

  numbered_longer : (xs ys : List A) (p : ℕ) (x : A) → numbered xs p ≡ Some x → numbered (xs ++ ys) p ≡ Some x
  numbered_longer xs ys zero x e = absurd cc
  numbered_longer xs ys (suc n) x e = got_longer xs ys n x e

module _ {P K : Type 0} (m : Machine P K) where
  abbrev pub aimed : Aim → Process P → Process P
  aimed a q = record q { aim = a; thread = unwinds_at m q.thread }

  -- what others make of process q
  pub data Change (q v : Process P) : Type 0 where
    same : v ≡ q → Change q v
    killed : is_live q ≡ true → v ≡ dying m q → Change q v
    thrown : (c : ℕ) (x : Word) → v ≡ aimed (to c x) q → Change q v

  pub record Became (q : Process P) (o : Option (Process P)) : Type 0 where
    pub now : Process P
    pub is_there : o ≡ Some now
    pub change : Change q now

  module _ (names : List (List ℕ)) (limits : Limits) (p r : ℕ) (apart : p ≢ r) (q : Process P) (o : Process P) where
    -- process p is still o
    abbrev Keeps : World P K → Type 0
    Keeps w = numbered w.procs p ≡ Some o

    abbrev Good : World P K → Type 0
    Good v = Became o (numbered v.procs p)

    abbrev AllGood : Option (World P K) → Type 0
    AllGood None = Unit {0}
    AllGood (Some v) = Good v

    good : (ps : List (Process P)) → numbered ps p ≡ Some o → Became o (numbered ps p)
    good ps h = record { now = o; is_there = h; change = same refl }

    -- the other one changes
    moves : (ps : List (Process P)) (f : Process P → Process P) → numbered ps p ≡ Some o → numbered (change_numbered f ps r) p ≡ Some o
    moves ps f h = numbered_other f ps p r apart ∙ h

    moved : (ps : List (Process P)) (f : Process P → Process P) → Became o (numbered ps p) → Became o (numbered (change_numbered f ps r) p)
    moved ps f g = record { now = g.now; is_there = numbered_other f ps p r apart ∙ g.is_there; change = g.change }

    await_good : (w : World P K) (s : Future) (at : ℕ) → Keeps w → AllGood (await_row m names limits r q w s at)
    await_good w pending at h = tt
    await_good w (valued x) at h = good _ (moves _ _ h)
    await_good w dead at h = good _ h

    box_good : (w : World P K) (x : Option Word) → Keeps w → AllGood (of_box m names limits r q w x)
    box_good w None h = tt
    box_good w (Some x) h = good _ (moves _ _ h)

    global_good : (w : World P K) (x : Option (Option Word)) (at : ℕ) → Keeps w → AllGood (of_global m names limits r q w x at)
    global_good w None at h = tt
    global_good w (Some None) at h = good _ h
    global_good w (Some (Some x)) at h = good _ (moves _ _ h)

    variable_good : (w : World P K) (place : Place) (at : ℕ) → Keeps w → AllGood (variable_row m names limits r q w place at)
    variable_good w held at h = good _ (moves _ _ h)
    variable_good w (box n) at h = box_good w _ h
    variable_good w (global g) at h = global_good w _ at h

    store_good : (w : World P K) (place : Place) (x : Word) → Keeps w → AllGood (store_row m names limits r q w place x)
    store_good w held x h = tt
    store_good w (box n) x h = good _ (moves _ _ h)
    store_good w (global g) x h = good _ (moves _ _ h)

    primitive_good : (w : World P K) (x : Option Result) (at : ℕ) → Keeps w → AllGood (primitive_row m names limits r q w x at)
    primitive_good w None at h = tt
    primitive_good w (Some (gives x)) at h = good _ (moves _ _ h)
    primitive_good w (Some (fails k)) at h = good _ h
    primitive_good w (Some (joins a b)) at h = on_if AllGood (has_cells limits w 1) _ _ (good _ (moves _ _ h)) (good _ h)

    print_good : (w : World P K) (text : List ℕ) → Keeps w → Good (print_row m names limits r q w text)
    print_good w text h = on_if Good (leb (length w.output + length text) limits.output) _ _ (good _ (moves _ _ h)) (good _ h)

    bind_good : (w : World P K) (bs : List Bool) (xs : List Word) (f : List Slot → Answer K) → Keeps w → Good (bind_row m names limits r q w bs xs f)
    bind_good w bs xs f h = on_if Good (has_cells limits w (length (words_boxed bs xs))) _ _ (good _ (moves _ _ h)) (good _ h)

    close_good : (w : World P K) (k : Option K) → Keeps w → AllGood (close_row m names limits r q w k)
    close_good w None h = tt
    close_good w (Some k) h = on_if AllGood (has_cells limits w 1) _ _ (good _ (moves _ _ h)) (good _ h)

    enter_good : (w : World P K) (k : Option K) (xs : List Word) (at : ℕ) → Keeps w → AllGood (enter_row m names limits r q w k xs at)
    enter_good w None xs at h = tt
    enter_good w (Some k) xs at h = on_if AllGood (length xs == length (m.stored k)) _ _ (bind_good w (m.stored k) xs (entered k) h) (good _ h)

    funcall_good : (w : World P K) (x : Word) (xs : List Word) (at : ℕ) → Keeps w → AllGood (funcall_row m names limits r q w x xs at)
    funcall_good w (closure n) xs at h = enter_good w _ xs at h
    funcall_good w (process_closure n) xs at h = good _ h
    funcall_good w x xs at h = good _ h

    children_keep : (home : ℕ) (ts : List P) (w : World P K) → Keeps w → Keeps (with_children w r home ts)
    children_keep home [] w h = h
    children_keep home (t ∷ ts) w h = children_keep home ts (with_child w r home t) (numbered_longer w.procs _ p o h)

    mode_good : (w : World P K) (x : Word) (ts : List P) → Keeps w → Good (mode_row m names limits r q w x ts)
    mode_good w x ts h =
        on_if Good (is_nil x || in_cleanup (m.cleanups q.thread)) _ _ (good _ (moves _ _ h))
        (on_if Good (has_procs limits w (length ts)) _ _ (good _ (moves _ _ (children_keep _ ts w h))) (good _ h))

    made_eager_good : (w : World P K) (k : K) → Keeps w → Good (made_eager m names limits r q w k)
    made_eager_good w k h = on_if Good (has_cells limits w (length (turn_boxes m names limits r q w k))) _ _ (good _ (moves _ _ (numbered_longer w.procs _ p o h))) (good _ h)

    made_plain_good : (w : World P K) (k : K) → Keeps w → Good (made_plain m names limits r q w k)
    made_plain_good w k h = good _ (moves _ _ (numbered_longer w.procs _ p o h))

    process_good : (w : World P K) (e : Bool) (k : Option K) → Keeps w → AllGood (process_row m names limits r q w e k)
    process_good w e None h = tt
    process_good w e (Some k) h = on_if AllGood (has_procs limits w 1) _ _ (on_if Good e _ _ (made_eager_good w k h) (made_plain_good w k h)) (good _ h)

    make_good : (w : World P K) (x : Word) (k : Option K) → Keeps w → AllGood (make_row m names limits r q w x k)
    make_good w x k h = on_if AllGood (is_nil x || in_cleanup (m.cleanups q.thread)) _ _ (close_good w k h) (process_good w _ k h)

    sent_keeps : (w : World P K) (k : ℕ) (s : ProcessClosure K) (c : Call) → Keeps w → Keeps (with_sent m names limits r q w k s c)
    sent_keeps w k s c h = on_if Keeps (s.eager && is_none s.current) _ _ h h

    sent_good : (w : World P K) (k : ℕ) (s : ProcessClosure K) (xs : List Word) (used : Bool) → Keeps w → Good (sent_row m names limits r q w k s xs used)
    sent_good w k s xs true h = good _ (moves _ _ (sent_keeps _ k s _ h))
    sent_good w k s xs false h = good _ (moves _ _ (sent_keeps w k s _ h))

    send_good : (w : World P K) (k : ℕ) (s : Option (ProcessClosure K)) (xs : List Word) (used : Bool) (at : ℕ) → Keeps w → AllGood (send_row m names limits r q w k s xs used at)
    send_good w k None xs used at h = tt
    send_good w k (Some s) xs used at h = on_if AllGood (not (length xs == length (m.stored s.body))) _ _ (good _ h) (on_if AllGood s.dead _ _ (good _ h) (sent_good w k s xs used h))

    taken_good : (w : World P K) (k : ℕ) (s : ProcessClosure K) (cs : List Call) → Keeps w → AllGood (taken_row m names limits r q w k s cs)
    taken_good w k s [] h = tt
    taken_good w k s (c ∷ cs) h = on_if AllGood (has_cells limits w (length (words_boxed (m.stored s.body) c.arguments))) _ _ (good _ (moves _ _ h)) (good _ h)

    take_good : (w : World P K) (k : ℕ) (s : Option (ProcessClosure K)) → Keeps w → AllGood (take_row m names limits r q w k s)
    take_good w k None h = tt
    take_good w k (Some s) h = taken_good w k s s.queue h

    next_call_keeps : (w : World P K) (k : ℕ) (s : ProcessClosure K) (cs : List Call) → Keeps w → Keeps (with_next_call w k s cs)
    next_call_keeps w k s [] h = h
    next_call_keeps w k s (c ∷ cs) h = h

    next_turn_good : (w : World P K) (k : ℕ) (s : ProcessClosure K) → Keeps w → Good (with_next_turn m names limits r q w k s)
    next_turn_good w k s h = good _ (next_call_keeps _ k (record s { turn = next_futures w (length (m.stored s.body)) }) s.queue (moves _ _ h))

    replied_good : (w : World P K) (k : ℕ) (s : ProcessClosure K) (c : Call) (x : Word) → Keeps w → Good (replied_row m names limits r q w k s c x)
    replied_good w k s c x h = on_if Good s.eager _ _ (on_if Good (has_cells limits w (length (turn_boxes m names limits r q w s.body))) _ _ (next_turn_good _ k s h) (good _ h)) (good _ (moves _ _ h))

    reply_to_good : (w : World P K) (k : ℕ) (s : ProcessClosure K) (c : Option Call) (x : Word) → Keeps w → AllGood (reply_to m names limits r q w k s c x)
    reply_to_good w k s None x h = tt
    reply_to_good w k s (Some c) x h = replied_good w k s c x h

    reply_good : (w : World P K) (k : ℕ) (s : Option (ProcessClosure K)) (x : Word) → Keeps w → AllGood (reply_row m names limits r q w k s x)
    reply_good w k None x h = tt
    reply_good w k (Some s) x h = reply_to_good w k s s.current x h

    -- kills and throws

    killed_good : (w : World P K) (c owner : ℕ) → Keeps w → Good (killed_within m w c owner)
    killed_good w c owner h =
        let e : numbered (killed_within m w c owner).procs p ≡ Some (hit m w.catches c owner p o) = killed_each m w c owner p ∙ ap (option_map (hit m w.catches c owner p)) h in
        record { now = hit m w.catches c owner p o; is_there = e; change = by_test (is_live o) _ refl }
      where
        by_test : (a b : Bool) → is_live o ≡ a → Change o (if a && b then dying m o else o)
        by_test true true l = killed l refl
        by_test true false l = same refl
        by_test false b l = same refl

    exit_good : (w : World P K) (c : ℕ) (k : Option Catch) → Keeps w → AllGood (exit_row m names limits r q w c k)
    exit_good w c None h = tt
    exit_good w c (Some k) h = moved _ _ (killed_good (with_event w (event_exit r c)) c k.owner h)

    -- the owner of the catch isn't killed, and all others don't leave for it
    owner_good : (w : World P K) (c owner : ℕ) (x : Word) → Keeps w → Good (with_owner_aimed m names limits r q (killed_within m w c owner) owner (to c x))
    owner_good w c owner x h =
        ⊎_elim
        (λ (t : (p == owner) ≡ true).
        let mine : p ≡ owner = eqb-true _ _ t in
        let spared : hit m w.catches c owner p o ≡ o = spare (is_live o) (is_within w.catches o c) t in
        let e : numbered (killed_within m w c owner).procs p ≡ Some o = killed_each m w c owner p ∙ ap (option_map (hit m w.catches c owner p)) h ∙ ap Some spared in
        let f = numbered_here (aimed (to c x)) (killed_within m w c owner).procs p ∙ ap (option_map (aimed (to c x))) e in
        record { now = aimed (to c x) o; is_there = ap (λ n. numbered (change_numbered (aimed (to c x)) (killed_within m w c owner).procs n) p) (sym mine) ∙ f; change = thrown c x refl })
        (λ (t : (p == owner) ≡ false).
        let other : p ≢ owner = λ s. let bad : true ≡ false = sym (eq-eqb p owner s) ∙ t in absurd cc in
        let g = killed_good w c owner h in
        record { now = g.now; is_there = numbered_other (aimed (to c x)) (killed_within m w c owner).procs p owner other ∙ g.is_there; change = g.change })
        (cases (p == owner))
      where
        spare : (a b : Bool) → (p == owner) ≡ true → (if a && (b && not (p == owner)) then dying m o else o) ≡ o
        spare true true t = ap (λ b. if not b then dying m o else o) t
        spare true false t = refl
        spare false b t = refl

    thrown_good : (w : World P K) (c : ℕ) (k : Option Catch) (x : Word) → Keeps w → AllGood (thrown_row m names limits r q w c k x)
    thrown_good w c None x h = tt
    thrown_good w c (Some k) x h =
        on_if Good (in_cleanup (m.cleanups q.thread)) _ _ (moved _ _ (killed_good (with_event w (event_throw r c)) c k.owner h)) (owner_good (with_event w (event_throw r c)) c k.owner x h)

    throw_good : (w : World P K) (c : Option ℕ) (x : Word) (at : ℕ) → Keeps w → AllGood (throw_row m names limits r q w c x at)
    throw_good w None x at h = good _ h
    throw_good w (Some c) x at h = thrown_good w c (catch_at w.catches c) x h

    land_good : (w : World P K) (c : ℕ) (x : Word) → Keeps w → Good (land_row m names limits r q w c x)
    land_good w c x h = good _ (moves _ _ (on_if Keeps (in_cleanup (m.cleanups q.thread)) _ _ h (moves _ _ h)))

    leave_good : (w : World P K) (c : ℕ) (x : Option Word) → Keeps w → Good (leave_row m names limits r q w c x)
    leave_good w c None h = good _ (moves _ _ h)
    leave_good w c (Some x) h = land_good w c x h

    last_good : (w : World P K) → Keeps w → Good (last_row m names limits r q w)
    last_good w h = moved _ _ (moved _ _ (killed_good (with_event w (event_exit r 0)) 0 r h))

    end_good : (w : World P K) (k : Kind) (e : Ending) → Keeps w → AllGood (end_row m names limits r q w k e)
    end_good w k last_form h = last_good w h
    end_good w (child f) (with_word x) h = good _ (moves _ _ (moves _ _ h))
    end_good w main (with_word x) h = tt
    end_good w (serving k) (with_word x) h = tt
    end_good w k unwound h = good _ (moves _ _ (moves _ _ h))

    server_good : (f : ℕ → Option (World P K)) (k : Kind) → ((n : ℕ) → AllGood (f n)) → AllGood (server_row m names limits r q f k)
    server_good f (serving k) h = h k
    server_good f main h = tt
    server_good f (child n) h = tt

    row_good : (w : World P K) (want : Want) → Keeps w → AllGood (row m names limits r q w want)
    row_good w (awaits f at) h = await_good w _ at h
    row_good w takes_literal h = good _ (moves _ _ h)
    row_good w (reads place at) h = variable_good w place at h
    row_good w (stores place x) h = store_good w place x h
    row_good w branches h = good _ (moves _ _ h)
    row_good w (computes op xs at) h = primitive_good w _ at h
    row_good w (prints x) h = print_good w _ h
    row_good w (binds bs xs) h = bind_good w bs xs bound h
    row_good w (calls bs xs) h = bind_good w bs xs bound h
    row_good w returns h = good _ (moves _ _ h)
    row_good w closes h = close_good w _ h
    row_good w (funcalls x xs at) h = funcall_good w x xs at h
    row_good w (chooses x) h = mode_good w x _ h
    row_good w (makes x) h = make_good w x _ h
    row_good w (sends k xs used at) h = send_good w k _ xs used at h
    row_good w takes_call h = server_good _ q.kind (λ k. take_good w k _ h)
    row_good w (replies x) h = server_good _ q.kind (λ k. reply_good w k _ x h)
    row_good w (opens tag waits) h = good _ (moves _ _ h)
    row_good w (exits c) h = exit_good w c _ h
    row_good w (throws tag x at) h = throw_good w _ x at h
    row_good w protects h = good _ (moves _ _ h)
    row_good w (begins u) h = good _ (moves _ _ h)
    row_good w (finishes u) h = good _ (moves _ _ h)
    row_good w (leaves c) h = leave_good w c _ h
    row_good w (ends e) h = end_good w q.kind e h
    row_good w rests h = tt

    -- A tick of another process.
    step_good : (w : World P K) → Keeps w → AllGood (step m names limits r q w)
    step_good w h = on_if AllGood (can_step m names limits r q w) _ _ (row_good (counted w r) (m.want q.thread) h) tt

  module _ (names : List (List ℕ)) (limits : Limits) where
    pub others_tick : (w v : World P K) (p r : ℕ) (o : Process P) → p ≢ r → numbered w.procs p ≡ Some o → tick m names limits w r ≡ Some v → Became o (numbered v.procs p)
    others_tick w v p r o apart h e =
        let t = of_and_then (λ q. step m names limits r q w) (numbered w.procs r) v e in
        subst (AllGood names limits p r apart t.0 o) t.2 (step_good names limits p r apart t.0 o w h)
