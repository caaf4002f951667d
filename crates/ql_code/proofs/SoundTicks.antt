-- Each tick of sound code leaves a sound world.
use Rattle.std.proofs.Common.{◌≡◌, ◌⊎◌, ℕ, zero, suc, ◌+◌, ◌<◌, ◌≤◌, ◌==◌, Bool, true, false, List, [], ◌∷◌, ◌++◌, length, map, Option, Some, None, refl, sym, ap, ◌∙◌, subst, ⊎_elim, inl, inr, arith, length-append, eqb-true}
use Rattle.std.specs.Prelude.{◌&&◌, ◌||◌, not, if◌then◌else◌, slice_get, replicate, pred, is_none, option_and_then}
use Rattle.std.proofs.lemmas.List.{length-map, length-replicate}
use Rattle.ql_base.specs.declared.limits.Limits.{Limits}
use Rattle.ql_world.specs.Word as word
use Rattle.ql_world.specs.Word.{is_nil, is_eager}
use Rattle.ql_world.specs.declared.word.Word.{Word}
use Rattle.ql_world.specs.declared.word.Word.TheVariants.{Int as integer, Sym as symbol, Pair as pair, Fun as closure, Proc as process_closure, Fut as future}
use Rattle.ql_world.specs.declared.word.Slot.{Slot}
use Rattle.ql_world.specs.Operator.{computed}
use Rattle.ql_world.specs.declared.operator.Operator.{Operator}
use Rattle.ql_world.specs.declared.operator.Computed.{Computed as Result}
use Rattle.ql_world.specs.declared.operator.Computed.TheVariants.{Gives as gives, Fails as fails, Joins as joins}
use Rattle.ql_base.specs.declared.limits.LimitKind.TheVariants.{Cells}
use Rattle.ql_world.specs.declared.event.Stop.TheVariants.{Limit as event_limit}
use Rattle.ql_world.specs.declared.event.Event.TheVariants.{Exit as event_exit, Throw as event_throw, Land as event_land}
use Rattle.ql_world.specs.declared.event.Event.TheVariants.{Send as send}
use Rattle.ql_world.specs.World as world
use Rattle.ql_world.specs.declared.world.Kind.TheVariants.{Child as world_child, Main as world_main}
use Rattle.ql_world.specs.World.{or_pending, Call, ProcessClosure, World, change, numbered, change_numbered, numbers, catch_at, closed, process_of, with_thread, with_server, with_end, with_event, counted}
use Rattle.ql_world.specs.declared.world.FutState.{FutState as Future}
use Rattle.ql_world.specs.declared.world.FutState.TheVariants.{Pending as pending, Value as valued, Dead as dead}
use Rattle.ql_world.specs.declared.world.Aim.{Aim}
use Rattle.ql_world.specs.declared.world.Aim.TheVariants.{Free as free, To as to, Die as die}
use Rattle.ql_world.specs.declared.world.Catch.{Catch}
use Rattle.ql_world.specs.declared.world.Kind.{Kind}
use Rattle.ql_world.specs.declared.world.Kind.TheVariants.{Closure as serving}
use Rattle.ql_world.specs.declared.world.Process.{Process}
use Rattle.ql_world.specs.Idle.{acting, in_cleanup, killed_within, unwinds_at}
use Rattle.ql_world.specs.Machine as wants
use Rattle.ql_world.specs.Machine.{Place, held, box, global, Ending, last_form, with_word, unwound, Want, awaits, takes_literal, reads, stores, branches, computes, prints, binds, calls, returns, closes, funcalls, chooses, makes, sends, takes_call, replies, opens, exits, throws, protects, begins, finishes, leaves, ends, rests, Answer, done, got, bound, entered, in_line, spawned, unwinds, aimed, Machine}
use Rattle.ql_world.specs.Tick.{or_home, words_boxed, slots_of, filled, answered, landing, has_cells, has_procs, with_boxes, with_futures, next_futures, with_child, with_children, with_server_made, with_call, with_next_call, await_row, of_box, of_global, variable_row, store_row, primitive_row, bind_row, close_row, enter_row, funcall_row, mode_row, turn_words, turn_boxes, with_turn, turn_thread, made_eager, made_plain, process_row, make_row, with_sent, sent_row, send_row, taken_row, take_row, with_reply, with_next_turn, replied_row, reply_to, reply_row, open_row, exit_row, with_owner_aimed, thrown_row, throw_row, finish_answer, leave_row, last_row, end_row, server_row, row, is_ready, step, tick}
use Rattle.ql_world.specs.Run.{run, stop_of}
use Rattle.ql_code.specs.Code.{Code}
use Rattle.ql_code.specs.Machine as machine
use Rattle.ql_code.specs.Machine.{Point, Entry, code_machine, code_world}
use Rattle.ql_code.specs.Sound.{Shape, Start, part_of, variables, is_constant, is_constant_pair, are_constant, Has, Sound}
use Rattle.ql_code.specs.Standing.{Made, IsNumber, IsMade, AreMade, IsAimMade, AreSlots, IsEntry, IsStandingIn, IsStanding, IsAsked, Suits, IsOff}
use Rattle.ql_code.specs.SoundWorld.{made_of, Each, IsPairMade, IsFutureMade, IsGlobalMade, IsCallMade, IsServer, IsProcess, IsSoundWorld}
use Rattle.ql_code.proofs.Grows.{Grows, made_more, are_made_more, slots_more, entry_more, standing_more}
use Rattle.ql_code.proofs.GoesOn.{constant_made, goes_on, closes_entry, AreChildren, spawns_children, rest_stands, started_stands, unwound_stands, begins_standing}
use Rattle.ql_code.proofs.GoesOn as goes_on_entry
use Rattle.ql_code.proofs.Worlds.{each_more, each_append, each_numbered, each_at, Onward, stay, then_on, push_pairs, grows_pairs, push_boxes, grows_boxes, push_closures, grows_closures, push_futures, grows_futures, push_servers, grows_servers, change_boxes, change_globals, change_futures, change_servers, set_catches, close_catch, push_processes, change_processes, set_futures, aimed_process, kill_all}
use Rattle.ql_code.proofs.Asks.{asked}
use Rattle.ql_code.proofs.Settles.{and_left, and_right}
use Rattle.ql_code.proofs.Answered.{IsResult, computed_made, words_boxed_made, slots_made, filled_made, filled_long, answered_made, answered_long, numbers_are, numbers_long, future_words_made, acting_made, IsWord, landing_made}

get_changed : {A : Type 0} (f : A → A) (xs : List A) (n : ℕ) (x : A) → slice_get xs n ≡ Some x → slice_get (change f xs n) n ≡ Some (f x)
get_changed f [] n x e = absurd cc
get_changed f (y ∷ xs) zero x e = let k : y ≡ x = cc in ap (λ z. Some (f z)) k
get_changed f (y ∷ xs) (suc n) x e = get_changed f xs n x e

numbered_changed : {A : Type 0} (f : A → A) (xs : List A) (n : ℕ) (x : A) → numbered xs n ≡ Some x → numbered (change_numbered f xs n) n ≡ Some (f x)
numbered_changed f xs zero x e = absurd cc
numbered_changed f xs (suc n) x e = get_changed f xs n x e

module _ (code : Code) (so : Sound code) where
  abbrev W : Type 0
  W = World Point Entry

  abbrev At : Start → ℕ → Shape → Type 0
  At = Has so.table

  abbrev M : Machine Point Entry
  M = code_machine code.instructions

  abbrev pub IsSome : Option W → Type 0
  IsSome None = Unit {0}
  IsSome (Some v) = IsSoundWorld code so v

  some_if : (b : Bool) (v u : W) → IsSoundWorld code so v → IsSoundWorld code so u → IsSome (if b then Some v else Some u)
  some_if true v u h k = h
  some_if false v u h k = k

  sound_if : (b : Bool) (v u : W) → IsSoundWorld code so v → IsSoundWorld code so u → IsSoundWorld code so (if b then v else u)
  sound_if true v u h k = h
  sound_if false v u h k = k

  module _ (names : List (List ℕ)) (limits : Limits) (p : ℕ) (q : Process Point) (w : W) (s : IsSoundWorld code so w) (at : numbered w.procs p ≡ Some q) (stands : IsStanding At (made_of w) code.instructions q.kind q.thread) where
    abbrev On : W → Type 0
    On v = Onward code so w v

    -- the process has another thread that stands
    thread_sound : (v : W) → On v → (t : Point) → IsStanding At (made_of v) code.instructions q.kind t → IsSoundWorld code so (with_thread v p t)
    thread_sound v o t h =
        (change_processes code so v (λ r. record r { thread = t }) p (λ r. refl)
        (λ r e i.
        let k = o.2 p q at in
        let z : Some r ≡ Some k.0 = sym e ∙ k.1 in
        let y : r ≡ k.0 = cc in
        let kind : q.kind ≡ r.kind = sym (ap (λ (x : Process Point). x.kind) y ∙ k.2) in
        (i.0, i.1, inr (subst (λ x. IsStanding At (made_of v) code.instructions x t) kind h)))
        o.0).0

    abbrev n : ℕ
    n = length (M.children q.thread)

    -- it goes on
    goes_sound : (v : W) → On v → (a : Answer Entry) → Suits At (made_of v) n (M.want q.thread) a → IsSoundWorld code so (with_thread v p (M.go q.thread a))
    goes_sound v o a u =
        thread_sound v o (M.go q.thread a) (goes_on code so (made_of v) q.kind o.0.names q.thread a (standing_more (made_of w) (made_of v) o.1 At code.instructions q.kind q.thread stands) u)

    abbrev Goes : Want → Type 0
    Goes u = (v : W) → On v → (a : Answer Entry) → Suits At (made_of v) n u a → IsSoundWorld code so (with_thread v p (M.go q.thread a))

    same : On w
    same = stay code so w s

    await_sound : (f pc : ℕ) → Goes (awaits f pc) → (o : Future) → IsFutureMade (made_of w) o → IsSome (await_row M names limits p q w o pc)
    await_sound f pc g pending h = tt
    await_sound f pc g (valued x) h = g w same (got x) h
    await_sound f pc g dead h = s

    pending_made : (o : Option Future) (f : ℕ) → numbered w.futures f ≡ o → IsFutureMade (made_of w) (or_pending o)
    pending_made None f e = tt
    pending_made (Some x) f e = each_numbered (IsFutureMade (made_of w)) w.futures f x e s.futures_are

    box_sound : (i pc : ℕ) → Goes (reads (box i) pc) → (o : Option Word) → slice_get w.boxes i ≡ o → IsSome (of_box M names limits p q w o)
    box_sound i pc g None e = tt
    box_sound i pc g (Some x) e = g w same (got x) (each_at (IsMade (made_of w)) w.boxes i x e s.boxes_are)

    global_sound : (i pc : ℕ) → Goes (reads (global i) pc) → (o : Option (Option Word)) → slice_get w.globals i ≡ o → IsSome (of_global M names limits p q w o pc)
    global_sound i pc g None e = tt
    global_sound i pc g (Some None) e = s
    global_sound i pc g (Some (Some x)) e = g w same (got x) (each_at (IsGlobalMade (made_of w)) w.globals i (Some x) e s.globals_are)

    read_sound : (place : Place) (pc : ℕ) → Goes (reads place pc) → IsSome (variable_row M names limits p q w place pc)
    read_sound held pc g = g w same done tt
    read_sound (box i) pc g = box_sound i pc g (slice_get w.boxes i) refl
    read_sound (global i) pc g = global_sound i pc g (slice_get w.globals i) refl

    store_sound : (place : Place) (x : Word) → IsMade (made_of w) x → Goes (stores place x) → IsSome (store_row M names limits p q w place x)
    store_sound held x h g = tt
    store_sound (box i) x h g = g (record w { boxes = change (λ y. x) w.boxes i }) (change_boxes code so w (λ y. x) i (λ y e k. h) s) done tt
    store_sound (global i) x h g = g (record w { globals = change (λ y. Some x) w.globals i }) (change_globals code so w (λ y. Some x) i (λ y e k. h) s) done tt

    primitive_sound : (o : Operator) (xs : List Word) (pc : ℕ) → Goes (computes o xs pc) → (r : Option Result) → IsResult (made_of w) r → IsSome (primitive_row M names limits p q w r pc)
    primitive_sound o xs pc g None h = tt
    primitive_sound o xs pc g (Some (gives x)) h = g w same (got x) h
    primitive_sound o xs pc g (Some (fails k)) h = s
    primitive_sound o xs pc g (Some (joins a b)) h =
        let v : W = record w { pairs = w.pairs ++ (a, b) ∷ []; cells = w.cells + 1 } in
        let l : length (w.pairs ++ (a, b) ∷ []) ≡ length w.pairs + 1 = length-append w.pairs ((a, b) ∷ []) in
        let gr = grows_pairs code so w ((a, b) ∷ []) in
        let i : length w.pairs < length (w.pairs ++ (a, b) ∷ []) = omega (arith, l) in
        some_if (has_cells limits w 1) _ _
        (g v (push_pairs code so w ((a, b) ∷ []) ((made_more (made_of w) (made_of v) gr a h.0, made_more (made_of w) (made_of v) gr b h.1), tt) s) (got (pair (length w.pairs))) i)
        s

    -- variables are bound
    bind_sound : (bs : List Bool) (xs : List Word) (answer : List Slot → Answer Entry) → length xs ≡ length bs → AreMade (made_of w) xs
        → ((v : W) → On v → (ss : List Slot) → AreSlots (made_of v) (map part_of bs) ss → IsSoundWorld code so (with_thread v p (M.go q.thread (answer ss)))) → IsSoundWorld code so (bind_row M names limits p q w bs xs answer)
    bind_sound bs xs answer e h g =
        let b = words_boxed bs xs in
        let v : W = with_boxes w b in
        let l : length (w.boxes ++ b) ≡ length w.boxes + length b = length-append w.boxes b in
        let gr = grows_boxes code so w b in
        sound_if (has_cells limits w (length b)) _ _
        (g v (push_boxes code so w b (each_more (IsMade (made_of w)) (IsMade (made_of v)) b (made_more (made_of w) (made_of v) gr) (words_boxed_made (made_of w) bs xs h)) s)
        (slots_of bs xs (length w.boxes)) (slots_made (made_of v) bs xs (length w.boxes) e (are_made_more (made_of w) (made_of v) gr xs h) (omega (arith, l))))
        s

    abbrev IsEntryOf : Option Entry → Type 0
    IsEntryOf None = Unit {0}
    IsEntryOf (Some k) = IsEntry At (made_of w) k

    close_sound : (o : Option Entry) → IsEntryOf o → ((v : W) → On v → (i : ℕ) → IsNumber i (length v.closures) → IsSoundWorld code so (with_thread v p (M.go q.thread (got (closure i))))) → IsSome (close_row M names limits p q w o)
    close_sound None h g = tt
    close_sound (Some k) h g =
        let v : W = record w { closures = w.closures ++ k ∷ []; cells = w.cells + 1 } in
        let l : length (w.closures ++ k ∷ []) ≡ length w.closures + 1 = length-append w.closures (k ∷ []) in
        let gr = grows_closures code so w (k ∷ []) in
        some_if (has_cells limits w 1) _ _
        (g v (push_closures code so w (k ∷ []) (entry_more (made_of w) (made_of v) gr At k h, tt) s) (length w.closures + 1) (omega arith, omega (arith, l)))
        s

    enter_if : (b : Bool) (v u : W) → (b ≡ true → IsSoundWorld code so v) → IsSoundWorld code so u → IsSome (if b then Some v else Some u)
    enter_if true v u h k = h refl
    enter_if false v u h k = k

    enter_sound : (x : Word) (xs : List Word) (pc : ℕ) → AreMade (made_of w) xs → Goes (funcalls x xs pc) → (i : ℕ) (o : Option Entry) → numbered w.closures i ≡ o → IsSome (enter_row M names limits p q w o xs pc)
    enter_sound x xs pc h g i None e = tt
    enter_sound x xs pc h g i (Some k) e =
        let c = each_numbered (IsEntry At (made_of w)) w.closures i k e s.closures_are in
        enter_if (length xs == length (M.stored k)) _ _
        (λ z. bind_sound (M.stored k) xs (entered k) (eqb-true _ _ z) h (λ v o ss a. g v o (entered k ss) (entry_more (made_of w) (made_of v) o.1 At k c, a)))
        s

    funcall_sound : (x : Word) (xs : List Word) (pc : ℕ) → AreMade (made_of w) xs → Goes (funcalls x xs pc) → IsSome (funcall_row M names limits p q w x xs pc)
    funcall_sound (closure i) xs pc h g = enter_sound (closure i) xs pc h g i (numbered w.closures i) refl
    funcall_sound (process_closure i) xs pc h g = s
    funcall_sound (integer z) xs pc h g = s
    funcall_sound (symbol i) xs pc h g = s
    funcall_sound (pair i) xs pc h g = s
    funcall_sound (future f) xs pc h g = s

    -- children are spawned
    children_more : (m k : Made) (g : Grows m k) (ts : List Point) → AreChildren code so m ts → AreChildren code so k ts
    children_more m k g [] h = tt
    children_more m k g (t ∷ ts) h = ((λ f. standing_more m k g At code.instructions (world_child f) t (h.0 f)), children_more m k g ts h.1)

    child_sound : (v : W) (home : ℕ) (t : Point) → ((f : ℕ) → IsStanding At (made_of v) code.instructions (world_child f) t) → IsSoundWorld code so v → Onward code so v (with_child v p home t)
    child_sound v home t h i =
        let u : W = with_futures v 1 in
        let gr = grows_futures code so v (replicate 1 pending) in
        then_on code so v u (with_child v p home t) (push_futures code so v (replicate 1 pending) (tt, tt) i)
        (λ j. push_processes code so u (process_of home (world_child (length v.futures + 1)) t ∷ [])
        ((tt, tt, inr (standing_more (made_of v) (made_of u) gr At code.instructions (world_child (length v.futures + 1)) t (h (length v.futures + 1)))), tt) j)

    children_sound : (v : W) (home : ℕ) (ts : List Point) → AreChildren code so (made_of v) ts → IsSoundWorld code so v → Onward code so v (with_children v p home ts)
    children_sound v home [] h i = stay code so v i
    children_sound v home (t ∷ ts) h i =
        let u = with_child v p home t in
        let o = child_sound v home t h.0 i in
        then_on code so v u (with_children v p home (t ∷ ts)) o (λ j. children_sound u home ts (children_more (made_of v) (made_of u) o.1 ts h.1) j)

    children_futures : (v : W) (home : ℕ) (ts : List Point) → length (with_children v p home ts).futures ≡ length v.futures + length ts
    children_futures v home [] = omega arith
    children_futures v home (t ∷ ts) =
        let i = children_futures (with_child v p home t) home ts in
        let l : length (v.futures ++ replicate 1 pending) ≡ length v.futures + 1 = length-append v.futures (replicate 1 pending) in
        omega (arith, i, l)

    mode_sound : (x : Word) → Goes (chooses x) → IsSoundWorld code so (mode_row M names limits p q w x (M.children q.thread))
    mode_sound x g =
        let ts = M.children q.thread in
        let home = or_home (M.innermost q.thread) q.home in
        let v = with_children w p home ts in
        let o = children_sound w home ts (spawns_children code so (made_of w) q.kind q.thread stands) s in
        let e = children_futures w home ts in
        sound_if (is_nil x || in_cleanup (M.cleanups q.thread)) _ _
        (g w same in_line tt)
        (sound_if (has_procs limits w (length ts)) _ _
        (g v o (spawned (is_eager x) (next_futures w (length ts))) (numbers_long (length w.futures + 1) (length ts), numbers_are (made_of v) (length w.futures + 1) (length ts) (omega arith) (omega (arith, e)))) s)

    -- a process closure and its process
    server_sound : (v : W) → IsSoundWorld code so v → (home : ℕ) (k : Entry) (e : Bool) (turn : List ℕ) (t : Point) → IsEntry At (made_of v) k → ((n : ℕ) → IsStanding At (made_of v) code.instructions (serving n) t)
        → Onward code so v (with_server_made v p home k e turn t) × IsNumber (length v.servers + 1) (length (with_server_made v p home k e turn t).servers)
    server_sound v i home k e turn t h st =
        let c : ProcessClosure Entry = record { process = length v.procs + 1; body = k; eager = e; sent = 0; queue = []; current = None; turn = turn; dead = false } in
        let u : W = record v { servers = v.servers ++ c ∷ [] } in
        let gr = grows_servers code so v (c ∷ []) in
        let l : length (v.servers ++ c ∷ []) ≡ length v.servers + 1 = length-append v.servers (c ∷ []) in
        let num : IsNumber (length v.servers + 1) (length u.servers) = (omega arith, omega (arith, l)) in (
          then_on code so v u (with_server_made v p home k e turn t) (push_servers code so v (c ∷ []) ((entry_more (made_of v) (made_of u) gr At k h, tt), tt) i)
              (λ j. push_processes code so u (process_of home (serving (length v.servers + 1)) t ∷ [])
              ((tt, num, inr (standing_more (made_of v) (made_of u) gr At code.instructions (serving (length v.servers + 1)) t (st (length v.servers + 1)))), tt) j),
          num,
        )

    abbrev GoesServer : Type 0
    GoesServer = (v : W) → On v → (i : ℕ) → IsNumber i (length v.servers) → IsSoundWorld code so (with_thread v p (M.go q.thread (got (process_closure i))))

    plain_sound : (k : Entry) → IsEntry At (made_of w) k → GoesServer → IsSoundWorld code so (made_plain M names limits p q w k)
    plain_sound k h g =
        let home = or_home (M.innermost q.thread) q.home in
        let o = server_sound w s home k false [] (M.at_rest k) h (λ i. rest_stands code so (made_of w) i k) in
        g (with_server_made w p home k false [] (M.at_rest k)) o.0 (length w.servers + 1) o.1

    -- a world with the next turn of an eager closure
    turn_on : (v : W) → IsSoundWorld code so v → (k : Entry) → Onward code so v (with_turn M names limits p q v k) × AreSlots (made_of (with_turn M names limits p q v k)) (variables k.count k.mask) (slots_of (M.stored k) (turn_words M names limits p q v k) (length v.boxes))
    turn_on v i k =
        let c = length (M.stored k) in
        let u : W = with_futures v c in
        let fs = next_futures v c in
        let ws = map future fs in
        let b = words_boxed (M.stored k) ws in
        let t : W = with_boxes u b in
        let lf : length (v.futures ++ replicate c pending) ≡ length v.futures + length (replicate c pending) = length-append v.futures (replicate c pending) in
        let lr : length (replicate c pending) ≡ c = length-replicate c pending in
        let fw : AreMade (made_of u) ws = future_words_made (made_of u) fs (numbers_are (made_of u) (length v.futures + 1) c (omega arith) (omega (arith, lf, lr))) in
        let gr = grows_boxes code so u b in
        let lb : length (v.boxes ++ b) ≡ length v.boxes + length b = length-append v.boxes b in
        let long : length ws ≡ c = length-map fs future ∙ numbers_long (length v.futures + 1) c in (
          then_on code so v u t (push_futures code so v (replicate c pending) (pendings (made_of u) c) i)
              (λ j. push_boxes code so u b (each_more (IsMade (made_of u)) (IsMade (made_of t)) b (made_more (made_of u) (made_of t) gr) (words_boxed_made (made_of u) (M.stored k) ws fw)) j),
          slots_made (made_of t) (M.stored k) ws (length v.boxes) long (are_made_more (made_of u) (made_of t) gr ws fw) (omega (arith, lb)),
        )
      where
        pendings : (m : Made) (c : ℕ) → Each (IsFutureMade m) (replicate c pending)
        pendings m zero = tt
        pendings m (suc c) = (tt, pendings m c)

    eager_sound : (k : Entry) → IsEntry At (made_of w) k → GoesServer → IsSoundWorld code so (made_eager M names limits p q w k)
    eager_sound k h g =
        let home = or_home (M.innermost q.thread) q.home in
        let v = with_turn M names limits p q w k in
        let turn = next_futures w (length (M.stored k)) in
        let a = turn_on w s k in
        let e = entry_more (made_of w) (made_of v) a.0.1 At k h in
        let o = server_sound v a.0.0 home k true turn (turn_thread M names limits p q w k) e (λ i. started_stands code so (made_of v) i k (slots_of (M.stored k) (turn_words M names limits p q w k) (length w.boxes)) e a.1) in
        sound_if (has_cells limits w (length (turn_boxes M names limits p q w k))) _ _
        (g (with_server_made v p home k true turn (turn_thread M names limits p q w k)) (then_on code so w v (with_server_made v p home k true turn (turn_thread M names limits p q w k)) a.0 (λ j. o.0)) (length w.servers + 1) o.1)
        s

    process_sound : (e : Bool) (o : Option Entry) → IsEntryOf o → GoesServer → IsSome (process_row M names limits p q w e o)
    process_sound e None h g = tt
    process_sound e (Some k) h g = some_if (has_procs limits w 1) _ _ (sound_if e _ _ (eager_sound k h g) (plain_sound k h g)) s

    either_some : (b : Bool) (o r : Option W) → IsSome o → IsSome r → IsSome (if b then o else r)
    either_some true o r h k = h
    either_some false o r h k = k

    entry_is : (o : Option Entry) → goes_on_entry.IsEntryOf code so (made_of w) q.kind s.names o → IsEntryOf o
    entry_is None h = tt
    entry_is (Some k) h = h

    make_sound : (x : Word) → Goes (makes x) → IsSome (make_row M names limits p q w x (M.closure q.thread))
    make_sound x g =
        let h = closes_entry code so (made_of w) q.kind s.names q.thread stands in
        either_some (is_nil x || in_cleanup (M.cleanups q.thread)) _ _
        (close_sound (M.closure q.thread) (entry_is (M.closure q.thread) h) (λ v o i j. g v o (got (closure i)) j))
        (process_sound (is_eager x) (M.closure q.thread) (entry_is (M.closure q.thread) h) (λ v o i j. g v o (got (process_closure i)) j))

    onward_if : (b : Bool) (v u t : W) → Onward code so v u → Onward code so v t → Onward code so v (if b then u else t)
    onward_if true v u t h k = h
    onward_if false v u t h k = k

    server_more : (m k : Made) (g : Grows m k) (c : ProcessClosure Entry) → IsServer code so m c → IsServer code so k c
    server_more m k g c h = (entry_more m k g At c.body h.0, each_more (IsCallMade m c.body) (IsCallMade k c.body) c.queue (λ d i. (are_made_more m k g d.arguments i.0, i.1)) h.1)

    -- a closure's queue and turn change
    server_on : (v : W) → IsSoundWorld code so v → (k : ℕ) (c : ProcessClosure Entry) → IsServer code so (made_of v) c → Onward code so v (with_server v k c)
    server_on v i k c h = change_servers code so v (λ x. c) k (λ x e y. h) i

    -- an eager turn gets a call
    call_on : (v : W) → IsSoundWorld code so v → (k : ℕ) (c : ProcessClosure Entry) (d : Call) → IsServer code so (made_of v) c → AreMade (made_of v) d.arguments → Onward code so v (with_call v k c d)
    call_on v i k c d hs h =
        let u : W = record v { futures = filled c.turn d.arguments v.futures } in
        let o = set_futures code so v (filled c.turn d.arguments v.futures) (filled_long c.turn d.arguments v.futures) (filled_made (made_of v) c.turn d.arguments v.futures h i.futures_are) i in
        then_on code so v u (with_call v k c d) o (λ j. server_on u j k (record c { current = Some d }) (server_more (made_of v) (made_of u) o.1 c hs))

    -- a call is sent
    sent_on : (v : W) → IsSoundWorld code so v → (k : ℕ) (c : ProcessClosure Entry) (d : Call) → IsServer code so (made_of v) c → IsCallMade (made_of v) c.body d → Onward code so v (with_sent M names limits p q v k c d)
    sent_on v i k c d hs h =
        let u : W = with_event v (send p k d.number) in
        let e : ProcessClosure Entry = record c { sent = d.number; queue = c.queue ++ d ∷ [] } in
        onward_if (c.eager && is_none c.current) u (with_call u k (record c { sent = d.number }) d) (with_server u k e)
        (call_on u i k (record c { sent = d.number }) d hs h.0)
        (server_on u i k e (hs.0, each_append (IsCallMade (made_of v) c.body) c.queue (d ∷ []) hs.1 (h, tt)))

    server_is : (k : ℕ) (c : ProcessClosure Entry) → numbered w.servers k ≡ Some c → IsServer code so (made_of w) c
    server_is k c e = each_numbered (IsServer code so (made_of w)) w.servers k c e s.servers_are

    sent_sound : (k : ℕ) (c : ProcessClosure Entry) (xs : List Word) (used : Bool) (pc : ℕ) → numbered w.servers k ≡ Some c → AreMade (made_of w) xs → length xs ≡ length (M.stored c.body) → Goes (sends k xs used pc)
        → IsSoundWorld code so (sent_row M names limits p q w k c xs used)
    sent_sound k c xs true pc e h l g =
        let u : W = with_futures w 1 in
        let a = push_futures code so w (replicate 1 pending) (tt, tt) s in
        let d : Call = record { number = c.sent + 1; arguments = xs; reply = Some (length w.futures + 1) } in
        let v = with_sent M names limits p q u k c d in
        let b = sent_on u a.0 k c d (server_more (made_of w) (made_of u) a.1 c (server_is k c e)) (are_made_more (made_of w) (made_of u) a.1 xs h, l) in
        let lf : length (w.futures ++ replicate 1 pending) ≡ length w.futures + 1 = length-append w.futures (replicate 1 pending) in
        let more = b.1 in
        let num : IsNumber (length w.futures + 1) (length v.futures) = (omega arith, omega (arith, lf, more)) in
        g v (then_on code so w u v a (λ j. b)) (got (future (length w.futures + 1))) num
    sent_sound k c xs false pc e h l g =
        let d : Call = record { number = c.sent + 1; arguments = xs; reply = None } in
        g (with_sent M names limits p q w k c d) (sent_on w s k c d (server_is k c e) (h, l)) (got word.nil) tt

    some_unless : (b c : Bool) (v u t : W) → IsSoundWorld code so v → IsSoundWorld code so u → (b ≡ true → IsSoundWorld code so t) → IsSome (if not b then Some v else (if c then Some u else Some t))
    some_unless false c v u t h k g = h
    some_unless true true v u t h k g = k
    some_unless true false v u t h k g = g refl

    send_sound : (k : ℕ) (xs : List Word) (used : Bool) (pc : ℕ) → AreMade (made_of w) xs → Goes (sends k xs used pc) → (o : Option (ProcessClosure Entry)) → numbered w.servers k ≡ o → IsSome (send_row M names limits p q w k o xs used pc)
    send_sound k xs used pc h g None e = tt
    send_sound k xs used pc h g (Some c) e = some_unless (length xs == length (M.stored c.body)) c.dead _ _ _ s s (λ z. sent_sound k c xs used pc e h (eqb-true _ _ z) g)

    -- a call is taken
    taken_sound : (k : ℕ) (c : ProcessClosure Entry) → numbered w.servers k ≡ Some c → q.kind ≡ serving k → (ds : List Call) → Each (IsCallMade (made_of w) c.body) ds → IsSome (taken_row M names limits p q w k c ds)
    taken_sound k c e kind [] h = tt
    taken_sound k c e kind (d ∷ ds) h =
        let bs = M.stored c.body in
        let b = words_boxed bs d.arguments in
        let u : W = with_boxes w b in
        let gb = grows_boxes code so w b in
        let o = push_boxes code so w b (each_more (IsMade (made_of w)) (IsMade (made_of u)) b (made_more (made_of w) (made_of u) gb) (words_boxed_made (made_of w) bs d.arguments h.0.0)) s in
        let f : ProcessClosure Entry = record c { queue = ds; current = Some d } in
        let v : W = with_server u k f in
        let hs = server_more (made_of w) (made_of u) gb c (server_is k c e) in
        let z = then_on code so w u v o (λ j. server_on u j k f (hs.0, each_more (IsCallMade (made_of w) c.body) (IsCallMade (made_of u) c.body) ds (λ r i. (are_made_more (made_of w) (made_of u) gb r.arguments i.0, i.1)) h.1)) in
        let lb : length (w.boxes ++ b) ≡ length w.boxes + length b = length-append w.boxes b in
        let st = started_stands code so (made_of v) k c.body (slots_of bs d.arguments (length w.boxes)) (entry_more (made_of w) (made_of v) z.1 At c.body (server_is k c e).0)
        (slots_made (made_of v) bs d.arguments (length w.boxes) h.0.1 (are_made_more (made_of w) (made_of v) z.1 d.arguments h.0.0) (omega (arith, lb))) in
        some_if (has_cells limits w (length b)) _ _
        (thread_sound v z (M.started c.body (slots_of bs d.arguments (length w.boxes))) (subst (λ x. IsStanding At (made_of v) code.instructions x (M.started c.body (slots_of bs d.arguments (length w.boxes)))) (sym kind) st)) s

    take_sound : (k : ℕ) → q.kind ≡ serving k → (o : Option (ProcessClosure Entry)) → numbered w.servers k ≡ o → IsSome (take_row M names limits p q w k o)
    take_sound k kind None e = tt
    take_sound k kind (Some c) e = taken_sound k c e kind c.queue (server_is k c e).1

    -- the call in progress has its reply
    reply_on : (k : ℕ) (c : ProcessClosure Entry) (d : Call) (x : Word) → IsServer code so (made_of w) c → IsMade (made_of w) x → Onward code so w (with_reply M names limits p q w k c d x)
    reply_on k c d x hs h =
        let u : W = record w { futures = answered d.reply x w.futures } in
        let o = set_futures code so w (answered d.reply x w.futures) (answered_long d.reply x w.futures) (answered_made (made_of w) d.reply x w.futures h s.futures_are) s in
        then_on code so w u (with_reply M names limits p q w k c d x) o (λ j. server_on u j k (record c { current = None }) (server_more (made_of w) (made_of u) o.1 c hs))

    next_sound : (v : W) → IsSoundWorld code so v → (k : ℕ) (c : ProcessClosure Entry) → IsEntry At (made_of v) c.body → (ds : List Call) → Each (IsCallMade (made_of v) c.body) ds → IsSoundWorld code so (with_next_call v k c ds)
    next_sound v i k c b [] h = i
    next_sound v i k c b (d ∷ ds) h = (call_on v i k (record c { queue = ds }) d (b, h.1) h.0.0).0

    replied_sound : (k : ℕ) → q.kind ≡ serving k → (c : ProcessClosure Entry) → numbered w.servers k ≡ Some c → (d : Call) (x : Word) → IsMade (made_of w) x → IsSoundWorld code so (replied_row M names limits p q w k c d x)
    replied_sound k kind c e d x h =
        let sv = server_is k c e in
        let r = with_reply M names limits p q w k c d x in
        let o = reply_on k c d x sv h in
        let t = with_turn M names limits p q r c.body in
        let a = turn_on r o.0 c.body in
        let f : ProcessClosure Entry = record c { current = None; turn = next_futures r (length (M.stored c.body)) } in
        let v : W = with_server t k f in
        let y = then_on code so w r t o (λ j. a.0) in
        let b = server_on t a.0.0 k f (server_more (made_of w) (made_of t) y.1 c sv) in
        let z = then_on code so w t v y (λ l. b) in
        let sz = server_more (made_of w) (made_of v) z.1 c sv in
        let th = turn_thread M names limits p q r c.body in
        let st = started_stands code so (made_of v) k c.body (slots_of (M.stored c.body) (turn_words M names limits p q r c.body) (length r.boxes)) sz.0
        (slots_more (made_of t) (made_of v) b.1 (variables c.body.count c.body.mask) (slots_of (M.stored c.body) (turn_words M names limits p q r c.body) (length r.boxes)) a.1) in
        let i = thread_sound v z th (subst (λ y. IsStanding At (made_of v) code.instructions y th) (sym kind) st) in
        let n = with_next_turn M names limits p q r k c in
        let x' = world.marked w (event_limit Cells) in
        sound_if c.eager (if has_cells limits w (length (turn_boxes M names limits p q w c.body)) then n else x') (with_thread r p (M.at_rest c.body))
        (sound_if (has_cells limits w (length (turn_boxes M names limits p q w c.body))) n x' (next_sound (with_thread v p th) i k f sz.0 c.queue sz.1) s)
        (thread_sound r o (M.at_rest c.body) (subst (λ y. IsStanding At (made_of r) code.instructions y (M.at_rest c.body)) (sym kind) (rest_stands code so (made_of r) k c.body)))

    reply_to_sound : (k : ℕ) → q.kind ≡ serving k → (c : ProcessClosure Entry) → numbered w.servers k ≡ Some c → (d : Option Call) (x : Word) → IsMade (made_of w) x → IsSome (reply_to M names limits p q w k c d x)
    reply_to_sound k kind c e None x h = tt
    reply_to_sound k kind c e (Some d) x h = replied_sound k kind c e d x h

    reply_sound : (k : ℕ) → q.kind ≡ serving k → (o : Option (ProcessClosure Entry)) → numbered w.servers k ≡ o → (x : Word) → IsMade (made_of w) x → IsSome (reply_row M names limits p q w k o x)
    reply_sound k kind None e x h = tt
    reply_sound k kind (Some c) e x h = reply_to_sound k kind c e c.current x h

    open_sound : (x : Word) (waits : Bool) → Goes (opens x waits) → IsSoundWorld code so (open_row M names limits p q w x waits)
    open_sound x waits g =
        let l : length w.catches < suc (length w.catches) = omega arith in
        let c : Catch = record { owner = p; tag = Some x; enclosing = or_home (M.innermost q.thread) q.home; waits = waits; open_still = true } in
        g (record w { catches = c ∷ w.catches }) (set_catches code so w (c ∷ w.catches) (omega arith) s) (wants.numbered (length w.catches)) l

    -- after a kill
    killed_on : (c owner : ℕ) → On (killed_within M w c owner)
    killed_on c owner = kill_all code so w c owner s

    closed_on : (v : W) (c : ℕ) → On v → On (world.without_catch v c)
    closed_on v c o = then_on code so w v (world.without_catch v c) o (λ j. close_catch code so v c j)

    exit_sound : (c : ℕ) → Goes (exits c) → (o : Option Catch) → IsSome (exit_row M names limits p q w c o)
    exit_sound c g None = tt
    exit_sound c g (Some k) =
        let u : W = with_event w (event_exit p c) in
        let v = killed_within M u c k.owner in
        g (world.without_catch v c) (then_on code so w v (world.without_catch v c) (kill_all code so u c k.owner s) (λ j. close_catch code so v c j)) done tt

    owner_sound : (v : W) → IsSoundWorld code so v → (owner : ℕ) (a : Aim) → IsAimMade (made_of v) a → IsSoundWorld code so (with_owner_aimed M names limits p q v owner a)
    owner_sound v i owner a h = (change_processes code so v (λ r. record r { aim = a; thread = unwinds_at M r.thread }) owner (λ r. refl) (λ r e j. aimed_process code so (made_of v) i.names a r h j) i).0

    thrown_sound : (tag x : Word) (pc c : ℕ) → IsMade (made_of w) x → Goes (throws tag x pc) → (o : Option Catch) → IsSome (thrown_row M names limits p q w c o x)
    thrown_sound tag x pc c h g None = tt
    thrown_sound tag x pc c h g (Some k) =
        let u : W = with_event w (event_throw p c) in
        let v = killed_within M u c k.owner in
        let o = kill_all code so u c k.owner s in
        let m = made_more (made_of w) (made_of v) o.1 x h in
        sound_if (in_cleanup (M.cleanups q.thread)) _ _ (g v o (aimed (to c x)) m) (owner_sound v o.0 k.owner (to c x) m)

    throw_sound : (tag x : Word) (pc : ℕ) → IsMade (made_of w) x → Goes (throws tag x pc) → (o : Option ℕ) → IsSome (throw_row M names limits p q w o x pc)
    throw_sound tag x pc h g None = s
    throw_sound tag x pc h g (Some c) = thrown_sound tag x pc c h g (catch_at w.catches c)

    finish_sound : (u : ℕ) → Goes (finishes u) → (a : Aim) → IsSoundWorld code so (with_thread w p (M.go q.thread (finish_answer M names limits p q a)))
    finish_sound u g free = g w same done tt
    finish_sound u g (to c x) = g w same unwinds tt
    finish_sound u g die = g w same unwinds tt

    on_if : (b : Bool) (v u : W) → On v → On u → On (if b then v else u)
    on_if true v u h k = h
    on_if false v u h k = k

    leave_sound : (c : ℕ) → Goes (leaves c) → (o : Option Word) → IsWord (made_of w) o → IsSoundWorld code so (leave_row M names limits p q w c o)
    leave_sound c g None h = g (world.without_catch w c) (close_catch code so w c s) unwinds tt
    leave_sound c g (Some x) h =
        let u : W = world.without_catch (with_event w (event_land p c)) c in
        let t : W = world.with_aim u p free in
        let a = close_catch code so w c s in
        let b = then_on code so w u t a (λ j. change_processes code so u (λ r. record r { aim = free }) p (λ r. refl) (λ r e i. (tt, i.1, i.2)) j) in
        let v : W = if in_cleanup (M.cleanups q.thread) then u else t in
        let o = on_if (in_cleanup (M.cleanups q.thread)) u t a b in
        g v o (got x) (made_more (made_of w) (made_of v) o.1 x h)

    -- a process that has ended
    ended_sound : (v : W) → On v → (t : Point) → IsSoundWorld code so (with_thread (with_end v p) p t)
    ended_sound v o t =
        let u : W = with_end v p in
        let a = change_processes code so v (λ r. record r { ended = true }) p (λ r. refl) (λ r e i. (i.0, i.1, inl refl)) o.0 in
        let k = o.2 p q at in
        let z = numbered_changed (λ (r : Process Point). record r { ended = true }) v.procs p k.0 k.1 in
        (change_processes code so u (λ r. record r { thread = t }) p (λ r. refl)
        (λ r e i.
        let y : Some r ≡ Some (record (k.0) { ended = true }) = sym e ∙ z in
        let y' : r ≡ record (k.0) { ended = true } = cc in
        (i.0, i.1, inl (ap (λ (x : Process Point). x.ended) y'))) a.0).0

    last_sound : IsSoundWorld code so (last_row M names limits p q w)
    last_sound =
        let u : W = with_event w (event_exit p 0) in
        let v = killed_within M u 0 p in
        ended_sound (world.without_catch v 0) (then_on code so w v (world.without_catch v 0) (kill_all code so u 0 p s) (λ j. close_catch code so v 0 j)) (M.go q.thread done)

    end_sound : (kind : Kind) (e : Ending) → ((x : Word) → e ≡ with_word x → IsMade (made_of w) x) → IsSome (end_row M names limits p q w kind e)
    end_sound kind last_form h = last_sound
    end_sound (world_child f) (with_word x) h =
        ended_sound (record w { futures = change_numbered (λ y. valued x) w.futures f }) (change_futures code so w (λ y. valued x) f (λ y e i. h x refl) s) (M.go q.thread done)
    end_sound world_main (with_word x) h = tt
    end_sound (serving k) (with_word x) h = tt
    end_sound kind unwound h = ended_sound w same (M.go q.thread done)

    server_row_sound : (f : ℕ → Option W) (kind : Kind) → ((k : ℕ) → kind ≡ serving k → IsSome (f k)) → IsSome (server_row M names limits p q f kind)
    server_row_sound f world_main h = tt
    server_row_sound f (world_child i) h = tt
    server_row_sound f (serving k) h = h k refl

    acting_in : (state : machine.State) (pc : ℕ) (st : List machine.Item) → IsStandingIn At (made_of w) code.instructions q.kind state pc st → IsAimMade (made_of w) q.aim → IsAimMade (made_of w) (acting (machine.cleanups_on st) q.aim)
    acting_in machine.running pc st h a = acting_made (made_of w) At q.kind h.start h.shape st q.aim h.fits a
    acting_in machine.unwinding pc st h a = acting_made (made_of w) At q.kind h.1.0 h.1.1 st q.aim h.1.2 a
    acting_in machine.resting pc st h a = subst (λ z. IsAimMade (made_of w) (acting (machine.cleanups_on z) q.aim)) (sym h.1) a
    acting_in machine.over pc st h a = absurd h

    aim_made : IsAimMade (made_of w) (acting (M.cleanups q.thread) q.aim)
    aim_made = acting_in q.thread.state q.thread.place q.thread.stack stands (each_numbered (IsProcess code so (made_of w)) w.procs p q at s.procs_are).0

    -- The row of what is asked leaves a sound world.
    row_sound : (u : Want) → IsAsked (made_of w) q.kind u → Goes u → IsSome (row M names limits p q w u)
    row_sound (awaits f pc) h g = await_sound f pc g (or_pending (numbered w.futures f)) (pending_made (numbered w.futures f) f refl)
    row_sound takes_literal h g = g w same done tt
    row_sound (reads place pc) h g = read_sound place pc g
    row_sound (stores place x) h g = store_sound place x h.1 g
    row_sound branches h g = g w same done tt
    row_sound (computes o xs pc) h g = primitive_sound o xs pc g (computed w.pairs o xs) (computed_made (made_of w) w.pairs s.pairs_are o xs h.1)
    row_sound (prints x) h g = sound_if _ _ _ (g w same done tt) s
    row_sound (binds bs xs) h g = bind_sound bs xs bound h.0 h.1 (λ v o ss a. g v o (bound ss) a)
    row_sound (calls bs xs) h g = bind_sound bs xs bound h.0 h.1 (λ v o ss a. g v o (bound ss) a)
    row_sound returns h g = g w same done tt
    row_sound closes h g = close_sound (M.closure q.thread) (entry_is (M.closure q.thread) (closes_entry code so (made_of w) q.kind s.names q.thread stands)) (λ v o i j. g v o (got (closure i)) j)
    row_sound (funcalls x xs pc) h g = funcall_sound x xs pc h.1 g
    row_sound (chooses x) h g = mode_sound x g
    row_sound (makes x) h g = make_sound x g
    row_sound (sends k xs used pc) h g = send_sound k xs used pc h.1 g (numbered w.servers k) refl
    row_sound takes_call h g = server_row_sound (λ k. take_row M names limits p q w k (numbered w.servers k)) q.kind (λ k e. take_sound k e (numbered w.servers k) refl)
    row_sound (replies x) h g = server_row_sound (λ k. reply_row M names limits p q w k (numbered w.servers k) x) q.kind (λ k e. reply_sound k e (numbered w.servers k) refl x h.1)
    row_sound (opens x waits) h g = open_sound x waits g
    row_sound (exits c) h g = exit_sound c g (catch_at w.catches c)
    row_sound (throws tag x pc) h g = throw_sound tag x pc h.1 g _
    row_sound protects h g = g w same (wants.numbered (w.protects + 1)) tt
    row_sound (begins u) h g = g w same (wants.numbered (pred (length w.catches))) tt
    row_sound (finishes u) h g = finish_sound u g _
    row_sound (leaves c) h g = leave_sound c g (landing (acting (M.cleanups q.thread) q.aim) c) (landing_made (made_of w) (acting (M.cleanups q.thread) q.aim) c aim_made)
    row_sound (ends last_form) h g = end_sound q.kind last_form (λ x e. absurd cc)
    row_sound (ends (with_word y)) h g = end_sound q.kind (with_word y) (λ x e. let k : y ≡ x = cc in subst (IsMade (made_of w)) k h.1)
    row_sound (ends unwound) h g = end_sound q.kind unwound (λ x e. absurd cc)
    row_sound rests h g = tt

  -- at a running cleanup a process that unwinds rests
  pub off_or_rests : (state : machine.State) (pc : ℕ) (st : List machine.Item) → IsOff state st ⊎ (machine.want_in code.instructions state pc st ≡ rests)
  off_or_rests machine.running pc st = inl tt
  off_or_rests machine.resting pc st = inl tt
  off_or_rests machine.over pc st = inl tt
  off_or_rests machine.unwinding pc [] = inl tt
  off_or_rests machine.unwinding pc (machine.slot x ∷ st) = inl tt
  off_or_rests machine.unwinding pc (machine.mark (machine.returning l) ∷ st) = inl tt
  off_or_rests machine.unwinding pc (machine.mark (machine.base j) ∷ st) = inl tt
  off_or_rests machine.unwinding pc (machine.mark (machine.catching c l) ∷ st) = inl tt
  off_or_rests machine.unwinding pc (machine.mark (machine.protecting c l) ∷ st) = inl tt
  off_or_rests machine.unwinding pc (machine.mark (machine.cleaning c l) ∷ st) = inr refl

  module _ (names : List (List ℕ)) (limits : Limits) where
    step_row : (p : ℕ) (q : Process Point) (w : W) → IsSoundWorld code so w → numbered w.procs p ≡ Some q → IsStanding At (made_of w) code.instructions q.kind q.thread → IsSome (row M names limits p q (counted w p) (M.want q.thread))
    step_row p q w s e h =
        ⊎_elim
        (λ (o : IsOff q.thread.state q.thread.stack). row_sound names limits p q (counted w p) s e h (M.want q.thread) (asked code so (made_of w) q.kind s.names q.thread h o) (goes_sound names limits p q (counted w p) s e h))
        (λ (o : M.want q.thread ≡ rests). subst (λ u. IsSome (row M names limits p q (counted w p) u)) (sym o) tt)
        (off_or_rests q.thread.state q.thread.place q.thread.stack)

    can_if : (b c : Bool) (o : Option W) → (b ≡ false → IsSome o) → IsSome (if not b && c then o else None)
    can_if true c o f = tt
    can_if false true o f = f refl
    can_if false false o f = tt

    step_sound : (p : ℕ) (q : Process Point) (w : W) → IsSoundWorld code so w → numbered w.procs p ≡ Some q → IsSome (step M names limits p q w)
    step_sound p q w s e =
        can_if q.ended (is_ready M names limits p q w (M.want q.thread)) (row M names limits p q (counted w p) (M.want q.thread))
        (λ f. ⊎_elim (λ (t : q.ended ≡ true). let bad : true ≡ false = sym t ∙ f in absurd cc) (λ (h : IsStanding At (made_of w) code.instructions q.kind q.thread). step_row p q w s e h)
        (each_numbered (IsProcess code so (made_of w)) w.procs p q e s.procs_are).2)

    tick_if : (p : ℕ) (w : W) → IsSoundWorld code so w → (o : Option (Process Point)) → numbered w.procs p ≡ o → IsSome (option_and_then (λ q. step M names limits p q w) o)
    tick_if p w s None e = tt
    tick_if p w s (Some q) e = step_sound p q w s e

    -- A tick leaves a sound world.
    pub tick_sound : (w : W) (p : ℕ) → IsSoundWorld code so w → IsSome (tick M names limits w p)
    tick_sound w p s = tick_if p w s (numbered w.procs p) refl

    on_some : (f : W → Option W) → ((w : W) → IsSoundWorld code so w → IsSome (f w)) → (o : Option W) → IsSome o → IsSome (option_and_then f o)
    on_some f g None h = tt
    on_some f g (Some w) h = g w h

    run_if : (b : Bool) (o : Option W) → IsSome o → IsSome (if b then o else None)
    run_if true o h = h
    run_if false o h = tt

    -- So does each run.
    pub run_sound : (ps : List ℕ) (w : W) → IsSoundWorld code so w → IsSome (run M names limits w ps)
    run_sound [] w s = s
    run_sound (p ∷ ps) w s = run_if (is_none (stop_of M names limits w)) (option_and_then (λ v. run M names limits v ps) (tick M names limits w p)) (on_some (λ v. run M names limits v ps) (run_sound ps) (tick M names limits w p) (tick_sound w p s))

constants_made : (m : Made) (n : ℕ) (ps : List (Word × Word)) → n + length ps ≤ m.pairs → are_constant n ps ≡ true → Each (IsPairMade m) ps
constants_made m n [] l e = tt
constants_made m n (p ∷ ps) l e =
    let a = and_left (is_constant_pair n p) (are_constant (n + 1) ps) e in (
      (constant_made m n p.0 (omega (arith, l)) (and_left (is_constant n p.0) (is_constant n p.1) a), constant_made m n p.1 (omega (arith, l)) (and_right (is_constant n p.0) (is_constant n p.1) a)),
      constants_made m (n + 1) ps (omega (arith, l)) (and_right (is_constant_pair n p) (are_constant (n + 1) ps) e),
    )

no_values : (m : Made) (n : ℕ) → Each (IsGlobalMade m) (world.without_values n)
no_values m zero = tt
no_values m (suc n) = (tt, no_values m n)

values_long : (n : ℕ) → length (world.without_values n) ≡ n
values_long zero = refl
values_long (suc n) = ap suc (values_long n)

-- The world of sound code before the first tick.
pub opening_sound : (code : Code) (so : Sound code) → IsSoundWorld code so (code_world code)
opening_sound code so =
    let m = made_of (code_world code) in
    let l = values_long code.globals in
    record {
      names = record { quoted = omega arith; globals = omega (arith, l) };
      pairs_are = constants_made m 0 code.quoted (omega arith) so.quoted;
      boxes_are = tt;
      closures_are = tt;
      futures_are = tt;
      servers_are = tt;
      globals_are = no_values m code.globals;
      procs_are = ((tt, tt, inr (begins_standing code so m)), tt);
    }

-- Each world that a run of sound code comes to is sound.
pub runs_sound : (code : Code) (so : Sound code) (names : List (List ℕ)) (limits : Limits) (schedule : List ℕ) → IsSome code so (run (code_machine code.instructions) names limits (code_world code) schedule)
runs_sound code so names limits schedule = run_sound code so names limits schedule (code_world code) (opening_sound code so)
