-- Each row of a tick appends lines and changes the world alike, and each of its lines is fine.
use Rattle.std.proofs.Common.{◌≡◌, ℕ, suc, ◌+◌, ◌<◌, ◌≤◌, ◌==◌, Bool, true, false, not, List, [], ◌∷◌, ◌++◌, length, drop, Option, Some, None, refl, sym, ap, ◌∙◌, subst, inl, arith, ⊎_elim}
use Rattle.std.specs.Prelude.{if◌then◌else◌, ◌&&◌, ◌||◌, leb, map, is_none, slice_get}
use Rattle.ql_base.specs.declared.limits.Limits.{Limits}
use Rattle.ql_world.specs.Word.{is_nil, is_eager}
use Rattle.ql_world.specs.declared.word.Word.{Word}
use Rattle.ql_world.specs.declared.word.Word.TheVariants.{Fun as closure, Proc as process_closure}
use Rattle.ql_world.specs.declared.word.Slot.{Slot}
use Rattle.ql_world.specs.Operator.{computed}
use Rattle.ql_world.specs.declared.operator.Computed.{Computed as Result}
use Rattle.ql_world.specs.declared.operator.Computed.TheVariants.{Gives as gives, Fails as fails, Joins as joins}
use Rattle.ql_world.specs.declared.event.Mode.{Mode}
use Rattle.ql_world.specs.declared.event.Event.{Event}
use Rattle.ql_world.specs.declared.event.Event.TheVariants.{Spawn as spawn, Exit as exit, Throw as throw, Land as land, Protect as protect, Begin as begin, Finish as finish, Send as send, Take as take, Reply as reply, EndOk as end_ok, EndKilled as end_killed}
use Rattle.ql_world.specs.declared.event.Mode.TheVariants.{Let as binding}
use Rattle.ql_world.specs.World.{or_pending, Call, World, numbered, change_numbered, numbers, catch_at, closed, process_of, with_event, with_thread}
use Rattle.ql_world.specs.declared.world.FutState.{FutState as Future}
use Rattle.ql_world.specs.declared.world.FutState.TheVariants.{Pending as pending, Value as valued, Dead as dead}
use Rattle.ql_world.specs.declared.world.Aim.{Aim}
use Rattle.ql_world.specs.declared.world.Aim.TheVariants.{Free as free, To as to, Die as die}
use Rattle.ql_world.specs.declared.world.Catch.{Catch}
use Rattle.ql_world.specs.declared.world.Kind.{Kind}
use Rattle.ql_world.specs.declared.world.Kind.TheVariants.{Main as main, Child as child, Closure as serving}
use Rattle.ql_world.specs.declared.world.Process.{Process}
use Rattle.ql_world.specs.Within.{is_die, is_live, tagged}
use Rattle.ql_world.specs.Text.{short_text, value_text}
use Rattle.ql_world.specs.Machine.{Place, held, box, global, Ending, last_form, with_word, unwound, Want, awaits, takes_literal, reads, stores, branches, computes, prints, binds, calls, returns, closes, funcalls, chooses, makes, sends, takes_call, replies, opens, exits, throws, protects, begins, finishes, leaves, ends, rests, Answer, done, got, bound, entered, in_line, Machine}
use Rattle.ql_world.specs.declared.world.Cleanup.{Cleanup}
use Rattle.ql_world.specs.Idle.{acting, in_cleanup, unwinds_at, killed_within}
use Rattle.ql_world.specs.Tick.{words_boxed, or_home, is_seen, landing, has_cells, has_procs, next_futures, with_child, with_children, with_server_made, with_next_call, await_row, of_box, of_global, variable_row, store_row, primitive_row, print_row, bind_row, close_row, enter_row, funcall_row, mode_row, turn_boxes, with_turn, process_row, make_row, with_sent, send_row, taken_row, take_row, with_reply, reply_to, reply_row, open_row, exit_row, thrown_row, throw_row, leave_row, last_row, end_row, server_row, row}
use Rattle.ql_meaning.specs.Context.{Context}
use Rattle.ql_meaning.specs.Control.{Thread, Closure, finished, cleanups_on, innermost_on, want_of, core_machine}
use Rattle.ql_meaning.specs.Sane.{base_mark, of_program, Seen, seen, Server, without_turns, outline, FitsBase, Based, marks_of, doing_of, is_unwinding, call_numbers, InProgress, CallsSane, Sane}
use Rattle.ql_meaning.specs.Sane as saw
use Rattle.ql_meaning.proofs.Lists.{same_number, both_true, or_false, not_true, some_same, numbered_pushed, numbered_mapped, numbered_of_mapped, map_changed, map_unchanged, map_push, map_length, changed_length}
use Rattle.ql_meaning.proofs.LegalLines.{Person, newborn, with_end, persons_in, opens_in, person_of, opening_of, owner_in, due_from, all_due, Alive, May, Fine, NotDone, spelled_by, Knows}
use Rattle.ql_meaning.proofs.LegalKills.{owner_is, opens_of_closed, Killing, all_killed, mark_of_killed, spelled_of_killed}
use Rattle.ql_meaning.proofs.LegalWants.{Finished, is_finished_or, is_of_unwinding, is_of_base, works_for, none_runs, rests_for_call, finished_where}
use Rattle.ql_meaning.proofs.LegalPast.{root_owned}
use Rattle.ql_meaning.proofs.LegalFacts.{alive_of, alive_finished, here, work, alive_here, live_here, may_here, may_land, bare_here, around_low, may_begin, may_finish, owner_alive}

abbrev person : ℕ → Bool → Bool → Person
person h d e = record { home = h; dead = d; ended = e }

-- what is known, line by line

abbrev is_simple : Event → Bool
is_simple (land p c) = true
is_simple (protect p v) = true
is_simple (begin p v) = true
is_simple (finish p v) = true
is_simple (send p k n) = true
is_simple (take p k n) = true
is_simple (reply p k n text) = true
is_simple e = false

module _ (es : List Event) (ps : List (Process Thread)) (cs : List Catch) (k : Knows es ps cs) where
  -- a line that tells nothing of who there is
  simply : (e : Event) → is_simple e ≡ true → Fine e (without_turns es) → Knows (e ∷ es) ps cs
  simply (land p c) s f = record { persons = k.persons; opens = k.opens; lines = (f, k.lines); calm = refl }
  simply (protect p v) s f = record { persons = k.persons; opens = k.opens; lines = (f, k.lines); calm = refl }
  simply (begin p v) s f = record { persons = k.persons; opens = k.opens; lines = (f, k.lines); calm = refl }
  simply (finish p v) s f = record { persons = k.persons; opens = k.opens; lines = (f, k.lines); calm = refl }
  simply (send p j n) s f = record { persons = k.persons; opens = k.opens; lines = (f, k.lines); calm = refl }
  simply (take p j n) s f = record { persons = k.persons; opens = k.opens; lines = (f, k.lines); calm = refl }
  simply (reply p j n text) s f = record { persons = k.persons; opens = k.opens; lines = (f, k.lines); calm = refl }
  simply e s f = absurd cc

  changed : (g : Process Thread → Process Thread) (n : ℕ) → ((r : Process Thread) → numbered ps n ≡ Some r → person_of (g r) ≡ person_of r) → Knows es (change_numbered g ps n) cs
  changed g n same = record { persons = k.persons ∙ sym (map_unchanged person_of g ps n same); opens = k.opens; lines = k.lines; calm = k.calm }

  catch_closed : (c : ℕ) → Knows es ps (closed cs c)
  catch_closed c = record { persons = k.persons; opens = k.opens ∙ sym (opens_of_closed cs c); lines = k.lines; calm = k.calm }

  joined : (p home : ℕ) (kind : Kind) (t : Thread) (mode : Mode) → Alive p (without_turns es) → home < length cs → Knows (spawn p (length ps + 1) home mode ∷ es) (ps ++ process_of home kind t ∷ []) cs
  joined p home kind t mode alive low =
      let all : length (persons_in (without_turns es)) ≡ length ps = ap length k.persons ∙ map_length person_of ps in
      let those : length (opens_in (without_turns es)) ≡ length cs = ap length k.opens ∙ map_length opening_of cs in
      record {
        persons = ap (λ (z : List Person). z ++ newborn home ∷ []) k.persons ∙ sym (map_push person_of ps (process_of home kind t));
        opens = k.opens;
        lines = ((k.calm, alive, omega (arith, all), omega (arith, low, those)), k.lines);
        calm = refl;
      }

  ended_well : (p : ℕ) (text : Option (List ℕ)) → Alive p (without_turns es) → Knows (end_ok p text ∷ es) (change_numbered (λ q. record q { ended = true }) ps p) cs
  ended_well p text alive = record {
    persons = ap (λ (z : List Person). change_numbered with_end z p) k.persons ∙ sym (map_changed person_of (λ q. record q { ended = true }) with_end (λ r. refl) ps p);
    opens = k.opens;
    lines = ((k.calm, alive), k.lines);
    calm = refl;
  }

  ended_killed : (p : ℕ) (q : Process Thread) → numbered ps p ≡ Some q → Knows (end_killed p ∷ es) (change_numbered (λ q. record q { ended = true }) ps p) cs
  ended_killed p q at = record {
    persons = ap (λ (z : List Person). change_numbered with_end z p) k.persons ∙ sym (map_changed person_of (λ q. record q { ended = true }) with_end (λ r. refl) ps p);
    opens = k.opens;
    lines = ((k.calm, (person_of q, ap (λ (z : List Person). numbered z p) k.persons ∙ numbered_mapped person_of ps p q at)), k.lines);
    calm = refl;
  }

-- once all kills are done
settled : (c owner : ℕ) (cs0 : List Catch) (ps0 : List Person) (es : List Event) (ps : List (Process Thread)) (cs : List Catch) → Killing c owner cs0 ps0 (length ps0) es ps cs → Knows es ps cs
settled c owner cs0 ps0 es ps cs k = record {
  persons = k.persons;
  opens = k.opens ∙ sym (ap (map opening_of) k.catches);
  lines = k.lines;
  calm = k.left ∙ ap (λ (z : List Person). map (λ q. (c, q)) (due_from (map opening_of cs0) c owner (suc (length ps0)) z)) (drop_all ps0);
}
  where
    drop_all : {A : Type 0} → (xs : List A) → drop (length xs) xs ≡ []
    drop_all [] = refl
    drop_all (y ∷ xs) = drop_all xs

module _ (x : Context) (names : List (List ℕ)) (limits : Limits) (u : World Thread Closure) (sane : Sane u) (knows : Knows u.events u.procs u.catches) (p : ℕ) (q : Process Thread) (at : numbered u.procs p ≡ Some q) (at_work : q.ended ≡ false) (fresh : NotDone u.mark) where
  abbrev m : Machine Thread Closure
  m = core_machine x

  abbrev news : List Event
  news = without_turns u.events

  abbrev cleans : Bool
  cleans = in_cleanup (cleanups_on q.thread.frames)

  abbrev home : ℕ
  home = or_home (innermost_on q.thread.frames) q.home

  pub record Good (v : World Thread Closure) : Type 0 where
    pub known : Knows v.events v.procs v.catches
    -- in a cleanup no process is made
    pub grows : cleans ≡ true → length v.procs ≡ length u.procs
    pub unmarked : NotDone v.mark
    -- its lines hold no turn
    pub spelled : spelled_by v.events ≡ spelled_by u.events

  abbrev pub AllGood : Option (World Thread Closure) → Type 0
  AllGood None = Unit {0}
  AllGood (Some v) = Good v

  same : Good u
  same = record { known = knows; grows = λ c. refl; unmarked = fresh; spelled = refl }

  -- what a world holds besides doesn't matter
  alike : (v : World Thread Closure) → v.events ≡ u.events → v.procs ≡ u.procs → v.catches ≡ u.catches → NotDone v.mark → Good v
  alike v e f g n = record {
    known = subst (λ (z : List Event). Knows z v.procs v.catches) (sym e) (subst (λ (z : List (Process Thread)). Knows u.events z v.catches) (sym f) (subst (λ (z : List Catch). Knows u.events u.procs z) (sym g) knows));
    grows = λ c. ap length f;
    unmarked = n;
    spelled = ap spelled_by e;
  }

  goes_on : (v : World Thread Closure) (a : Answer Closure) → Good v → Good (with_thread v p (m.go q.thread a))
  goes_on v a h = record { known = changed v.events v.procs v.catches h.known _ p (λ r e. refl); grows = λ c. changed_length _ v.procs p ∙ h.grows c; unmarked = h.unmarked; spelled = h.spelled }

  -- and the process goes on
  quietly : (v : World Thread Closure) (a : Answer Closure) → v.events ≡ u.events → v.procs ≡ u.procs → v.catches ≡ u.catches → NotDone v.mark → Good (with_thread v p (m.go q.thread a))
  quietly v a e f g n = goes_on v a (alike v e f g n)

  choose : (b : Bool) (v w : World Thread Closure) → (b ≡ true → Good v) → (b ≡ false → Good w) → Good (if b then v else w)
  choose true v w f g = f refl
  choose false v w f g = g refl

  choose_some : (b : Bool) (v w : Option (World Thread Closure)) → (b ≡ true → AllGood v) → (b ≡ false → AllGood w) → AllGood (if b then v else w)
  choose_some true v w f g = f refl
  choose_some false v w f g = g refl

  first_left : (c owner : ℕ) → owner_in (map opening_of u.catches) c ≡ owner → all_due c news ≡ map (λ z. (c, z)) (due_from (map opening_of u.catches) c owner 1 (map person_of u.procs))
  first_left c owner e = rw (knows.opens, knows.persons, e) refl

  after_exit : (c owner : ℕ) → owner_in (map opening_of u.catches) c ≡ owner → May p news
      → Killing c owner u.catches (map person_of u.procs) (length (map person_of u.procs)) (killed_within m (with_event u (exit p c)) c owner).events (killed_within m (with_event u (exit p c)) c owner).procs (killed_within m (with_event u (exit p c)) c owner).catches
  after_exit c owner e may =
      subst (λ z. Killing c owner u.catches (map person_of u.procs) z (killed_within m (with_event u (exit p c)) c owner).events (killed_within m (with_event u (exit p c)) c owner).procs (killed_within m (with_event u (exit p c)) c owner).catches) (sym (map_length person_of u.procs))
      (all_killed m c owner u.catches (map person_of u.procs) (length u.procs) (with_event u (exit p c)) (record {
        persons = knows.persons;
        opens = knows.opens;
        catches = refl;
        lines = ((knows.calm, may), knows.lines);
        left = first_left c owner e;
        rest = refl;
        kept = refl;
        count = sym (map_length person_of u.procs);
      }))

  last_good : want_of x q.thread.control q.thread.frames ≡ ends last_form → Good (last_row m names limits p q u)
  last_good w =
      let finished_now = finished_where x q.thread.control q.thread.frames w in
      let alive : Alive p news = alive_finished x u sane knows p q at at_work finished_now in
      let first : p ≡ 1 = (sane.homes.first p (seen q) (here x u sane knows p q at at_work) (main_where q.kind (subst (λ c. Based q.kind (marks_of c q.thread.frames)) finished_now (work x u sane knows p q at at_work).based))).0 in
      let kill_all = after_exit 0 p (ap (λ (os : List (ℕ × ℕ)). owner_in os 0) (sym knows.opens) ∙ (root_owned news).0 ∙ sym first) (inl alive) in
      let settled_now = settled 0 p u.catches (map person_of u.procs) _ _ _ kill_all in
      let me : numbered (map person_of u.procs) p ≡ Some (person_of q) = numbered_mapped person_of u.procs p q at in
      let alive_now : Alive p (without_turns (killed_within m (with_event u (exit p 0)) 0 p).events) = (person_of q, ap (λ (z : List Person). numbered z p) kill_all.persons ∙ (kill_all.kept ∙ me), subst (λ (z : Person). z.dead ≡ false) (same_person alive) alive.2) in
      goes_on _ _ (record {
        known = ended_well _ _ _ (catch_closed _ _ _ settled_now 0) p None alive_now;
        grows = λ z. changed_length _ _ p ∙ (kill_all.count ∙ map_length person_of u.procs);
        unmarked = subst NotDone (sym (mark_of_killed m (with_event u (exit p 0)) 0 p (length u.procs))) fresh;
        spelled = spelled_of_killed m (with_event u (exit p 0)) 0 p (length u.procs);
      })
    where
      main_where : (kind : Kind) → Based kind (marks_of finished q.thread.frames) → kind ≡ main
      main_where main b = refl
      main_where (child f) b = absurd b.0
      main_where (serving k) b = absurd b.0

      same_person : (alive : Alive p news) → alive.0 ≡ person_of q
      same_person alive = some_same (sym alive.1 ∙ ap (λ (z : List Person). numbered z p) knows.persons ∙ numbered_mapped person_of u.procs p q at)

  module _ (nf : Finished q.thread.control → ⊥) where
    -- rows without lines

    awaits_row : (s : Future) (at : ℕ) → AllGood (await_row m names limits p q u s at)
    awaits_row pending at = tt
    awaits_row (valued y) at = quietly u (got y) refl refl refl fresh
    awaits_row dead at = alike _ refl refl refl tt

    box_row : (o : Option Word) → AllGood (of_box m names limits p q u o)
    box_row None = tt
    box_row (Some y) = quietly u (got y) refl refl refl fresh

    global_row : (o : Option (Option Word)) (at : ℕ) → AllGood (of_global m names limits p q u o at)
    global_row None at = tt
    global_row (Some None) at = alike _ refl refl refl tt
    global_row (Some (Some y)) at = quietly u (got y) refl refl refl fresh

    reads_row : (place : Place) (at : ℕ) → AllGood (variable_row m names limits p q u place at)
    reads_row held at = quietly u done refl refl refl fresh
    reads_row (box n) at = box_row (slice_get u.boxes n)
    reads_row (global g) at = global_row (slice_get u.globals g) at

    stores_row : (place : Place) (y : Word) → AllGood (store_row m names limits p q u place y)
    stores_row held y = tt
    stores_row (box n) y = quietly _ done refl refl refl fresh
    stores_row (global g) y = quietly _ done refl refl refl fresh

    computes_row : (o : Option Result) (at : ℕ) → AllGood (primitive_row m names limits p q u o at)
    computes_row None at = tt
    computes_row (Some (gives y)) at = quietly u (got y) refl refl refl fresh
    computes_row (Some (fails kind)) at = alike _ refl refl refl tt
    computes_row (Some (joins a b)) at = choose_some (has_cells limits u 1) _ _ (λ e. quietly _ _ refl refl refl fresh) (λ e. alike _ refl refl refl tt)

    prints_row : (text : List ℕ) → Good (print_row m names limits p q u text)
    prints_row text = choose (leb (length u.output + length text) limits.output) _ _ (λ e. quietly _ done refl refl refl fresh) (λ e. alike _ refl refl refl tt)

    binds_row : (bs : List Bool) (xs : List Word) (answer : List Slot → Answer Closure) → Good (bind_row m names limits p q u bs xs answer)
    binds_row bs xs answer = choose (has_cells limits u (length (words_boxed bs xs))) _ _ (λ e. quietly _ _ refl refl refl fresh) (λ e. alike _ refl refl refl tt)

    closes_row : (o : Option Closure) → AllGood (close_row m names limits p q u o)
    closes_row None = tt
    closes_row (Some k) = choose_some (has_cells limits u 1) _ _ (λ e. quietly _ _ refl refl refl fresh) (λ e. alike _ refl refl refl tt)

    enters_row : (o : Option Closure) (xs : List Word) (at : ℕ) → AllGood (enter_row m names limits p q u o xs at)
    enters_row None xs at = tt
    enters_row (Some k) xs at = choose_some (length xs == length (m.stored k)) _ _ (λ e. binds_row (m.stored k) xs (entered k)) (λ e. alike _ refl refl refl tt)

    funcalls_row : (y : Word) (xs : List Word) (at : ℕ) → AllGood (funcall_row m names limits p q u y xs at)
    funcalls_row (closure n) xs at = enters_row (numbered u.closures n) xs at
    funcalls_row (process_closure n) xs at = alike _ refl refl refl tt
    funcalls_row y xs at = alike _ refl refl refl tt

    -- processes are made

    children_row : (ts : List Thread) (v : World Thread Closure) → Knows v.events v.procs v.catches → Alive p (without_turns v.events) → home < length v.catches
        → Knows (with_children v p home ts).events (with_children v p home ts).procs (with_children v p home ts).catches
    children_row [] v k a l = k
    children_row (t ∷ ts) v k a l =
        children_row ts (with_child v p home t) (joined v.events v.procs v.catches k p home _ t binding a l) (a.0, numbered_pushed _ _ p _ a.1, a.2) l

    children_mark : (ts : List Thread) (v : World Thread Closure) → (with_children v p home ts).mark ≡ v.mark
    children_mark [] v = refl
    children_mark (t ∷ ts) v = children_mark ts (with_child v p home t)

    children_spelled : (ts : List Thread) (v : World Thread Closure) → spelled_by (with_children v p home ts).events ≡ spelled_by v.events
    children_spelled [] v = refl
    children_spelled (t ∷ ts) v = children_spelled ts (with_child v p home t)

    chooses_row : (y : Word) (ts : List Thread) → is_unwinding (doing_of q.thread.control) ≡ false → Good (mode_row m names limits p q u y ts)
    chooses_row y ts works =
        choose (is_nil y || cleans) _ _ (λ e. quietly u in_line refl refl refl fresh)
        (λ e. choose (has_procs limits u (length ts)) _ _
        (λ f. goes_on _ _ (record {
          known = children_row ts u knows (alive_here x u sane knows p q at at_work nf (none_runs x _ (or_false _ _ e).1) works) (around_low x u sane knows p q at at_work nf);
          grows = λ c. let bad : true ≡ false = sym c ∙ (or_false (is_nil y) cleans e).1 in absurd cc;
          unmarked = subst NotDone (sym (children_mark ts u)) fresh;
          spelled = children_spelled ts u;
        }))
        (λ f. alike _ refl refl refl tt))

    made_row : (v : World Thread Closure) (k : Closure) (e : Bool) (fs : List ℕ) (t : Thread) → v.events ≡ u.events → v.procs ≡ u.procs → v.catches ≡ u.catches → NotDone v.mark → cleans ≡ false → is_unwinding (doing_of q.thread.control) ≡ false
        → Good (with_server_made v p home k e fs t)
    made_row v k e fs t f g h o n works =
        let kv : Knows v.events v.procs v.catches = (alike v f g h o).known in
        let alive : Alive p (without_turns v.events) = subst (λ (z : List Event). Alive p (without_turns z)) (sym f) (alive_here x u sane knows p q at at_work nf (none_runs x _ n) works) in
        let low : home < length v.catches = subst (λ (z : List Catch). home < length z) (sym h) (around_low x u sane knows p q at at_work nf) in
        record {
          known = joined v.events v.procs v.catches kv p home _ t _ alive low;
          grows = λ c. let bad : true ≡ false = sym c ∙ n in absurd cc;
          unmarked = o;
          spelled = ap spelled_by f;
        }

    makes_row : (y : Word) (o : Option Closure) → is_unwinding (doing_of q.thread.control) ≡ false → AllGood (make_row m names limits p q u y o)
    makes_row y o works =
        choose_some (is_nil y || cleans) _ _ (λ e. closes_row o) (λ e. processes o (or_false _ _ e).1)
      where
        processes : (o : Option Closure) → cleans ≡ false → AllGood (process_row m names limits p q u (is_eager y) o)
        processes None n = tt
        processes (Some k) n =
            choose_some (has_procs limits u 1) _ _
            (λ e. choose (is_eager y) _ _
            (λ f. choose (has_cells limits u (length (turn_boxes m names limits p q u k))) _ _
            (λ g. goes_on _ _ (made_row (with_turn m names limits p q u k) k true _ _ refl refl refl fresh n works))
            (λ g. alike _ refl refl refl tt))
            (λ f. goes_on _ _ (made_row u k false _ _ refl refl refl fresh n works)))
            (λ e. alike _ refl refl refl tt)

    -- calls

    server_alive : (k : ℕ) (s : Server) → numbered u.servers k ≡ Some s → s.dead ≡ false → Alive s.process news × (r : Seen) × (numbered (map seen u.procs) s.process ≡ Some r) × (is_live r ≡ true)
    server_alive k s e d =
        let by = sane.servers.served k s e in
        let live : is_live by.0 ≡ true = not_false _ (sym (sane.servers.dead k s by.0 e by.1) ∙ d) in
        let r = numbered_of_mapped seen u.procs s.process by.0 by.1 in
        let not_dead : is_die by.0.aim ≡ false = not_true _ (both_true _ _ live).1 in
        (alive_of x u sane knows s.process r.0 r.1 (subst (λ (z : Seen). is_die z.aim ≡ false) r.2 not_dead), by.0, by.1, live)
      where
        not_false : (b : Bool) → not b ≡ false → b ≡ true
        not_false true h = refl
        not_false false h = absurd cc

    next_sent : (n sent taken waiting : ℕ) → n ≡ sent + 1 → taken + waiting ≡ sent → waiting ≡ 0 → n ≡ suc taken
    next_sent n sent taken waiting a b c = omega (arith, a, b, c)

    last_sent : (n sent told : ℕ) → n ≡ sent + 1 → sent ≡ told → n ≤ suc told
    last_sent n sent told a b = omega (arith, a, b)

    no_current : (o : Option Call) → is_none o ≡ true → o ≡ None
    no_current None h = refl
    no_current (Some c) h = absurd cc

    sent_good : (futures : List Future) (k : ℕ) (s : Server) (c : Call) → numbered u.servers k ≡ Some s → s.dead ≡ false → c.number ≡ s.sent + 1 → Alive p news → Good (with_sent m names limits p q (record u { futures = futures }) k s c)
    sent_good futures k s c e d n alive =
        let cs : CallsSane k s news = sane.servers.calls k s e in
        let sends_is = cs.sent in
        let kv : Knows (send p k c.number ∷ u.events) u.procs u.catches = simply u.events u.procs u.catches knows (send p k c.number) refl (knows.calm, alive, omega (arith, n, sends_is)) in
        choose (s.eager && is_none s.current) _ _
        (λ t.
        let by = server_alive k s e d in
        let none : s.current ≡ None = no_current s.current (both_true _ _ t).1 in
        let empty : s.queue ≡ [] = sane.servers.prompt k s by.1 e by.2 by.3 (both_true _ _ t).0 none in
        let all = cs.all in
        let len : length s.queue ≡ 0 = ap length empty in
        let taken : saw.takes k news ≡ saw.replies k news = subst (λ (o : Option Call). InProgress o (saw.takes k news) (saw.replies k news)) none cs.progress in
        record {
          known = simply _ u.procs u.catches kv (take s.process k c.number) refl (
            refl,
            by.0,
            record {
              next = next_sent c.number s.sent (saw.takes k news) (length s.queue) n all len;
              sent = subst (λ (b : Bool). c.number ≤ (if b then suc (saw.sends k news) else saw.sends k news)) (sym (same_number k)) (last_sent c.number s.sent (saw.sends k news) n sends_is);
              answered = sym taken;
            },
          );
          grows = λ c. refl;
          unmarked = fresh;
          spelled = refl;
        })
        (λ t. record { known = kv; grows = λ c. refl; unmarked = fresh; spelled = refl })

    sends_row : (k : ℕ) (o : Option Server) (xs : List Word) (used : Bool) (at : ℕ) → numbered u.servers k ≡ o → Alive p news → AllGood (send_row m names limits p q u k o xs used at)
    sends_row k None xs used at e alive = tt
    sends_row k (Some s) xs used at e alive =
        choose_some (not (length xs == length (m.stored s.body))) _ _
        (λ t. alike _ refl refl refl tt)
        (λ t. choose_some s.dead _ _ (λ d. alike _ refl refl refl tt)
        (λ d. choose used _ _
        (λ b. goes_on _ _ (sent_good _ k s _ e d refl alive))
        (λ b. goes_on _ _ (sent_good u.futures k s _ e d refl alive))))

    me_of_server : (k : ℕ) (s : Server) → numbered u.servers k ≡ Some s → q.kind ≡ serving k → s.process ≡ p
    me_of_server k s e kind =
        let r = sane.servers.serves p (seen q) k (here x u sane knows p q at at_work) kind in
        let same : r.0 ≡ s = some_same (sym r.1 ∙ e) in
        subst (λ (z : Server). z.process ≡ p) same r.2

    -- the next call of a queue
    next_in_queue : (k : ℕ) (s : Server) (c : Call) (cs : List Call) → CallsSane k s news → s.queue ≡ c ∷ cs → (c.number ≡ saw.takes k news + 1) × (c.number ≤ saw.sends k news)
    next_in_queue k s c cs told e =
        let numbered_so : call_numbers (c ∷ cs) ≡ numbers (saw.takes k news + 1) (length (c ∷ cs)) = subst (λ (z : List Call). call_numbers z ≡ numbers (saw.takes k news + 1) (length z)) e told.queued in
        let is : c.number ≡ saw.takes k news + 1 = cc in
        let len : length s.queue ≡ suc (length cs) = ap length e in
        let all = told.all in let sent = told.sent in
        (is, omega (arith, is, len, all, sent))

    takes_row : (k : ℕ) (o : Option Server) → numbered u.servers k ≡ o → q.kind ≡ serving k → want_of x q.thread.control q.thread.frames ≡ takes_call → AllGood (take_row m names limits p q u k o)
    takes_row k None e kind w = tt
    takes_row k (Some s) e kind w = taking s.queue refl
      where
        works : is_unwinding (doing_of q.thread.control) ≡ false
        works = works_for x q.thread.control q.thread.frames (ap is_of_unwinding w)

        bare : cleanups_on q.thread.frames ≡ []
        bare = bare_here x u sane knows p q at at_work nf (ap is_of_base w)

        taking : (cs : List Call) → s.queue ≡ cs → AllGood (taken_row m names limits p q u k s cs)
        taking [] f = tt
        taking (c ∷ cs) f =
            let told : CallsSane k s news = sane.servers.calls k s e in
            let next = next_in_queue k s c cs told f in
            let next_is = next.0 in
            let mine : numbered (map seen u.procs) s.process ≡ Some (seen q) = subst (λ z. numbered (map seen u.procs) z ≡ Some (seen q)) (sym (me_of_server k s e kind)) (here x u sane knows p q at at_work) in
            let none : s.current ≡ None = (sane.servers.resting k s (seen q) e mine (live_here x u sane knows p q at at_work nf bare works) (rests_for_call x q.thread.control q.thread.frames w)).0 in
            let taken : saw.takes k news ≡ saw.replies k news = subst (λ (o : Option Call). InProgress o (saw.takes k news) (saw.replies k news)) none told.progress in
            choose_some (has_cells limits u (length (words_boxed (m.stored s.body) c.arguments))) _ _
            (λ t. record {
              known = changed _ u.procs u.catches (simply u.events u.procs u.catches knows (take p k c.number) refl
                  (knows.calm, alive_here x u sane knows p q at at_work nf bare works, record { next = omega (arith, next_is); sent = next.1; answered = sym taken })) _ p (λ r h. refl);
              grows = λ z. changed_length _ u.procs p;
              unmarked = fresh;
              spelled = refl;
            })
            (λ t. alike _ refl refl refl tt)

    abbrev reply_line : ℕ → Word → Call → Event
    reply_line k y c = reply p k c.number (Some (short_text names u.pairs y))

    replies_row : (k : ℕ) (o : Option Server) (y : Word) → numbered u.servers k ≡ o → q.kind ≡ serving k → want_of x q.thread.control q.thread.frames ≡ replies y → AllGood (reply_row m names limits p q u k o y)
    replies_row k None y e kind w = tt
    replies_row k (Some s) y e kind w = replying s.current refl
      where
        works : is_unwinding (doing_of q.thread.control) ≡ false
        works = works_for x q.thread.control q.thread.frames (ap is_of_unwinding w)

        bare : cleanups_on q.thread.frames ≡ []
        bare = bare_here x u sane knows p q at at_work nf (ap is_of_base w)

        alive : Alive p news
        alive = alive_here x u sane knows p q at at_work nf bare works

        told : CallsSane k s news
        told = sane.servers.calls k s e

        replied_knows : (c : Call) → s.current ≡ Some c → Knows (reply_line k y c ∷ u.events) u.procs u.catches
        replied_knows c f =
            let on : (c.number ≡ saw.takes k news) × (saw.takes k news ≡ suc (saw.replies k news)) = subst (λ (o : Option Call). InProgress o (saw.takes k news) (saw.replies k news)) f told.progress in
            simply u.events u.procs u.catches knows (reply_line k y c) refl (knows.calm, alive, record { next = on.0 ∙ on.1; taken = on.0 })

        -- in the next turn of an eager closure
        turned : (v : World Thread Closure) (s' : Server) (c : Call) (cs : List Call) → s.current ≡ Some c → v.events ≡ reply_line k y c ∷ u.events → (t : Thread) → v.procs ≡ change_numbered (λ r. record r { thread = t }) u.procs p → v.catches ≡ u.catches → NotDone v.mark → s'.process ≡ s.process → s.queue ≡ cs
            → Good (with_next_call v k s' cs)
        turned v s' c [] f ev t ps ct nd pr qu =
            let k0 : Knows (reply_line k y c ∷ u.events) (change_numbered (λ r. record r { thread = t }) u.procs p) u.catches = changed _ u.procs u.catches (replied_knows c f) _ p (λ r h. refl) in
            record {
              known = subst (λ (z : List Event). Knows z v.procs v.catches) (sym ev) (subst (λ (z : List (Process Thread)). Knows (reply_line k y c ∷ u.events) z v.catches) (sym ps) (subst (λ (z : List Catch). Knows (reply_line k y c ∷ u.events) (change_numbered (λ r. record r { thread = t }) u.procs p) z) (sym ct) k0));
              grows = λ z. ap length ps ∙ changed_length _ u.procs p;
              unmarked = nd;
              spelled = ap spelled_by ev;
            }
        turned v s' c (c' ∷ cs) f ev t ps ct nd pr qu =
            let k0 : Knows (reply_line k y c ∷ u.events) (change_numbered (λ r. record r { thread = t }) u.procs p) u.catches = changed _ u.procs u.catches (replied_knows c f) _ p (λ r h. refl) in
            let on : (c.number ≡ saw.takes k news) × (saw.takes k news ≡ suc (saw.replies k news)) = subst (λ (o : Option Call). InProgress o (saw.takes k news) (saw.replies k news)) f told.progress in
            let next = next_in_queue k s c' cs told qu in
            let next_is = next.0 in
            let me : s'.process ≡ p = pr ∙ me_of_server k s e kind in
            let k1 : Knows (take s'.process k c'.number ∷ (reply_line k y c ∷ u.events)) (change_numbered (λ r. record r { thread = t }) u.procs p) u.catches =
            simply _ _ u.catches k0 (take s'.process k c'.number) refl (
              refl,
              subst (λ z. Alive z news) (sym me) alive,
              record {
                next = omega (arith, next_is);
                sent = next.1;
                answered = subst (λ (b : Bool). (if b then suc (saw.replies k news) else saw.replies k news) ≡ saw.takes k news) (sym (same_number k)) (sym on.1);
              },
            ) in
            record {
              known = subst (λ (z : List Event). Knows (take s'.process k c'.number ∷ z) v.procs v.catches) (sym ev) (subst (λ (z : List (Process Thread)). Knows (take s'.process k c'.number ∷ (reply_line k y c ∷ u.events)) z v.catches) (sym ps) (subst (λ (z : List Catch). Knows (take s'.process k c'.number ∷ (reply_line k y c ∷ u.events)) (change_numbered (λ r. record r { thread = t }) u.procs p) z) (sym ct) k1));
              grows = λ z. ap length ps ∙ changed_length _ u.procs p;
              unmarked = nd;
              spelled = ap spelled_by ev;
            }

        replying : (o : Option Call) → s.current ≡ o → AllGood (reply_to m names limits p q u k s o y)
        replying None f = tt
        replying (Some c) f =
            choose s.eager _ _
            (λ t. choose (has_cells limits u (length (turn_boxes m names limits p q u s.body))) _ _
            (λ g. turned _ (record s { current = None; turn = next_futures (with_reply m names limits p q u k s c y) (length (m.stored s.body)) }) c s.queue f refl _ refl refl fresh refl refl)
            (λ g. alike _ refl refl refl tt))
            (λ t. record { known = changed _ u.procs u.catches (replied_knows c f) _ p (λ r h. refl); grows = λ z. changed_length _ u.procs p; unmarked = fresh; spelled = refl })

    of_server : (f : ℕ → Option (World Thread Closure)) → ((k : ℕ) → q.kind ≡ serving k → AllGood (f k)) → (kind : Kind) → q.kind ≡ kind → AllGood (server_row m names limits p q f kind)
    of_server f h main e = tt
    of_server f h (child n) e = tt
    of_server f h (serving k) e = h k e

    -- catches

    opens_row : (tag : Word) (waits : Bool) → is_unwinding (doing_of q.thread.control) ≡ false → Good (open_row m names limits p q u tag waits)
    opens_row tag waits works =
        let those : length (opens_in news) ≡ length u.catches = ap length knows.opens ∙ map_length opening_of u.catches in
        goes_on _ _ (record {
          known = record {
            persons = knows.persons;
            opens = ap (λ (z : List (ℕ × ℕ)). (p, home) ∷ z) knows.opens;
            lines = ((knows.calm, may_here x u sane knows p q at at_work nf works, sym those, around_low x u sane knows p q at at_work nf), knows.lines);
            calm = refl;
          };
          grows = λ c. refl;
          unmarked = fresh;
          spelled = refl;
        })

    after_throw : (c owner : ℕ) → owner_in (map opening_of u.catches) c ≡ owner → May p news
        → Killing c owner u.catches (map person_of u.procs) (length (map person_of u.procs)) (killed_within m (with_event u (throw p c)) c owner).events (killed_within m (with_event u (throw p c)) c owner).procs (killed_within m (with_event u (throw p c)) c owner).catches
    after_throw c owner e may =
        subst (λ z. Killing c owner u.catches (map person_of u.procs) z (killed_within m (with_event u (throw p c)) c owner).events (killed_within m (with_event u (throw p c)) c owner).procs (killed_within m (with_event u (throw p c)) c owner).catches) (sym (map_length person_of u.procs))
        (all_killed m c owner u.catches (map person_of u.procs) (length u.procs) (with_event u (throw p c)) (record {
          persons = knows.persons;
          opens = knows.opens;
          catches = refl;
          lines = ((knows.calm, may), knows.lines);
          left = first_left c owner e;
          rest = refl;
          kept = refl;
          count = sym (map_length person_of u.procs);
        }))

    exits_row : (c : ℕ) (o : Option Catch) → catch_at u.catches c ≡ o → is_unwinding (doing_of q.thread.control) ≡ false → AllGood (exit_row m names limits p q u c o)
    exits_row c None e works = tt
    exits_row c (Some k) e works =
        let kill_all = after_exit c k.owner (owner_is u.catches c k e) (may_here x u sane knows p q at at_work nf works) in
        goes_on _ _ (record {
          known = catch_closed _ _ _ (settled c k.owner u.catches (map person_of u.procs) _ _ _ kill_all) c;
          grows = λ z. kill_all.count ∙ map_length person_of u.procs;
          unmarked = subst NotDone (sym (mark_of_killed m (with_event u (exit p c)) c k.owner (length u.procs))) fresh;
          spelled = spelled_of_killed m (with_event u (exit p c)) c k.owner (length u.procs);
        })

    abbrev killed_by_throw : (c owner : ℕ) → World Thread Closure
    killed_by_throw c owner = killed_within m (with_event u (throw p c)) c owner

    thrown_to : (c : ℕ) (o : Option Catch) (y tag : Word) → catch_at u.catches c ≡ o → tagged (is_seen (cleanups_on q.thread.frames)) u.catches tag home ≡ Some c → is_unwinding (doing_of q.thread.control) ≡ false → AllGood (thrown_row m names limits p q u c o y)
    thrown_to c None y tag e f works = tt
    thrown_to c (Some k) y tag e f works =
        choose cleans _ _
        (λ t. goes_on _ _ after)
        (λ t. record {
          known = changed _ _ _ after.known _ k.owner (owner_same t);
          grows = λ z. changed_length _ _ k.owner ∙ after.grows z;
          unmarked = after.unmarked;
          spelled = after.spelled;
        })
      where
        kill_all : Killing c k.owner u.catches (map person_of u.procs) (length (map person_of u.procs)) (killed_by_throw c k.owner).events (killed_by_throw c k.owner).procs (killed_by_throw c k.owner).catches
        kill_all = after_throw c k.owner (owner_is u.catches c k e) (may_here x u sane knows p q at at_work nf works)

        after : Good (killed_by_throw c k.owner)
        after = record {
          known = settled c k.owner u.catches (map person_of u.procs) _ _ _ kill_all;
          grows = λ z. kill_all.count ∙ map_length person_of u.procs;
          unmarked = subst NotDone (sym (mark_of_killed m (with_event u (throw p c)) c k.owner (length u.procs))) fresh;
          spelled = spelled_of_killed m (with_event u (throw p c)) c k.owner (length u.procs);
        }

        -- the owner was not killed before, and is not killed now
        owner_same : cleans ≡ false → (r : Process Thread) → numbered (killed_by_throw c k.owner).procs k.owner ≡ Some r → person_of (record r { aim = to c y; thread = unwinds_at m r.thread }) ≡ person_of r
        owner_same t r h =
            let was : numbered (map person_of u.procs) k.owner ≡ Some (person_of r) = sym kill_all.kept ∙ numbered_mapped person_of (killed_by_throw c k.owner).procs k.owner r h in
            let before = numbered_of_mapped person_of u.procs k.owner (person_of r) was in
            let not_dead : is_die before.0.aim ≡ false = owner_alive x u sane knows p q at at_work nf tag c k before.0 (none_runs x _ t) works f e before.1 in
            let now : is_die r.aim ≡ false = ap (λ (z : Person). z.dead) before.2 ∙ not_dead in
            ap (λ (b : Bool). person r.home b r.ended) (sym now)

    throws_row : (o : Option ℕ) (y tag : Word) (at : ℕ) → tagged (is_seen (cleanups_on q.thread.frames)) u.catches tag home ≡ o → is_unwinding (doing_of q.thread.control) ≡ false → AllGood (throw_row m names limits p q u o y at)
    throws_row None y tag at e works = alike _ refl refl refl tt
    throws_row (Some c) y tag at e works = thrown_to c (catch_at u.catches c) y tag refl e works

    leaves_row : (c : ℕ) (o : Option Word) → landing (acting (cleanups_on q.thread.frames) q.aim) c ≡ o → Good (leave_row m names limits p q u c o)
    leaves_row c None e = goes_on _ _ (record { known = catch_closed u.events u.procs u.catches knows c; grows = λ z. refl; unmarked = fresh; spelled = refl })
    leaves_row c (Some y) e =
        let k0 : Knows (land p c ∷ u.events) u.procs (closed u.catches c) = catch_closed _ _ _ (simply u.events u.procs u.catches knows (land p c) refl (knows.calm, may_land x u sane knows p q at at_work nf c y e)) c in
        goes_on _ _ (choose cleans _ _
        (λ t. record { known = k0; grows = λ z. refl; unmarked = fresh; spelled = refl })
        (λ t. record { known = changed _ _ _ k0 _ p (aim_same t); grows = λ z. changed_length _ u.procs p; unmarked = fresh; spelled = refl }))
      where
        not_dead : (a : Aim) → landing a c ≡ Some y → is_die a ≡ false
        not_dead free f = absurd cc
        not_dead (to d z) f = refl
        not_dead die f = absurd cc

        aim_same : cleans ≡ false → (r : Process Thread) → numbered u.procs p ≡ Some r → person_of (record r { aim = free }) ≡ person_of r
        aim_same t r h =
            let me : q ≡ r = some_same (sym at ∙ h) in
            let mine : is_die q.aim ≡ false = not_dead q.aim (subst (λ (z : List Cleanup). landing (acting z q.aim) c ≡ Some y) (none_runs x _ t) e) in
            let now : is_die r.aim ≡ false = subst (λ (z : Process Thread). is_die z.aim ≡ false) me mine in
            ap (λ (b : Bool). person r.home b r.ended) (sym now)

    -- ends

    ends_row : (kind : Kind) (ending : Ending) → want_of x q.thread.control q.thread.frames ≡ ends ending → AllGood (end_row m names limits p q u kind ending)
    ends_row kind last_form w = absurd (nf (finished_where x q.thread.control q.thread.frames w))
    ends_row (child f) (with_word y) w =
        goes_on _ _ (record {
          known = ended_well u.events u.procs u.catches knows p _ (alive_here x u sane knows p q at at_work nf (bare_here x u sane knows p q at at_work nf (ap is_of_base w)) (works_for x q.thread.control q.thread.frames (ap is_of_unwinding w)));
          grows = λ z. changed_length _ u.procs p;
          unmarked = fresh;
          spelled = refl;
        })
    ends_row main (with_word y) w = tt
    ends_row (serving k) (with_word y) w = tt
    ends_row kind unwound w = goes_on _ _ (record { known = ended_killed u.events u.procs u.catches knows p q at; grows = λ z. changed_length _ u.procs p; unmarked = fresh; spelled = refl })

    -- all rows

    pub rows : (want : Want) → want_of x q.thread.control q.thread.frames ≡ want → AllGood (row m names limits p q u want)
    rows (awaits f at) e = awaits_row (or_pending (numbered u.futures f)) at
    rows takes_literal e = quietly u done refl refl refl fresh
    rows (reads place at) e = reads_row place at
    rows (stores place y) e = stores_row place y
    rows branches e = quietly u done refl refl refl fresh
    rows (computes o ys at) e = computes_row (computed u.pairs o ys) at
    rows (prints y) e = prints_row (value_text names u.pairs y ++ 10 ∷ [])
    rows (binds bs ys) e = binds_row bs ys bound
    rows (calls bs ys) e = binds_row bs ys bound
    rows returns e = quietly u done refl refl refl fresh
    rows closes e = closes_row (m.closure q.thread)
    rows (funcalls y ys at) e = funcalls_row y ys at
    rows (chooses y) e = chooses_row y (m.children q.thread) (works_for x q.thread.control q.thread.frames (ap is_of_unwinding e))
    rows (makes y) e = makes_row y (m.closure q.thread) (works_for x q.thread.control q.thread.frames (ap is_of_unwinding e))
    rows (sends k ys used at') e = sends_row k (numbered u.servers k) ys used at' refl (alive_here x u sane knows p q at at_work nf (bare_here x u sane knows p q at at_work nf (ap is_of_base e)) (works_for x q.thread.control q.thread.frames (ap is_of_unwinding e)))
    rows takes_call e = of_server _ (λ k kind. takes_row k (numbered u.servers k) refl kind e) q.kind refl
    rows (replies y) e = of_server _ (λ k kind. replies_row k (numbered u.servers k) y refl kind e) q.kind refl
    rows (opens tag waits) e = opens_row tag waits (works_for x q.thread.control q.thread.frames (ap is_of_unwinding e))
    rows (exits c) e = exits_row c (catch_at u.catches c) refl (works_for x q.thread.control q.thread.frames (ap is_of_unwinding e))
    rows (throws tag y at') e = throws_row _ y tag at' refl (works_for x q.thread.control q.thread.frames (ap is_of_unwinding e))
    rows protects e =
        goes_on _ _ (record {
          known = simply u.events u.procs u.catches knows (protect p (u.protects + 1)) refl (knows.calm, may_here x u sane knows p q at at_work nf (works_for x q.thread.control q.thread.frames (ap is_of_unwinding e)), (sane.protects.unmade (u.protects + 1) (omega arith)).0, omega arith);
          grows = λ z. refl;
          unmarked = fresh;
          spelled = refl;
        })
    rows (begins v) e = goes_on _ _ (record { known = simply u.events u.procs u.catches knows (begin p v) refl (knows.calm, may_begin x u sane knows p q at at_work nf v e); grows = λ z. refl; unmarked = fresh; spelled = refl })
    rows (finishes v) e = goes_on _ _ (record { known = simply u.events u.procs u.catches knows (finish p v) refl (knows.calm, may_finish x u sane knows p q at at_work nf v e); grows = λ z. refl; unmarked = fresh; spelled = refl })
    rows (leaves c) e = leaves_row c _ refl
    rows (ends ending) e = ends_row q.kind ending e
    rows rests e = tt

  pub all_rows : (want : Want) → want_of x q.thread.control q.thread.frames ≡ want → AllGood (row m names limits p q u want)
  all_rows want e =
      ⊎_elim
      (λ (f : Finished q.thread.control).
      let w : want_of x q.thread.control q.thread.frames ≡ ends last_form = ap (λ c. want_of x c q.thread.frames) f in
      subst (λ z. AllGood (row m names limits p q u z)) (sym w ∙ e) (last_good w))
      (λ (nf : Finished q.thread.control → ⊥). rows nf want e)
      (is_finished_or q.thread.control)
