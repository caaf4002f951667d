-- What is known along a run, and what a tick of a killed process is.
use Rattle.std.proofs.Common.{◌≡◌, ◌⊎◌, ℕ, zero, suc, ◌<◌, ◌≤◌, ◌==◌, Bool, true, false, not, List, [], ◌∷◌, length, Option, Some, None, refl, sym, ap, ◌∙◌, subst, ⊎_elim, inl, inr, arith}
use Rattle.std.specs.Prelude.{if◌then◌else◌, map, slice_get, is_none, is_some, option_and_then}
use Rattle.std.specs.List.{list_all}
use Rattle.ql_base.specs.declared.limits.Limits.{Limits}
use Rattle.ql_world.specs.declared.word.Word.{Word}
use Rattle.ql_world.specs.declared.event.Event.{Event}
use Rattle.ql_world.specs.declared.event.Stop.{Stop}
use Rattle.ql_world.specs.declared.event.Stop.TheVariants.{Done as done, Fault as fault, Limit as limit, Deadlock as deadlock, Budget as budget}
use Rattle.ql_world.specs.World.{World, numbered, opening, counted}
use Rattle.ql_world.specs.declared.world.Aim.{Aim}
use Rattle.ql_world.specs.declared.world.Aim.TheVariants.{Die as die}
use Rattle.ql_world.specs.declared.world.Process.{Process}
use Rattle.ql_world.specs.Within.{is_free}
use Rattle.ql_world.specs.Machine.{Want, awaits, takes_literal, reads, stores, branches, computes, prints, binds, calls, returns, closes, funcalls, chooses, makes, sends, takes_call, replies, opens, exits, throws, protects, begins, finishes, leaves, ends, rests, unwound, Machine}
use Rattle.ql_world.specs.declared.world.Cleanup.{Cleanup}
use Rattle.ql_world.specs.Idle.{acting, in_cleanup}
use Rattle.ql_world.specs.Tick.{landing, is_ready, can_step, row, step, tick}
use Rattle.ql_world.specs.Row.{Begin, Unwind, Land, row_named, row_of}
use Rattle.ql_world.specs.Run.{mark_or, is_stuck, stuck_or_spent, stop_of, run}
use Rattle.ql_meaning.specs.Context.{Context}
use Rattle.ql_meaning.specs.Control.{Thread, Closure, unwinding, cleanups_on, want_of, core_machine}
use Rattle.ql_meaning.specs.Sane.{without_turns, seen, outline, Seen, protector, is_begun, is_finished, is_unwinding, doing_of, Holds, Stage, waiting, running, IsHeld, SaneOutline, Sane}
use Rattle.ql_meaning.specs.Sane as saw
use Rattle.ql_meaning.specs.CleanupTick.{is_of_cleanup, OnlyUnwinds, OnlyCleans, CleanupTick}
use Rattle.ql_meaning.proofs.Lists.{not_both, cases, both_true, not_true, some_same, numbered_of_mapped}
use Rattle.ql_meaning.proofs.LegalLines.{persons_in, opens_in, Calm, AllCleaned, NotDone, spelled_by, Knows}
use Rattle.ql_meaning.proofs.LegalKills.{spelled_of_tick, news_of_tick, each_of_tick}
use Rattle.ql_meaning.proofs.LegalWants.{Finished, cleanups_same, none_runs, unwinds_where, unwinding_is, is_of_base}
use Rattle.ql_meaning.proofs.LegalFacts.{finished_free, work, bare_here}
use Rattle.ql_meaning.proofs.LegalRows.{Good, AllGood, all_rows}

module _ (x : Context) (names : List (List ℕ)) (limits : Limits) where
  abbrev pub mm : Machine Thread Closure
  mm = core_machine x

  -- each world along the runs from here is sane
  abbrev pub SaneFrom : World Thread Closure → Type 0
  SaneFrom w = (ps : List ℕ) (v : World Thread Closure) → run mm names limits w ps ≡ Some v → Sane v

  pub counted_sane : (w : World Thread Closure) (p : ℕ) → Sane w → Sane (counted w p)
  counted_sane w p s = subst (λ (es : List Event). SaneOutline (record { catches = w.catches; procs = map seen w.procs; servers = w.servers; futures = w.futures; protects = w.protects; events = es })) (sym (news_of_tick p w.events)) s

  pub counted_known : (w : World Thread Closure) (p : ℕ) → Knows w.events w.procs w.catches → Knows (counted w p).events w.procs w.catches
  counted_known w p k = record {
    persons = ap persons_in (news_of_tick p w.events) ∙ k.persons;
    opens = ap opens_in (news_of_tick p w.events) ∙ k.opens;
    lines = each_of_tick p w.events k.calm k.lines;
    calm = subst Calm (sym (news_of_tick p w.events)) k.calm;
  }

  -- what holds of the world after a tick of process p, which was q
  pub record Ticked (w : World Thread Closure) (p : ℕ) (q : Process Thread) (v : World Thread Closure) : Type 0 where
    pub known : Knows v.events v.procs v.catches
    pub unmarked : NotDone v.mark
    pub spelled : spelled_by v.events ≡ p ∷ spelled_by w.events
    pub cleanup : q.aim ≡ die → CleanupTick mm q w v

  cleans_only : (w : World Thread Closure) (q : Process Thread) (v : World Thread Closure) → (want : Want) → mm.want q.thread ≡ want → (is_of_base want ≡ true → ⊥) → (want ≡ rests → ⊥) → in_cleanup (cleanups_on q.thread.frames) ≡ true → length v.procs ≡ length w.procs → OnlyCleans mm q w v
  cleans_only w q v want e b r c g = record { a_cleanup = c; row = subst (λ z. is_of_cleanup (row_named z lands) ≡ true) (sym e) (within want b r); no_process = g }
    where
      lands : ℕ → Bool
      lands c = is_some (landing (acting (mm.cleanups q.thread) q.aim) c)

      left : (b : Bool) → is_of_cleanup (Some (if b then Land else Unwind)) ≡ true
      left true = refl
      left false = refl

      within : (want : Want) → (is_of_base want ≡ true → ⊥) → (want ≡ rests → ⊥) → is_of_cleanup (row_named want lands) ≡ true
      within (awaits f at) b r = refl
      within takes_literal b r = refl
      within (reads place at) b r = refl
      within (stores place y) b r = refl
      within branches b r = refl
      within (computes o ys at) b r = refl
      within (prints y) b r = refl
      within (binds bs ys) b r = refl
      within (calls bs ys) b r = refl
      within returns b r = refl
      within closes b r = refl
      within (funcalls y ys at) b r = refl
      within (chooses y) b r = refl
      within (makes y) b r = refl
      within (sends k ys used at) b r = absurd (b refl)
      within takes_call b r = absurd (b refl)
      within (replies y) b r = absurd (b refl)
      within (opens tag waits) b r = refl
      within (exits c) b r = refl
      within (throws tag y at) b r = refl
      within protects b r = refl
      within (begins u) b r = refl
      within (finishes u) b r = refl
      within (leaves c) b r = left (lands c)
      within (ends ending) b r = absurd (b refl)
      within rests b r = absurd (r refl)

  abbrev WhereUnwinding : Want → Type 0
  WhereUnwinding want = ((c : ℕ) × (want ≡ leaves c)) ⊎ (((v : ℕ) × (want ≡ begins v)) ⊎ ((want ≡ ends unwound) ⊎ (want ≡ rests)))

  -- a process that unwinds for its end
  unwinds_only : (q : Process Thread) → cleanups_on q.thread.frames ≡ [] → q.aim ≡ die → q.thread.control ≡ unwinding → (want_of x q.thread.control q.thread.frames ≡ rests → ⊥) → OnlyUnwinds mm q
  unwinds_only q n d u r = record {
    no_cleanup = ap in_cleanup n;
    unwinds = u;
    row = by_want (subst (λ c. WhereUnwinding (want_of x c q.thread.frames)) (sym u) (unwinding_is x q.thread.frames));
  }
    where
      aim_is : acting (cleanups_on q.thread.frames) q.aim ≡ die
      aim_is = ap (λ (cs : List Cleanup). acting cs q.aim) n ∙ d

      row_is : (want : Want) → want_of x q.thread.control q.thread.frames ≡ want → row_of mm q ≡ row_named want (λ c. is_some (landing die c))
      row_is want e = ap (λ (z : Want). row_named z (λ c. is_some (landing (acting (cleanups_on q.thread.frames) q.aim) c))) e ∙ ap (λ (a : Aim). row_named want (λ c. is_some (landing a c))) aim_is

      by_want : WhereUnwinding (want_of x q.thread.control q.thread.frames) → (row_of mm q ≡ Some Begin) ⊎ ((row_of mm q ≡ Some Unwind) ⊎ (mm.want q.thread ≡ ends unwound))
      by_want k =
          ⊎_elim
          (λ (t : (c : ℕ) × (want_of x q.thread.control q.thread.frames ≡ leaves c)). inr (inl (row_is (leaves t.0) t.1)))
          (λ t. ⊎_elim
          (λ (s : (v : ℕ) × (want_of x q.thread.control q.thread.frames ≡ begins v)). inl (row_is (begins s.0) s.1))
          (λ s. ⊎_elim (λ z. inr (inr z)) (λ z. absurd (r z)) s)
          t)
          k

  pub step_known : (w : World Thread Closure) (p : ℕ) (q : Process Thread) (v : World Thread Closure) → Sane w → Knows w.events w.procs w.catches → NotDone w.mark → numbered w.procs p ≡ Some q → step mm names limits p q w ≡ Some v → Ticked w p q v
  step_known w p q v s k n at e =
      ⊎_elim
      (λ (t : can_step mm names limits p q w ≡ true).
      let at_work : q.ended ≡ false = not_true _ (both_true _ _ t).0 in
      let ready : is_ready mm names limits p q w (want_of x q.thread.control q.thread.frames) ≡ true = (both_true _ _ t).1 in
      let u : World Thread Closure = counted w p in
      let su : Sane (counted w p) = counted_sane w p s in
      let ku : Knows (counted w p).events (counted w p).procs (counted w p).catches = counted_known w p k in
      let moved : row mm names limits p q (counted w p) (want_of x q.thread.control q.thread.frames) ≡ Some v = rw t at e in
      let good : Good x names limits (counted w p) su ku p q at at_work n v = subst (AllGood x names limits (counted w p) su ku p q at at_work n) moved (all_rows x names limits (counted w p) su ku p q at at_work n (want_of x q.thread.control q.thread.frames) refl) in
      let not_rests : want_of x q.thread.control q.thread.frames ≡ rests → ⊥ = λ z. not_both ready (ap (is_ready mm names limits p q w) z) in
      record {
        known = good.known;
        unmarked = good.unmarked;
        spelled = good.spelled ∙ spelled_of_tick p w.events;
        cleanup = λ d.
            ⊎_elim
            (λ (c : in_cleanup (cleanups_on q.thread.frames) ≡ true).
            inr (cleans_only w q v (want_of x q.thread.control q.thread.frames) refl (λ b. not_both c (ap in_cleanup (bare_here x (counted w p) su ku p q at at_work (unfinished w p q su ku at at_work d) b))) not_rests c (good.grows c)))
            (λ (c : in_cleanup (cleanups_on q.thread.frames) ≡ false).
            let none : cleanups_on q.thread.frames ≡ [] = none_runs x _ c in
            inl (unwinds_only q none d (unwinds_where x q.thread.control (unwinds_now w p q su ku at at_work none d)) not_rests))
            (cases (in_cleanup (cleanups_on q.thread.frames)));
      })
      (λ (t : can_step mm names limits p q w ≡ false). let bad : None ≡ Some v = rw t at e in absurd cc)
      (cases (can_step mm names limits p q w))
    where
      -- a process that is to end is not after its last top form
      unfinished : (w : World Thread Closure) (p : ℕ) (q : Process Thread) (su : Sane (counted w p)) (ku : Knows (counted w p).events w.procs w.catches) (at : numbered w.procs p ≡ Some q) (at_work : q.ended ≡ false) → q.aim ≡ die → Finished q.thread.control → ⊥
      unfinished w p q su ku at at_work d f = not_both (finished_free x (counted w p) su ku p q at at_work f) (ap is_free d)

      unwinds_now : (w : World Thread Closure) (p : ℕ) (q : Process Thread) (su : Sane (counted w p)) (ku : Knows (counted w p).events w.procs w.catches) (at : numbered w.procs p ≡ Some q) (at_work : q.ended ≡ false) → cleanups_on q.thread.frames ≡ [] → q.aim ≡ die → is_unwinding (doing_of q.thread.control) ≡ true
      unwinds_now w p q su ku at at_work none d =
          let e = (work x (counted w p) su ku p q at at_work).unwinding in
          let c : saw.cleanups_of (saw.marks_of q.thread.control q.thread.frames) ≡ [] = cleanups_same q.thread.control q.thread.frames (unfinished w p q su ku at at_work d) ∙ none in
          let a : acting (saw.cleanups_of (saw.marks_of q.thread.control q.thread.frames)) q.aim ≡ die = ap (λ (z : List Cleanup). acting z q.aim) c ∙ d in
          e ∙ ap (λ (z : Aim). not (is_free z)) a

  pub tick_known : (w : World Thread Closure) (p : ℕ) (v : World Thread Closure) → Sane w → Knows w.events w.procs w.catches → NotDone w.mark → tick mm names limits w p ≡ Some v → (q : Process Thread) × (numbered w.procs p ≡ Some q) × Ticked w p q v
  tick_known w p v s k n e = of_process (numbered w.procs p) refl e
    where
      of_process : (o : Option (Process Thread)) → numbered w.procs p ≡ o → option_and_then (λ q. step mm names limits p q w) o ≡ Some v → (q : Process Thread) × (numbered w.procs p ≡ Some q) × Ticked w p q v
      of_process None at e = absurd cc
      of_process (Some q) at e = (q, at, step_known w p q v s k n at e)

  -- runs

  pub record Known (v : World Thread Closure) : Type 0 where
    pub known : Knows v.events v.procs v.catches
    pub unmarked : NotDone v.mark

  known_tick : (w v : World Thread Closure) (p : ℕ) → Sane w → Known w → tick mm names limits w p ≡ Some v → Known v
  known_tick w v p s k e = let t = (tick_known w p v s k.known k.unmarked e).2 in record { known = t.known; unmarked = t.unmarked }

  abbrev run_on : World Thread Closure → ℕ → List ℕ → Option (World Thread Closure)
  run_on w p ps = option_and_then (λ z. run mm names limits z ps) (tick mm names limits w p)

  pub run_known : (ps : List ℕ) (w v : World Thread Closure) → SaneFrom w → Known w → run mm names limits w ps ≡ Some v → Known v
  run_known [] w v s k e = subst Known (some_same e) k
  run_known (p ∷ ps) w v s k e =
      ⊎_elim
      (λ (t : is_none (stop_of mm names limits w) ≡ true). of_tick t (tick mm names limits w p) refl (rw t at e) (run_known ps))
      (λ (t : is_none (stop_of mm names limits w) ≡ false). let bad : None ≡ Some v = rw t at e in absurd cc)
      (cases (is_none (stop_of mm names limits w)))
    where
      of_tick : is_none (stop_of mm names limits w) ≡ true → (o : Option (World Thread Closure)) → tick mm names limits w p ≡ o → option_and_then (λ z. run mm names limits z ps) o ≡ Some v
          → ((w v : World Thread Closure) → SaneFrom w → Known w → run mm names limits w ps ≡ Some v → Known v) → Known v
      of_tick t None f e again = absurd cc
      of_tick t (Some z) f e again =
          let from : SaneFrom z = λ rs y r. s (p ∷ rs) y (rw (t, f) r) in
          again z v from (known_tick w z p (s [] w refl) k f) e

  -- the opening

  pub opening_known : (quoted : List (Word × Word)) (n : ℕ) (t : Thread) → Known (opening quoted n t)
  opening_known quoted n t = record {
    known = record { persons = refl; opens = refl; lines = tt; calm = refl };
    unmarked = tt;
  }

  -- the end

  pub all_cleaned : (v : World Thread Closure) (why : Stop) → Sane v → NotDone v.mark → stop_of mm names limits v ≡ Some why → AllCleaned why (without_turns v.events)
  all_cleaned v done s n e = at_done
    where
      ended_all : list_all (λ (q : Process Thread). q.ended) v.procs ≡ true
      ended_all =
          ⊎_elim
          (λ t. t)
          (λ (t : list_all (λ (q : Process Thread). q.ended) v.procs ≡ false). absurd (marked v.mark n (rw t at e)))
          (cases (list_all (λ (q : Process Thread). q.ended) v.procs))
        where
          stuck : (b c : Bool) → (if b then Some deadlock else (if c then Some budget else None)) ≡ Some done → ⊥
          stuck true c e = absurd cc
          stuck false true e = absurd cc
          stuck false false e = absurd cc

          marked : (o : Option Stop) → NotDone o → mark_or o (stuck_or_spent mm names limits v) ≡ Some done → ⊥
          marked None n e = stuck (is_stuck mm names limits v) (v.ticks == limits.budget) e
          marked (Some done) n e = n
          marked (Some (fault kind p at)) n e = absurd cc
          marked (Some (limit kind)) n e = absurd cc
          marked (Some deadlock) n e = absurd cc
          marked (Some budget) n e = absurd cc

      each_ended : (qs : List (Process Thread)) → list_all (λ (q : Process Thread). q.ended) qs ≡ true → (i : ℕ) (q : Process Thread) → slice_get qs i ≡ Some q → q.ended ≡ true
      each_ended [] a i q g = absurd cc
      each_ended (r ∷ qs) a zero q g = subst (λ (z : Process Thread). z.ended ≡ true) (some_same g) (both_true _ _ a).0
      each_ended (r ∷ qs) a (suc i) q g = each_ended qs (both_true _ _ a).1 i q g

      numbered_ended : (i : ℕ) (q : Process Thread) → numbered v.procs i ≡ Some q → q.ended ≡ true
      numbered_ended zero q g = absurd cc
      numbered_ended (suc i) q g = each_ended v.procs ended_all i q g

      nothing : (st : Stage) (u : ℕ) → Holds st u [] → ⊥
      nothing waiting u h = h
      nothing running u h = h

      not_held : (u : ℕ) → IsHeld (outline v) u → ⊥
      not_held u h =
          let r = numbered_of_mapped seen v.procs h.process h.by h.is in
          let bare = s.catches.bare h.process h.by h.is (ap (λ (z : Seen). z.ended) r.2 ∙ numbered_ended h.process r.0 r.1) in
          nothing h.stage u (subst (λ ms. Holds h.stage u ms) bare h.holds)

      at_done : AllCleaned done (without_turns v.events)
      at_done u p l m =
          ⊎_elim
          (λ (t : v.protects < u). let bad : Some p ≡ None = sym m ∙ (s.protects.unmade u t).0 in absurd cc)
          (λ (t : u ≤ v.protects). ⊎_elim (λ h. absurd (not_held u h)) (λ d. d) (s.protects.placed u l t))
          (by_order v.protects u)
        where
          by_order : (a b : ℕ) → (a < b) ⊎ (b ≤ a)
          by_order a b = grind arith
  all_cleaned v (fault kind p at) s n e = tt
  all_cleaned v (limit kind) s n e = tt
  all_cleaned v deadlock s n e = tt
  all_cleaned v budget s n e = tt
