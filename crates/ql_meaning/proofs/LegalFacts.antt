-- What a sane world tells of a process that is to take a tick.
use Rattle.std.proofs.Common.{◌≡◌, ◌⊎◌, ℕ, zero, suc, ◌<◌, ◌≤◌, Bool, true, false, not, List, [], ◌∷◌, length, Some, None, refl, sym, ap, ◌∙◌, subst, ⊎_elim, inl, inr, arith}
use Rattle.std.specs.Prelude.{map}
use Rattle.ql_world.specs.declared.word.Word.{Word}
use Rattle.ql_world.specs.World.{World, numbered, catch_at}
use Rattle.ql_world.specs.declared.world.Aim.{Aim}
use Rattle.ql_world.specs.declared.world.Aim.TheVariants.{Free as free, To as to, Die as die}
use Rattle.ql_world.specs.declared.world.Catch.{Catch}
use Rattle.ql_world.specs.declared.world.Process.{Process}
use Rattle.ql_world.specs.Within.{is_over, is_die, is_free, is_live, tagged}
use Rattle.ql_world.specs.Machine.{begins, finishes}
use Rattle.ql_world.specs.declared.world.Cleanup.{Cleanup}
use Rattle.ql_world.specs.Idle.{acting}
use Rattle.ql_world.specs.Tick.{or_home, is_seen, landing}
use Rattle.ql_meaning.specs.Context.{Context}
use Rattle.ql_meaning.specs.Control.{Thread, Closure, Frame, Control, finished, cleanups_on, innermost_on, want_of}
use Rattle.ql_meaning.specs.Sane.{Mark, catch_mark, protect_mark, cleanup_mark, base_mark, marks_of, doing_of, Seen, seen, without_turns, outline, innermost_or, Stands, cleanups_of, is_unwinding, WorkSane, Based, protector, is_finished, waiting, running, Holds, AllUnder, Rising, Stage, IsHeld, Sane}
use Rattle.ql_meaning.proofs.Lists.{cases, some_same, numbered_mapped}
use Rattle.ql_meaning.proofs.LegalLines.{Person, person_of, Alive, Cleans, May, MayBegin, MayFinish, Knows}
use Rattle.ql_meaning.proofs.LegalWants.{Finished, cleanups_same, is_of_base, bare, top_of_begin, top_of_finish}
use Rattle.ql_meaning.proofs.Marks.{chained_open, innermost_low, over_innermost}
use Rattle.ql_meaning.proofs.Threads as threads
use Rattle.ql_meaning.proofs.LegalOver.{found}

-- a running cleanup has its protect
holds_running : (ms : List Mark) (k : Cleanup) (ks : List Cleanup) → cleanups_of ms ≡ k ∷ ks → (v : ℕ) × Holds running v ms
holds_running [] k ks e = absurd cc
holds_running (catch_mark c ∷ ms) k ks e = holds_running ms k ks e
holds_running (protect_mark v ∷ ms) k ks e = holds_running ms k ks e
holds_running (cleanup_mark v j ∷ ms) k ks e = (v, inl refl)
holds_running (base_mark b ∷ ms) k ks e = holds_running ms k ks e

not_free_die : (a : Aim) → is_free a ≡ true → is_die a ≡ false
not_free_die free h = refl
not_free_die (to c w) h = absurd cc
not_free_die die h = absurd cc

pub innermost_same : (home : ℕ) (c : Control) (fs : List Frame) → (Finished c → ⊥) → innermost_or home (marks_of c fs) ≡ or_home (innermost_on fs) home
innermost_same home finished fs n = absurd (n refl)
innermost_same home c fs n = sym (threads.innermost_same home fs)

-- what is held below a protect number is lower
held_under : (v n : ℕ) (ms : List Mark) → AllUnder v ms → (Holds waiting n ms ⊎ Holds running n ms) → n < v
held_under v n [] a h = ⊎_elim (λ t. absurd t) (λ t. absurd t) h
held_under v n (catch_mark c ∷ ms) a h = held_under v n ms a h
held_under v n (protect_mark y ∷ ms) a h = ⊎_elim (λ t. ⊎_elim (λ (e : n ≡ y). let l = a.0 in omega (arith, l, e)) (λ e. held_under v n ms a.1 (inl e)) t) (λ t. held_under v n ms a.1 (inr t)) h
held_under v n (cleanup_mark y k ∷ ms) a h = ⊎_elim (λ t. held_under v n ms a.1 (inl t)) (λ t. ⊎_elim (λ (e : n ≡ y). let l = a.0 in omega (arith, l, e)) (λ e. held_under v n ms a.1 (inr e)) t) h
held_under v n (base_mark b ∷ ms) a h = held_under v n ms a h

module _ (x : Context) (u : World Thread Closure) (sane : Sane u) (knows : Knows u.events u.procs u.catches) where
  pub alive_of : (p : ℕ) (q : Process Thread) → numbered u.procs p ≡ Some q → is_die q.aim ≡ false → Alive p (without_turns u.events)
  alive_of p q at h = (person_of q, subst (λ (z : List Person). numbered z p ≡ Some (person_of q)) (sym knows.persons) (numbered_mapped person_of u.procs p q at), h)

  module _ (p : ℕ) (q : Process Thread) (at : numbered u.procs p ≡ Some q) (at_work : q.ended ≡ false) where
    pub here : numbered (map seen u.procs) p ≡ Some (seen q)
    here = numbered_mapped seen u.procs p q at

    pub work : WorkSane (seen q)
    work = sane.work p (seen q) here at_work

    -- in no cleanup, as its marks tell, it works freely
    pub marks_free : cleanups_of (marks_of q.thread.control q.thread.frames) ≡ [] → is_unwinding (doing_of q.thread.control) ≡ false → is_free q.aim ≡ true
    marks_free n h = not_false _ (sym (work.unwinding ∙ ap (λ (z : List Cleanup). not (is_free (acting z q.aim))) n) ∙ h)
      where
        not_false : (b : Bool) → not b ≡ false → b ≡ true
        not_false true e = refl
        not_false false e = absurd cc

    -- after its last top form it works freely
    pub finished_free : Finished q.thread.control → is_free q.aim ≡ true
    finished_free f = marks_free (bare_end (subst (λ c. Based q.kind (marks_of c q.thread.frames)) f work.based)) (ap (λ c. is_unwinding (doing_of c)) f)
      where
        bare_end : Based q.kind (marks_of finished q.thread.frames) → cleanups_of (marks_of q.thread.control q.thread.frames) ≡ []
        bare_end b = ap (λ c. cleanups_of (marks_of c q.thread.frames)) f ∙ ap cleanups_of b.1

    pub alive_finished : Finished q.thread.control → Alive p (without_turns u.events)
    alive_finished f = alive_of p q at (not_free_die q.aim (finished_free f))

    module _ (nf : Finished q.thread.control → ⊥) where
      cleanups_is : cleanups_of (marks_of q.thread.control q.thread.frames) ≡ cleanups_on q.thread.frames
      cleanups_is = cleanups_same q.thread.control q.thread.frames nf

      pub acts_freely : is_unwinding (doing_of q.thread.control) ≡ false → is_free (acting (cleanups_on q.thread.frames) q.aim) ≡ true
      acts_freely h =
          let e : is_unwinding (doing_of q.thread.control) ≡ not (is_free (acting (cleanups_on q.thread.frames) q.aim)) = subst (λ (z : List Cleanup). is_unwinding (doing_of q.thread.control) ≡ not (is_free (acting z q.aim))) cleanups_is work.unwinding in
          not_false _ (sym e ∙ h)
        where
          not_false : (b : Bool) → not b ≡ false → b ≡ true
          not_false true e = refl
          not_false false e = absurd cc

      -- it is not in a cleanup, and works
      pub aim_free : cleanups_on q.thread.frames ≡ [] → is_unwinding (doing_of q.thread.control) ≡ false → is_free q.aim ≡ true
      aim_free n h = subst (λ (z : List Cleanup). is_free (acting z q.aim) ≡ true) n (acts_freely h)

      pub alive_here : cleanups_on q.thread.frames ≡ [] → is_unwinding (doing_of q.thread.control) ≡ false → Alive p (without_turns u.events)
      alive_here n h = alive_of p q at (not_free_die q.aim (aim_free n h))

      pub live_here : cleanups_on q.thread.frames ≡ [] → is_unwinding (doing_of q.thread.control) ≡ false → is_live (seen q) ≡ true
      live_here n h = let f = not_free_die q.aim (aim_free n h) in rw (at_work, f) refl

      pub cleans_here : (k : Cleanup) (ks : List Cleanup) → cleanups_on q.thread.frames ≡ k ∷ ks → Cleans p (without_turns u.events)
      cleans_here k ks e =
          let h = holds_running (marks_of q.thread.control q.thread.frames) k ks (cleanups_is ∙ e) in
          let s = sane.protects.held p (seen q) running h.0 here h.1 in
          (h.0, s.mine, s.begun, s.unfinished)

      -- whatever it does besides, it may do that in a cleanup, and else only while it was not killed
      pub may_here : is_unwinding (doing_of q.thread.control) ≡ false → May p (without_turns u.events)
      may_here h = by_cleanups (cleanups_on q.thread.frames) refl
        where
          by_cleanups : (cs : List Cleanup) → cleanups_on q.thread.frames ≡ cs → May p (without_turns u.events)
          by_cleanups [] e = inl (alive_here e h)
          by_cleanups (k ∷ ks) e = inr (cleans_here k ks e)

      pub may_land : (c : ℕ) (w : Word) → landing (acting (cleanups_on q.thread.frames) q.aim) c ≡ Some w → May p (without_turns u.events)
      may_land c w l = by_cleanups (cleanups_on q.thread.frames) refl
        where
          not_dead : (a : Aim) → landing a c ≡ Some w → is_die a ≡ false
          not_dead free e = absurd cc
          not_dead (to d y) e = refl
          not_dead die e = absurd cc

          by_cleanups : (cs : List Cleanup) → cleanups_on q.thread.frames ≡ cs → May p (without_turns u.events)
          by_cleanups [] e = inl (alive_of p q at (not_dead q.aim (subst (λ (z : List Cleanup). landing (acting z q.aim) c ≡ Some w) e l)))
          by_cleanups (k ∷ ks) e = inr (cleans_here k ks e)

      pub bare_here : is_of_base (want_of x q.thread.control q.thread.frames) ≡ true → cleanups_on q.thread.frames ≡ []
      bare_here h = bare x q.kind q.thread.control q.thread.frames nf h work.based work.resting

      pub around_low : or_home (innermost_on q.thread.frames) q.home < length u.catches
      around_low = subst (λ z. z < length u.catches) (innermost_same q.home q.thread.control q.thread.frames nf) (innermost_low u.catches p q.home (marks_of q.thread.control q.thread.frames) (sane.homes.made p (seen q) here) (sane.catches.chained p (seen q) here))

      pub may_begin : (v : ℕ) → want_of x q.thread.control q.thread.frames ≡ begins v → MayBegin p v (without_turns u.events)
      may_begin v e =
          let top = top_of_begin x q.thread.control q.thread.frames v e in
          let h : Holds waiting v (marks_of q.thread.control q.thread.frames) = subst (λ (ms : List Mark). Holds waiting v ms) (sym top.1) (inl refl) in
          let s = sane.protects.held p (seen q) waiting v here h in
          let rising : AllUnder v top.0 = (subst Rising top.1 (sane.protects.rising p (seen q) here)).0 in
          record {
            once = s.begun;
            mine = s.mine;
            newest = λ n l e. newest n l e top rising;
          }
        where
          newest : (n : ℕ) → v < n → protector n (without_turns u.events) ≡ Some p → (top : (ms : List Mark) × (marks_of q.thread.control q.thread.frames ≡ protect_mark v ∷ ms)) → AllUnder v top.0 → is_finished n (without_turns u.events) ≡ true
          newest n l e top a =
              ⊎_elim
              (λ (t : (u.protects < n)). let bad : Some p ≡ None = sym e ∙ (sane.protects.unmade n t).0 in absurd cc)
              (λ (t : n ≤ u.protects). ⊎_elim (λ held. absurd (low held)) (λ done. done.1) (sane.protects.placed n (omega (arith, l)) t))
              (by_order u.protects n)
            where
              by_order : (m n : ℕ) → (m < n) ⊎ (n ≤ m)
              by_order m n = grind arith

              mine : (st : Stage) → Holds st n (protect_mark v ∷ top.0) → (n ≡ v) ⊎ (Holds waiting n top.0 ⊎ Holds running n top.0)
              mine waiting h = ⊎_elim (λ t. inl t) (λ t. inr (inl t)) h
              mine running h = inr (inr h)

              low : IsHeld (outline u) n → ⊥
              low held =
                  let s = sane.protects.held held.process held.by held.stage n held.is held.holds in
                  let whose : Some p ≡ Some held.process = sym e ∙ s.mine in
                  let by_me : held.process ≡ p = sym (some_same whose) in
                  let by_is : held.by ≡ seen q = some_same (sym held.is ∙ ap (λ z. numbered (map seen u.procs) z) by_me ∙ here) in
                  let h : Holds held.stage n (protect_mark v ∷ top.0) = subst (λ (ms : List Mark). Holds held.stage n ms) (ap (λ (z : Seen). z.thread.marks) by_is ∙ top.1) held.holds in
                  ⊎_elim (λ (t : n ≡ v). absurd (omega (arith, l, t))) (λ t. let r = held_under v n top.0 a t in absurd (omega (arith, l, r))) (mine held.stage h)

      pub may_finish : (v : ℕ) → want_of x q.thread.control q.thread.frames ≡ finishes v → MayFinish p v (without_turns u.events)
      may_finish v e =
          let top = top_of_finish x q.thread.control q.thread.frames v e in
          let h : Holds running v (marks_of q.thread.control q.thread.frames) = subst (λ (ms : List Mark). Holds running v ms) (sym top.2) (inl refl) in
          let s = sane.protects.held p (seen q) running v here h in
          record { once = s.unfinished; mine = s.mine; begun = s.begun }

      -- a throw outside of cleanups goes to a process that was not killed
      pub owner_alive : (tag : Word) (c : ℕ) (k : Catch) (r : Process Thread) → cleanups_on q.thread.frames ≡ [] → is_unwinding (doing_of q.thread.control) ≡ false
          → tagged (is_seen (cleanups_on q.thread.frames)) u.catches tag (or_home (innermost_on q.thread.frames) q.home) ≡ Some c → catch_at u.catches c ≡ Some k → numbered u.procs k.owner ≡ Some r → is_die r.aim ≡ false
      owner_alive tag c k r n h e ck rk =
          let f = found (is_seen (cleanups_on q.thread.frames)) u.catches tag _ c e in
          let same : f.kept ≡ k = some_same (sym f.is ∙ ck) in
          let over : is_over u.catches c (innermost_or q.home (marks_of q.thread.control q.thread.frames)) ≡ true = subst (λ z. is_over u.catches c z ≡ true) (sym (innermost_same q.home q.thread.control q.thread.frames nf)) f.over in
          let positive : 0 < c = positive c f.kept f.is f.tag f.tag_is in
          ⊎_elim
          (λ (s : Stands c (marks_of q.thread.control q.thread.frames)).
          let o = chained_open u.catches p q.home c (marks_of q.thread.control q.thread.frames) s (sane.catches.chained p (seen q) here) in
          let own : k.owner ≡ p = ap (λ (z : Catch). z.owner) (some_same (sym ck ∙ o.1.is)) ∙ o.1.owner in
          let me : q ≡ r = some_same (sym at ∙ ap (λ z. numbered u.procs z) (sym own) ∙ rk) in
          subst (λ (z : Process Thread). is_die z.aim ≡ false) me (not_free_die q.aim (aim_free n h)))
          (λ (s : is_over u.catches c q.home ≡ true).
          ⊎_elim
          (λ (t : is_die r.aim ≡ true).
          let st = sane.catches.stands c k ck (subst (λ (z : Catch). z.open_still ≡ true) same f.open_still) positive in
          let is_r : seen r ≡ st.0 = some_same (sym (numbered_mapped seen u.procs k.owner r rk) ∙ st.1) in
          let aim : st.0.aim ≡ die = subst (λ (z : Seen). z.aim ≡ die) is_r (died r.aim t) in
          let bad : is_over u.catches c q.home ≡ false = sane.aims.dying k.owner st.0 c st.1 aim st.2 p (seen q) here (live_here n h) in
          let worse : true ≡ false = sym s ∙ bad in absurd cc)
          (λ t. t)
          (cases (is_die r.aim)))
          (over_innermost u.catches p q.home c (marks_of q.thread.control q.thread.frames) sane.homes.falling (sane.catches.chained p (seen q) here) over)
        where
          died : (a : Aim) → is_die a ≡ true → a ≡ die
          died free e = absurd cc
          died (to d y) e = absurd cc
          died die e = refl

          positive : (c : ℕ) (k : Catch) → catch_at u.catches c ≡ Some k → (t : Word) → k.tag ≡ Some t → 0 < c
          positive zero k e t te = let bad : None ≡ Some t = sym (sane.homes.untagged k e) ∙ te in absurd cc
          positive (suc c) k e t te = omega arith
