-- Rows of one process on the world: catches, throws, protects, ends.
use Rattle.std.proofs.Common.{◌≡◌, ◌≢◌, ◌⊎◌, ℕ, ◌+◌, ◌<◌, ◌≤◌, ◌==◌, Bool, true, false, List, [], ◌∷◌, length, Option, Some, None, refl, sym, ap, ◌∙◌, subst, ⊎_elim, inl, inr, arith}
use Rattle.std.proofs.lemmas.Bool.{ltb-true}
use Rattle.std.specs.Prelude.{not, ◌&&◌, map, pred, nat_lt}
use Rattle.ql_base.specs.declared.limits.Limits.{Limits}
use Rattle.ql_world.specs.declared.word.Word.{Word}
use Rattle.ql_world.specs.declared.event.Event.TheVariants.{Opened as opened, Exit as exit, Throw as throw, Land as land, Protect as protect, Begin as begin, Finish as finish, EndOk as end_ok, EndKilled as end_killed}
use Rattle.ql_world.specs.World.{World, numbered, change_numbered, catch_at, with_event, with_thread, with_aim, with_end, with_future, without_catch}
use Rattle.ql_world.specs.declared.world.FutState.TheVariants.{Value as valued}
use Rattle.ql_world.specs.declared.world.Aim.{Aim}
use Rattle.ql_world.specs.declared.world.Aim.TheVariants.{Free as free, To as to, Die as die}
use Rattle.ql_world.specs.declared.world.Catch.{Catch}
use Rattle.ql_world.specs.declared.world.Kind.TheVariants.{Main as main, Child as child}
use Rattle.ql_world.specs.declared.world.Process.{Process}
use Rattle.ql_world.specs.Within.{is_over, has_tag, tagged, is_live, is_die, is_free}
use Rattle.ql_world.specs.Machine as machine
use Rattle.ql_world.specs.Machine.{Answer, done, got, unwinds, aimed, last_form, with_word, unwound, Machine}
use Rattle.ql_world.specs.declared.world.Cleanup.{Cleanup}
use Rattle.ql_world.specs.Idle.{acting, in_cleanup, unwinds_at, killed_within}
use Rattle.ql_world.specs.Tick.{or_home, is_seen, open_row, exit_row, throw_row, thrown_row, with_owner_aimed, protect_row, last_row}
use Rattle.ql_meaning.specs.Context.{Context}
use Rattle.ql_meaning.specs.Control.{Thread, Closure, cleanups_on, innermost_on, core_machine}
use Rattle.ql_meaning.specs.Sane as sane
use Rattle.ql_meaning.specs.Sane.{Base, of_program, of_child, of_server, Mark, catch_mark, protect_mark, cleanup_mark, base_mark, Standing, Doing, works, rests, marks_on, marks_of, doing_of, standing, Seen, seen, Server, Outline, outline, innermost_or, Stands, IsOpen, Chained, cleanups_of, StandsAbove, is_unwinding, Based, WorkSane, SaneOutline, Sane}
use Rattle.ql_meaning.proofs.Lists.{cases, not_both, same_or, one, put, put_at, put_known, put_again, numbered_low, numbered_map, map_put, map_length}
use Rattle.ql_meaning.proofs.Over.{over_le}
use Rattle.ql_meaning.proofs.Marks.{aim_marks, Near, chained_open, stands_over_home, over_innermost, none_above, near_floor}
use Rattle.ql_meaning.proofs.Threads.{working, marks_below}
use Rattle.ql_meaning.proofs.Calm.{deny, Nobody, opens}
use Rattle.ql_meaning.proofs.Kill.{all_but, with_dying, slain, stopped as doing_stopped}
use Rattle.ql_meaning.proofs.Kills.{IsHit, Slaughter, all_killed_within, stopped_stands}
use Rattle.ql_meaning.proofs.Rows.{quiet_homes, quiet_protects, quiet_calls, told_kept, row_protect, row_begin, row_finish, row_pass, row_leave, row_land, row_land_inside, row_throw_inside, row_aim, owner_alone, killed_dying}
use Rattle.ql_meaning.proofs.Ends.{own_aim, row_child_ends, row_killed_ends, row_last}
use Rattle.ql_meaning.proofs.Worlds.{Good, sane_by, standing_as, thread_procs, with_procs, thread_out, seen_at, unseen, Found, tagged_gives}

-- kills

module _ (x : Context) (w : World Thread Closure) (s : Sane w) (c owner : ℕ) (spared : (i : ℕ) (y : Seen) → numbered (map seen w.procs) i ≡ Some y → y.kind ≡ main → (i ≡ owner) ⊎ (is_over w.catches c y.home ≡ false)) (apart : (d : ℕ) (z : Seen) → 0 < d → is_over w.catches c d ≡ true → numbered (map seen w.procs) owner ≡ Some z → is_over w.catches d z.home ≡ false) where
  abbrev v : World Thread Closure
  v = killed_within (core_machine x) w c owner

  pub all_of_them : Slaughter x c owner w v (length w.procs)
  all_of_them = all_killed_within x c owner w (all_but (outline w) s) spared

  each : (i : ℕ) (z : Seen) → numbered (map seen v.procs) i ≡ Some z → (y : Seen) × (numbered (map seen w.procs) i ≡ Some y) × (((is_live y ≡ true) × ((is_over w.catches c y.home ≡ true) × ((i ≢ owner) × (z ≡ slain y)))) ⊎ (((is_live y ≡ true) → (is_over w.catches c y.home ≡ true) → i ≡ owner) × (z ≡ y)))
  each i z e =
      let k = all_of_them.each i z e in (
        k.0,
        k.1,
        ⊎_elim
            (λ (h : IsHit x c owner w.catches (length w.procs) i k.0 × (z ≡ slain k.0)). inl (h.0.live, (h.0.within, (h.0.other, h.1))))
            (λ (h : (IsHit x c owner w.catches (length w.procs) i k.0 → ⊥) × (z ≡ k.0)).
            inr (
              (λ l o. ⊎_elim
                  (λ (t : i ≡ owner). t)
                  (λ (t : ((i == owner) ≡ false) × (i ≢ owner)).
                  let low = (numbered_low (map seen w.procs) i k.0 k.1).1 in
                  absurd (h.0 (record { low = subst (λ z. i ≤ z) (map_length seen w.procs) low; live = l; within = o; other = t.1 })))
                  (same_or i owner)),
              h.1,
            ))
            k.2,
      )

  pub owner_still : numbered (map seen v.procs) owner ≡ numbered (map seen w.procs) owner
  owner_still = numbered_map seen v.procs owner ∙ (rw all_of_them.still refl ∙ sym (numbered_map seen w.procs owner))

  pub kills_sane : Sane v
  kills_sane =
      with_dying (outline v) all_of_them.sane
      (killed_dying (outline w) (outline v) s all_of_them.sane all_of_them.catches c owner each
      (λ d z l h e. ap (λ ks. is_over ks d z.home) all_of_them.catches ∙ apart d z l (ap (λ ks. is_over ks c d) (sym all_of_them.catches) ∙ h) (sym owner_still ∙ e)))

  pub alone : (i : ℕ) (z : Seen) → numbered (map seen v.procs) i ≡ Some z → is_live z ≡ true → is_over v.catches c z.home ≡ true → i ≡ owner
  alone i z e l h = owner_alone (outline w) (outline v) s all_of_them.sane all_of_them.catches c owner each i z e l h

-- where the catch stands on its owner's frames
module _ (w : World Thread Closure) (s : Sane w) (c owner : ℕ) (y : Seen) (there : numbered (map seen w.procs) owner ≡ Some y) (stands : Stands c y.thread.marks) where
  its_home : y.home < c
  its_home = stands_over_home w.catches owner y.home c y.thread.marks s.homes.falling (s.catches.chained owner y there) stands

  pub main_spared : (i : ℕ) (z : Seen) → numbered (map seen w.procs) i ≡ Some z → z.kind ≡ main → (i ≡ owner) ⊎ (is_over w.catches c z.home ≡ false)
  main_spared i z e k =
      let f = (s.homes.first i z e k).1 in
      inr (deny _ (λ t. let a = over_le w.catches c z.home s.homes.falling t in let b = its_home in absurd (omega (arith, a, b, f))))

  pub owner_apart : (d : ℕ) (z : Seen) → 0 < d → is_over w.catches c d ≡ true → numbered (map seen w.procs) owner ≡ Some z → is_over w.catches d z.home ≡ false
  owner_apart d z l h e =
      let same : z ≡ y = one e there in
      let home : z.home ≡ y.home = ap (λ (r : Seen). r.home) same in
      deny _ (λ t.
      let a = over_le w.catches d z.home s.homes.falling t in
      let b = over_le w.catches c d s.homes.falling h in
      let e = its_home in
      absurd (omega (arith, a, b, e, home)))

  pub not_in_own : is_over w.catches c y.home ≡ false
  not_in_own = deny _ (λ t. let a = over_le w.catches c y.home s.homes.falling t in let b = its_home in absurd (omega (arith, a, b)))

module _ (x : Context) (names : List (List ℕ)) (limits : Limits) (w : World Thread Closure) (s : Sane w) (p : ℕ) (q : Process Thread) (at : numbered w.procs p ≡ Some q) (going : q.ended ≡ false) where
  abbrev m : Machine Thread Closure
  m = core_machine x

  at' : numbered (map seen w.procs) p ≡ Some (seen q)
  at' = seen_at w p q at

  abbrev marks : List Mark
  marks = (seen q).thread.marks

  -- protects

  pub protects_good : (seen q).thread.doing ≡ works → standing (m.go q.thread (machine.numbered (w.protects + 1))) ≡ working (protect_mark (w.protects + 1) ∷ marks) → Sane (protect_row m names limits p q w)
  protects_good at_work goes =
      sane_by (protect_row m names limits p q w) _
      (thread_out (with_event (record w { protects = w.protects + 1 }) (protect p (w.protects + 1))) p q (m.go q.thread (machine.numbered (w.protects + 1))) (working (protect_mark (w.protects + 1) ∷ marks)) at goes)
      (row_protect (outline w) s p (seen q) at' going at_work)

  pub begins_good : (u : ℕ) (ms : List Mark) → marks ≡ protect_mark u ∷ ms → (t : Thread) → standing t ≡ working (cleanup_mark u (record { aim = free; floor = pred (length w.catches) }) ∷ ms) → Sane (with_thread (with_event w (begin p u)) p t)
  begins_good u ms was t goes =
      sane_by (with_thread (with_event w (begin p u)) p t) _
      (thread_out (with_event w (begin p u)) p q t (working (cleanup_mark u (record { aim = free; floor = pred (length w.catches) }) ∷ ms)) at goes)
      (row_begin (outline w) s p (seen q) at' going u ms was)

  pub finishes_good : (u : ℕ) (k : Cleanup) (ms : List Mark) → marks ≡ cleanup_mark u k ∷ ms → (d : Doing) → is_unwinding d ≡ not (is_free (acting (cleanups_of ms) q.aim)) → (d ≡ rests → ⊥) → (t : Thread) → standing t ≡ record { marks = ms; doing = d } → Sane (with_thread (with_event w (finish p u)) p t)
  finishes_good u k ms was d goes_on no_rest t goes =
      sane_by (with_thread (with_event w (finish p u)) p t) _
      (thread_out (with_event w (finish p u)) p q t (record { marks = ms; doing = d }) at goes)
      (row_finish (outline w) s p (seen q) at' going u k ms was d goes_on no_rest)

  -- catches

  pub opens_good : (tag : Word) (waits : Bool) → (seen q).thread.doing ≡ works → or_home (innermost_on q.thread.frames) q.home ≡ innermost_or q.home marks → standing (m.go q.thread (machine.numbered (length w.catches))) ≡ working (catch_mark (length w.catches) ∷ marks) → Sane (open_row m names limits p q w tag waits)
  opens_good tag waits at_work around goes =
      sane_by (open_row m names limits p q w tag waits) _
      (thread_out w2 p q (m.go q.thread (machine.numbered (length w.catches))) (working (catch_mark (length w.catches) ∷ marks)) at goes)
      (subst (λ z. SaneOutline (record (outline w) { catches = k ∷ w.catches; procs = put (map seen w.procs) p r; events = opened p (length w.catches) z ∷ (outline w).events })) (sym around)
      (opens (outline w) s p (seen q) at' k r refl going work refl around refl))
    where
      k : Catch
      k = record { owner = p; tag = Some tag; enclosing = or_home (innermost_on q.thread.frames) q.home; waits = waits; open_still = true }

      w2 : World Thread Closure
      w2 = with_event (record w { catches = k ∷ w.catches }) (opened p (length w.catches) (or_home (innermost_on q.thread.frames) q.home))

      r : Seen
      r = standing_as (seen q) (working (catch_mark (length w.catches) ∷ marks))

      work : WorkSane r
      work = let a = s.work p (seen q) at' going in record { unwinding = ap is_unwinding (sym at_work) ∙ a.unwinding; based = a.based; resting = λ e. absurd (no_rest e) }
        where
          no_rest : works ≡ rests → ⊥
          no_rest z = absurd cc

  module _ (c : ℕ) (ms : List Mark) (was : marks ≡ catch_mark c ∷ ms) where
    pub mine : IsOpen w.catches p c (innermost_or q.home ms)
    mine = (subst (Chained w.catches p q.home) was (s.catches.chained p (seen q) at')).0

    on_top : Stands c marks
    on_top = subst (Stands c) (sym was) (inl refl)

    -- it unwinds past the catch
    pub passes_good : (seen q).thread.doing ≡ sane.unwinds → ((y : Word) → acting (cleanups_of ms) q.aim ≡ to c y → ⊥) → (t : Thread) → standing t ≡ record { marks = ms; doing = sane.unwinds } → Sane (with_thread (without_catch w c) p t)
    passes_good doing other t goes =
        sane_by (with_thread (without_catch w c) p t) _
        (thread_out (without_catch w c) p q t (record { marks = ms; doing = sane.unwinds }) at goes)
        (row_leave (outline w) s p (seen q) at' going c ms was doing other)

    pub lands_good : (y : Word) → acting (cleanups_of ms) q.aim ≡ to c y → in_cleanup (cleanups_of ms) ≡ false → (t : Thread) → standing t ≡ working ms → Sane (with_thread (with_aim (without_catch (with_event w (land p c)) c) p free) p t)
    lands_good y aim none t goes =
        sane_by (with_thread (with_aim (without_catch (with_event w (land p c)) c) p free) p t) _
        (ap (with_procs (outline (without_catch (with_event w (land p c)) c))) procs)
        (row_land (outline w) s p (seen q) at' going c ms was y aim none)
      where
        freed : World Thread Closure
        freed = with_aim w p free

        q2 : Process Thread
        q2 = record q { aim = free }

        put_free : freed.procs ≡ put w.procs p q2
        put_free = put_known (λ (z : Process Thread). record z { aim = free }) w.procs p q at

        at2 : numbered freed.procs p ≡ Some q2
        at2 = subst (λ z. numbered z p ≡ Some q2) (sym put_free) (put_at w.procs p q q2 at)

        procs : map seen (with_thread freed p t).procs ≡ put (map seen w.procs) p (standing_as (seen q2) (working ms))
        procs =
            thread_procs freed p q2 t (working ms) at2 goes
            ∙ (ap (λ z. put (map seen z) p (standing_as (seen q2) (working ms))) put_free
            ∙ (ap (λ z. put z p (standing_as (seen q2) (working ms))) (map_put seen w.procs p q2)
            ∙ put_again (seen q2) (standing_as (seen q2) (working ms)) (map seen w.procs) p))

    pub lands_inside_good : (y : Word) → acting (cleanups_of ms) q.aim ≡ to c y → in_cleanup (cleanups_of ms) ≡ true → (t : Thread) → standing t ≡ working (aim_marks free ms) → Sane (with_thread (without_catch (with_event w (land p c)) c) p t)
    lands_inside_good y aim some t goes =
        sane_by (with_thread (without_catch (with_event w (land p c)) c) p t) _
        (thread_out (without_catch (with_event w (land p c)) c) p q t (working (aim_marks free ms)) at goes)
        (row_land_inside (outline w) s p (seen q) at' going c ms was y aim some)

    -- its body has its value
    module _ (at_work : (seen q).thread.doing ≡ works) (t : Thread) (goes : standing t ≡ working ms) where
      abbrev w1 : World Thread Closure
      w1 = with_event w (exit p c)

      s1 : Sane w1
      s1 = told_kept (outline w) s (exit p c ∷ (outline w).events) (record { opens = record { opened = λ c t. t; homes = λ t. t }; home = λ p. refl; catch = λ c. refl; killed = λ p. refl; ended = λ p. refl }) (record { begun = λ u. refl; finished = λ u. refl; protector = λ u. refl }) (record { sends = λ k. refl; takes = λ k. refl; replies = λ k. refl })

      spared : (i : ℕ) (z : Seen) → numbered (map seen w1.procs) i ≡ Some z → z.kind ≡ main → (i ≡ p) ⊎ (is_over w1.catches c z.home ≡ false)
      spared = main_spared w1 s1 c p (seen q) at' on_top

      apart : (d : ℕ) (z : Seen) → 0 < d → is_over w1.catches c d ≡ true → numbered (map seen w1.procs) p ≡ Some z → is_over w1.catches d z.home ≡ false
      apart = owner_apart w1 s1 c p (seen q) at' on_top

      abbrev v1 : World Thread Closure
      v1 = killed_within m w1 c p

      sv : Sane v1
      sv = kills_sane x w1 s1 c p spared apart

      at_v : numbered v1.procs p ≡ Some q
      at_v = (all_of_them x w1 s1 c p spared apart).still ∙ at

      catches_v : v1.catches ≡ w.catches
      catches_v = (all_of_them x w1 s1 c p spared apart).catches

      free_acts : is_free (acting (cleanups_of ms) q.aim) ≡ true
      free_acts = flip (is_free (acting (cleanups_of ms) q.aim)) (ap is_unwinding (sym at_work) ∙ subst (λ z. is_unwinding (seen q).thread.doing ≡ not (is_free (acting (cleanups_of z) q.aim))) was (s.work p (seen q) at' going).unwinding)
        where
          flip : (b : Bool) → false ≡ not b → b ≡ true
          flip true e = refl
          flip false e = absurd (not_both e refl)

      nobody : Nobody (outline v1) c
      nobody i z e l = deny _ (λ h.
          let same : i ≡ p = alone x w1 s1 c p spared apart i z e l h in
          let is : z ≡ seen q = one e (subst (λ a. numbered (map seen v1.procs) a ≡ Some (seen q)) (sym same) (seen_at v1 p q at_v)) in
          not_both (ap (λ ks. is_over ks c z.home) (sym catches_v) ∙ h) (ap (λ (r : Seen). is_over w.catches c r.home) is ∙ not_in_own w s c p (seen q) at' on_top))

      left : Sane (with_thread (without_catch v1 c) p t)
      left =
          sane_by (with_thread (without_catch v1 c) p t) _
          (thread_out (without_catch v1 c) p q t (working ms) at_v goes)
          (row_pass (outline v1) sv p (seen q) (seen_at v1 p q at_v) going c ms was works no_rest (ap is_unwinding (sym at_work)) no_aim nobody (outline v1).events (quiet_homes (outline v1).events) (quiet_protects (outline v1).events) (quiet_calls (outline v1).events))
        where
          no_rest : works ≡ rests → ⊥
          no_rest z = absurd cc

          no_aim : (y : Word) → acting (cleanups_of ms) q.aim ≡ to c y → ⊥
          no_aim y e = not_both free_acts (ap is_free e)

      pub exits_good : Sane (with_thread (without_catch (killed_within m (with_event w (exit p c)) c mine.kept.owner) c) p t)
      exits_good = subst (λ z. Sane (with_thread (without_catch (killed_within m w1 c z) c) p t)) (sym mine.owner) left

    pub exit_good : (seen q).thread.doing ≡ works → standing (m.go q.thread done) ≡ working ms → Good (exit_row m names limits p q w c (catch_at w.catches c))
    exit_good at_work goes = subst (λ z. Good (exit_row m names limits p q w c z)) (sym mine.is) (exits_good at_work (m.go q.thread done) goes)

  -- throws

  module _ (at_work : (seen q).thread.doing ≡ works) (around : or_home (innermost_on q.thread.frames) q.home ≡ innermost_or q.home marks) (cleanups : cleanups_on q.thread.frames ≡ cleanups_of marks) where
    acts_free : is_free (acting (cleanups_of marks) q.aim) ≡ true
    acts_free = flip (is_free (acting (cleanups_of marks) q.aim)) (ap is_unwinding (sym at_work) ∙ (s.work p (seen q) at' going).unwinding)
      where
        flip : (b : Bool) → false ≡ not b → b ≡ true
        flip true e = refl
        flip false e = absurd (not_both e refl)

    chained : Chained w.catches p q.home marks
    chained = s.catches.chained p (seen q) at'

    -- a throw of this word meets catch c
    module _ (tag : Word) (y : Word) (c : ℕ) (found : Found (is_seen (cleanups_on q.thread.frames)) w.catches tag (or_home (innermost_on q.thread.frames) q.home) c) where
      abbrev k : Catch
      k = found.kept

      over : is_over w.catches c (innermost_or q.home marks) ≡ true
      over = ap (is_over w.catches c) (sym around) ∙ found.over

      -- it stands on the frames of the process, or the process is within it
      where_it_is : Stands c marks ⊎ (is_over w.catches c q.home ≡ true)
      where_it_is = over_innermost w.catches p q.home c marks s.homes.falling chained over

      tagged_one : c ≡ 0 → ⊥
      tagged_one e = untagged k.tag (s.homes.untagged k (subst (λ z. catch_at w.catches z ≡ Some k) e found.is)) found.tag
        where
          untagged : (a : Option Word) → a ≡ None → has_tag tag a ≡ true → ⊥
          untagged None e h = not_both h refl
          untagged (Some b) e h = nothing e
            where
              nothing : Some b ≡ None → ⊥
              nothing z = absurd cc

      inner : 0 < c
      inner = ⊎_elim (λ (t : c ≡ 0). absurd (tagged_one t)) (λ (t : ((c == 0) ≡ false) × (c ≢ 0)). let n = t.1 in omega arith) (same_or c 0)

      owner : (z : Seen) × (numbered (map seen w.procs) k.owner ≡ Some z) × Stands c z.thread.marks
      owner = s.catches.stands c k found.is found.open_still inner

      owner_is : Stands c marks → k.owner ≡ p
      owner_is t = let j = (chained_open w.catches p q.home c marks t chained).1 in ap (λ (z : Catch). z.owner) (one found.is j.is) ∙ j.owner

      abbrev w2 : World Thread Closure
      w2 = with_event w (throw p c)

      s2 : Sane w2
      s2 = told_kept (outline w) s (throw p c ∷ (outline w).events) (record { opens = record { opened = λ c t. t; homes = λ t. t }; home = λ p. refl; catch = λ c. refl; killed = λ p. refl; ended = λ p. refl }) (record { begun = λ u. refl; finished = λ u. refl; protector = λ u. refl }) (record { sends = λ k. refl; takes = λ k. refl; replies = λ k. refl })

      spared2 : (i : ℕ) (z : Seen) → numbered (map seen w2.procs) i ≡ Some z → z.kind ≡ main → (i ≡ k.owner) ⊎ (is_over w2.catches c z.home ≡ false)
      spared2 = main_spared w2 s2 c k.owner owner.0 owner.1 owner.2

      apart2 : (d : ℕ) (z : Seen) → 0 < d → is_over w2.catches c d ≡ true → numbered (map seen w2.procs) k.owner ≡ Some z → is_over w2.catches d z.home ≡ false
      apart2 = owner_apart w2 s2 c k.owner owner.0 owner.1 owner.2

      abbrev v2 : World Thread Closure
      v2 = killed_within m w2 c k.owner

      sv2 : Sane v2
      sv2 = kills_sane x w2 s2 c k.owner spared2 apart2

      still2 : numbered v2.procs k.owner ≡ numbered w.procs k.owner
      still2 = (all_of_them x w2 s2 c k.owner spared2 apart2).still

      catches2 : v2.catches ≡ w.catches
      catches2 = (all_of_them x w2 s2 c k.owner spared2 apart2).catches

      inside : in_cleanup (cleanups_of marks) ≡ true → (t : Thread) → standing t ≡ record { marks = aim_marks (to c y) marks; doing = sane.unwinds } → Sane (with_thread v2 p t)
      inside some t goes =
          sane_by (with_thread v2 p t) _
          (thread_out v2 p q t (record { marks = aim_marks (to c y) marks; doing = sane.unwinds }) at2 goes)
          (row_throw_inside (outline v2) sv2 p (seen q) (seen_at v2 p q at2) going c y some near)
        where
          first : (js : List Cleanup) → cleanups_of marks ≡ js → in_cleanup js ≡ true → is_seen js c ≡ true → Near c marks
          first [] e h g = absurd (not_both h refl)
          first (j ∷ js) e h g =
              near_floor w.catches p q.home c j js [] marks s.homes.falling chained (s.aims.floors p (seen q) at') e (less j.floor c g)
              (⊎_elim (λ t. inl t) (λ t. inr (over_le w.catches c q.home s.homes.falling t)) where_it_is)
            where
              less : (a b : ℕ) → nat_lt a b ≡ true → a < b
              less a b e = ltb-true a b e

          near : Near c marks
          near = first (cleanups_of marks) refl some (ap (λ js. is_seen js c) (sym cleanups) ∙ found.seen)

          stands : Stands c marks
          stands = near_stands marks near
            where
              near_stands : (ms : List Mark) → Near c ms → Stands c ms
              near_stands [] n = n
              near_stands (catch_mark d ∷ ms) n = ⊎_elim (λ t. inl t) (λ t. inr (near_stands ms t)) n
              near_stands (protect_mark u ∷ ms) n = near_stands ms n
              near_stands (cleanup_mark u j ∷ ms) n = absurd n
              near_stands (base_mark b ∷ ms) n = near_stands ms n

          at2 : numbered v2.procs p ≡ Some q
          at2 = subst (λ z. numbered v2.procs z ≡ Some q) (owner_is stands) (still2 ∙ (ap (numbered w.procs) (owner_is stands) ∙ at))

      outside : in_cleanup (cleanups_of marks) ≡ false → Sane (with_owner_aimed m names limits p q v2 k.owner (to c y))
      outside none =
          sane_by (with_owner_aimed m names limits p q v2 k.owner (to c y)) _
          (ap (with_procs (outline v2)) procs)
          (row_aim (outline v2) sv2 k.owner (seen oq.0) (seen_at v2 k.owner oq.0 at_o) owner_going c y stands_o low alive nobody2)
        where
          oq : (r : Process Thread) × (numbered w.procs k.owner ≡ Some r) × (seen r ≡ owner.0)
          oq = unseen w k.owner owner.0 owner.1

          at_o : numbered v2.procs k.owner ≡ Some oq.0
          at_o = still2 ∙ oq.1

          stands_o : Stands c (seen oq.0).thread.marks
          stands_o = subst (λ (z : Seen). Stands c z.thread.marks) (sym oq.2) owner.2

          owner_going : oq.0.ended ≡ false
          owner_going = ⊎_elim
              (λ (t : oq.0.ended ≡ true). absurd (subst (Stands c) (s.catches.bare k.owner (seen oq.0) (seen_at w k.owner oq.0 oq.1) t) stands_o))
              (λ t. t)
              (cases oq.0.ended)

          plain : marks_of oq.0.thread.control oq.0.thread.frames ≡ marks_on oq.0.thread.frames
          plain = ⊎_elim
              (λ t. t)
              (λ (t : marks_of oq.0.thread.control oq.0.thread.frames ≡ base_mark of_program ∷ []). absurd (subst (Stands c) t stands_o))
              (marks_below oq.0.kind oq.0.thread.control oq.0.thread.frames (s.work k.owner (seen oq.0) (seen_at w k.owner oq.0 oq.1) owner_going).based)

          q_free : q.aim ≡ free
          q_free = is_free_one q.aim (own (cleanups_of marks) none acts_free)
            where
              own : (js : List Cleanup) → in_cleanup js ≡ false → is_free (acting js q.aim) ≡ true → is_free q.aim ≡ true
              own [] e h = h
              own (j ∷ js) e h = absurd (not_both refl e)

              is_free_one : (a : Aim) → is_free a ≡ true → a ≡ free
              is_free_one free e = refl
              is_free_one (to d z) e = absurd (not_both e refl)
              is_free_one die e = absurd (not_both e refl)

          q_live : is_live (seen q) ≡ true
          q_live = live_is q.ended q.aim going q_free
            where
              live_is : (b : Bool) (a : Aim) → b ≡ false → a ≡ free → (not b && not (is_die a)) ≡ true
              live_is true a e f = absurd (not_both refl e)
              live_is false a e f = ap (λ z. not (is_die z)) f

          same_q : Stands c marks → seen oq.0 ≡ seen q
          same_q t = one (seen_at w k.owner oq.0 oq.1) (subst (λ z. numbered (map seen w.procs) z ≡ Some (seen q)) (sym (owner_is t)) at')

          low : StandsAbove c (seen oq.0).thread.marks → ⊥
          low h = ⊎_elim
              (λ (t : Stands c marks). none_above c marks none (subst (λ (z : Seen). StandsAbove c z.thread.marks) (same_q t) h))
              (λ (t : is_over w.catches c q.home ≡ true). not_both t (s.empty.fresh k.owner (seen oq.0) c (seen_at w k.owner oq.0 oq.1) h p (seen q) at'))
              where_it_is

          alive : is_die oq.0.aim ≡ false
          alive = deny _ (λ e. ⊎_elim
              (λ (t : Stands c marks). not_both e (ap is_die (ap (λ (z : Seen). z.aim) (same_q t) ∙ q_free)))
              (λ (t : is_over w.catches c q.home ≡ true). not_both t (s.aims.dying k.owner (seen oq.0) c (seen_at w k.owner oq.0 oq.1) (die_is oq.0.aim e) stands_o p (seen q) at' q_live))
              where_it_is)
            where
              die_is : (a : Aim) → is_die a ≡ true → a ≡ die
              die_is free e = absurd (not_both e refl)
              die_is (to d z) e = absurd (not_both e refl)
              die_is die e = refl

          nobody2 : Nobody (outline v2) c
          nobody2 i z e l = deny _ (λ h.
              let same : i ≡ k.owner = alone x w2 s2 c k.owner spared2 apart2 i z e l h in
              let is : z ≡ seen oq.0 = one e (subst (λ a. numbered (map seen v2.procs) a ≡ Some (seen oq.0)) (sym same) (seen_at v2 k.owner oq.0 at_o)) in
              not_both (ap (λ ks. is_over ks c z.home) (sym catches2) ∙ h) (ap (λ (r : Seen). is_over w.catches c r.home) is ∙ not_in_own w s c k.owner (seen oq.0) (seen_at w k.owner oq.0 oq.1) stands_o))

          aimed_q : Process Thread → Process Thread
          aimed_q z = record z { aim = to c y; thread = unwinds_at m z.thread }

          procs : map seen (change_numbered (λ (z : Process Thread). record z { aim = to c y; thread = unwinds_at m z.thread }) v2.procs k.owner) ≡ put (map seen v2.procs) k.owner (record (seen oq.0) { aim = to c y; thread = record { marks = (seen oq.0).thread.marks; doing = doing_stopped (seen oq.0).thread.marks (seen oq.0).thread.doing } })
          procs =
              ap (map seen) (put_known (λ (z : Process Thread). record z { aim = to c y; thread = unwinds_at m z.thread }) v2.procs k.owner oq.0 at_o)
              ∙ (map_put seen v2.procs k.owner (record oq.0 { aim = to c y; thread = unwinds_at m oq.0.thread })
              ∙ ap (λ (z : Standing). put (map seen v2.procs) k.owner (record { home = oq.0.home; kind = oq.0.kind; aim = to c y; thread = z; ended = oq.0.ended })) (stopped_stands x oq.0.thread plain))

      thrown : standing (m.go q.thread (aimed (to c y))) ≡ record { marks = aim_marks (to c y) marks; doing = sane.unwinds } → Good (thrown_row m names limits p q w c (Some k) y)
      thrown goes = ⊎_elim
          (λ (t : in_cleanup (cleanups_on q.thread.frames) ≡ true). rw t (inside (ap in_cleanup (sym cleanups) ∙ t) (m.go q.thread (aimed (to c y))) goes))
          (λ (t : in_cleanup (cleanups_on q.thread.frames) ≡ false). rw t (outside (ap in_cleanup (sym cleanups) ∙ t)))
          (cases (in_cleanup (cleanups_on q.thread.frames)))

    pub throw_good : (tag y : Word) (offset : ℕ) → ((c : ℕ) → standing (m.go q.thread (aimed (to c y))) ≡ record { marks = aim_marks (to c y) marks; doing = sane.unwinds }) → Good (throw_row m names limits p q w (tagged (is_seen (cleanups_on q.thread.frames)) w.catches tag (or_home (innermost_on q.thread.frames) q.home)) y offset)
    throw_good tag y offset goes = met (tagged (is_seen (cleanups_on q.thread.frames)) w.catches tag (or_home (innermost_on q.thread.frames) q.home)) refl
      where
        met : (a : Option ℕ) → tagged (is_seen (cleanups_on q.thread.frames)) w.catches tag (or_home (innermost_on q.thread.frames) q.home) ≡ a → Good (throw_row m names limits p q w a y offset)
        met None e = s
        met (Some c) e =
            let f = tagged_gives (is_seen (cleanups_on q.thread.frames)) w.catches tag (or_home (innermost_on q.thread.frames) q.home) c e in
            subst (λ z. Good (thrown_row m names limits p q w c z y)) (sym f.is) (thrown tag y c f (goes c))

  -- ends

  module _ (b : Base) (is : marks ≡ base_mark b ∷ []) where
    ended_procs : (t : Thread) → standing t ≡ working [] → (v : World Thread Closure) → numbered v.procs p ≡ Some q → map seen (with_thread (with_end v p) p t).procs ≡ put (map seen v.procs) p (record (seen q) { thread = working []; ended = true })
    ended_procs t goes v at_v =
        thread_procs (with_end v p) p q2 t (working []) at2 goes
        ∙ (ap (λ z. put (map seen z) p (standing_as (seen q2) (working []))) put_end
        ∙ (ap (λ z. put z p (standing_as (seen q2) (working []))) (map_put seen v.procs p q2)
        ∙ put_again (seen q2) (standing_as (seen q2) (working [])) (map seen v.procs) p))
      where
        q2 : Process Thread
        q2 = record q { ended = true }

        put_end : (with_end v p).procs ≡ put v.procs p q2
        put_end = put_known (λ (z : Process Thread). record z { ended = true }) v.procs p q at_v

        at2 : numbered (with_end v p).procs p ≡ Some q2
        at2 = subst (λ z. numbered z p ≡ Some q2) (sym put_end) (put_at v.procs p q q2 at_v)

    pub child_ends_good : (f : ℕ) → q.kind ≡ child f → is_die q.aim ≡ false → (y : Word) (text : Option (List ℕ)) (t : Thread) → standing t ≡ working [] → Sane (with_thread (with_end (with_event (with_future w f (valued y)) (end_ok p text)) p) p t)
    child_ends_good f kind alive y text t goes =
        sane_by (with_thread (with_end (with_event (with_future w f (valued y)) (end_ok p text)) p) p t) _
        (ap (with_procs (outline (with_event (with_future w f (valued y)) (end_ok p text)))) (ended_procs t goes w at))
        (row_child_ends (outline w) s p (seen q) at' going b is f kind alive y text)

    pub killed_ends_good : (seen q).thread.doing ≡ sane.unwinds → (t : Thread) → standing t ≡ working [] → Sane (with_thread (with_end (with_event w (end_killed p)) p) p t)
    killed_ends_good doing t goes =
        sane_by (with_thread (with_end (with_event w (end_killed p)) p) p t) _
        (ap (with_procs (outline (with_event w (end_killed p)))) (ended_procs t goes w at))
        (row_killed_ends (outline w) s p (seen q) at' going b is dies)
      where
        unwinding : true ≡ not (is_free q.aim)
        unwinding = ap is_unwinding (sym doing) ∙ subst (λ z. is_unwinding (seen q).thread.doing ≡ not (is_free (acting (cleanups_of z) q.aim))) is (s.work p (seen q) at' going).unwinding

        dies : q.aim ≡ die
        dies = only q.aim refl unwinding
          where
            only : (a : Aim) → q.aim ≡ a → true ≡ not (is_free a) → q.aim ≡ die
            only free e h = absurd (not_both refl h)
            only (to c y) e h = absurd (own_aim (outline w) s p (seen q) at' going b is c y e)
            only die e h = e

    pub last_good : q.kind ≡ main → standing (m.go q.thread done) ≡ working [] → Sane (last_row m names limits p q w)
    last_good kind goes =
        sane_by (last_row m names limits p q w) _
        (ap (with_procs (outline (with_event (without_catch v3 0) (end_ok p None)))) (ended_procs (m.go q.thread done) goes v3 at3))
        (row_last (outline v3) sv3 p (seen q) (seen_at v3 p q at3) going b is kind (λ i z e l h. alone x w3 s3 0 p spared3 apart3 i z e l h))
      where
        w3 : World Thread Closure
        w3 = with_event w (exit p 0)

        s3 : Sane w3
        s3 = told_kept (outline w) s (exit p 0 ∷ (outline w).events) (record { opens = record { opened = λ c t. t; homes = λ t. t }; home = λ p. refl; catch = λ c. refl; killed = λ p. refl; ended = λ p. refl }) (record { begun = λ u. refl; finished = λ u. refl; protector = λ u. refl }) (record { sends = λ k. refl; takes = λ k. refl; replies = λ k. refl })

        spared3 : (i : ℕ) (z : Seen) → numbered (map seen w3.procs) i ≡ Some z → z.kind ≡ main → (i ≡ p) ⊎ (is_over w3.catches 0 z.home ≡ false)
        spared3 i z e k = inl ((s.homes.first i z e k).0 ∙ sym (s.homes.first p (seen q) at' kind).0)

        apart3 : (d : ℕ) (z : Seen) → 0 < d → is_over w3.catches 0 d ≡ true → numbered (map seen w3.procs) p ≡ Some z → is_over w3.catches d z.home ≡ false
        apart3 d z l h e =
            let same : z ≡ seen q = one e at' in
            let home : z.home ≡ 0 = ap (λ (r : Seen). r.home) same ∙ (s.homes.first p (seen q) at' kind).1 in
            deny _ (λ t. let a = over_le w.catches d z.home s.homes.falling t in absurd (omega (arith, a, l, home)))

        v3 : World Thread Closure
        v3 = killed_within m w3 0 p

        sv3 : Sane v3
        sv3 = kills_sane x w3 s3 0 p spared3 apart3

        at3 : numbered v3.procs p ≡ Some q
        at3 = (all_of_them x w3 s3 0 p spared3 apart3).still ∙ at
