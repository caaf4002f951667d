-- All that a throw or an exit kills.
use Rattle.std.proofs.Common.{◌≡◌, ◌≢◌, ◌⊎◌, ℕ, zero, suc, ◌≤◌, ◌==◌, Bool, true, false, List, ◌∷◌, ◌++◌, length, Option, Some, None, refl, sym, ap, ◌∙◌, subst, ⊎_elim, inl, inr, arith, eq-eqb, eqb-true}
use Rattle.std.specs.Prelude.{if◌then◌else◌, not, ◌&&◌, map}
use Rattle.ql_world.specs.declared.event.Event.TheVariants.{Kill as kill}
use Rattle.ql_world.specs.World.{Call, World, numbered, change_numbered, with_event}
use Rattle.ql_world.specs.declared.world.FutState.{FutState as Future}
use Rattle.ql_world.specs.declared.world.FutState.TheVariants.{Pending as pending, Value as valued, Dead as dead}
use Rattle.ql_world.specs.declared.world.Aim.TheVariants.{Die as die}
use Rattle.ql_world.specs.declared.world.Catch.{Catch}
use Rattle.ql_world.specs.declared.world.Kind.{Kind}
use Rattle.ql_world.specs.declared.world.Kind.TheVariants.{Main as main, Child as child, Closure as serving}
use Rattle.ql_world.specs.declared.world.Process.{Process}
use Rattle.ql_world.specs.Within.{is_over, is_live, is_within, is_die}
use Rattle.ql_world.specs.Machine.{Machine}
use Rattle.ql_world.specs.Idle.{in_cleanup, killed, all_killed, replies_of, current_of, unanswered, unwinds_at, abandoned, abandoned_server, killed_process, killed_if_within, killed_at, killed_among, killed_within}
use Rattle.ql_meaning.specs.Context.{Context}
use Rattle.ql_meaning.specs.Control.{Thread, Closure, cleanups_on, core_machine}
use Rattle.ql_meaning.specs.Sane.{Mark, Standing, unwinds, marks_on, marks_of, standing, Seen, seen, Server, Outline, outline, cleanups_of, Among, Reason, of_reply, of_parameter, IsFuture, ChildState, ReplyState, ParameterState}
use Rattle.ql_meaning.proofs.Lists.{cases, not_both, same_or, one, put, put_cases, put_known, changed_length, numbered_low, numbered_map, map_put}
use Rattle.ql_meaning.proofs.Threads.{unwind_marks, cleanups_same, marks_plain}
use Rattle.ql_meaning.proofs.Kept.{Each}
use Rattle.ql_meaning.proofs.Kill.{SaneBut, slain, stopped, changed_else, all_killed_length, value_stays, all_killed_else, all_killed_here, among_left, among_right, among_cases, replies_have, replies_find, killed_sane}
use Rattle.ql_meaning.proofs.Serve.{strangers_kept, child_kept, server_kept, answers_kept, About}

live_split : (q : Seen) → is_live q ≡ true → (q.ended ≡ false) × (is_die q.aim ≡ false)
live_split q l = split q.ended (is_die q.aim) l
  where
    split : (a b : Bool) → (not a && not b) ≡ true → (a ≡ false) × (b ≡ false)
    split true b e = absurd (not_both e refl)
    split false true e = absurd (not_both e refl)
    split false false e = (refl, refl)

-- one of them, on the outline

module _ (o : Outline) (s : SaneBut o) (n : ℕ) (q : Seen) (at : numbered o.procs n ≡ Some q) (live : is_live q ≡ true) (c : ℕ) where
  pub child_killed : (f : ℕ) → q.kind ≡ child f → SaneBut (record o { procs = put o.procs n (slain q); futures = change_numbered killed o.futures f; events = kill c n ∷ o.events })
  child_killed f is =
      killed_sane o s n q at live c o.servers (change_numbered killed o.futures f)
      (strangers_kept o n q (slain q) at refl o.catches (change_numbered killed o.futures f) o.protects (kill c n ∷ o.events) (λ k e. not_both_kinds (sym is ∙ e)) s.servers (record { sends = λ k. refl; takes = λ k. refl; replies = λ k. refl }))
      (child_kept o n q (slain q) at refl o.catches o.protects (kill c n ∷ o.events) f is killed s.futures (λ a g. dies a (subst (λ (z : Bool × Bool). ChildState z.0 z.1 a) (λ i. ((live_split q live).1 i, (live_split q live).0 i)) g)))
    where
      not_both_kinds : {a b : ℕ} → child a ≡ serving b → ⊥
      not_both_kinds e = absurd cc

      dies : (a : Future) → a ≡ pending → killed a ≡ dead
      dies a e = ap killed e

  module _ (k : ℕ) (is : q.kind ≡ serving k) (a : Server) (place : numbered o.servers k ≡ Some a) (by : a.process ≡ n) where
    abbrev buried : Server
    buried = record a { dead = true }

    abbrev fs : List Future
    fs = all_killed (unanswered a) o.futures

    abbrev v : Outline
    v = record o { procs = put o.procs n (slain q); servers = put o.servers k buried; futures = fs; events = kill c n ∷ o.events }

    alive : a.dead ≡ false
    alive = s.servers.dead k a q place (subst (λ i. numbered o.procs i ≡ Some q) (sym by) at) ∙ ap not live

    slain_dead : not (is_live (slain q)) ≡ true
    slain_dead = dead_is q.ended
      where
        dead_is : (b : Bool) → not (not b && false) ≡ true
        dead_is true = refl
        dead_is false = refl

    not_slain : is_live (slain q) ≡ true → ⊥
    not_slain e = not_both slain_dead (ap not e)

    abbrev Is : Reason → Type 0
    Is = About o n q (slain q) at refl k a buried is place by by o.catches fs o.protects (kill c n ∷ o.events)

    -- a future that dies was made for this process closure
    about : (f : ℕ) (reason : Reason) → numbered s.futures.reasons f ≡ Some reason → Among f (unanswered a) → Is reason
    about f reason e h =
        ⊎_elim
        (λ (t : Among f (replies_of (current_of a.current ++ a.queue))).
        let r = replies_find f (current_of a.current ++ a.queue) t in
        let i = s.futures.calls k a r.1 f r.0 place r.2 r.3 in
        reply_about reason (of_reply k r.1.number) (one e i.reason_is) r.1.number refl)
        (λ (t : Among f a.turn).
        let i = s.futures.parameters k a f place t in
        parameter_about reason (of_parameter k) (one e i.reason_is) refl)
        (among_cases f (replies_of (current_of a.current ++ a.queue)) a.turn h)
      where
        reply_about : (x y : Reason) → x ≡ y → (j : ℕ) → y ≡ of_reply k j → Is x
        reply_about x y e j h = subst Is (sym (e ∙ h)) refl

        parameter_about : (x y : Reason) → x ≡ y → y ≡ of_parameter k → Is x
        parameter_about x y e h = subst Is (sym (e ∙ h)) refl

    pub server_killed : SaneBut v
    server_killed =
        killed_sane o s n q at live c (put o.servers k buried) fs
        (server_kept o n q (slain q) at refl k a buried is place by by o.catches fs o.protects (kill c n ∷ o.events) s.servers (λ j h. (refl, (refl, refl)))
        (record {
          calls = let t = s.servers.calls k a place in record { sent = t.sent; progress = t.progress; queued = t.queued; all = t.all };
          resting = λ l. absurd (not_slain l);
          prompt = λ l. absurd (not_slain l);
          fitting = λ d i e. s.servers.fitting k a d i place e;
          full = s.servers.full k a place;
          plain = s.servers.plain k a place;
          dead = sym slain_dead;
          killed = λ e. refl;
        }))
        (answers_kept o n q (slain q) at refl k a buried is place by by o.catches fs o.protects (kill c n ∷ o.events) s.futures s.futures.reasons (s.futures.all ∙ sym (all_killed_length (unanswered a) o.futures))
        (λ f reason state e g h. (e, all_killed_else (unanswered a) o.futures f (λ t. h (about f reason e t)) ∙ g))
        (λ d f i e g.
        let t = s.futures.calls k a d f i place e g in
        let was : t.state ≡ pending = subst (λ z. ReplyState z t.state) alive t.good in
        record { reason_is = t.reason_is; state = killed t.state; state_is = all_killed_here (unanswered a) o.futures f t.state (among_left f (replies_of (current_of a.current ++ a.queue)) a.turn (replies_have f (current_of a.current ++ a.queue) i d e g)) t.state_is; good = ap killed was })
        (λ f h.
        let t = s.futures.parameters k a f place h in
        parameter f h t a.current t.good))
      where
        parameter : (f : ℕ) → Among f a.turn → (t : IsFuture o s.futures.reasons f (of_parameter k) (ParameterState a.current a.dead)) → (d : Option Call) → ParameterState d a.dead t.state → IsFuture v s.futures.reasons f (of_parameter k) (ParameterState d true)
        parameter f h t None g =
            let was : t.state ≡ pending = subst (λ z. ReplyState z t.state) alive g in
            record { reason_is = t.reason_is; state = killed t.state; state_is = all_killed_here (unanswered a) o.futures f t.state (among_right f (replies_of (current_of a.current ++ a.queue)) a.turn h) t.state_is; good = ap killed was }
        parameter f h t (Some d) g =
            record { reason_is = t.reason_is; state = valued g.0; state_is = value_stays (unanswered a) o.futures f g.0 (t.state_is ∙ ap Some g.1); good = (g.0, refl) }

-- all of them, in the world

-- where its control is not finished, a process that is made to unwind keeps its marks
pub stopped_stands : (x : Context) (t : Thread) → marks_of t.control t.frames ≡ marks_on t.frames → standing (unwinds_at (core_machine x) t) ≡ record { marks = (standing t).marks; doing = stopped (standing t).marks (standing t).doing }
stopped_stands x t plain =
    ⊎_elim
    (λ (b : in_cleanup (cleanups_on t.frames) ≡ true).
    let d : in_cleanup (cleanups_of (marks_of t.control t.frames)) ≡ true = ap in_cleanup (ap cleanups_of plain ∙ cleanups_same t.frames) ∙ b in
    rw (b, d) refl)
    (λ (b : in_cleanup (cleanups_on t.frames) ≡ false).
    let d : in_cleanup (cleanups_of (marks_of t.control t.frames)) ≡ false = ap in_cleanup (ap cleanups_of plain ∙ cleanups_same t.frames) ∙ b in
    rw (b, d) (ap (λ (z : List Mark). record { marks = z; doing = unwinds }) (unwind_marks t.frames ∙ sym plain)))
    (cases (in_cleanup (cleanups_on t.frames)))

module _ (x : Context) (c owner : ℕ) where
  abbrev m : Machine Thread Closure
  m = core_machine x

  abbrev dying : Process Thread → Process Thread
  dying q = record q { aim = die; thread = unwinds_at m q.thread }

  abandoned_procs : (w : World Thread Closure) (kind : Kind) → (abandoned m w kind).procs ≡ w.procs
  abandoned_procs w main = refl
  abandoned_procs w (child f) = refl
  abandoned_procs w (serving k) = server (numbered w.servers k)
    where
      server : (a : Option Server) → (abandoned_server m w k a).procs ≡ w.procs
      server None = refl
      server (Some a) = refl

  abandoned_catches : (w : World Thread Closure) (kind : Kind) → (abandoned m w kind).catches ≡ w.catches
  abandoned_catches w main = refl
  abandoned_catches w (child f) = refl
  abandoned_catches w (serving k) = server (numbered w.servers k)
    where
      server : (a : Option Server) → (abandoned_server m w k a).catches ≡ w.catches
      server None = refl
      server (Some a) = refl

  module _ (w : World Thread Closure) (s : SaneBut (outline w)) (n : ℕ) (q : Process Thread) (at : numbered w.procs n ≡ Some q) (live : is_live q ≡ true) (not_main : q.kind ≡ main → ⊥) where
    seen_at : numbered (map seen w.procs) n ≡ Some (seen q)
    seen_at = numbered_map seen w.procs n ∙ rw at refl

    plain : marks_of q.thread.control q.thread.frames ≡ marks_on q.thread.frames
    plain = marks_plain q.kind q.thread.control q.thread.frames (s.work n (seen q) seen_at (live_split (seen q) live).0).based not_main

    abbrev after : World Thread Closure
    after = with_event (record w { procs = change_numbered dying w.procs n }) (kill c n)

    procs_after : map seen (change_numbered dying w.procs n) ≡ put (map seen w.procs) n (slain (seen q))
    procs_after =
        ap (map seen) (put_known dying w.procs n q at)
        ∙ (map_put seen w.procs n (dying q)
        ∙ ap (λ (z : Standing). put (map seen w.procs) n (record { home = q.home; kind = q.kind; aim = die; thread = z; ended = q.ended })) (stopped_stands x q.thread plain))

    abbrev with_procs : List Seen → List Server → List Future → Outline
    with_procs rs ss fs = record { catches = w.catches; procs = rs; servers = ss; futures = fs; protects = w.protects; events = kill c n ∷ (outline w).events }

    by_kind : (kind : Kind) → q.kind ≡ kind → SaneBut (outline (abandoned m after kind))
    by_kind main e = absurd (not_main e)
    by_kind (child f) e = subst (λ z. SaneBut (with_procs z w.servers (change_numbered killed w.futures f))) (sym procs_after) (child_killed (outline w) s n (seen q) seen_at live c f e)
    by_kind (serving k) e =
        let t = s.servers.serves n (seen q) k seen_at e in
        subst (λ z. SaneBut (outline (abandoned_server m after k z))) (sym t.1)
        (subst (λ z. SaneBut (with_procs z (change_numbered (λ (s : Server). record s { dead = true }) w.servers k) (all_killed (unanswered t.0) w.futures))) (sym procs_after)
        (subst (λ z. SaneBut (with_procs (put (map seen w.procs) n (slain (seen q))) z (all_killed (unanswered t.0) w.futures))) (sym (put_known (λ (s : Server). record s { dead = true }) w.servers k t.0 t.1))
        (server_killed (outline w) s n (seen q) seen_at live c k e t.0 t.1 t.2)))

    pub one_killed : SaneBut (outline (killed_process m w c n q))
    one_killed = by_kind q.kind refl

    one_procs : map seen (killed_process m w c n q).procs ≡ put (map seen w.procs) n (slain (seen q))
    one_procs = ap (map seen) (abandoned_procs after q.kind) ∙ procs_after

    one_catches : (killed_process m w c n q).catches ≡ w.catches
    one_catches = abandoned_catches after q.kind

    one_many : length (killed_process m w c n q).procs ≡ length w.procs
    one_many = ap length (abandoned_procs after q.kind) ∙ changed_length dying w.procs n

    one_else : (i : ℕ) → i ≢ n → numbered (killed_process m w c n q).procs i ≡ numbered w.procs i
    one_else i h = ap (λ z. numbered z i) (abandoned_procs after q.kind) ∙ changed_else dying w.procs n i h

  -- process i is among the first n, and one that is killed
  pub record IsHit (ks : List Catch) (n i : ℕ) (y : Seen) : Type 0 where
    pub low : i ≤ n
    pub live : is_live y ≡ true
    pub within : is_over ks c y.home ≡ true
    pub other : i ≢ owner

  abbrev pub Hit : List Catch → ℕ → ℕ → Seen → Seen → Type 0
  Hit ks n i y z = (IsHit ks n i y × (z ≡ slain y)) ⊎ ((IsHit ks n i y → ⊥) × (z ≡ y))

  -- what the kills among the first n processes leave
  pub record Slaughter (w v : World Thread Closure) (n : ℕ) : Type 0 where
    pub sane : SaneBut (outline v)
    pub catches : v.catches ≡ w.catches
    pub each : Each (Hit w.catches n) (map seen w.procs) (map seen v.procs)
    pub many : length v.procs ≡ length w.procs
    pub still : numbered v.procs owner ≡ numbered w.procs owner

  module _ (w : World Thread Closure) (s : SaneBut (outline w)) (spared : (i : ℕ) (y : Seen) → numbered (map seen w.procs) i ≡ Some y → y.kind ≡ main → (i ≡ owner) ⊎ (is_over w.catches c y.home ≡ false)) where
    none_yet : Slaughter w w 0
    none_yet = record {
      sane = s;
      catches = refl;
      each = λ i y e. (y, e, inr ((λ h. let a = h.low in let b = (numbered_low (map seen w.procs) i y e).0 in absurd (omega (arith, a, b))), refl));
      many = refl;
      still = refl;
    }

    -- a process that is not hit now
    wider : (n i : ℕ) (y : Seen) → (i ≡ suc n → IsHit w.catches (suc n) i y → ⊥) → IsHit w.catches (suc n) i y → IsHit w.catches n i y
    wider n i y f h =
        ⊎_elim
        (λ (t : i ≡ suc n). absurd (f t h))
        (λ (t : ((i == suc n) ≡ false) × (i ≢ suc n)). let low = h.low in let apart = t.1 in record { low = omega (arith, low, apart); live = h.live; within = h.within; other = h.other })
        (same_or i (suc n))

    next : (v : World Thread Closure) (n : ℕ) → Slaughter w v n → Slaughter w (killed_at m v c owner (suc n)) (suc n)
    next v n t = there (numbered v.procs (suc n)) refl
      where
        skipped : ((y : Seen) → numbered (map seen v.procs) (suc n) ≡ Some y → IsHit w.catches (suc n) (suc n) y → ⊥) → Slaughter w v (suc n)
        skipped f = record {
          sane = t.sane;
          catches = t.catches;
          each = λ i z e.
              let k = t.each i z e in (
                k.0,
                k.1,
                ⊎_elim
                    (λ (h : IsHit w.catches n i k.0 × (z ≡ slain k.0)). let low = h.0.low in inl (record { low = omega (arith, low); live = h.0.live; within = h.0.within; other = h.0.other }, h.1))
                    (λ (h : (IsHit w.catches n i k.0 → ⊥) × (z ≡ k.0)).
                    inr ((λ g. h.0 (wider n i k.0 (λ u j. f k.0 (subst (λ (a : ℕ × Seen). numbered (map seen v.procs) a.0 ≡ Some a.1) (λ b. (u b, h.1 b)) e) (subst (λ a. IsHit w.catches (suc n) a k.0) u j)) g)), h.1))
                    k.2,
              );
          many = t.many;
          still = t.still;
        }

        module_live : (q : Process Thread) → numbered v.procs (suc n) ≡ Some q → numbered (map seen v.procs) (suc n) ≡ Some (seen q)
        module_live q e = numbered_map seen v.procs (suc n) ∙ rw e refl

        -- before, it was as it is now
        before : (q : Process Thread) → numbered v.procs (suc n) ≡ Some q → numbered (map seen w.procs) (suc n) ≡ Some (seen q)
        before q e =
            let k = t.each (suc n) (seen q) (module_live q e) in
            ⊎_elim
            (λ (h : IsHit w.catches n (suc n) k.0 × (seen q ≡ slain k.0)). let low = h.0.low in absurd (omega (arith, low)))
            (λ (h : (IsHit w.catches n (suc n) k.0 → ⊥) × (seen q ≡ k.0)). k.1 ∙ ap Some (sym h.1))
            k.2

        hit : (q : Process Thread) → numbered v.procs (suc n) ≡ Some q → is_live q ≡ true → is_over w.catches c q.home ≡ true → suc n ≢ owner → Slaughter w (killed_process m v c (suc n) q) (suc n)
        hit q e live within other =
            let not_main : q.kind ≡ main → ⊥ = λ h. ⊎_elim (λ u. other u) (λ u. not_both within u) (spared (suc n) (seen q) (before q e) h) in
            record {
              sane = one_killed v t.sane (suc n) q e live not_main;
              catches = one_catches v t.sane (suc n) q e live not_main ∙ t.catches;
              each = λ i z f.
                  let f' : numbered (put (map seen v.procs) (suc n) (slain (seen q))) i ≡ Some z = subst (λ a. numbered a i ≡ Some z) (one_procs v t.sane (suc n) q e live not_main) f in
                  ⊎_elim
                  (λ (u : (i ≡ suc n) × (z ≡ slain (seen q))).
                  (seen q, subst (λ a. numbered (map seen w.procs) a ≡ Some (seen q)) (sym u.0) (before q e), inl (record { low = (let g = u.0 in omega (arith, g)); live = live; within = within; other = (λ a. other (sym u.0 ∙ a)) }, u.1)))
                  (λ (u : (i ≢ suc n) × (numbered (map seen v.procs) i ≡ Some z)).
                  let k = t.each i z u.1 in (
                    k.0,
                    k.1,
                    ⊎_elim
                        (λ (h : IsHit w.catches n i k.0 × (z ≡ slain k.0)). let low = h.0.low in inl (record { low = omega (arith, low); live = h.0.live; within = h.0.within; other = h.0.other }, h.1))
                        (λ (h : (IsHit w.catches n i k.0 → ⊥) × (z ≡ k.0)). inr ((λ g. h.0 (wider n i k.0 (λ a j. u.0 a) g)), h.1))
                        k.2,
                  ))
                  (put_cases (map seen v.procs) (suc n) i (slain (seen q)) z f');
              many = one_many v t.sane (suc n) q e live not_main ∙ t.many;
              still = one_else v t.sane (suc n) q e live not_main owner (λ a. other (sym a)) ∙ t.still;
            }

        tested : (q : Process Thread) → numbered v.procs (suc n) ≡ Some q → (a b d : Bool) → is_live q ≡ a → is_over v.catches c q.home ≡ b → (suc n == owner) ≡ d → Slaughter w (if a && (b && not d) then killed_process m v c (suc n) q else v) (suc n)
        tested q e false b d f g h = skipped (λ y k j. not_both j.live (ap (λ (z : Seen). is_live z) (one k (module_live q e)) ∙ f))
        tested q e true false d f g h = skipped (λ y k j. not_both j.within (ap (λ (z : Seen). is_over w.catches c z.home) (one k (module_live q e)) ∙ (ap (λ z. is_over z c q.home) (sym t.catches) ∙ g)))
        tested q e true true true f g h = skipped (λ y k j. j.other (eqb-true (suc n) owner h))
        tested q e true true false f g h = hit q e f (ap (λ z. is_over z c q.home) (sym t.catches) ∙ g) (λ z. not_both (eq-eqb (suc n) owner z) h)

        there : (a : Option (Process Thread)) → numbered v.procs (suc n) ≡ a → Slaughter w (killed_if_within m v c owner (suc n) a) (suc n)
        there None e = skipped (λ y k j. nothing y (sym k ∙ (numbered_map seen v.procs (suc n) ∙ rw e refl)))
          where
            nothing : (y : Seen) → Some y ≡ None → ⊥
            nothing y z = absurd cc
        there (Some q) e = tested q e (is_live q) (is_within v.catches q c) (suc n == owner) refl refl refl

    among : (n : ℕ) → Slaughter w (killed_among m w c owner n) n
    among zero = none_yet
    among (suc n) = next (killed_among m w c owner n) n (among n)

    pub all_killed_within : Slaughter w (killed_within m w c owner) (length w.procs)
    all_killed_within = among (length w.procs)
