-- Rows by which a process comes to be.
use Rattle.std.proofs.Common.{◌≡◌, ◌≢◌, ◌⊎◌, ℕ, zero, suc, ◌+◌, ◌<◌, ◌≤◌, ◌==◌, Bool, true, false, List, [], ◌∷◌, ◌++◌, length, Some, None, refl, sym, ap, ◌∙◌, subst, ⊎_elim, inl, inr, arith, eq-eqb, ne_eqb}
use Rattle.std.specs.Prelude.{not, ◌&&◌, replicate}
use Rattle.ql_world.specs.declared.word.Word.{Word}
use Rattle.ql_world.specs.declared.event.Mode.{Mode}
use Rattle.ql_world.specs.declared.event.Event.TheVariants.{Spawn as spawn}
use Rattle.ql_world.specs.World.{Call, numbered, numbers}
use Rattle.ql_world.specs.declared.world.FutState.{FutState as Future}
use Rattle.ql_world.specs.declared.world.FutState.TheVariants.{Pending as pending}
use Rattle.ql_world.specs.declared.world.Aim.{Aim}
use Rattle.ql_world.specs.declared.world.Aim.TheVariants.{Free as free, To as to, Die as die}
use Rattle.ql_world.specs.declared.world.Catch.{Catch}
use Rattle.ql_world.specs.declared.world.Kind.{Kind}
use Rattle.ql_world.specs.declared.world.Kind.TheVariants.{Main as main, Child as child, Closure as serving}
use Rattle.ql_world.specs.Within.{is_over, is_live, is_within, is_die}
use Rattle.ql_world.specs.Idle.{in_cleanup, current_of}
use Rattle.ql_meaning.specs.Control.{Closure}
use Rattle.ql_meaning.specs.Sane.{Base, of_child, of_server, Mark, base_mark, catch_mark, protect_mark, cleanup_mark, Doing, works, rests, Seen, Server, Outline, WasOpened, innermost_or, Stands, Chained, cleanups_of, StandsAbove, Among, Aims, Floors, LowFloors, is_unwinding, FitsBase, WorkSane, Stage, waiting, running, Holds, Rising, StageSane, IsHeld, sends, takes, replies, CallsSane, ServersSane, Reason, of_binding, of_reply, of_parameter, IsFuture, IsPending, ChildState, ReplyState, ParameterState, FuturesSane, SaneOutline}
use Rattle.ql_meaning.proofs.Lists.{not_both, same_or, one, push_cases, push_at, numbered_longer, numbered_low}
use Rattle.ql_meaning.proofs.Marks.{chained_open, innermost_low, over_innermost, above_stands, none_above}
use Rattle.ql_meaning.proofs.Calm.{deny, Nobody}

pub length_push : {A : Type 0} (xs ys : List A) → length (xs ++ ys) ≡ length xs + length ys
length_push [] ys = omega arith
length_push (x ∷ xs) ys = let r = length_push xs ys in omega (arith, r)

-- an aim of its own for a catch stands on the frames of a process
pub aim_on : (c : ℕ) (x : Word) (cs : List ℕ) (ms : List Mark) → Aims (to c x) cs ms → Among c cs ⊎ Stands c ms
aim_on c x cs [] a = inl a
aim_on c x cs (catch_mark e ∷ ms) a = ⊎_elim (λ t. ⊎_elim (λ u. inr (inl u)) (λ u. inl u) t) (λ t. inr (inr t)) (aim_on c x (e ∷ cs) ms a)
aim_on c x cs (protect_mark u ∷ ms) a = aim_on c x cs ms a
aim_on c x cs (cleanup_mark u k ∷ ms) a = ⊎_elim (λ t. absurd t) (λ t. inr t) (aim_on c x [] ms a.1)
aim_on c x cs (base_mark b ∷ ms) a = aim_on c x cs ms a

no_holds : (stage : Stage) (u : ℕ) (b : Base) → Holds stage u (base_mark b ∷ []) → ⊥
no_holds waiting u b h = h
no_holds running u b h = h

-- a new process

module _ (o : Outline) (s : SaneOutline o) (p : ℕ) (q : Seen) (at : numbered o.procs p ≡ Some q) (going : q.ended ≡ false) (free_now : q.aim ≡ free) (no_cleanup : in_cleanup (cleanups_of q.thread.marks) ≡ false) where
  abbrev around : ℕ
  around = innermost_or q.home q.thread.marks

  live : is_live q ≡ true
  live = live_is q.ended q.aim going free_now
    where
      live_is : (b : Bool) (a : Aim) → b ≡ false → a ≡ free → (not b && not (is_die a)) ≡ true
      live_is true a e f = absurd (not_both refl e)
      live_is false a e f = ap (λ z. not (is_die z)) f

  -- a catch over the place of a new process is on the frames of the one that makes it, or over its home
  over_around : (c : ℕ) → is_over o.catches c around ≡ true → Stands c q.thread.marks ⊎ (is_over o.catches c q.home ≡ true)
  over_around c h = over_innermost o.catches p q.home c q.thread.marks s.homes.falling (s.catches.chained p q at) h

  -- a catch stands on one process's frames
  same_owner : (i : ℕ) (x : Seen) (c : ℕ) → numbered o.procs i ≡ Some x → Stands c x.thread.marks → Stands c q.thread.marks → x ≡ q
  same_owner i x c e a b =
      let k = (chained_open o.catches i x.home c x.thread.marks a (s.catches.chained i x e)).1 in
      let j = (chained_open o.catches p q.home c q.thread.marks b (s.catches.chained p q at)).1 in
      let same : k.kept ≡ j.kept = one k.is j.is in
      let is : i ≡ p = sym k.owner ∙ (ap (λ (z : Catch). z.owner) same ∙ j.owner) in
      one e (subst (λ z. numbered o.procs z ≡ Some q) (sym is) at)

  module _ (kind : Kind) (b : Base) (fits : FitsBase b kind) (d : Doing) (no_unwind : is_unwinding d ≡ false) (resting : d ≡ rests → b ≡ of_server) (not_main : kind ≡ main → ⊥) where
    abbrev pub new : Seen
    new = record { home = innermost_or q.home q.thread.marks; kind = kind; aim = free; thread = record { marks = base_mark b ∷ []; doing = d }; ended = false }

    module _ (ss : List Server) (fs : List Future) (mode : Mode) where
      abbrev joined : Outline
      joined = record { catches = o.catches; procs = o.procs ++ new ∷ []; servers = ss; futures = fs; protects = o.protects; events = spawn p (length o.procs + 1) (innermost_or q.home q.thread.marks) mode ∷ o.events }

      -- what holds of all processes that were there, and of the new one
      both : (P : ℕ → Seen → Type 0) → ((i : ℕ) (x : Seen) → numbered o.procs i ≡ Some x → P i x) → ((i : ℕ) → P i new) → (i : ℕ) (x : Seen) → numbered (o.procs ++ new ∷ []) i ≡ Some x → P i x
      both P old fresh i x e = ⊎_elim (λ t. old i x t) (λ (t : (i ≡ length o.procs + 1) × (x ≡ new)). subst (P i) (sym t.1) (fresh i)) (push_cases o.procs new x i e)

      longer : (i : ℕ) (x : Seen) → numbered o.procs i ≡ Some x → numbered (o.procs ++ new ∷ []) i ≡ Some x
      longer i x e = numbered_longer o.procs (new ∷ []) i x e

      nobody_new : (c : ℕ) → Nobody o c → (Stands c q.thread.marks → ⊥) → Nobody joined c
      nobody_new c n off = both (λ i x. is_live x ≡ true → is_within o.catches x c ≡ false) n
          (λ i l. deny _ (λ h. ⊎_elim (λ t. off t) (λ t. not_both t (n p q at live)) (over_around c h)))

      pub joined_kept : ServersSane joined → FuturesSane joined → SaneOutline joined
      joined_kept servers futures = record {
        homes = record {
          falling = s.homes.falling;
          untagged = s.homes.untagged;
          made = both (λ i x. x.home < length o.catches) s.homes.made (λ i. innermost_low o.catches p q.home q.thread.marks (s.homes.made p q at) (s.catches.chained p q at));
          opened = s.homes.opened;
          in_time = (opened_before, s.homes.in_time);
          first = both (λ i x. x.kind ≡ main → (i ≡ 1) × (x.home ≡ 0)) s.homes.first (λ i e. absurd (not_main e));
        };
        catches = record {
          chained = both (λ i x. Chained o.catches i x.home x.thread.marks) s.catches.chained (λ i. tt);
          stands = λ c k e h l. let t = s.catches.stands c k e h l in (t.0, longer k.owner t.0 t.1, t.2);
          bare = both (λ i x. x.ended ≡ true → x.thread.marks ≡ []) s.catches.bare (λ i e. absurd (not_both e refl));
        };
        empty = record {
          closed = λ i x c k e l w h. both (λ i x. is_live x ≡ true → is_within o.catches x c ≡ true → k.open_still ≡ true)
              (λ i x e l w. s.empty.closed i x c k e l w h)
              (λ i l w. ⊎_elim
              (λ (t : Stands c q.thread.marks).
              let j = (chained_open o.catches p q.home c q.thread.marks t (s.catches.chained p q at)).1 in
              ap (λ (z : Catch). z.open_still) (one h j.is) ∙ j.open_still)
              (λ (t : is_over o.catches c q.home ≡ true). s.empty.closed p q c k at live t h)
              (over_around c w))
              i x e l w;
          fresh = λ i x c e a r y f. both (λ i x. (c : ℕ) → StandsAbove c x.thread.marks → (r : ℕ) (y : Seen) → numbered (o.procs ++ new ∷ []) r ≡ Some y → is_within o.catches y c ≡ false)
              (λ i x e c a. both (λ r y. is_within o.catches y c ≡ false) (s.empty.fresh i x c e a)
              (λ r. deny _ (λ h. ⊎_elim
              (λ (t : Stands c q.thread.marks).
              let same = same_owner i x c e (above_stands c x.thread.marks a) t in
              none_above c q.thread.marks no_cleanup (subst (λ (z : Seen). StandsAbove c z.thread.marks) same a))
              (λ (t : is_over o.catches c q.home ≡ true). not_both t (s.empty.fresh i x c e a p q at))
              (over_around c h))))
              (λ i c a. absurd a)
              i x e c a r y f;
        };
        aims = record {
          dying = λ i x c e d m. both (λ i x. x.aim ≡ die → Stands c x.thread.marks → Nobody joined c)
              (λ i x e d m. nobody_new c (s.aims.dying i x c e d m) (λ t. free_die (sym free_now ∙ (ap (λ (z : Seen). z.aim) (sym (same_owner i x c e m t)) ∙ d))))
              (λ i d m. absurd m)
              i x e d m;
          leaving = λ i x c w e d. both (λ i x. x.aim ≡ to c w → Nobody joined c)
              (λ i x e d. nobody_new c (s.aims.leaving i x c w e d)
              (λ t. free_to c w (sym free_now ∙ (ap (λ (z : Seen). z.aim) (sym (same_owner i x c e (on_frames i x c w e d) t)) ∙ d))))
              (λ i d. absurd (free_to c w d))
              i x e d;
          aims = both (λ i x. Aims x.aim [] x.thread.marks) s.aims.aims (λ i. tt);
          floors = both (λ i x. Floors x.home [] x.thread.marks) s.aims.floors (λ i. tt);
          low_floors = both (λ i x. LowFloors (length o.catches) x.thread.marks) s.aims.low_floors (λ i. tt);
        };
        work = both (λ i x. x.ended ≡ false → WorkSane x) s.work (λ i e. record { unwinding = no_unwind; based = (fits, refl); resting = λ z. ap (λ y. base_mark y ∷ []) (resting z) });
        protects = record {
          held = λ i x stage u e h. both (λ i x. Holds stage u x.thread.marks → StageSane joined i u stage)
              (λ i x e h. let k = s.protects.held i x stage u e h in record { low = k.low; mine = k.mine; begun = k.begun; unfinished = k.unfinished })
              (λ i h. absurd (no_holds stage u b h))
              i x e h;
          placed = λ u l h. ⊎_elim
              (λ (k : IsHeld o u). inl (record { process = k.process; by = k.by; is = longer k.process k.by k.is; stage = k.stage; holds = k.holds }))
              (λ k. inr k)
              (s.protects.placed u l h);
          rising = both (λ i x. Rising x.thread.marks) s.protects.rising (λ i. tt);
          unmade = s.protects.unmade;
        };
        servers = servers;
        futures = futures;
        told = record {
          homes = λ i x e l. ⊎_elim
              (λ (t : numbered o.procs i ≡ Some x). let low = (numbered_low o.procs i x t).1 in rw (ne_eqb i (length o.procs + 1) (λ z. omega (arith, low, z))) (s.told.homes i x t l))
              (λ (t : (i ≡ length o.procs + 1) × (x ≡ new)). rw (eq-eqb i (length o.procs + 1) t.0) (ap (λ (z : Seen). Some z.home) (sym t.1)))
              (push_cases o.procs new x i e);
          catches = s.told.catches;
          killed = λ i x e. ⊎_elim
              (λ (t : numbered o.procs i ≡ Some x). s.told.killed i x t)
              (λ (t : (i ≡ length o.procs + 1) × (x ≡ new)). let h = t.0 in (s.told.no_process i (omega (arith, h))).0 ∙ ap (λ (z : Seen). is_die z.aim) (sym t.1))
              (push_cases o.procs new x i e);
          ended = λ i x e. ⊎_elim
              (λ (t : numbered o.procs i ≡ Some x). s.told.ended i x t)
              (λ (t : (i ≡ length o.procs + 1) × (x ≡ new)). let h = t.0 in (s.told.no_process i (omega (arith, h))).1 ∙ ap (λ (z : Seen). z.ended) (sym t.1))
              (push_cases o.procs new x i e);
          no_home = λ i h.
              let more = length_push o.procs (new ∷ []) in
              let some = numbered_low o.procs p q at in
              let apart : i ≢ length o.procs + 1 = ⊎_elim (λ (l : i ≤ 1). λ z. let a = some.0 in let b = some.1 in omega (arith, l, z, a, b)) (λ (l : length (o.procs ++ new ∷ []) < i). λ z. omega (arith, l, z, more)) h in
              rw (ne_eqb i (length o.procs + 1) apart) (s.told.no_home i (⊎_elim (λ l. inl l) (λ (l : length (o.procs ++ new ∷ []) < i). inr (omega (arith, l, more))) h));
          no_process = λ i h. s.told.no_process i (let more = length_push o.procs (new ∷ []) in omega (arith, h, more));
          no_catch = s.told.no_catch;
        };
      }
        where
          free_die : free ≡ die → ⊥
          free_die e = absurd cc

          free_to : (c : ℕ) (x : Word) → free ≡ to c x → ⊥
          free_to c x e = absurd cc

          on_frames : (i : ℕ) (x : Seen) (c : ℕ) (w : Word) → numbered o.procs i ≡ Some x → x.aim ≡ to c w → Stands c x.thread.marks
          on_frames i x c w e d = ⊎_elim (λ t. absurd t) (λ t. t) (aim_on c w [] x.thread.marks (subst (λ a. Aims a [] x.thread.marks) d (s.aims.aims i x e)))

          around_low : innermost_or q.home q.thread.marks < length o.catches
          around_low = innermost_low o.catches p q.home q.thread.marks (s.homes.made p q at) (s.catches.chained p q at)

          opened_before : (innermost_or q.home q.thread.marks ≡ 0) ⊎ WasOpened (innermost_or q.home q.thread.marks) o.events
          opened_before = ⊎_elim (λ (t : around ≡ 0). inl t) (λ (t : ((around == 0) ≡ false) × (around ≢ 0)). let n = t.1 in inr (s.homes.opened around (omega (arith, n)) around_low)) (same_or around 0)

      -- the futures, with new ones behind them

      longer_future : (rs : List Reason) (fs1 : List Future) → fs ≡ o.futures ++ fs1 → (f : ℕ) (reason : Reason) (Is : Future → Type 0) → IsFuture o s.futures.reasons f reason Is → IsFuture joined (s.futures.reasons ++ rs) f reason Is
      longer_future rs fs1 e f reason Is c = record {
        reason_is = numbered_longer s.futures.reasons rs f reason c.reason_is;
        state = c.state;
        state_is = subst (λ z. numbered z f ≡ Some c.state) (sym e) (numbered_longer o.futures fs1 f c.state c.state_is);
        good = c.good;
      }

  -- a child

  child_server : {f k : ℕ} → child f ≡ serving k → ⊥
  child_server e = absurd cc

  pub child_main : {f : ℕ} → child f ≡ main → ⊥
  child_main e = absurd cc

  child_same : {f g : ℕ} → child f ≡ child g → f ≡ g
  child_same e = cc

  server_child : {f k : ℕ} → serving k ≡ child f → ⊥
  server_child e = absurd cc

  pub server_main : {f : ℕ} → serving f ≡ main → ⊥
  server_main e = absurd cc

  server_same : {f g : ℕ} → serving f ≡ serving g → f ≡ g
  server_same e = cc

  pub works_rest : {b : Base} → works ≡ rests → b ≡ of_server
  works_rest z = absurd cc

  abbrev a_child : Seen
  a_child = new (child (length o.futures + 1)) of_child tt works refl works_rest child_main

  pub row_child : (mode : Mode) → SaneOutline (record o { procs = o.procs ++ a_child ∷ []; futures = o.futures ++ pending ∷ []; events = spawn p (length o.procs + 1) (innermost_or q.home q.thread.marks) mode ∷ o.events })
  row_child mode = joined_kept (child (length o.futures + 1)) of_child tt works refl works_rest child_main o.servers fs mode servers futures
    where
      fs : List Future
      fs = o.futures ++ pending ∷ []

      v : Outline
      v = record o { procs = o.procs ++ a_child ∷ []; futures = fs; events = spawn p (length o.procs + 1) (innermost_or q.home q.thread.marks) mode ∷ o.events }

      old : (k : ℕ) (x : Server) (y : Seen) → numbered o.servers k ≡ Some x → numbered v.procs x.process ≡ Some y → numbered o.procs x.process ≡ Some y
      old k x y e f = let t = s.servers.served k x e in t.1 ∙ ap Some (one (numbered_longer o.procs (a_child ∷ []) x.process t.0 t.1) f)

      servers : ServersSane v
      servers = record {
        calls = λ k x e. let c = s.servers.calls k x e in record { sent = c.sent; progress = c.progress; queued = c.queued; all = c.all };
        unmade = s.servers.unmade;
        served = λ k x e. let t = s.servers.served k x e in (t.0, numbered_longer o.procs (a_child ∷ []) x.process t.0 t.1, t.2);
        serves = λ i x k e f. ⊎_elim (λ t. s.servers.serves i x k t f) (λ (t : (i ≡ length o.procs + 1) × (x ≡ a_child)). absurd (child_server (ap (λ (z : Seen). z.kind) (sym t.1) ∙ f))) (push_cases o.procs a_child x i e);
        resting = λ k x y e f l d. s.servers.resting k x y e (old k x y e f) l d;
        prompt = λ k x y e f l d c. s.servers.prompt k x y e (old k x y e f) l d c;
        fitting = s.servers.fitting;
        full = s.servers.full;
        plain = s.servers.plain;
        dead = λ k x y e f. s.servers.dead k x y e (old k x y e f);
        killed = λ i x k e f h. ⊎_elim (λ t. s.servers.killed i x k t f h) (λ (t : (i ≡ length o.procs + 1) × (x ≡ a_child)). absurd (child_server (ap (λ (z : Seen). z.kind) (sym t.1) ∙ f))) (push_cases o.procs a_child x i e);
      }

      rs : List Reason
      rs = of_binding (length o.procs + 1) ∷ []

      wider : (f : ℕ) (reason : Reason) (Is : Future → Type 0) → IsFuture o s.futures.reasons f reason Is → IsFuture v (s.futures.reasons ++ rs) f reason Is
      wider = longer_future (child (length o.futures + 1)) of_child tt works refl works_rest child_main o.servers fs mode rs (pending ∷ []) refl

      mine : (f : ℕ) → f ≡ length o.futures + 1 → IsFuture v (s.futures.reasons ++ rs) f (of_binding (length o.procs + 1)) IsPending
      mine f e = subst (λ z. IsFuture v (s.futures.reasons ++ rs) z (of_binding (length o.procs + 1)) IsPending) (sym e)
          (record {
            reason_is = subst (λ z. numbered (s.futures.reasons ++ rs) (z + 1) ≡ Some (of_binding (length o.procs + 1))) s.futures.all (push_at s.futures.reasons (of_binding (length o.procs + 1)));
            state = pending;
            state_is = push_at o.futures pending;
            good = refl;
          })

      futures : FuturesSane v
      futures = record {
        reasons = s.futures.reasons ++ rs;
        all = length_push s.futures.reasons rs ∙ (ap (λ z. z + 1) s.futures.all ∙ sym (length_push o.futures (pending ∷ [])));
        children = λ i x f e k. ⊎_elim
            (λ t. wider f (of_binding i) (ChildState (is_die x.aim) x.ended) (s.futures.children i x f t k))
            (λ (t : (i ≡ length o.procs + 1) × (x ≡ a_child)).
            subst (λ (z : ℕ × Seen). IsFuture v (s.futures.reasons ++ rs) f (of_binding z.0) (ChildState (is_die z.1.aim) z.1.ended)) (λ z. (sym t.0 z, sym t.1 z))
            (mine f (child_same (sym k ∙ ap (λ (z : Seen). z.kind) t.1))))
            (push_cases o.procs a_child x i e);
        calls = λ k x c f i e g h. wider f (of_reply k c.number) (ReplyState x.dead) (s.futures.calls k x c f i e g h);
        parameters = λ k x f e a. wider f (of_parameter k) (ParameterState x.current x.dead) (s.futures.parameters k x f e a);
      }

  -- a process closure with its process

  module _ (d : Doing) (no_unwind : is_unwinding d ≡ false) (body : Closure) (is_eager : Bool) (turn : List ℕ) (full : is_eager ≡ true → length turn ≡ length body.parameters) (plain : is_eager ≡ false → turn ≡ []) (plain_rest : d ≡ rests → is_eager ≡ false) (fs1 : List Future) (rs : List Reason) (as_many : length rs ≡ length fs1) (mode : Mode) where
    abbrev k0 : ℕ
    k0 = length o.servers + 1

    abbrev a_server : Server
    a_server = record { process = length o.procs + 1; body = body; eager = is_eager; sent = 0; queue = []; current = None; turn = turn; dead = false }

    abbrev its_process : Seen
    its_process = new (serving (length o.servers + 1)) of_server tt d no_unwind (λ z. refl) server_main

    abbrev made : Outline
    made = record o { procs = o.procs ++ its_process ∷ []; servers = o.servers ++ a_server ∷ []; futures = o.futures ++ fs1; events = spawn p (length o.procs + 1) (innermost_or q.home q.thread.marks) mode ∷ o.events }

    pub row_server : ((f : ℕ) → Among f turn → (numbered (s.futures.reasons ++ rs) f ≡ Some (of_parameter (length o.servers + 1))) × (numbered (o.futures ++ fs1) f ≡ Some pending)) → SaneOutline made
    row_server parameters = joined_kept (serving (length o.servers + 1)) of_server tt d no_unwind (λ z. refl) server_main (o.servers ++ a_server ∷ []) (o.futures ++ fs1) mode servers futures
      where
        old : (k : ℕ) (x : Server) (y : Seen) → numbered o.servers k ≡ Some x → numbered made.procs x.process ≡ Some y → numbered o.procs x.process ≡ Some y
        old k x y e f = let t = s.servers.served k x e in t.1 ∙ ap Some (one (numbered_longer o.procs (its_process ∷ []) x.process t.0 t.1) f)

        mine : (x : Server) (y : Seen) → x ≡ a_server → numbered made.procs x.process ≡ Some y → y ≡ its_process
        mine x y e f = one f (ap (λ (z : Server). numbered made.procs z.process) e ∙ push_at o.procs its_process)

        -- of all process closures
        each : (P : ℕ → Server → Type 0) → ((k : ℕ) (x : Server) → numbered o.servers k ≡ Some x → P k x) → ((k : ℕ) → k ≡ length o.servers + 1 → P k a_server) → (k : ℕ) (x : Server) → numbered (o.servers ++ a_server ∷ []) k ≡ Some x → P k x
        each P was now k x e = ⊎_elim (λ t. was k x t) (λ (t : (k ≡ length o.servers + 1) × (x ≡ a_server)). subst (P k) (sym t.1) (now k t.0)) (push_cases o.servers a_server x k e)

        nothing : (sends k0 o.events ≡ 0) × ((takes k0 o.events ≡ 0) × (replies k0 o.events ≡ 0))
        nothing = s.servers.unmade k0 (omega arith)

        new_calls : (k : ℕ) → k ≡ k0 → CallsSane k a_server made.events
        new_calls k e = subst (λ z. CallsSane z a_server made.events) (sym e) (record {
          sent = sym nothing.0;
          progress = nothing.1.0 ∙ sym nothing.1.1;
          queued = refl;
          all = (let z = nothing.1.0 in omega (arith, z));
        })

        servers : ServersSane made
        servers = record {
          calls = each (λ k x. CallsSane k x made.events) (λ k x e. let c = s.servers.calls k x e in record { sent = c.sent; progress = c.progress; queued = c.queued; all = c.all }) new_calls;
          unmade = λ k h. s.servers.unmade k (let l = length_push o.servers (a_server ∷ []) in omega (arith, h, l));
          served = each (λ k x. (y : Seen) × (numbered made.procs x.process ≡ Some y) × (y.kind ≡ serving k))
              (λ k x e. let t = s.servers.served k x e in (t.0, numbered_longer o.procs (its_process ∷ []) x.process t.0 t.1, t.2))
              (λ k e. (its_process, push_at o.procs its_process, ap serving (sym e)));
          serves = λ i x k e f. ⊎_elim
              (λ t. let u = s.servers.serves i x k t f in (u.0, numbered_longer o.servers (a_server ∷ []) k u.0 u.1, u.2))
              (λ (t : (i ≡ length o.procs + 1) × (x ≡ its_process)).
              let is : k ≡ k0 = server_same (sym f ∙ ap (λ (z : Seen). z.kind) t.1) in
              (a_server, subst (λ z. numbered (o.servers ++ a_server ∷ []) z ≡ Some a_server) (sym is) (push_at o.servers a_server), sym t.0))
              (push_cases o.procs its_process x i e);
          resting = λ k x y e f l r. each (λ k x. numbered made.procs x.process ≡ Some y → (x.current ≡ None) × (x.eager ≡ false))
              (λ k x e f. s.servers.resting k x y e (old k x y e f) l r)
              (λ k e f. (refl, plain_rest (ap (λ (z : Seen). z.thread.doing) (sym (mine a_server y refl f)) ∙ r)))
              k x e f;
          prompt = λ k x y e f l r c. each (λ k x. numbered made.procs x.process ≡ Some y → x.eager ≡ true → x.current ≡ None → x.queue ≡ [])
              (λ k x e f r c. s.servers.prompt k x y e (old k x y e f) l r c)
              (λ k e f r c. refl)
              k x e f r c;
          fitting = λ k x c i e f. each (λ k x. numbered x.queue i ≡ Some c → length c.arguments ≡ length x.body.parameters)
              (λ k x e f. s.servers.fitting k x c i e f)
              (λ k e f. absurd (empty_queue i c f))
              k x e f;
          full = each (λ k x. x.eager ≡ true → length x.turn ≡ length x.body.parameters) s.servers.full (λ k e f. full f);
          plain = each (λ k x. x.eager ≡ false → x.turn ≡ []) s.servers.plain (λ k e f. plain f);
          dead = λ k x y e f. each (λ k x. numbered made.procs x.process ≡ Some y → x.dead ≡ not (is_live y))
              (λ k x e f. s.servers.dead k x y e (old k x y e f))
              (λ k e f. ap (λ (z : Seen). not (is_live z)) (sym (mine a_server y refl f)))
              k x e f;
          killed = λ i x k e f h. ⊎_elim (λ t. s.servers.killed i x k t f h) (λ (t : (i ≡ length o.procs + 1) × (x ≡ its_process)). absurd (not_both (ap (λ (z : Seen). z.ended) (sym t.1) ∙ h) refl)) (push_cases o.procs its_process x i e);
        }
          where
            empty_queue : (i : ℕ) (c : Call) → numbered [] i ≡ Some c → ⊥
            empty_queue zero c e = absurd cc
            empty_queue (suc i) c e = absurd cc

        wider : (f : ℕ) (reason : Reason) (Is : Future → Type 0) → IsFuture o s.futures.reasons f reason Is → IsFuture made (s.futures.reasons ++ rs) f reason Is
        wider = longer_future (serving (length o.servers + 1)) of_server tt d no_unwind (λ z. refl) server_main (o.servers ++ a_server ∷ []) (o.futures ++ fs1) mode rs fs1 refl

        futures : FuturesSane made
        futures = record {
          reasons = s.futures.reasons ++ rs;
          all = length_push s.futures.reasons rs ∙ (ap (λ z. z + length rs) s.futures.all ∙ (ap (λ z. length o.futures + z) as_many ∙ sym (length_push o.futures fs1)));
          children = λ i x f e k. ⊎_elim
              (λ t. wider f (of_binding i) (ChildState (is_die x.aim) x.ended) (s.futures.children i x f t k))
              (λ (t : (i ≡ length o.procs + 1) × (x ≡ its_process)). absurd (server_child (ap (λ (z : Seen). z.kind) (sym t.1) ∙ k)))
              (push_cases o.procs its_process x i e);
          calls = λ k x c f i e g h. each (λ k x. numbered (current_of x.current ++ x.queue) i ≡ Some c → IsFuture made (s.futures.reasons ++ rs) f (of_reply k c.number) (ReplyState x.dead))
              (λ k x e g. wider f (of_reply k c.number) (ReplyState x.dead) (s.futures.calls k x c f i e g h))
              (λ k e g. absurd (no_call i c g))
              k x e g;
          parameters = λ k x f e a. each (λ k x. Among f x.turn → IsFuture made (s.futures.reasons ++ rs) f (of_parameter k) (ParameterState x.current x.dead))
              (λ k x e a. wider f (of_parameter k) (ParameterState x.current x.dead) (s.futures.parameters k x f e a))
              (λ k e a. let t = parameters f a in subst (λ z. IsFuture made (s.futures.reasons ++ rs) f (of_parameter z) IsPending) (sym e) (record { reason_is = t.0; state = pending; state_is = t.1; good = refl }))
              k x e a;
        }
          where
            no_call : (i : ℕ) (c : Call) → numbered [] i ≡ Some c → ⊥
            no_call zero c e = absurd cc
            no_call (suc i) c e = absurd cc

-- numbers of new futures

numbered_middle : {A : Type 0} (xs ys : List A) (y : A) → numbered (xs ++ y ∷ ys) (length xs + 1) ≡ Some y
numbered_middle xs ys y = subst (λ z. numbered z (length xs + 1) ≡ Some y) (push_front xs ys y) (numbered_longer (xs ++ y ∷ []) ys (length xs + 1) y (push_at xs y))
  where
    push_front : {A : Type 0} (xs ys : List A) (y : A) → (xs ++ y ∷ []) ++ ys ≡ xs ++ y ∷ ys
    push_front [] ys y = refl
    push_front (x ∷ xs) ys y = ap (λ z. x ∷ z) (push_front xs ys y)

push_front : {A : Type 0} (xs ys : List A) (y : A) → (xs ++ y ∷ []) ++ ys ≡ xs ++ y ∷ ys
push_front [] ys y = refl
push_front (x ∷ xs) ys y = ap (λ z. x ∷ z) (push_front xs ys y)

pub among_numbers : {A : Type 0} (xs : List A) (y : A) (n f : ℕ) → Among f (numbers (length xs + 1) n) → numbered (xs ++ replicate n y) f ≡ Some y
among_numbers xs y zero f a = absurd a
among_numbers xs y (suc n) f a =
    ⊎_elim
    (λ (t : f ≡ length xs + 1). subst (λ z. numbered (xs ++ y ∷ replicate n y) z ≡ Some y) (sym t) (numbered_middle xs (replicate n y) y))
    (λ (t : Among f (numbers (length xs + 1 + 1) n)).
    subst (λ z. numbered z f ≡ Some y) (push_front xs (replicate n y) y)
    (among_numbers (xs ++ y ∷ []) y n f (subst (λ z. Among f (numbers (z + 1) n)) (sym (length_push xs (y ∷ []))) t)))
    a

pub numbers_length : (a n : ℕ) → length (numbers a n) ≡ n
numbers_length a zero = refl
numbers_length a (suc n) = ap suc (numbers_length (a + 1) n)

pub replicate_length : {A : Type 0} (n : ℕ) (y : A) → length (replicate n y) ≡ n
replicate_length zero y = refl
replicate_length (suc n) y = ap suc (replicate_length n y)
