-- Rows by which a process ends.
use Rattle.std.proofs.Common.{◌≡◌, ◌≢◌, ℕ, zero, suc, ◌==◌, Bool, true, false, List, [], ◌∷◌, length, Option, Some, None, refl, sym, ap, ◌∙◌, subst, ⊎_elim, inl, inr, arith}
use Rattle.std.specs.Prelude.{not, ◌&&◌, ◌||◌}
use Rattle.ql_world.specs.declared.word.Word.{Word}
use Rattle.ql_world.specs.declared.event.Event.{Event}
use Rattle.ql_world.specs.declared.event.Event.TheVariants.{EndOk as end_ok, EndKilled as end_killed}
use Rattle.ql_world.specs.World.{change, numbered, change_numbered, closed}
use Rattle.ql_world.specs.declared.world.FutState.{FutState as Future}
use Rattle.ql_world.specs.declared.world.FutState.TheVariants.{Value as valued}
use Rattle.ql_world.specs.declared.world.Aim.TheVariants.{To as to, Die as die}
use Rattle.ql_world.specs.declared.world.Catch.{Catch}
use Rattle.ql_world.specs.declared.world.Kind.{Kind}
use Rattle.ql_world.specs.declared.world.Kind.TheVariants.{Main as main, Child as child, Closure as serving}
use Rattle.ql_world.specs.Within.{is_over, is_live, is_within, is_die}
use Rattle.ql_meaning.specs.Sane.{Base, base_mark, works, Seen, Server, Outline, Stands, Aims, OwnAim, Floors, LowFloors, Stage, waiting, running, Holds, ServersSane, ChildState, FuturesSane, home_told, catch_told, is_killed, has_ended, SaneOutline}
use Rattle.ql_meaning.proofs.Lists.{cases, not_both, put, put_cases, put_length, put_self, numbered_low}
use Rattle.ql_meaning.proofs.Over.{closed_length, closed_over, closed_cases}
use Rattle.ql_meaning.proofs.Marks.{chained_open, chained_closed}
use Rattle.ql_meaning.proofs.Kept.{Each, each_put, all_put, QuietOpens, QuietProtects, SameHome, home_self, homes_kept, Alike, alike_self, catches_kept, empty_kept, nobody_kept, HoldsSame, holds_self, protects_kept, kin_self, servers_kept, futures_kept, work_put, told_self, point_told, apart_or, same_test}
use Rattle.ql_meaning.proofs.Calm.{Nobody}
use Rattle.ql_meaning.proofs.Serve.{strangers_kept, child_kept, server_kept, answers_kept}

-- catch 0, which stands on no frames, is closed
module _ (o : Outline) (s : SaneOutline o) (nobody : Nobody o 0) where
  abbrev shut : Outline
  shut = record o { catches = closed o.catches 0 }

  not_on : (p : ℕ) (q : Seen) → numbered o.procs p ≡ Some q → Stands 0 q.thread.marks → ⊥
  not_on p q e t = let k = chained_open o.catches p q.home 0 q.thread.marks t (s.catches.chained p q e) in let l = k.1.inner in omega (arith, l)

  pub shut_kept : SaneOutline shut
  shut_kept = record {
    homes = homes_kept o shut s.homes (closed_length o.catches 0) (λ p r e. (r, e, home_self p r)) (record { opened = λ c t. t; homes = λ t. t })
        (λ d j e. let t = closed_cases o.catches 0 d j e in (t.0, t.1, ⊎_elim (λ u. ap (λ (z : Catch). z.enclosing) u.1) (λ u. ap (λ (z : Catch). z.enclosing) u.1) t.2, ⊎_elim (λ u. ap (λ (z : Catch). z.tag) u.1) (λ u. ap (λ (z : Catch). z.tag) u.1) t.2));
    catches = record {
      chained = λ p q e. chained_closed o.catches p q.home 0 q.thread.marks (not_on p q e) (s.catches.chained p q e);
      stands = λ d j e h l.
          let t = closed_cases o.catches 0 d j e in
          ⊎_elim
          (λ (u : (d ≡ 0) × (j ≡ record t.0 { open_still = false })). let z = u.0 in absurd (omega (arith, l, z)))
          (λ (u : (d ≢ 0) × (j ≡ t.0)).
          subst (λ (z : Catch). (y : Seen) × (numbered o.procs z.owner ≡ Some y) × Stands d y.thread.marks) (sym u.1) (s.catches.stands d t.0 t.1 (ap (λ (z : Catch). z.open_still) (sym u.1) ∙ h) l))
          t.2;
      bare = s.catches.bare;
    };
    empty = record {
      closed = λ i x d j e l w k.
          let t = closed_cases o.catches 0 d j k in
          let w' : is_over o.catches d x.home ≡ true = sym (closed_over o.catches 0 d x.home) ∙ w in
          ⊎_elim
          (λ (a : (d ≡ 0) × (j ≡ record t.0 { open_still = false })). absurd (not_both (subst (λ z. is_over o.catches z x.home ≡ true) a.0 w') (nobody i x e l)))
          (λ (a : (d ≢ 0) × (j ≡ t.0)). ap (λ (z : Catch). z.open_still) a.1 ∙ s.empty.closed i x d t.0 e l w' t.1)
          t.2;
      fresh = λ i x d e a m y f. closed_over o.catches 0 d y.home ∙ s.empty.fresh i x d e a m y f;
    };
    aims = record {
      dying = λ i x d e a m j y f l. closed_over o.catches 0 d y.home ∙ s.aims.dying i x d e a m j y f l;
      leaving = λ i x d w e a j y f l. closed_over o.catches 0 d y.home ∙ s.aims.leaving i x d w e a j y f l;
      aims = s.aims.aims;
      floors = s.aims.floors;
      low_floors = λ i x e. subst (λ z. LowFloors z x.thread.marks) (sym (closed_length o.catches 0)) (s.aims.low_floors i x e);
    };
    work = s.work;
    protects = protects_kept o shut s.protects refl (λ p r e. (r, e, holds_self p r)) (λ p r e. (r, e, holds_self p r)) (record { begun = λ u. refl; finished = λ u. refl; protector = λ u. refl });
    servers = servers_kept o (closed o.catches 0) o.procs o.protects o.events (λ p r e. (r, e, kin_self p r)) (λ p r e. (r, e, kin_self p r)) s.servers (record { sends = λ k. refl; takes = λ k. refl; replies = λ k. refl });
    futures = futures_kept o (closed o.catches 0) o.procs o.protects o.events (λ p r e. (r, e, kin_self p r)) (λ p r e. (r, e, kin_self p r)) s.futures;
    told = point_told o shut s.told refl (closed_length o.catches 0) (λ p r e. (r, e, told_self p r))
        (λ d j e. let t = closed_cases o.catches 0 d j e in (t.0, t.1, ⊎_elim (λ u. ap (λ (z : Catch). z.owner) u.1) (λ u. ap (λ (z : Catch). z.owner) u.1) t.2, ⊎_elim (λ u. ap (λ (z : Catch). z.enclosing) u.1) (λ u. ap (λ (z : Catch). z.enclosing) u.1) t.2))
        (record { opens = record { opened = λ c t. t; homes = λ t. t }; home = λ p. refl; catch = λ c. refl; killed = λ p. refl; ended = λ p. refl });
  }

no_holds : (stage : Stage) (u : ℕ) (b : Base) → Holds stage u (base_mark b ∷ []) → ⊥
no_holds waiting u b h = h
no_holds running u b h = h

none_hold : (stage : Stage) (u : ℕ) → Holds stage u [] → ⊥
none_hold waiting u h = h
none_hold running u h = h

change_same : {A : Type 0} (xs : List A) (n : ℕ) → change (λ s. s) xs n ≡ xs
change_same [] n = refl
change_same (x ∷ xs) zero = refl
change_same (x ∷ xs) (suc n) = ap (λ z. x ∷ z) (change_same xs n)

changed_same : {A : Type 0} (xs : List A) (n : ℕ) → change_numbered (λ s. s) xs n ≡ xs
changed_same xs zero = refl
changed_same xs (suc n) = change_same xs n

module _ (o : Outline) (s : SaneOutline o) (p : ℕ) (q : Seen) (at : numbered o.procs p ≡ Some q) (going : q.ended ≡ false) (b : Base) (is : q.thread.marks ≡ base_mark b ∷ []) where
  abbrev pub over_now : Seen
  over_now = record q { thread = record { marks = []; doing = works }; ended = true }

  abbrev r : Seen
  r = over_now

  not_live : is_live r ≡ true → ⊥
  not_live e = not_both e refl

  alike : Alike o.catches p q r
  alike = record {
    home = refl;
    live = λ l. absurd (not_live l);
    chained = λ k. tt;
    stands = λ c t. subst (Stands c) is t;
    stood = λ c t. absurd t;
    above = λ c t. absurd t;
    bare = λ e f. refl;
  }

  holds : HoldsSame p q r
  holds = record {
    holds = λ stage u h. absurd (no_holds stage u b (subst (Holds stage u) is h));
    held = λ stage u h. absurd (none_hold stage u h);
    rising = λ h. tt;
  }

  pub own_aim : (c : ℕ) (x : Word) → q.aim ≡ to c x → ⊥
  own_aim c x e = subst (λ a. OwnAim [] a) e (subst (Aims q.aim []) is (s.aims.aims p q at))

  module _ (ss : List Server) (fs : List Future) (es : List Event) where
    abbrev ended : Outline
    ended = record { catches = o.catches; procs = put o.procs p r; servers = ss; futures = fs; protects = o.protects; events = es }

    each_alike : Each (Alike o.catches) o.procs (put o.procs p r)
    each_alike = each_put (Alike o.catches) o.procs p q r at alike (alike_self o.catches)

    nobody : (c : ℕ) → Nobody o c → Nobody ended c
    nobody = nobody_kept o (put o.procs p r) ss fs o.protects es each_alike

    -- the end of this process is told, and no more of what lines give
    pub record ToldEnd : Type 0 where
      pub home : (i : ℕ) → home_told i es ≡ home_told i o.events
      pub catch : (c : ℕ) → catch_told c es ≡ catch_told c o.events
      pub killed : (i : ℕ) → is_killed i es ≡ is_killed i o.events
      pub ended : (i : ℕ) → has_ended i es ≡ (i == p || has_ended i o.events)

    pub ended_kept : ServersSane ended → FuturesSane ended → QuietOpens o.events es → QuietProtects o.events es → ToldEnd → SaneOutline ended
    ended_kept servers futures homes protects end = record {
      homes = homes_kept o ended s.homes refl (each_put SameHome o.procs p q r at (record { home = refl; kind = refl }) home_self) homes (λ c j e. (j, e, refl, refl));
      catches = catches_kept o (put o.procs p r) ss fs o.protects es each_alike s.catches (all_put (Alike o.catches) o.procs p q r at alike (alike_self o.catches));
      empty = empty_kept o (put o.procs p r) ss fs o.protects es each_alike s.empty;
      aims = record {
        dying = λ i x c e d m. nobody c (⊎_elim
            (λ (t : (i ≡ p) × (x ≡ r)). absurd (subst (λ (z : Seen). Stands c z.thread.marks) t.1 m))
            (λ (t : (i ≢ p) × (numbered o.procs i ≡ Some x)). s.aims.dying i x c t.1 d m)
            (put_cases o.procs p i r x e));
        leaving = λ i x c w e d. nobody c (⊎_elim
            (λ (t : (i ≡ p) × (x ≡ r)). absurd (own_aim c w (ap (λ (z : Seen). z.aim) (sym t.1) ∙ d)))
            (λ (t : (i ≢ p) × (numbered o.procs i ≡ Some x)). s.aims.leaving i x c w t.1 d)
            (put_cases o.procs p i r x e));
        aims = λ i x e. ⊎_elim
            (λ (t : (i ≡ p) × (x ≡ r)). subst (λ (z : Seen). Aims z.aim [] z.thread.marks) (sym t.1) (subst (Aims q.aim []) is (s.aims.aims p q at)))
            (λ (t : (i ≢ p) × (numbered o.procs i ≡ Some x)). s.aims.aims i x t.1)
            (put_cases o.procs p i r x e);
        floors = λ i x e. ⊎_elim
            (λ (t : (i ≡ p) × (x ≡ r)). subst (λ (z : Seen). Floors z.home [] z.thread.marks) (sym t.1) tt)
            (λ (t : (i ≢ p) × (numbered o.procs i ≡ Some x)). s.aims.floors i x t.1)
            (put_cases o.procs p i r x e);
        low_floors = λ i x e. ⊎_elim
            (λ (t : (i ≡ p) × (x ≡ r)). subst (λ (z : Seen). LowFloors (length o.catches) z.thread.marks) (sym t.1) tt)
            (λ (t : (i ≢ p) × (numbered o.procs i ≡ Some x)). s.aims.low_floors i x t.1)
            (put_cases o.procs p i r x e);
      };
      work = work_put o.procs p r s.work (λ h. absurd (not_both refl h));
      protects = protects_kept o ended s.protects refl (each_put HoldsSame o.procs p q r at holds holds_self) (all_put HoldsSame o.procs p q r at holds holds_self) protects;
      servers = servers;
      futures = futures;
      told = record {
        homes = λ i x e l. end.home i ∙ (⊎_elim
            (λ (t : (i ≡ p) × (x ≡ r)). subst (λ (z : Seen). home_told i o.events ≡ Some z.home) (sym t.1) (s.told.homes i q (subst (λ z. numbered o.procs z ≡ Some q) (sym t.0) at) l))
            (λ (t : (i ≢ p) × (numbered o.procs i ≡ Some x)). s.told.homes i x t.1 l)
            (put_cases o.procs p i r x e));
        catches = λ c k e l. end.catch c ∙ s.told.catches c k e l;
        killed = λ i x e. end.killed i ∙ (⊎_elim
            (λ (t : (i ≡ p) × (x ≡ r)). subst (λ (z : Seen). is_killed i o.events ≡ is_die z.aim) (sym t.1) (s.told.killed i q (subst (λ z. numbered o.procs z ≡ Some q) (sym t.0) at)))
            (λ (t : (i ≢ p) × (numbered o.procs i ≡ Some x)). s.told.killed i x t.1)
            (put_cases o.procs p i r x e));
        ended = λ i x e. end.ended i ∙ (⊎_elim
            (λ (t : (i ≡ p) × (x ≡ r)). same_test i p (has_ended i o.events) t.0 ∙ ap (λ (z : Seen). z.ended) (sym t.1))
            (λ (t : (i ≢ p) × (numbered o.procs i ≡ Some x)). apart_or i p (has_ended i o.events) t.0 ∙ s.told.ended i x t.1)
            (put_cases o.procs p i r x e));
        no_home = λ i h. end.home i ∙ s.told.no_home i (⊎_elim (λ l. inl l) (λ l. inr (let m = put_length o.procs p r in omega (arith, l, m))) h);
        no_process = λ i h.
            let m = put_length o.procs p r in
            let low = (numbered_low o.procs p q at).1 in
            let t = s.told.no_process i (omega (arith, h, m)) in
            (end.killed i ∙ t.0, end.ended i ∙ (apart_or i p (has_ended i o.events) (λ z. omega (arith, h, m, low, z)) ∙ t.1));
        no_catch = λ c h. end.catch c ∙ s.told.no_catch c h;
      };
    }

  child_server : {f k : ℕ} → child f ≡ serving k → ⊥
  child_server e = absurd cc

  main_server : {k : ℕ} → main ≡ serving k → ⊥
  main_server e = absurd cc

  main_child : {f : ℕ} → main ≡ child f → ⊥
  main_child e = absurd cc

  -- a child gives its value
  pub row_child_ends : (f : ℕ) → q.kind ≡ child f → is_die q.aim ≡ false → (x : Word) (text : Option (List ℕ)) → SaneOutline (record o { procs = put o.procs p r; futures = change_numbered (λ s. valued x) o.futures f; events = end_ok p text ∷ o.events })
  row_child_ends f kind alive x text =
      ended_kept o.servers (change_numbered (λ s. valued x) o.futures f) (end_ok p text ∷ o.events)
      (strangers_kept o p q r at refl o.catches (change_numbered (λ s. valued x) o.futures f) o.protects (end_ok p text ∷ o.events) (λ k e. child_server (sym kind ∙ e)) s.servers (record { sends = λ k. refl; takes = λ k. refl; replies = λ k. refl }))
      (child_kept o p q r at refl o.catches o.protects (end_ok p text ∷ o.events) f kind (λ s. valued x) s.futures (λ a g. subst (λ z. ChildState z true (valued x)) (sym alive) (x, refl)))
      (record { opened = λ c t. t; homes = λ t. t }) (record { begun = λ u. refl; finished = λ u. refl; protector = λ u. refl }) (record { home = λ i. refl; catch = λ c. refl; killed = λ i. refl; ended = λ i. refl })

  -- a killed process has unwound
  module _ (dies : q.aim ≡ die) where
    abbrev killed_events : List Event
    killed_events = end_killed p ∷ o.events

    abbrev killed_end : Outline
    killed_end = record o { procs = put o.procs p r; events = end_killed p ∷ o.events }

    dead_child : (f : ℕ) → q.kind ≡ child f → FuturesSane killed_end
    dead_child f kind =
        subst (λ z. FuturesSane (record o { procs = put o.procs p r; futures = z; events = end_killed p ∷ o.events })) (changed_same o.futures f)
        (child_kept o p q r at refl o.catches o.protects (end_killed p ∷ o.events) f kind (λ s. s) s.futures
        (λ a g. subst (λ z. ChildState (is_die z) true a) (sym dies) (subst (λ z. ChildState (is_die z) q.ended a) dies g)))

    main_futures : q.kind ≡ main → FuturesSane killed_end
    main_futures kind = record {
      reasons = s.futures.reasons;
      all = s.futures.all;
      children = λ i x f e k. ⊎_elim
          (λ (t : (i ≡ p) × (x ≡ r)). absurd (main_child (sym kind ∙ (ap (λ (z : Seen). z.kind) (sym t.1) ∙ k))))
          (λ (t : (i ≢ p) × (numbered o.procs i ≡ Some x)). let c = s.futures.children i x f t.1 k in record { reason_is = c.reason_is; state = c.state; state_is = c.state_is; good = c.good })
          (put_cases o.procs p i r x e);
      calls = λ k x c f i e g h. let t = s.futures.calls k x c f i e g h in record { reason_is = t.reason_is; state = t.state; state_is = t.state_is; good = t.good };
      parameters = λ k x f e a. let t = s.futures.parameters k x f e a in record { reason_is = t.reason_is; state = t.state; state_is = t.state_is; good = t.good };
    }

    is_dead : is_live q ≡ false
    is_dead = dead_is q.ended
      where
        dead_is : (b : Bool) → (not b && not (is_die q.aim)) ≡ false
        dead_is true = refl
        dead_is false = ap (λ z. not (is_die z)) dies

    by_kind : (kind : Kind) → q.kind ≡ kind → SaneOutline killed_end
    by_kind main e =
        ended_kept o.servers o.futures killed_events
        (strangers_kept o p q r at refl o.catches o.futures o.protects killed_events (λ k f. main_server (sym e ∙ f)) s.servers (record { sends = λ k. refl; takes = λ k. refl; replies = λ k. refl }))
        (main_futures e)
        (record { opened = λ c t. t; homes = λ t. t }) (record { begun = λ u. refl; finished = λ u. refl; protector = λ u. refl }) (record { home = λ i. refl; catch = λ c. refl; killed = λ i. refl; ended = λ i. refl })
    by_kind (child f) e =
        ended_kept o.servers o.futures killed_events
        (strangers_kept o p q r at refl o.catches o.futures o.protects killed_events (λ k g. child_server (sym e ∙ g)) s.servers (record { sends = λ k. refl; takes = λ k. refl; replies = λ k. refl }))
        (dead_child f e)
        (record { opened = λ c t. t; homes = λ t. t }) (record { begun = λ u. refl; finished = λ u. refl; protector = λ u. refl }) (record { home = λ i. refl; catch = λ c. refl; killed = λ i. refl; ended = λ i. refl })
    by_kind (serving k) e =
        let t = s.servers.serves p q k at e in
        let a : Server = t.0 in
        subst (λ z. SaneOutline (record o { procs = put o.procs p r; servers = z; events = end_killed p ∷ o.events })) (put_self o.servers k a t.1)
        (ended_kept (put o.servers k a) o.futures killed_events
        (server_kept o p q r at refl k a a e t.1 t.2 t.2 o.catches o.futures o.protects killed_events s.servers (λ j h. (refl, (refl, refl)))
        (let c = s.servers.calls k a t.1 in
        record {
          calls = record { sent = c.sent; progress = c.progress; queued = c.queued; all = c.all };
          resting = λ l. absurd (not_live l);
          prompt = λ l. absurd (not_live l);
          fitting = λ d i g. s.servers.fitting k a d i t.1 g;
          full = s.servers.full k a t.1;
          plain = s.servers.plain k a t.1;
          dead = s.servers.dead k a q t.1 (subst (λ i. numbered o.procs i ≡ Some q) (sym t.2) at) ∙ ap not is_dead;
          killed = λ g. dies;
        }))
        (answers_kept o p q r at refl k a a e t.1 t.2 t.2 o.catches o.futures o.protects killed_events s.futures s.futures.reasons s.futures.all
        (λ f reason state g h i. (g, h))
        (λ c f i g h. let u = s.futures.calls k a c f i t.1 g h in record { reason_is = u.reason_is; state = u.state; state_is = u.state_is; good = u.good })
        (λ f g. let u = s.futures.parameters k a f t.1 g in record { reason_is = u.reason_is; state = u.state; state_is = u.state_is; good = u.good }))
        (record { opened = λ c t. t; homes = λ t. t }) (record { begun = λ u. refl; finished = λ u. refl; protector = λ u. refl }) (record { home = λ i. refl; catch = λ c. refl; killed = λ i. refl; ended = λ i. refl }))

    pub row_killed_ends : SaneOutline killed_end
    row_killed_ends = by_kind q.kind refl

  -- process 1 ends, and nobody else is live within catch 0
  pub row_last : q.kind ≡ main → ((i : ℕ) (x : Seen) → numbered o.procs i ≡ Some x → is_live x ≡ true → is_within o.catches x 0 ≡ true → i ≡ p) → SaneOutline (record o { catches = closed o.catches 0; procs = put o.procs p r; events = end_ok p None ∷ o.events })
  row_last kind alone = shut_kept v sane nobody_left
    where
      v : Outline
      v = record o { procs = put o.procs p r; events = end_ok p None ∷ o.events }

      futures : FuturesSane v
      futures = record {
        reasons = s.futures.reasons;
        all = s.futures.all;
        children = λ i x f e k. ⊎_elim
            (λ (t : (i ≡ p) × (x ≡ r)). absurd (main_child (sym kind ∙ (ap (λ (z : Seen). z.kind) (sym t.1) ∙ k))))
            (λ (t : (i ≢ p) × (numbered o.procs i ≡ Some x)). let c = s.futures.children i x f t.1 k in record { reason_is = c.reason_is; state = c.state; state_is = c.state_is; good = c.good })
            (put_cases o.procs p i r x e);
        calls = λ k x c f i e g h. let t = s.futures.calls k x c f i e g h in record { reason_is = t.reason_is; state = t.state; state_is = t.state_is; good = t.good };
        parameters = λ k x f e a. let t = s.futures.parameters k x f e a in record { reason_is = t.reason_is; state = t.state; state_is = t.state_is; good = t.good };
      }

      sane : SaneOutline v
      sane =
          ended_kept o.servers o.futures (end_ok p None ∷ o.events)
          (strangers_kept o p q r at refl o.catches o.futures o.protects (end_ok p None ∷ o.events) (λ k f. main_server (sym kind ∙ f)) s.servers (record { sends = λ k. refl; takes = λ k. refl; replies = λ k. refl }))
          futures
          (record { opened = λ c t. t; homes = λ t. t }) (record { begun = λ u. refl; finished = λ u. refl; protector = λ u. refl }) (record { home = λ i. refl; catch = λ c. refl; killed = λ i. refl; ended = λ i. refl })

      nobody_left : Nobody v 0
      nobody_left i x e l = ⊎_elim
          (λ (t : (i ≡ p) × (x ≡ r)). absurd (not_live (ap (λ (z : Seen). is_live z) (sym t.1) ∙ l)))
          (λ (t : (i ≢ p) × (numbered o.procs i ≡ Some x)). ⊎_elim (λ (u : is_over o.catches 0 x.home ≡ true). absurd (t.0 (alone i x t.1 l u))) (λ u. u) (cases (is_over o.catches 0 x.home)))
          (put_cases o.procs p i r x e)
