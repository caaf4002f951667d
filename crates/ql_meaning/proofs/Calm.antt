-- Rows that change one process, and leave calls and futures alone.
use Rattle.std.proofs.Common.{◌≡◌, ◌≢◌, ◌⊎◌, ℕ, suc, ◌<◌, ◌≤◌, ◌==◌, Bool, true, false, List, [], ◌∷◌, length, Some, refl, sym, ap, ◌∙◌, subst, ⊎_elim, inl, inr, arith, eq-eqb, ne_eqb}
use Rattle.ql_world.specs.declared.word.Word.{Word}
use Rattle.ql_world.specs.declared.event.Event.{Event}
use Rattle.ql_world.specs.declared.event.Event.TheVariants.{Opened as opened}
use Rattle.ql_world.specs.World.{numbered, catch_at, closed}
use Rattle.ql_world.specs.declared.world.Aim.TheVariants.{To as to, Die as die}
use Rattle.ql_world.specs.declared.world.Catch.{Catch}
use Rattle.ql_world.specs.Within.{is_over, is_live, is_within, is_die}
use Rattle.ql_world.specs.Idle.{in_cleanup}
use Rattle.ql_meaning.specs.Sane.{Mark, catch_mark, works, rests, Seen, Outline, innermost_or, Stands, Chained, cleanups_of, StandsAbove, Aims, Floors, LowFloors, WorkSane, Stage, waiting, running, Holds, Rising, ProtectsSane, SaneOutline}
use Rattle.ql_meaning.proofs.Lists.{not_both, same_or, one, put, put_at, put_else, put_cases, put_length}
use Rattle.ql_meaning.proofs.Over.{Falling, catch_older, catch_newest, catch_low, over_older, over_le, closed_length, closed_over, closed_cases}
use Rattle.ql_meaning.proofs.Marks.{chained_open, innermost_low, stands_under, chained_older, chained_closed, aims_more, floors_less, low_more}
use Rattle.ql_meaning.proofs.Kept.{Each, each_put, all_put, QuietHomes, QuietProtects, QuietCalls, SameHome, home_self, homes_kept, Alike, alike_self, catches_kept, empty_kept, nobody_kept, HoldsSame, holds_self, protects_kept, Kin, kin_self, servers_kept, futures_kept, work_put, SameTold, told_self, point_told}

pub deny : (b : Bool) → (b ≡ true → ⊥) → b ≡ false
deny true n = absurd (n refl)
deny false n = refl

pub past_catch : (stage : Stage) (u c : ℕ) (ms : List Mark) → Holds stage u (catch_mark c ∷ ms) → Holds stage u ms
past_catch waiting u c ms h = h
past_catch running u c ms h = h

pub before_catch : (stage : Stage) (u c : ℕ) (ms : List Mark) → Holds stage u ms → Holds stage u (catch_mark c ∷ ms)
before_catch waiting u c ms h = h
before_catch running u c ms h = h

-- no process is live within catch c
abbrev pub Nobody : Outline → ℕ → Type 0
Nobody o c = (i : ℕ) (x : Seen) → numbered o.procs i ≡ Some x → is_live x ≡ true → is_within o.catches x c ≡ false

-- process r is as sane among these catches as q
pub record Calm (o : Outline) (ks : List Catch) (p : ℕ) (q r : Seen) : Type 0 where
  pub alike : Alike ks p q r
  pub kin : Kin p q r
  pub going : r.ended ≡ false
  pub dying : r.aim ≡ die → q.aim ≡ die
  pub leaving : (c : ℕ) (x : Word) → r.aim ≡ to c x → (q.aim ≡ to c x) ⊎ Nobody o c
  pub aims : Aims r.aim [] r.thread.marks
  pub floors : Floors r.home [] r.thread.marks
  pub low : LowFloors (length o.catches) r.thread.marks
  pub work : WorkSane r

same_home : (ks : List Catch) (p : ℕ) (q r : Seen) → Alike ks p q r → Kin p q r → SameHome p q r
same_home ks p q r a k = record { home = a.home; kind = k.kind }

module _ (o : Outline) (s : SaneOutline o) (p : ℕ) (q : Seen) (at : numbered o.procs p ≡ Some q) where
  -- the catches stay

  module _ (r : Seen) (calm : Calm o o.catches p q r) (n : ℕ) (es : List Event) where
    abbrev calmed : Outline
    calmed = record o { procs = put o.procs p r; protects = n; events = es }

    each_alike : Each (Alike o.catches) o.procs (put o.procs p r)
    each_alike = each_put (Alike o.catches) o.procs p q r at calm.alike (alike_self o.catches)

    pub calm_kept : QuietHomes o.events es → QuietCalls o.events es → ProtectsSane calmed → SaneOutline calmed
    calm_kept quiet calls protects = record {
      homes = homes_kept o calmed s.homes refl (each_put SameHome o.procs p q r at (same_home o.catches p q r calm.alike calm.kin) home_self) quiet.opens (λ c j e. (j, e, refl, refl));
      catches = catches_kept o (put o.procs p r) o.servers o.futures n es each_alike s.catches (all_put (Alike o.catches) o.procs p q r at calm.alike (alike_self o.catches));
      empty = empty_kept o (put o.procs p r) o.servers o.futures n es each_alike s.empty;
      aims = record {
        dying = λ i x c e d m. nobody c (⊎_elim
            (λ (t : (i ≡ p) × (x ≡ r)).
            s.aims.dying p q c at (calm.dying (ap (λ (z : Seen). z.aim) (sym t.1) ∙ d)) (calm.alike.stood c (subst (λ (z : Seen). Stands c z.thread.marks) t.1 m)))
            (λ (t : (i ≢ p) × (numbered o.procs i ≡ Some x)). s.aims.dying i x c t.1 d m)
            (put_cases o.procs p i r x e));
        leaving = λ i x c w e d. nobody c (⊎_elim
            (λ (t : (i ≡ p) × (x ≡ r)).
            ⊎_elim (λ (u : q.aim ≡ to c w). s.aims.leaving p q c w at u) (λ (u : Nobody o c). u) (calm.leaving c w (ap (λ (z : Seen). z.aim) (sym t.1) ∙ d)))
            (λ (t : (i ≢ p) × (numbered o.procs i ≡ Some x)). s.aims.leaving i x c w t.1 d)
            (put_cases o.procs p i r x e));
        aims = λ i x e. ⊎_elim
            (λ (t : (i ≡ p) × (x ≡ r)). subst (λ (z : Seen). Aims z.aim [] z.thread.marks) (sym t.1) calm.aims)
            (λ (t : (i ≢ p) × (numbered o.procs i ≡ Some x)). s.aims.aims i x t.1)
            (put_cases o.procs p i r x e);
        floors = λ i x e. ⊎_elim
            (λ (t : (i ≡ p) × (x ≡ r)). subst (λ (z : Seen). Floors z.home [] z.thread.marks) (sym t.1) calm.floors)
            (λ (t : (i ≢ p) × (numbered o.procs i ≡ Some x)). s.aims.floors i x t.1)
            (put_cases o.procs p i r x e);
        low_floors = λ i x e. ⊎_elim
            (λ (t : (i ≡ p) × (x ≡ r)). subst (λ (z : Seen). LowFloors (length o.catches) z.thread.marks) (sym t.1) calm.low)
            (λ (t : (i ≢ p) × (numbered o.procs i ≡ Some x)). s.aims.low_floors i x t.1)
            (put_cases o.procs p i r x e);
      };
      work = work_put o.procs p r s.work (λ h. calm.work);
      protects = protects;
      servers = servers_kept o o.catches (put o.procs p r) n es (each_put Kin o.procs p q r at calm.kin kin_self) (all_put Kin o.procs p q r at calm.kin kin_self) s.servers calls;
      futures = futures_kept o o.catches (put o.procs p r) n es (each_put Kin o.procs p q r at calm.kin kin_self) (all_put Kin o.procs p q r at calm.kin kin_self) s.futures;
      told = point_told o calmed s.told (put_length o.procs p r) refl (each_put SameTold o.procs p q r at (record { home = calm.alike.home; dying = calm.kin.dying; ended = calm.kin.ended }) told_self) (λ c j e. (j, e, refl, refl)) quiet;
    }
      where
        nobody : (c : ℕ) → Nobody o c → Nobody calmed c
        nobody = nobody_kept o (put o.procs p r) o.servers o.futures n es each_alike

    pub quiet_kept : n ≡ o.protects → HoldsSame p q r → QuietHomes o.events es → QuietProtects o.events es → QuietCalls o.events es → SaneOutline calmed
    quiet_kept same holds homes protects calls =
        calm_kept homes calls (protects_kept o calmed s.protects same (each_put HoldsSame o.procs p q r at holds holds_self) (all_put HoldsSame o.procs p q r at holds holds_self) protects)

  -- a catch is left

  module _ (c : ℕ) (ms : List Mark) (is : q.thread.marks ≡ catch_mark c ∷ ms) where
    abbrev pub popped : Seen
    popped = record q { thread = record { marks = ms; doing = works } }

    mine : Chained o.catches p q.home (catch_mark c ∷ ms)
    mine = subst (Chained o.catches p q.home) is (s.catches.chained p q at)

    not_below : Stands c ms → ⊥
    not_below t =
        let f = s.homes.falling in
        let a = stands_under o.catches p q.home c ms f mine.1 t in
        let k = mine.0 in
        let b : innermost_or q.home ms < c = subst (λ z. z < c) k.enclosing (f c k.kept k.is k.inner) in
        absurd (omega (arith, a, b))

    -- it stands on no other frames
    not_else : (i : ℕ) (x : Seen) → i ≢ p → numbered o.procs i ≡ Some x → Stands c x.thread.marks → ⊥
    not_else i x n e t =
        let k = chained_open o.catches i x.home c x.thread.marks t (s.catches.chained i x e) in
        let same : k.1.kept ≡ mine.0.kept = one k.1.is mine.0.is in
        n (sym k.1.owner ∙ ap (λ (z : Catch). z.owner) same ∙ mine.0.owner)

    module _ (r : Seen) (calm : Calm o (closed o.catches c) p popped r) (es : List Event) where
      abbrev left : Outline
      left = record o { catches = closed o.catches c; procs = put o.procs p r; events = es }

      abbrev Left : ℕ → Seen → Seen → Type 0
      Left i x y = (y.home ≡ x.home) × ((is_live y ≡ true → is_live x ≡ true) × (((d : ℕ) → Stands d y.thread.marks → Stands d x.thread.marks) × ((d : ℕ) → StandsAbove d y.thread.marks → StandsAbove d x.thread.marks)))

      each_left : Each Left o.procs (put o.procs p r)
      each_left = each_put Left o.procs p q r at
          (calm.alike.home, (calm.alike.live, ((λ d t. subst (Stands d) (sym is) (inr (calm.alike.stood d t))), (λ d t. subst (StandsAbove d) (sym is) (inr (calm.alike.above d t))))))
          (λ i x. (refl, ((λ l. l), ((λ d t. t), (λ d t. t)))))

      nobody : (d : ℕ) → Nobody o d → Nobody left d
      nobody d n i x e l = let t = each_left i x e in closed_over o.catches c d x.home ∙ subst (λ z. is_over o.catches d z ≡ false) (sym t.2.0) (n i t.0 t.1 (t.2.1.0 l))

      kin : Kin p q r
      kin = record { kind = calm.kin.kind; ended = calm.kin.ended; dying = calm.kin.dying; resting = λ d. absurd (no_rest (calm.kin.resting d)) }
        where
          no_rest : works ≡ rests → ⊥
          no_rest z = absurd cc

      pub left_kept : Nobody o c → HoldsSame p popped r → QuietHomes o.events es → QuietProtects o.events es → QuietCalls o.events es → SaneOutline left
      left_kept none holds quiet protects calls = record {
        homes = homes_kept o left s.homes (closed_length o.catches c) (each_put SameHome o.procs p q r at (record { home = calm.alike.home; kind = calm.kin.kind }) home_self) quiet.opens
            (λ d j e. let t = closed_cases o.catches c d j e in (t.0, t.1, ⊎_elim (λ u. ap (λ (z : Catch). z.enclosing) u.1) (λ u. ap (λ (z : Catch). z.enclosing) u.1) t.2, ⊎_elim (λ u. ap (λ (z : Catch). z.tag) u.1) (λ u. ap (λ (z : Catch). z.tag) u.1) t.2));
        catches = record {
          chained = λ i x e. ⊎_elim
              (λ (t : (i ≡ p) × (x ≡ r)). subst (λ (z : ℕ × Seen). Chained (closed o.catches c) z.0 z.1.home z.1.thread.marks) (λ z. (sym t.0 z, sym t.1 z)) (calm.alike.chained (chained_closed o.catches p q.home c ms not_below mine.1)))
              (λ (t : (i ≢ p) × (numbered o.procs i ≡ Some x)). chained_closed o.catches i x.home c x.thread.marks (not_else i x t.0 t.1) (s.catches.chained i x t.1))
              (put_cases o.procs p i r x e);
          stands = λ d j e h l.
              let t = closed_cases o.catches c d j e in
              ⊎_elim
              (λ (u : (d ≡ c) × (j ≡ record t.0 { open_still = false })). absurd (not_both h (ap (λ (z : Catch). z.open_still) u.1)))
              (λ (u : (d ≢ c) × (j ≡ t.0)).
              let k = s.catches.stands d t.0 t.1 (ap (λ (z : Catch). z.open_still) (sym u.1) ∙ h) l in
              subst (λ (z : Catch). (y : Seen) × (numbered (put o.procs p r) z.owner ≡ Some y) × Stands d y.thread.marks) (sym u.1)
              (⊎_elim
              (λ (a : t.0.owner ≡ p).
              let same : k.0 ≡ q = one k.1 (subst (λ z. numbered o.procs z ≡ Some q) (sym a) at) in
              let on : Stands d (catch_mark c ∷ ms) = subst (Stands d) is (subst (λ (z : Seen). Stands d z.thread.marks) same k.2) in
              (r, subst (λ z. numbered (put o.procs p r) z ≡ Some r) (sym a) (put_at o.procs p q r at), calm.alike.stands d (⊎_elim (λ v. absurd (u.0 v)) (λ v. v) on)))
              (λ (a : ((t.0.owner == p) ≡ false) × (t.0.owner ≢ p)). (k.0, put_else o.procs p t.0.owner r a.1 ∙ k.1, k.2))
              (same_or t.0.owner p)))
              t.2;
          bare = λ i x e h. ⊎_elim
              (λ (t : (i ≡ p) × (x ≡ r)). absurd (not_both (ap (λ (z : Seen). z.ended) (sym t.1) ∙ h) calm.going))
              (λ (t : (i ≢ p) × (numbered o.procs i ≡ Some x)). s.catches.bare i x t.1 h)
              (put_cases o.procs p i r x e);
        };
        empty = record {
          closed = λ i x d j e l w k.
              let t = closed_cases o.catches c d j k in
              let u = each_left i x e in
              let w' : is_over o.catches d u.0.home ≡ true = subst (λ z. is_over o.catches d z ≡ true) u.2.0 (sym (closed_over o.catches c d x.home) ∙ w) in
              ⊎_elim
              (λ (a : (d ≡ c) × (j ≡ record t.0 { open_still = false })).
              absurd (not_both (subst (λ z. is_over o.catches z u.0.home ≡ true) a.0 w') (none i u.0 u.1 (u.2.1.0 l))))
              (λ (a : (d ≢ c) × (j ≡ t.0)). ap (λ (z : Catch). z.open_still) a.1 ∙ s.empty.closed i u.0 d t.0 u.1 (u.2.1.0 l) w' t.1)
              t.2;
          fresh = λ i x d e a m y f.
              let t = each_left i x e in
              let u = each_left m y f in
              closed_over o.catches c d y.home ∙ subst (λ z. is_over o.catches d z ≡ false) (sym u.2.0) (s.empty.fresh i t.0 d t.1 (t.2.1.1.1 d a) m u.0 u.1);
        };
        aims = record {
          dying = λ i x d e a m. nobody d (⊎_elim
              (λ (t : (i ≡ p) × (x ≡ r)).
              s.aims.dying p q d at (calm.dying (ap (λ (z : Seen). z.aim) (sym t.1) ∙ a)) (subst (Stands d) (sym is) (inr (calm.alike.stood d (subst (λ (z : Seen). Stands d z.thread.marks) t.1 m)))))
              (λ (t : (i ≢ p) × (numbered o.procs i ≡ Some x)). s.aims.dying i x d t.1 a m)
              (put_cases o.procs p i r x e));
          leaving = λ i x d w e a. nobody d (⊎_elim
              (λ (t : (i ≡ p) × (x ≡ r)).
              ⊎_elim (λ (u : q.aim ≡ to d w). s.aims.leaving p q d w at u) (λ (u : Nobody o d). u) (calm.leaving d w (ap (λ (z : Seen). z.aim) (sym t.1) ∙ a)))
              (λ (t : (i ≢ p) × (numbered o.procs i ≡ Some x)). s.aims.leaving i x d w t.1 a)
              (put_cases o.procs p i r x e));
          aims = λ i x e. ⊎_elim
              (λ (t : (i ≡ p) × (x ≡ r)). subst (λ (z : Seen). Aims z.aim [] z.thread.marks) (sym t.1) calm.aims)
              (λ (t : (i ≢ p) × (numbered o.procs i ≡ Some x)). s.aims.aims i x t.1)
              (put_cases o.procs p i r x e);
          floors = λ i x e. ⊎_elim
              (λ (t : (i ≡ p) × (x ≡ r)). subst (λ (z : Seen). Floors z.home [] z.thread.marks) (sym t.1) calm.floors)
              (λ (t : (i ≢ p) × (numbered o.procs i ≡ Some x)). s.aims.floors i x t.1)
              (put_cases o.procs p i r x e);
          low_floors = λ i x e. subst (λ z. LowFloors z x.thread.marks) (sym (closed_length o.catches c)) (⊎_elim
              (λ (t : (i ≡ p) × (x ≡ r)). subst (λ (z : Seen). LowFloors (length o.catches) z.thread.marks) (sym t.1) calm.low)
              (λ (t : (i ≢ p) × (numbered o.procs i ≡ Some x)). s.aims.low_floors i x t.1)
              (put_cases o.procs p i r x e));
        };
        work = work_put o.procs p r s.work (λ h. calm.work);
        protects = protects_kept o left s.protects refl (each_put HoldsSame o.procs p q r at held holds_self) (all_put HoldsSame o.procs p q r at held holds_self) protects;
        servers = servers_kept o (closed o.catches c) (put o.procs p r) o.protects es (each_put Kin o.procs p q r at kin kin_self) (all_put Kin o.procs p q r at kin kin_self) s.servers calls;
        futures = futures_kept o (closed o.catches c) (put o.procs p r) o.protects es (each_put Kin o.procs p q r at kin kin_self) (all_put Kin o.procs p q r at kin kin_self) s.futures;
        told = point_told o left s.told (put_length o.procs p r) (closed_length o.catches c) (each_put SameTold o.procs p q r at (record { home = calm.alike.home; dying = calm.kin.dying; ended = calm.kin.ended }) told_self)
            (λ d j e. let t = closed_cases o.catches c d j e in (t.0, t.1, ⊎_elim (λ u. ap (λ (z : Catch). z.owner) u.1) (λ u. ap (λ (z : Catch). z.owner) u.1) t.2, ⊎_elim (λ u. ap (λ (z : Catch). z.enclosing) u.1) (λ u. ap (λ (z : Catch). z.enclosing) u.1) t.2)) quiet;
      }
        where
          held : HoldsSame p q r
          held = record {
            holds = λ stage u h. holds.holds stage u (past_catch stage u c ms (subst (Holds stage u) is h));
            held = λ stage u h. subst (Holds stage u) (sym is) (before_catch stage u c ms (holds.held stage u h));
            rising = λ h. holds.rising (subst Rising is h);
          }

  -- a catch is opened

  module _ (k : Catch) (r : Seen) (new : r ≡ record q { thread = record { marks = catch_mark (length o.catches) ∷ q.thread.marks; doing = works } }) (goes : q.ended ≡ false) (work : WorkSane r) (owner : k.owner ≡ p) (encloses : k.enclosing ≡ innermost_or q.home q.thread.marks) (fresh : k.open_still ≡ true) where
    abbrev n : ℕ
    n = length o.catches

    abbrev es : List Event
    es = opened p n (innermost_or q.home q.thread.marks) ∷ o.events

    abbrev grown : Outline
    grown = record o { catches = k ∷ o.catches; procs = put o.procs p r; events = es }

    old_falling : Falling o.catches
    old_falling = s.homes.falling

    around_low : innermost_or q.home q.thread.marks < n
    around_low = innermost_low o.catches p q.home q.thread.marks (s.homes.made p q at) (s.catches.chained p q at)

    over_old : (d : ℕ) (x : Seen) (i : ℕ) → numbered o.procs i ≡ Some x → is_over (k ∷ o.catches) d x.home ≡ is_over o.catches d x.home
    over_old d x i e = over_older k o.catches d x.home (s.homes.made i x e)

    nothing_within : (x : Seen) (i : ℕ) → numbered o.procs i ≡ Some x → is_over (k ∷ o.catches) n x.home ≡ false
    nothing_within x i e =
        deny _ (λ t.
        let a = over_le o.catches n x.home old_falling (sym (over_old n x i e) ∙ t) in
        let b = s.homes.made i x e in
        absurd (omega (arith, a, b)))

    abbrev Grown : ℕ → Seen → Seen → Type 0
    Grown i x y = (y.home ≡ x.home) × (is_live y ≡ is_live x)

    grows : Grown p q r
    grows = (ap (λ (z : Seen). z.home) new, ap (λ (z : Seen). is_live z) new)

    each_grown : Each Grown o.procs (put o.procs p r)
    each_grown = each_put Grown o.procs p q r at grows (λ i x. (refl, refl))

    in_line : Chained (k ∷ o.catches) p q.home (catch_mark n ∷ q.thread.marks)
    in_line = (
      record { kept = k; is = catch_newest k o.catches; open_still = fresh; owner = owner; enclosing = encloses; inner = (let l = around_low in omega (arith, l)) },
      chained_older o.catches p q.home k q.thread.marks (s.catches.chained p q at),
    )

    opener_kin : Kin p q r
    opener_kin = record { kind = ap (λ (z : Seen). z.kind) new; ended = ap (λ (z : Seen). z.ended) new; dying = ap (λ (z : Seen). is_die z.aim) new; resting = λ d. absurd (no_rest (sym (ap (λ (z : Seen). z.thread.doing) new) ∙ d)) }
      where
        no_rest : works ≡ rests → ⊥
        no_rest z = absurd cc

    opener_held : HoldsSame p q r
    opener_held = subst (HoldsSame p q) (sym new) (record { holds = λ stage u h. before_catch stage u n q.thread.marks h; held = λ stage u h. past_catch stage u n q.thread.marks h; rising = λ h. h })

    pub opens : SaneOutline grown
    opens = record {
      homes = record {
        falling = λ c j e l. ⊎_elim
            (λ (t : c ≡ n).
            let same : k ≡ j = one (catch_newest k o.catches) (subst (λ z. catch_at (k ∷ o.catches) z ≡ Some j) t e) in
            let low = around_low in
            subst (λ (z : Catch). z.enclosing < c) same (omega (arith, low, encloses, t)))
            (λ (t : ((c == n) ≡ false) × (c ≢ n)).
            let low = catch_low (k ∷ o.catches) c j e in let apart = t.1 in
            s.homes.falling c j (sym (catch_older k o.catches c (omega (arith, low))) ∙ e) l)
            (same_or c n);
        untagged = λ j e. let low = around_low in s.homes.untagged j (sym (catch_older k o.catches 0 (omega (arith, low))) ∙ e);
        made = λ i x e. let t = each_grown i x e in let l = s.homes.made i t.0 t.1 in let is = t.2.0 in omega (arith, l, is);
        opened = λ c l h. ⊎_elim (λ (t : c ≡ n). inl t) (λ (t : ((c == n) ≡ false) × (c ≢ n)). let apart = t.1 in inr (s.homes.opened c l (omega arith))) (same_or c n);
        in_time = s.homes.in_time;
        first = λ i x e h.
            ⊎_elim
            (λ (t : (i ≡ p) × (x ≡ r)). let f = s.homes.first p q at (sym opener_kin.kind ∙ (ap (λ (z : Seen). z.kind) (sym t.1) ∙ h)) in (t.0 ∙ f.0, ap (λ (z : Seen). z.home) t.1 ∙ (grows.0 ∙ f.1)))
            (λ (t : (i ≢ p) × (numbered o.procs i ≡ Some x)). s.homes.first i x t.1 h)
            (put_cases o.procs p i r x e);
      };
      catches = record {
        chained = λ i x e. ⊎_elim
            (λ (t : (i ≡ p) × (x ≡ r)). subst (λ (z : ℕ × Seen). Chained (k ∷ o.catches) z.0 z.1.home z.1.thread.marks) (λ z. (sym t.0 z, sym (t.1 ∙ new) z)) in_line)
            (λ (t : (i ≢ p) × (numbered o.procs i ≡ Some x)). chained_older o.catches i x.home k x.thread.marks (s.catches.chained i x t.1))
            (put_cases o.procs p i r x e);
        stands = λ c j e h l. ⊎_elim
            (λ (t : c ≡ n).
            let same : k ≡ j = one (catch_newest k o.catches) (subst (λ z. catch_at (k ∷ o.catches) z ≡ Some j) t e) in
            subst (λ (z : Catch). (y : Seen) × (numbered (put o.procs p r) z.owner ≡ Some y) × Stands c y.thread.marks) same
            (r, subst (λ z. numbered (put o.procs p r) z ≡ Some r) (sym owner) (put_at o.procs p q r at), subst (λ (z : Seen). Stands c z.thread.marks) (sym new) (inl t)))
            (λ (t : ((c == n) ≡ false) × (c ≢ n)).
            let low = catch_low (k ∷ o.catches) c j e in let apart = t.1 in
            let old = s.catches.stands c j (sym (catch_older k o.catches c (omega (arith, low))) ∙ e) h l in
            ⊎_elim
            (λ (a : j.owner ≡ p).
            let same : old.0 ≡ q = one old.1 (subst (λ z. numbered o.procs z ≡ Some q) (sym a) at) in
            (r, subst (λ z. numbered (put o.procs p r) z ≡ Some r) (sym a) (put_at o.procs p q r at), subst (λ (z : Seen). Stands c z.thread.marks) (sym new) (inr (subst (λ (z : Seen). Stands c z.thread.marks) same old.2))))
            (λ (a : ((j.owner == p) ≡ false) × (j.owner ≢ p)). (old.0, put_else o.procs p j.owner r a.1 ∙ old.1, old.2))
            (same_or j.owner p))
            (same_or c n);
        bare = λ i x e h. ⊎_elim
            (λ (t : (i ≡ p) × (x ≡ r)). absurd (not_both (ap (λ (z : Seen). z.ended) (sym (t.1 ∙ new)) ∙ h) goes))
            (λ (t : (i ≢ p) × (numbered o.procs i ≡ Some x)). s.catches.bare i x t.1 h)
            (put_cases o.procs p i r x e);
      };
      empty = record {
        closed = λ i x d j e l w h.
            let t = each_grown i x e in
            let w' : is_over o.catches d t.0.home ≡ true = sym (over_old d t.0 i t.1) ∙ subst (λ z. is_over (k ∷ o.catches) d z ≡ true) t.2.0 w in
            let low = over_le o.catches d t.0.home old_falling w' in
            let high = s.homes.made i t.0 t.1 in
            s.empty.closed i t.0 d j t.1 (sym t.2.1 ∙ l) w' (sym (catch_older k o.catches d (omega (arith, low, high))) ∙ h);
        fresh = λ i x d e a m y f.
            let u = each_grown m y f in
            subst (λ z. is_over (k ∷ o.catches) d z ≡ false) (sym u.2.0)
            (⊎_elim
            (λ (t : (i ≡ p) × (x ≡ r)).
            ⊎_elim
            (λ (b : (d ≡ n) × (in_cleanup (cleanups_of q.thread.marks) ≡ true)). subst (λ z. is_over (k ∷ o.catches) z u.0.home ≡ false) (sym b.0) (nothing_within u.0 m u.1))
            (λ (b : StandsAbove d q.thread.marks). over_old d u.0 m u.1 ∙ s.empty.fresh p q d at b m u.0 u.1)
            (subst (λ (z : Seen). StandsAbove d z.thread.marks) (t.1 ∙ new) a))
            (λ (t : (i ≢ p) × (numbered o.procs i ≡ Some x)). over_old d u.0 m u.1 ∙ s.empty.fresh i x d t.1 a m u.0 u.1)
            (put_cases o.procs p i r x e));
      };
      aims = record {
        dying = λ i x d e a m j y f l.
            let u = each_grown j y f in
            subst (λ z. is_over (k ∷ o.catches) d z ≡ false) (sym u.2.0)
            (⊎_elim
            (λ (t : (i ≡ p) × (x ≡ r)).
            ⊎_elim
            (λ (b : d ≡ n). subst (λ z. is_over (k ∷ o.catches) z u.0.home ≡ false) (sym b) (nothing_within u.0 j u.1))
            (λ (b : Stands d q.thread.marks). over_old d u.0 j u.1 ∙ s.aims.dying p q d at (ap (λ (z : Seen). z.aim) (sym (t.1 ∙ new)) ∙ a) b j u.0 u.1 (sym u.2.1 ∙ l))
            (subst (λ (z : Seen). Stands d z.thread.marks) (t.1 ∙ new) m))
            (λ (t : (i ≢ p) × (numbered o.procs i ≡ Some x)). over_old d u.0 j u.1 ∙ s.aims.dying i x d t.1 a m j u.0 u.1 (sym u.2.1 ∙ l))
            (put_cases o.procs p i r x e));
        leaving = λ i x d w e a j y f l.
            let u = each_grown j y f in
            subst (λ z. is_over (k ∷ o.catches) d z ≡ false) (sym u.2.0)
            (over_old d u.0 j u.1 ∙ (⊎_elim
            (λ (t : (i ≡ p) × (x ≡ r)). s.aims.leaving p q d w at (ap (λ (z : Seen). z.aim) (sym (t.1 ∙ new)) ∙ a) j u.0 u.1 (sym u.2.1 ∙ l))
            (λ (t : (i ≢ p) × (numbered o.procs i ≡ Some x)). s.aims.leaving i x d w t.1 a j u.0 u.1 (sym u.2.1 ∙ l))
            (put_cases o.procs p i r x e)));
        aims = λ i x e. ⊎_elim
            (λ (t : (i ≡ p) × (x ≡ r)). subst (λ (z : Seen). Aims z.aim [] z.thread.marks) (sym (t.1 ∙ new)) (aims_more q.aim n q.thread.marks (s.aims.aims p q at)))
            (λ (t : (i ≢ p) × (numbered o.procs i ≡ Some x)). s.aims.aims i x t.1)
            (put_cases o.procs p i r x e);
        floors = λ i x e. ⊎_elim
            (λ (t : (i ≡ p) × (x ≡ r)). subst (λ (z : Seen). Floors z.home [] z.thread.marks) (sym (t.1 ∙ new)) (floors_less n q.home [] (n ∷ []) q.thread.marks (λ f l z. (l, tt)) (s.aims.low_floors p q at) (s.aims.floors p q at)))
            (λ (t : (i ≢ p) × (numbered o.procs i ≡ Some x)). s.aims.floors i x t.1)
            (put_cases o.procs p i r x e);
        low_floors = λ i x e. ⊎_elim
            (λ (t : (i ≡ p) × (x ≡ r)). subst (λ (z : Seen). LowFloors (suc n) z.thread.marks) (sym (t.1 ∙ new)) (low_more n q.thread.marks (s.aims.low_floors p q at)))
            (λ (t : (i ≢ p) × (numbered o.procs i ≡ Some x)). low_more n x.thread.marks (s.aims.low_floors i x t.1))
            (put_cases o.procs p i r x e);
      };
      work = work_put o.procs p r s.work (λ h. work);
      protects = protects_kept o grown s.protects refl (each_put HoldsSame o.procs p q r at opener_held holds_self) (all_put HoldsSame o.procs p q r at opener_held holds_self) (record { begun = λ u. refl; finished = λ u. refl; protector = λ u. refl });
      servers = servers_kept o (k ∷ o.catches) (put o.procs p r) o.protects es (each_put Kin o.procs p q r at opener_kin kin_self) (all_put Kin o.procs p q r at opener_kin kin_self) s.servers (record { sends = λ j. refl; takes = λ j. refl; replies = λ j. refl });
      futures = futures_kept o (k ∷ o.catches) (put o.procs p r) o.protects es (each_put Kin o.procs p q r at opener_kin kin_self) (all_put Kin o.procs p q r at opener_kin kin_self) s.futures;
      told = record {
        homes = λ i x e l. let t = each_told i x e in s.told.homes i t.0 t.1 l ∙ ap Some (sym t.2.home);
        catches = λ c j e l. ⊎_elim
            (λ (t : c ≡ n).
            let same : k ≡ j = one (catch_newest k o.catches) (subst (λ z. catch_at (k ∷ o.catches) z ≡ Some j) t e) in
            let is : (c == n) ≡ true = eq-eqb c n t in
            rw is (λ i. Some ((sym owner ∙ ap (λ (z : Catch). z.owner) same) i, (sym encloses ∙ ap (λ (z : Catch). z.enclosing) same) i)))
            (λ (t : ((c == n) ≡ false) × (c ≢ n)).
            let low = catch_low (k ∷ o.catches) c j e in let apart = t.1 in
            rw t.0 (s.told.catches c j (sym (catch_older k o.catches c (omega (arith, low))) ∙ e) l))
            (same_or c n);
        killed = λ i x e. let t = each_told i x e in s.told.killed i t.0 t.1 ∙ sym t.2.dying;
        ended = λ i x e. let t = each_told i x e in s.told.ended i t.0 t.1 ∙ sym t.2.ended;
        no_home = λ i h. s.told.no_home i (⊎_elim (λ l. inl l) (λ l. inr (let m = put_length o.procs p r in omega (arith, l, m))) h);
        no_process = λ i h. s.told.no_process i (let m = put_length o.procs p r in omega (arith, h, m));
        no_catch = λ c h.
            let apart : c ≢ n = ⊎_elim (λ (l : c ≡ 0). λ z. let low = around_low in omega (arith, l, z, low)) (λ (l : suc n ≤ c). λ z. omega (arith, l, z)) h in
            rw (ne_eqb c n apart) (s.told.no_catch c (⊎_elim (λ l. inl l) (λ (l : suc n ≤ c). inr (omega (arith, l))) h));
      };
    }
      where
        each_told : Each SameTold o.procs (put o.procs p r)
        each_told = each_put SameTold o.procs p q r at (record { home = grows.0; dying = opener_kin.dying; ended = opener_kin.ended }) told_self
