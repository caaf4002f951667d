-- Points of a sane outline that a row does not concern.
use Rattle.std.proofs.Common.{◌≡◌, ◌≢◌, ℕ, ◌<◌, ◌≤◌, ◌==◌, Bool, true, false, List, [], length, Some, refl, sym, ap, ◌∙◌, subst, ⊎_elim, inl, inr, arith, eq-eqb, ne_eqb}
use Rattle.std.specs.Prelude.{not, ◌||◌}
use Rattle.ql_world.specs.declared.event.Event.{Event}
use Rattle.ql_world.specs.World.{numbered, catch_at}
use Rattle.ql_world.specs.declared.world.FutState.{FutState as Future}
use Rattle.ql_world.specs.declared.world.Aim.{Aim}
use Rattle.ql_world.specs.declared.world.Aim.TheVariants.{Free as free, To as to, Die as die}
use Rattle.ql_world.specs.declared.world.Catch.{Catch}
use Rattle.ql_world.specs.Within.{is_over, is_live, is_within, is_die}
use Rattle.ql_meaning.specs.Sane.{rests, Seen, Server, Outline, WasOpened, HomesOpened, HomesSane, Stands, Chained, CatchesSane, StandsAbove, EmptySane, WorkSane, is_begun, is_finished, protector, Stage, Holds, Rising, StageSane, IsHeld, ProtectsSane, sends, takes, replies, CallsSane, ServersSane, ChildState, FuturesSane, home_told, catch_told, is_killed, has_ended, ToldSane}
use Rattle.ql_meaning.proofs.Lists.{not_both, same_or, one, put, put_at, put_else, put_cases}

-- each process later on was there before, and this relates the two
abbrev pub Each : (ℕ → Seen → Seen → Type 0) → List Seen → List Seen → Type 0
Each R qs rs = (p : ℕ) (r : Seen) → numbered rs p ≡ Some r → (q : Seen) × (numbered qs p ≡ Some q) × R p q r

-- and each process that was there is so later on
abbrev pub All : (ℕ → Seen → Seen → Type 0) → List Seen → List Seen → Type 0
All R qs rs = (p : ℕ) (q : Seen) → numbered qs p ≡ Some q → (r : Seen) × (numbered rs p ≡ Some r) × R p q r

pub each_put : (R : ℕ → Seen → Seen → Type 0) (qs : List Seen) (p : ℕ) (q r : Seen) → numbered qs p ≡ Some q → R p q r → ((n : ℕ) (x : Seen) → R n x x) → Each R qs (put qs p r)
each_put R qs p q r at here same n x e =
    ⊎_elim
    (λ (t : (n ≡ p) × (x ≡ r)). subst (λ (z : ℕ × Seen). (y : Seen) × (numbered qs z.0 ≡ Some y) × R z.0 y z.1) (λ i. (sym t.0 i, sym t.1 i)) (q, at, here))
    (λ (t : (n ≢ p) × (numbered qs n ≡ Some x)). (x, t.1, same n x))
    (put_cases qs p n r x e)

pub all_put : (R : ℕ → Seen → Seen → Type 0) (qs : List Seen) (p : ℕ) (q r : Seen) → numbered qs p ≡ Some q → R p q r → ((n : ℕ) (x : Seen) → R n x x) → All R qs (put qs p r)
all_put R qs p q r at here same n x e =
    ⊎_elim
    (λ (t : n ≡ p).
    let is : x ≡ q = one e (subst (λ z. numbered qs z ≡ Some q) (sym t) at) in
    (r, subst (λ z. numbered (put qs p r) z ≡ Some r) (sym t) (put_at qs p q r at), subst (λ (z : ℕ × Seen). R z.0 z.1 r) (λ i. (sym t i, sym is i)) here))
    (λ (t : ((n == p) ≡ false) × (n ≢ p)). (x, put_else qs p n r t.1 ∙ e, same n x))
    (same_or n p)

-- events

pub record QuietOpens (es fs : List Event) : Type 0 where
  pub opened : (c : ℕ) → WasOpened c es → WasOpened c fs
  pub homes : HomesOpened es → HomesOpened fs

pub record QuietHomes (es fs : List Event) : Type 0 where
  pub opens : QuietOpens es fs
  pub home : (p : ℕ) → home_told p fs ≡ home_told p es
  pub catch : (c : ℕ) → catch_told c fs ≡ catch_told c es
  pub killed : (p : ℕ) → is_killed p fs ≡ is_killed p es
  pub ended : (p : ℕ) → has_ended p fs ≡ has_ended p es

pub record QuietProtects (es fs : List Event) : Type 0 where
  pub begun : (u : ℕ) → is_begun u fs ≡ is_begun u es
  pub finished : (u : ℕ) → is_finished u fs ≡ is_finished u es
  pub protector : (u : ℕ) → protector u fs ≡ protector u es

pub record QuietCalls (es fs : List Event) : Type 0 where
  pub sends : (k : ℕ) → sends k fs ≡ sends k es
  pub takes : (k : ℕ) → takes k fs ≡ takes k es
  pub replies : (k : ℕ) → replies k fs ≡ replies k es

-- homes

pub record SameHome (p : ℕ) (q r : Seen) : Type 0 where
  pub home : r.home ≡ q.home
  pub kind : r.kind ≡ q.kind

pub home_self : (p : ℕ) (q : Seen) → SameHome p q q
home_self p q = record { home = refl; kind = refl }

module _ (o v : Outline) (s : HomesSane o) (many : length v.catches ≡ length o.catches) (each : Each SameHome o.procs v.procs) (quiet : QuietOpens o.events v.events) where
  pub homes_kept : ((c : ℕ) (j : Catch) → catch_at v.catches c ≡ Some j → (k : Catch) × (catch_at o.catches c ≡ Some k) × (j.enclosing ≡ k.enclosing) × (j.tag ≡ k.tag)) → HomesSane v
  homes_kept catches = record {
    falling = λ c j e h. let t = catches c j e in let l = s.falling c t.0 t.1 h in let is = t.2 in subst (λ z. z < c) (sym is) l;
    untagged = λ j e. let t = catches 0 j e in t.3 ∙ s.untagged t.0 t.1;
    made = λ p r e. let t = each p r e in let l = s.made p t.0 t.1 in let is = t.2.home in omega (arith, l, is, many);
    opened = λ c l h. quiet.opened c (s.opened c l (omega (arith, h, many)));
    in_time = quiet.homes s.in_time;
    first = λ p r e k. let t = each p r e in let f = s.first p t.0 t.1 (sym t.2.kind ∙ k) in (f.0, t.2.home ∙ f.1);
  }

-- catches

-- process r has the marks of q, as far as catches are concerned
pub record Alike (ks : List Catch) (p : ℕ) (q r : Seen) : Type 0 where
  pub home : r.home ≡ q.home
  pub live : is_live r ≡ true → is_live q ≡ true
  pub chained : Chained ks p q.home q.thread.marks → Chained ks p r.home r.thread.marks
  pub stands : (c : ℕ) → Stands c q.thread.marks → Stands c r.thread.marks
  pub stood : (c : ℕ) → Stands c r.thread.marks → Stands c q.thread.marks
  pub above : (c : ℕ) → StandsAbove c r.thread.marks → StandsAbove c q.thread.marks
  pub bare : r.ended ≡ true → (q.ended ≡ true → q.thread.marks ≡ []) → r.thread.marks ≡ []

pub alike_self : (ks : List Catch) (p : ℕ) (q : Seen) → Alike ks p q q
alike_self ks p q = record { home = refl; live = λ l. l; chained = λ k. k; stands = λ c t. t; stood = λ c t. t; above = λ c s. s; bare = λ e f. f e }

module _ (o : Outline) (rs : List Seen) (ss : List Server) (fs : List Future) (n : ℕ) (es : List Event) where
  abbrev v : Outline
  v = record { catches = o.catches; procs = rs; servers = ss; futures = fs; protects = n; events = es }

  module _ (each : Each (Alike o.catches) o.procs rs) where
    pub catches_kept : CatchesSane o → All (Alike o.catches) o.procs rs → CatchesSane v
    catches_kept s all = record {
      chained = λ p r e. let t = each p r e in t.2.chained (s.chained p t.0 t.1);
      stands = λ c k e h l.
          let t = s.stands c k e h l in
          let u = all k.owner t.0 t.1 in
          (u.0, u.1, u.2.stands c t.2);
      bare = λ p r e h. let t = each p r e in t.2.bare h (s.bare p t.0 t.1);
    }

    pub empty_kept : EmptySane o → EmptySane v
    empty_kept s = record {
      closed = λ p r c k e l w at. let t = each p r e in s.closed p t.0 c k t.1 (t.2.live l) (subst (λ z. is_over o.catches c z ≡ true) t.2.home w) at;
      fresh = λ p r c e a i x f.
          let t = each p r e in
          let u = each i x f in
          subst (λ z. is_over o.catches c z ≡ false) (sym u.2.home) (s.fresh p t.0 c t.1 (t.2.above c a) i u.0 u.1);
    }

    -- no process is live within these catches any more
    pub nobody_kept : (c : ℕ) → ((i : ℕ) (x : Seen) → numbered o.procs i ≡ Some x → is_live x ≡ true → is_within o.catches x c ≡ false) → (i : ℕ) (x : Seen) → numbered rs i ≡ Some x → is_live x ≡ true → is_within o.catches x c ≡ false
    nobody_kept c s i x e l =
        let t = each i x e in
        subst (λ z. is_over o.catches c z ≡ false) (sym t.2.home) (s i t.0 t.1 (t.2.live l))

-- protects

pub record HoldsSame (p : ℕ) (q r : Seen) : Type 0 where
  pub holds : (stage : Stage) (u : ℕ) → Holds stage u q.thread.marks → Holds stage u r.thread.marks
  pub held : (stage : Stage) (u : ℕ) → Holds stage u r.thread.marks → Holds stage u q.thread.marks
  pub rising : Rising q.thread.marks → Rising r.thread.marks

pub holds_self : (p : ℕ) (q : Seen) → HoldsSame p q q
holds_self p q = record { holds = λ stage u k. k; held = λ stage u k. k; rising = λ k. k }

pub stage_kept : (o v : Outline) (p u : ℕ) (stage : Stage) → o.protects ≤ v.protects → QuietProtects o.events v.events → StageSane o p u stage → StageSane v p u stage
stage_kept o v p u stage le quiet s =
    let low = s.low in
    record { low = omega (arith, low, le); mine = quiet.protector u ∙ s.mine; begun = quiet.begun u ∙ s.begun; unfinished = quiet.finished u ∙ s.unfinished }

module _ (o v : Outline) where
  pub protects_kept : ProtectsSane o → v.protects ≡ o.protects → Each HoldsSame o.procs v.procs → All HoldsSame o.procs v.procs → QuietProtects o.events v.events → ProtectsSane v
  protects_kept s same each all quiet = record {
    held = λ p r stage u e h. let t = each p r e in stage_kept o v p u stage (omega (arith, same)) quiet (s.held p t.0 stage u t.1 (t.2.held stage u h));
    placed = λ u l h.
        ⊎_elim
        (λ (t : IsHeld o u). let k = all t.process t.by t.is in inl (record { process = t.process; by = k.0; is = k.1; stage = t.stage; holds = k.2.holds t.stage u t.holds }))
        (λ (t : (is_begun u o.events ≡ true) × (is_finished u o.events ≡ true)). inr (quiet.begun u ∙ t.0, quiet.finished u ∙ t.1))
        (s.placed u l (omega (arith, h, same)));
    rising = λ p r e. let t = each p r e in t.2.rising (s.rising p t.0 t.1);
    unmade = λ u h. let k = s.unmade u (omega (arith, h, same)) in (quiet.protector u ∙ k.0, (quiet.begun u ∙ k.1.0, quiet.finished u ∙ k.1.1));
  }

-- process closures and futures

-- process r serves like q, dies like q and ends like q
pub record Kin (p : ℕ) (q r : Seen) : Type 0 where
  pub kind : r.kind ≡ q.kind
  pub ended : r.ended ≡ q.ended
  pub dying : is_die r.aim ≡ is_die q.aim
  pub resting : r.thread.doing ≡ rests → q.thread.doing ≡ rests

pub kin_self : (p : ℕ) (q : Seen) → Kin p q q
kin_self p q = record { kind = refl; ended = refl; dying = refl; resting = λ d. d }

pub kin_live : (p : ℕ) (q r : Seen) → Kin p q r → is_live r ≡ is_live q
kin_live p q r k = rw (k.ended, k.dying) refl

pub die_is : (a : Aim) → is_die a ≡ true → a ≡ die
die_is free e = absurd (not_both e refl)
die_is (to c x) e = absurd (not_both e refl)
die_is die e = refl

pub calls_kept : (k : ℕ) (s : Server) (es fs : List Event) → QuietCalls es fs → CallsSane k s es → CallsSane k s fs
calls_kept k s es fs quiet c = record {
  sent = c.sent ∙ sym (quiet.sends k);
  progress = rw (quiet.takes k, quiet.replies k) c.progress;
  queued = rw (quiet.takes k) c.queued;
  all = rw (quiet.takes k) c.all;
}

module _ (o : Outline) (ks : List Catch) (rs : List Seen) (n : ℕ) (es : List Event) where
  abbrev served_by : Outline
  served_by = record { catches = ks; procs = rs; servers = o.servers; futures = o.futures; protects = n; events = es }

  module _ (each : Each Kin o.procs rs) (all : All Kin o.procs rs) where
    pub servers_kept : ServersSane o → QuietCalls o.events es → ServersSane served_by
    servers_kept s quiet = record {
      calls = λ k x e. calls_kept k x o.events es quiet (s.calls k x e);
      unmade = λ k h. let t = s.unmade k h in (quiet.sends k ∙ t.0, (quiet.takes k ∙ t.1.0, quiet.replies k ∙ t.1.1));
      served = λ k x e. let t = s.served k x e in let u = all x.process t.0 t.1 in (u.0, u.1, u.2.kind ∙ t.2);
      serves = λ p r k e f. let t = each p r e in s.serves p t.0 k t.1 (sym t.2.kind ∙ f);
      resting = λ k x r e f l d. let t = each x.process r f in s.resting k x t.0 e t.1 (sym (kin_live x.process t.0 r t.2) ∙ l) (t.2.resting d);
      prompt = λ k x r e f l d c. let t = each x.process r f in s.prompt k x t.0 e t.1 (sym (kin_live x.process t.0 r t.2) ∙ l) d c;
      fitting = s.fitting;
      full = s.full;
      plain = s.plain;
      dead = λ k x r e f. let t = each x.process r f in s.dead k x t.0 e t.1 ∙ ap not (sym (kin_live x.process t.0 r t.2));
      killed = λ p r k e f h. let t = each p r e in die_is r.aim (t.2.dying ∙ ap is_die (s.killed p t.0 k t.1 (sym t.2.kind ∙ f) (sym t.2.ended ∙ h)));
    }

    pub futures_kept : FuturesSane o → FuturesSane served_by
    futures_kept s = record {
      reasons = s.reasons;
      all = s.all;
      children = λ p r f e k.
          let t = each p r e in
          let c = s.children p t.0 f t.1 (sym t.2.kind ∙ k) in
          record { reason_is = c.reason_is; state = c.state; state_is = c.state_is; good = subst (λ (z : Bool × Bool). ChildState z.0 z.1 c.state) (λ i. (sym t.2.dying i, sym t.2.ended i)) c.good };
      calls = λ k x c f i e g h. let t = s.calls k x c f i e g h in record { reason_is = t.reason_is; state = t.state; state_is = t.state_is; good = t.good };
      parameters = λ k x f e a. let t = s.parameters k x f e a in record { reason_is = t.reason_is; state = t.state; state_is = t.state_is; good = t.good };
    }

-- work

pub work_put : (qs : List Seen) (p : ℕ) (r : Seen) → ((i : ℕ) (x : Seen) → numbered qs i ≡ Some x → x.ended ≡ false → WorkSane x) → (r.ended ≡ false → WorkSane r) → (i : ℕ) (x : Seen) → numbered (put qs p r) i ≡ Some x → x.ended ≡ false → WorkSane x
work_put qs p r s w i x e h =
    ⊎_elim
    (λ (t : (i ≡ p) × (x ≡ r)). subst (λ (z : Seen). z.ended ≡ false → WorkSane z) (sym t.1) w h)
    (λ (t : (i ≢ p) × (numbered qs i ≡ Some x)). s i x t.1 h)
    (put_cases qs p i r x e)

-- what is told

-- process r has the home of q, and is killed or ended like q
pub record SameTold (p : ℕ) (q r : Seen) : Type 0 where
  pub home : r.home ≡ q.home
  pub dying : is_die r.aim ≡ is_die q.aim
  pub ended : r.ended ≡ q.ended

pub told_self : (p : ℕ) (q : Seen) → SameTold p q q
told_self p q = record { home = refl; dying = refl; ended = refl }

module _ (o v : Outline) (s : ToldSane o) (procs : length v.procs ≡ length o.procs) (catches : length v.catches ≡ length o.catches) (each : Each SameTold o.procs v.procs) (kept : (c : ℕ) (j : Catch) → catch_at v.catches c ≡ Some j → (k : Catch) × (catch_at o.catches c ≡ Some k) × (j.owner ≡ k.owner) × (j.enclosing ≡ k.enclosing)) (quiet : QuietHomes o.events v.events) where
  pub point_told : ToldSane v
  point_told = record {
    homes = λ p r e l. let t = each p r e in quiet.home p ∙ (s.homes p t.0 t.1 l ∙ ap Some (sym t.2.home));
    catches = λ c j e l. let t = kept c j e in quiet.catch c ∙ (s.catches c t.0 t.1 l ∙ (λ i. Some (sym t.2 i, sym t.3 i)));
    killed = λ p r e. let t = each p r e in quiet.killed p ∙ (s.killed p t.0 t.1 ∙ sym t.2.dying);
    ended = λ p r e. let t = each p r e in quiet.ended p ∙ (s.ended p t.0 t.1 ∙ sym t.2.ended);
    no_home = λ p h. quiet.home p ∙ s.no_home p (⊎_elim (λ l. inl l) (λ l. inr (omega (arith, l, procs))) h);
    no_process = λ p h. let t = s.no_process p (omega (arith, h, procs)) in (quiet.killed p ∙ t.0, quiet.ended p ∙ t.1);
    no_catch = λ c h. quiet.catch c ∙ s.no_catch c (⊎_elim (λ l. inl l) (λ l. inr (omega (arith, l, catches))) h);
  }

-- numbers apart
pub apart_or : (m n : ℕ) (b : Bool) → m ≢ n → (m == n || b) ≡ b
apart_or m n b h = rw (ne_eqb m n h) refl

pub same_test : (m n : ℕ) (b : Bool) → m ≡ n → (m == n || b) ≡ true
same_test m n b h = rw (eq-eqb m n h) refl
