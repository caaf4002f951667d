-- One process is killed.
use Rattle.std.proofs.Common.{◌≡◌, ◌≢◌, ◌⊎◌, ℕ, zero, suc, ◌==◌, Bool, true, false, List, [], ◌∷◌, ◌++◌, length, Option, Some, None, refl, sym, ap, ◌∙◌, subst, ⊎_elim, inl, inr, arith}
use Rattle.std.specs.Prelude.{if◌then◌else◌, not, ◌&&◌, slice_get}
use Rattle.ql_world.specs.declared.word.Word.{Word}
use Rattle.ql_world.specs.declared.event.Event.{Event}
use Rattle.ql_world.specs.declared.event.Event.TheVariants.{Kill as kill}
use Rattle.ql_world.specs.World.{Call, change, numbered, change_numbered}
use Rattle.ql_world.specs.declared.world.FutState.{FutState as Future}
use Rattle.ql_world.specs.declared.world.FutState.TheVariants.{Pending as pending, Value as valued, Dead as dead}
use Rattle.ql_world.specs.declared.world.Aim.TheVariants.{To as to, Die as die}
use Rattle.ql_world.specs.Within.{is_live, is_die, is_free}
use Rattle.ql_world.specs.declared.world.Cleanup.{Cleanup}
use Rattle.ql_world.specs.Idle.{acting, in_cleanup, killed, all_killed, reply_of, replies_of}
use Rattle.ql_meaning.specs.Sane.{Mark, Doing, unwinds, rests, Seen, Server, Outline, HomesSane, Stands, CatchesSane, cleanups_of, EmptySane, Among, Aims, Floors, LowFloors, is_unwinding, WorkSane, ProtectsSane, ServersSane, FuturesSane, home_told, is_killed, has_ended, ToldSane, SaneOutline}
use Rattle.ql_meaning.proofs.Lists.{cases, not_both, same_or, put, put_cases, put_length, changed_length, numbered_low}
use Rattle.ql_meaning.proofs.Marks.{aims_die}
use Rattle.ql_meaning.proofs.Kept.{Each, each_put, all_put, SameHome, home_self, homes_kept, Alike, alike_self, catches_kept, empty_kept, nobody_kept, HoldsSame, holds_self, protects_kept, work_put, apart_or, same_test}
use Rattle.ql_meaning.proofs.Calm.{Nobody}

-- aims, but for processes that leave for their end
pub record AimsBut (o : Outline) : Type 0 where
  pub leaving : (p : ℕ) (q : Seen) (c : ℕ) (x : Word) → numbered o.procs p ≡ Some q → q.aim ≡ to c x → Nobody o c
  pub aims : (p : ℕ) (q : Seen) → numbered o.procs p ≡ Some q → Aims q.aim [] q.thread.marks
  pub floors : (p : ℕ) (q : Seen) → numbered o.procs p ≡ Some q → Floors q.home [] q.thread.marks
  pub low_floors : (p : ℕ) (q : Seen) → numbered o.procs p ≡ Some q → LowFloors (length o.catches) q.thread.marks

-- sane, but for processes that leave for their end
pub record SaneBut (o : Outline) : Type 0 where
  pub homes : HomesSane o
  pub catches : CatchesSane o
  pub empty : EmptySane o
  pub aims : AimsBut o
  pub work : (p : ℕ) (q : Seen) → numbered o.procs p ≡ Some q → q.ended ≡ false → WorkSane q
  pub protects : ProtectsSane o
  pub servers : ServersSane o
  pub futures : FuturesSane o
  pub told : ToldSane o

abbrev pub Dying : Outline → Type 0
Dying o = (p : ℕ) (q : Seen) (c : ℕ) → numbered o.procs p ≡ Some q → q.aim ≡ die → Stands c q.thread.marks → Nobody o c

pub all_but : (o : Outline) → SaneOutline o → SaneBut o
all_but o s = record { homes = s.homes; catches = s.catches; empty = s.empty; aims = record { leaving = s.aims.leaving; aims = s.aims.aims; floors = s.aims.floors; low_floors = s.aims.low_floors }; work = s.work; protects = s.protects; servers = s.servers; futures = s.futures; told = s.told }

pub with_dying : (o : Outline) → SaneBut o → Dying o → SaneOutline o
with_dying o s d = record { homes = s.homes; catches = s.catches; empty = s.empty; aims = record { dying = d; leaving = s.aims.leaving; aims = s.aims.aims; floors = s.aims.floors; low_floors = s.aims.low_floors }; work = s.work; protects = s.protects; servers = s.servers; futures = s.futures; told = s.told }

abbrev pub stopped : List Mark → Doing → Doing
stopped ms d = if in_cleanup (cleanups_of ms) then d else unwinds

abbrev pub slain : Seen → Seen
slain q = record q { aim = die; thread = record { marks = q.thread.marks; doing = stopped q.thread.marks q.thread.doing } }

-- futures that die

module _ {A : Type 0} where
  change_here : (f : A → A) (xs : List A) (n : ℕ) (x : A) → slice_get xs n ≡ Some x → slice_get (change f xs n) n ≡ Some (f x)
  change_here f [] n x e = absurd cc
  change_here f (y ∷ xs) zero x e = let is : y ≡ x = cc in ap (λ z. Some (f z)) is
  change_here f (y ∷ xs) (suc n) x e = change_here f xs n x e

  pub changed_here : (f : A → A) (xs : List A) (n : ℕ) (x : A) → numbered xs n ≡ Some x → numbered (change_numbered f xs n) n ≡ Some (f x)
  changed_here f xs zero x e = absurd cc
  changed_here f xs (suc n) x e = change_here f xs n x e

  change_apart : (f : A → A) (xs : List A) (n m : ℕ) → m ≢ n → slice_get (change f xs n) m ≡ slice_get xs m
  change_apart f [] n m h = refl
  change_apart f (z ∷ xs) zero zero h = absurd (h refl)
  change_apart f (z ∷ xs) zero (suc m) h = refl
  change_apart f (z ∷ xs) (suc n) zero h = refl
  change_apart f (z ∷ xs) (suc n) (suc m) h = change_apart f xs n m (λ k. h (ap suc k))

  pub changed_else : (f : A → A) (xs : List A) (n m : ℕ) → m ≢ n → numbered (change_numbered f xs n) m ≡ numbered xs m
  changed_else f xs zero m h = refl
  changed_else f xs (suc n) zero h = refl
  changed_else f xs (suc n) (suc m) h = change_apart f xs n m (λ k. h (ap suc k))

killed_again : (s : Future) → killed (killed s) ≡ killed s
killed_again pending = refl
killed_again (valued x) = refl
killed_again dead = refl

pub all_killed_length : (fs : List ℕ) (ss : List Future) → length (all_killed fs ss) ≡ length ss
all_killed_length [] ss = refl
all_killed_length (f ∷ fs) ss = all_killed_length fs (change_numbered killed ss f) ∙ changed_length killed ss f

-- one that has died already dies no more
all_killed_after : (fs : List ℕ) (ss : List Future) (f : ℕ) (s : Future) → numbered ss f ≡ Some s → killed s ≡ s → numbered (all_killed fs ss) f ≡ Some s
all_killed_after [] ss f s e k = e
all_killed_after (g ∷ fs) ss f s e k =
    ⊎_elim
    (λ (t : f ≡ g). all_killed_after fs (change_numbered killed ss g) f s (subst (λ z. numbered (change_numbered killed ss z) f ≡ Some s) t (changed_here killed ss f s e ∙ ap Some k)) k)
    (λ (t : ((f == g) ≡ false) × (f ≢ g)). all_killed_after fs (change_numbered killed ss g) f s (changed_else killed ss g f t.1 ∙ e) k)
    (same_or f g)

pub value_stays : (fs : List ℕ) (ss : List Future) (f : ℕ) (x : Word) → numbered ss f ≡ Some (valued x) → numbered (all_killed fs ss) f ≡ Some (valued x)
value_stays fs ss f x e = all_killed_after fs ss f (valued x) e refl

pub all_killed_else : (fs : List ℕ) (ss : List Future) (f : ℕ) → (Among f fs → ⊥) → numbered (all_killed fs ss) f ≡ numbered ss f
all_killed_else [] ss f n = refl
all_killed_else (g ∷ fs) ss f n = all_killed_else fs (change_numbered killed ss g) f (λ t. n (inr t)) ∙ changed_else killed ss g f (λ t. n (inl t))

pub all_killed_here : (fs : List ℕ) (ss : List Future) (f : ℕ) (s : Future) → Among f fs → numbered ss f ≡ Some s → numbered (all_killed fs ss) f ≡ Some (killed s)
all_killed_here [] ss f s a e = absurd a
all_killed_here (g ∷ fs) ss f s a e =
    ⊎_elim
    (λ (t : f ≡ g). all_killed_after fs (change_numbered killed ss g) f (killed s) (subst (λ z. numbered (change_numbered killed ss z) f ≡ Some (killed s)) t (changed_here killed ss f s e)) (killed_again s))
    (λ (t : ((f == g) ≡ false) × (f ≢ g)). all_killed_here fs (change_numbered killed ss g) f s (⊎_elim (λ u. absurd (t.1 u)) (λ u. u) a) (changed_else killed ss g f t.1 ∙ e))
    (same_or f g)

pub among_left : (f : ℕ) (fs gs : List ℕ) → Among f fs → Among f (fs ++ gs)
among_left f [] gs a = absurd a
among_left f (g ∷ fs) gs a = ⊎_elim (λ t. inl t) (λ t. inr (among_left f fs gs t)) a

pub among_right : (f : ℕ) (fs gs : List ℕ) → Among f gs → Among f (fs ++ gs)
among_right f [] gs a = a
among_right f (g ∷ fs) gs a = inr (among_right f fs gs a)

pub among_cases : (f : ℕ) (fs gs : List ℕ) → Among f (fs ++ gs) → Among f fs ⊎ Among f gs
among_cases f [] gs a = inr a
among_cases f (g ∷ fs) gs a = ⊎_elim (λ t. inl (inl t)) (λ t. ⊎_elim (λ u. inl (inr u)) (λ u. inr u) (among_cases f fs gs t)) a

reply_here : (f : ℕ) (r : Option ℕ) (rest : List ℕ) → r ≡ Some f → Among f (reply_of r ++ rest)
reply_here f None rest e = absurd cc
reply_here f (Some g) rest e = let is : f ≡ g = cc in inl is

pub replies_have : (f : ℕ) (cs : List Call) (i : ℕ) (c : Call) → numbered cs i ≡ Some c → c.reply ≡ Some f → Among f (replies_of cs)
replies_have f cs zero c e r = absurd cc
replies_have f cs (suc i) c e r = get f cs i c e r
  where
    get : (f : ℕ) (cs : List Call) (i : ℕ) (c : Call) → slice_get cs i ≡ Some c → c.reply ≡ Some f → Among f (replies_of cs)
    get f [] i c e r = absurd cc
    get f (d ∷ cs) zero c e r = let is : d ≡ c = cc in reply_here f d.reply (replies_of cs) (ap (λ (z : Call). z.reply) is ∙ r)
    get f (d ∷ cs) (suc i) c e r = among_right f (reply_of d.reply) (replies_of cs) (get f cs i c e r)

reply_is : (f : ℕ) (r : Option ℕ) → Among f (reply_of r) → r ≡ Some f
reply_is f None a = absurd a
reply_is f (Some g) a = ⊎_elim (λ t. ap Some (sym t)) (λ t. absurd t) a

pub replies_find : (f : ℕ) (cs : List Call) → Among f (replies_of cs) → (i : ℕ) × (c : Call) × (numbered cs i ≡ Some c) × (c.reply ≡ Some f)
replies_find f [] a = absurd a
replies_find f (d ∷ cs) a =
    ⊎_elim
    (λ t. (1, d, refl, reply_is f d.reply t))
    (λ t. let r = replies_find f cs t in (suc r.0, r.1, next r.0 r.1 r.2, r.3))
    (among_cases f (reply_of d.reply) (replies_of cs) a)
  where
    next : (i : ℕ) (c : Call) → numbered cs i ≡ Some c → numbered (d ∷ cs) (suc i) ≡ Some c
    next zero c e = absurd cc
    next (suc i) c e = e

-- the kill

module _ (o : Outline) (s : SaneBut o) (n : ℕ) (q : Seen) (at : numbered o.procs n ≡ Some q) (live : is_live q ≡ true) (c : ℕ) where
  abbrev es : List Event
  es = kill c n ∷ o.events

  abbrev rs : List Seen
  rs = put o.procs n (slain q)

  slain_dead : is_live (slain q) ≡ false
  slain_dead = dead_is q.ended
    where
      dead_is : (b : Bool) → (not b && false) ≡ false
      dead_is true = refl
      dead_is false = refl

  pub not_ended : q.ended ≡ false
  not_ended = split q.ended (not (is_die q.aim)) live
    where
      split : (a b : Bool) → (not a && b) ≡ true → a ≡ false
      split true b e = absurd (not_both e refl)
      split false b e = refl

  pub not_dying : is_die q.aim ≡ false
  not_dying = split q.ended (is_die q.aim) live
    where
      split : (a b : Bool) → (not a && not b) ≡ true → b ≡ false
      split true b e = absurd (not_both e refl)
      split false true e = absurd (not_both e refl)
      split false false e = refl

  alike : Alike o.catches n q (slain q)
  alike = record { home = refl; live = λ l. absurd (not_both l slain_dead); chained = λ k. k; stands = λ d t. t; stood = λ d t. t; above = λ d t. t; bare = λ e f. f e }

  each_alike : Each (Alike o.catches) o.procs rs
  each_alike = each_put (Alike o.catches) o.procs n q (slain q) at alike (alike_self o.catches)

  held : HoldsSame n q (slain q)
  held = record { holds = λ stage u h. h; held = λ stage u h. h; rising = λ h. h }

  work : WorkSane q → WorkSane (slain q)
  work w = record {
    unwinding = by_cleanups (cleanups_of q.thread.marks) w.unwinding;
    based = w.based;
    resting = λ d. ⊎_elim
        (λ (t : in_cleanup (cleanups_of q.thread.marks) ≡ true). w.resting (subst (λ z. (if z then q.thread.doing else unwinds) ≡ rests) t d))
        (λ (t : in_cleanup (cleanups_of q.thread.marks) ≡ false). absurd (no_rest (subst (λ z. (if z then q.thread.doing else unwinds) ≡ rests) t d)))
        (cases (in_cleanup (cleanups_of q.thread.marks)));
  }
    where
      by_cleanups : (ks : List Cleanup) → is_unwinding q.thread.doing ≡ not (is_free (acting ks q.aim)) → is_unwinding (if in_cleanup ks then q.thread.doing else unwinds) ≡ not (is_free (acting ks die))
      by_cleanups [] e = refl
      by_cleanups (k ∷ ks) e = e

      no_rest : unwinds ≡ rests → ⊥
      no_rest z = absurd cc

  module _ (ss : List Server) (fs : List Future) where
    abbrev killed_outline : Outline
    killed_outline = record { catches = o.catches; procs = rs; servers = ss; futures = fs; protects = o.protects; events = es }

    nobody : (d : ℕ) → Nobody o d → Nobody killed_outline d
    nobody = nobody_kept o rs ss fs o.protects es each_alike

    pub killed_sane : ServersSane killed_outline → FuturesSane killed_outline → SaneBut killed_outline
    killed_sane servers futures = record {
      homes = homes_kept o killed_outline s.homes refl (each_put SameHome o.procs n q (slain q) at (record { home = refl; kind = refl }) home_self) (record { opened = λ d t. t; homes = λ t. t }) (λ d j e. (j, e, refl, refl));
      catches = catches_kept o rs ss fs o.protects es each_alike s.catches (all_put (Alike o.catches) o.procs n q (slain q) at alike (alike_self o.catches));
      empty = empty_kept o rs ss fs o.protects es each_alike s.empty;
      aims = record {
        leaving = λ i x d w e a. nobody d (⊎_elim
            (λ (t : (i ≡ n) × (x ≡ slain q)). absurd (not_to d w (ap (λ (z : Seen). z.aim) (sym t.1) ∙ a)))
            (λ (t : (i ≢ n) × (numbered o.procs i ≡ Some x)). s.aims.leaving i x d w t.1 a)
            (put_cases o.procs n i (slain q) x e));
        aims = λ i x e. ⊎_elim
            (λ (t : (i ≡ n) × (x ≡ slain q)). subst (λ (z : Seen). Aims z.aim [] z.thread.marks) (sym t.1) (aims_die q.aim [] q.thread.marks (s.aims.aims n q at)))
            (λ (t : (i ≢ n) × (numbered o.procs i ≡ Some x)). s.aims.aims i x t.1)
            (put_cases o.procs n i (slain q) x e);
        floors = λ i x e. ⊎_elim
            (λ (t : (i ≡ n) × (x ≡ slain q)). subst (λ (z : Seen). Floors z.home [] z.thread.marks) (sym t.1) (s.aims.floors n q at))
            (λ (t : (i ≢ n) × (numbered o.procs i ≡ Some x)). s.aims.floors i x t.1)
            (put_cases o.procs n i (slain q) x e);
        low_floors = λ i x e. ⊎_elim
            (λ (t : (i ≡ n) × (x ≡ slain q)). subst (λ (z : Seen). LowFloors (length o.catches) z.thread.marks) (sym t.1) (s.aims.low_floors n q at))
            (λ (t : (i ≢ n) × (numbered o.procs i ≡ Some x)). s.aims.low_floors i x t.1)
            (put_cases o.procs n i (slain q) x e);
      };
      work = work_put o.procs n (slain q) s.work (λ h. work (s.work n q at not_ended));
      protects = protects_kept o killed_outline s.protects refl (each_put HoldsSame o.procs n q (slain q) at held holds_self) (all_put HoldsSame o.procs n q (slain q) at held holds_self) (record { begun = λ u. refl; finished = λ u. refl; protector = λ u. refl });
      servers = servers;
      futures = futures;
      told = record {
        homes = λ i x e l. ⊎_elim
            (λ (t : (i ≡ n) × (x ≡ slain q)). subst (λ (z : Seen). home_told i o.events ≡ Some z.home) (sym t.1) (s.told.homes i q (subst (λ z. numbered o.procs z ≡ Some q) (sym t.0) at) l))
            (λ (t : (i ≢ n) × (numbered o.procs i ≡ Some x)). s.told.homes i x t.1 l)
            (put_cases o.procs n i (slain q) x e);
        catches = s.told.catches;
        killed = λ i x e. ⊎_elim
            (λ (t : (i ≡ n) × (x ≡ slain q)). same_test i n (is_killed i o.events) t.0 ∙ ap (λ (z : Seen). is_die z.aim) (sym t.1))
            (λ (t : (i ≢ n) × (numbered o.procs i ≡ Some x)). apart_or i n (is_killed i o.events) t.0 ∙ s.told.killed i x t.1)
            (put_cases o.procs n i (slain q) x e);
        ended = λ i x e. ⊎_elim
            (λ (t : (i ≡ n) × (x ≡ slain q)). subst (λ (z : Seen). has_ended i o.events ≡ z.ended) (sym t.1) (s.told.ended i q (subst (λ z. numbered o.procs z ≡ Some q) (sym t.0) at)))
            (λ (t : (i ≢ n) × (numbered o.procs i ≡ Some x)). s.told.ended i x t.1)
            (put_cases o.procs n i (slain q) x e);
        no_home = λ i h. s.told.no_home i (⊎_elim (λ l. inl l) (λ l. inr (let m = put_length o.procs n (slain q) in omega (arith, l, m))) h);
        no_process = λ i h.
            let m = put_length o.procs n (slain q) in
            let low = (numbered_low o.procs n q at).1 in
            let t = s.told.no_process i (omega (arith, h, m)) in
            (apart_or i n (is_killed i o.events) (λ z. omega (arith, h, m, low, z)) ∙ t.0, t.1);
        no_catch = s.told.no_catch;
      };
    }
      where
        not_to : (d : ℕ) (w : Word) → die ≡ to d w → ⊥
        not_to d w z = absurd cc
