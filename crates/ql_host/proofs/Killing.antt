-- Kills, one after another.
use Rattle.std.proofs.Common.{◌≡◌, ◌≢◌, ◌≤◌, ◌<◌, ◌+◌, ◌-◌, refl, sym, ap, ◌∙◌, ℕ, zero, suc, Bool, true, false, List, [], ◌∷◌, length, map, drop, set, get_or, Option, Some, None, arith, ⊎_elim}
use Rattle.std.specs.Prelude.{◌&&◌, not, ◌==◌, if◌then◌else◌, slice_get}
use Rattle.std.specs.List.{flat_map}
use Rattle.std.proofs.lemmas.Bool.{cases_Bool}
use Rattle.std.proofs.lemmas.Option.{slice_get_within, slice_get_read}
use Rattle.ql_world.specs.declared.world.FutState.{FutState}
use Rattle.ql_world.specs.declared.world.Catch.{Catch}
use Rattle.ql_world.specs.declared.world.Kind.{Kind}
use Rattle.ql_world.specs.declared.world.Kind.TheVariants.{Main as main, Child as child, Closure as serving}
use Rattle.ql_world.specs.declared.world.Aim.{Aim}
use Rattle.ql_world.specs.declared.world.Aim.TheVariants.{Die as die}
use Rattle.ql_world.specs.declared.world.Process.{Process}
use Rattle.ql_world.specs.declared.event.Event.TheVariants.{Kill as kill}
use Rattle.ql_world.specs.World.{World, ProcessClosure, change, numbered, change_numbered, with_event, with_thread}
use Rattle.ql_world.specs.Machine.{Machine}
use Rattle.ql_world.specs.Within.{is_live, is_within}
use Rattle.ql_world.specs.Run.{those_from}
use Rattle.ql_world.specs.Idle.{killed, all_killed, reply_of, unwinds_at, abandoned, abandoned_server, killed_if_within, killed_at, killed_among, killed_within}
use Rattle.ql_calls.specs.Facts.{changed-twice}
use Rattle.ql_calls.specs.Unanswered.{future_at}
use Rattle.ql_tree.specs.declared.person.Person.{Person}
use Rattle.ql_tree.specs.Kill.{aimed_at, is_killed}
use Rattle.ql_tree.specs.Persons.{process_of_person, joined, process_at}
use Rattle.ql_tree.specs.Joined.{joined-aim, joined-thread, joined-numbered, joined-length}
use Rattle.ql_code.specs.Machine.{Point, Entry}
use Rattle.ql_host.specs.declared.shared.Shared.{Shared}
use Rattle.ql_host.specs.World.{world_of}
use Rattle.ql_host.specs.Killing.{is_killed_at, IsSameBut, killed_by}

-- lists

module _ {A B : Type 0} (v : A → B) (f : B → B) where
  set_as : (xs : List A) (i : ℕ) (d y : A) → i < length xs → v y ≡ f (v (get_or xs i d)) → map v (set xs i y) ≡ change f (map v xs) i
  set_as [] i d y h e = absurd (omega (arith, h))
  set_as (x ∷ xs) zero d y h e = ap (λ z. z ∷ map v xs) e
  set_as (x ∷ xs) (suc i) d y h e = ap (λ zs. v x ∷ zs) (set_as xs i d y (omega (arith, h)) e)

  -- one of the list is changed as its view is
  pub set_numbered : (xs : List A) (k : ℕ) (d y : A) → 0 < k → k ≤ length xs → v y ≡ f (v (get_or xs (k - 1) d)) → map v (set xs (k - 1) y) ≡ change_numbered f (map v xs) k
  set_numbered xs zero d y h l e = absurd (omega (arith, h))
  set_numbered xs (suc i) d y h l e = let s : suc i - 1 ≡ i = omega arith in rw s (set_as xs i d y (omega (arith, l)) (rw s at e))

module _ {A : Type 0} where
  change_past : (f : A → A) (xs : List A) (i : ℕ) → length xs ≤ i → change f xs i ≡ xs
  change_past f [] i h = refl
  change_past f (x ∷ xs) zero h = absurd (omega (arith, h))
  change_past f (x ∷ xs) (suc i) h = ap (λ ys. x ∷ ys) (change_past f xs i (omega (arith, h)))

  pub changed_past : (f : A → A) (xs : List A) (k : ℕ) → length xs < k → change_numbered f xs k ≡ xs
  changed_past f xs zero h = refl
  changed_past f xs (suc i) h = change_past f xs i (omega (arith, h))

  pub changed_none : (f : A → A) (xs : List A) (k : ℕ) → k ≤ 0 → change_numbered f xs k ≡ xs
  changed_none f xs zero h = refl
  changed_none f xs (suc i) h = absurd (omega (arith, h))

  set_other : (xs : List A) (i j : ℕ) (y : A) → (j ≡ i → ⊥) → slice_get (set xs i y) j ≡ slice_get xs j
  set_other [] i j y h = refl
  set_other (x ∷ xs) zero zero y h = absurd (h refl)
  set_other (x ∷ xs) zero (suc j) y h = refl
  set_other (x ∷ xs) (suc i) zero y h = refl
  set_other (x ∷ xs) (suc i) (suc j) y h = set_other xs i j y (λ e. h (ap suc e))

  pub others_stay : (xs : List A) (k m : ℕ) (y : A) → 0 < k → m ≢ k → numbered (set xs (k - 1) y) m ≡ numbered xs m
  others_stay xs zero m y h n = absurd (omega (arith, h))
  others_stay xs (suc i) zero y h n = refl
  others_stay xs (suc i) (suc j) y h n = let s : suc i - 1 ≡ i = omega arith in rw s (set_other xs i j y (λ e. n (ap suc e)))

  change_length : (f : A → A) (xs : List A) (i : ℕ) → length (change f xs i) ≡ length xs
  change_length f [] i = refl
  change_length f (x ∷ xs) zero = refl
  change_length f (x ∷ xs) (suc i) = ap suc (change_length f xs i)

  pub length_changed : (f : A → A) (xs : List A) (k : ℕ) → length (change_numbered f xs k) ≡ length xs
  length_changed f xs zero = refl
  length_changed f xs (suc i) = change_length f xs i

  pub drop_changed : (f : A → A) (xs : List A) (i : ℕ) → drop (suc i) (change f xs i) ≡ drop (suc i) xs
  drop_changed f [] i = refl
  drop_changed f (x ∷ xs) zero = refl
  drop_changed f (x ∷ xs) (suc i) = drop_changed f xs i

-- the futures that die, a place after another
pub dies : (places : List (Option ℕ)) (at f : ℕ) (ss : List FutState) → future_at (slice_get places at) ≡ Some f
    → all_killed (flat_map reply_of (drop at places)) ss ≡ all_killed (flat_map reply_of (drop (suc at) places)) (change_numbered killed ss f)
dies [] zero f ss e = absurd cc
dies [] (suc at) f ss e = absurd cc
dies (None ∷ os) zero f ss e = absurd cc
dies (Some g ∷ os) zero f ss e = let z : g ≡ f = cc in ap (λ n. all_killed (flat_map reply_of os) (change_numbered killed ss n)) z
dies (o ∷ os) (suc at) f ss e = dies os at f ss e

pub none_dies : (places : List (Option ℕ)) (at : ℕ) (ss : List FutState) → future_at (slice_get places at) ≡ None
    → all_killed (flat_map reply_of (drop at places)) ss ≡ all_killed (flat_map reply_of (drop (suc at) places)) ss
none_dies [] zero ss e = refl
none_dies [] (suc at) ss e = refl
none_dies (None ∷ os) zero ss e = refl
none_dies (Some g ∷ os) zero ss e = absurd cc
none_dies (o ∷ os) (suc at) ss e = none_dies os at ss e

-- how many are left to be killed
pub left_next : (catches : List Catch) (c owner k at : ℕ) (rs : List Person)
    → length (those_from (is_killed catches c owner) k (drop at rs)) ≡ (if is_killed_at catches c owner k (slice_get rs at) then 1 else 0) + length (those_from (is_killed catches c owner) (suc k) (drop (suc at) rs))
left_next catches c owner k zero [] = refl
left_next catches c owner k zero (r ∷ rs) =
    ⊎_elim
    (λ (t : is_killed catches c owner k r ≡ true). rw t (omega arith))
    (λ (t : is_killed catches c owner k r ≡ false). rw t (omega arith))
    (cases_Bool (is_killed catches c owner k r))
left_next catches c owner k (suc at) [] = refl
left_next catches c owner k (suc at) (r ∷ rs) = left_next catches c owner k at rs

-- worlds that are the same but for the thread of process p

module _ (m : Machine Point Entry) (p : ℕ) (t : Point) where
  abbrev pub threaded : Process Point → Process Point
  threaded q = record q { thread = t }

  abbrev pub dying : Process Point → Process Point
  dying q = record q { aim = die; thread = unwinds_at m q.thread }

  change_between : (qs : List (Process Point)) (n i : ℕ) → change threaded (change dying qs n) i ≡ change threaded (change dying (change threaded qs i) n) i
  change_between [] n i = refl
  change_between (q ∷ qs) zero zero = refl
  change_between (q ∷ qs) zero (suc i) = ap (λ rs. dying q ∷ rs) (sym (changed-twice threaded threaded qs (suc i)))
  change_between (q ∷ qs) (suc n) zero = refl
  change_between (q ∷ qs) (suc n) (suc i) = ap (λ rs. q ∷ rs) (change_between qs n i)

  changed_between : (qs : List (Process Point)) (n k : ℕ) → change_numbered threaded (change_numbered dying qs n) k ≡ change_numbered threaded (change_numbered dying (change_numbered threaded qs k) n) k
  changed_between qs zero k = sym (changed-twice threaded threaded qs k)
  changed_between qs (suc n) zero = refl
  changed_between qs (suc n) (suc i) = change_between qs n i

  thread_abandoned_server : (w : World Point Entry) (k : ℕ) (o : Option (ProcessClosure Entry)) → with_thread (abandoned_server m w k o) p t ≡ abandoned_server m (with_thread w p t) k o
  thread_abandoned_server w k None = refl
  thread_abandoned_server w k (Some s) = refl

  thread_abandoned : (w : World Point Entry) (kind : Kind) → with_thread (abandoned m w kind) p t ≡ abandoned m (with_thread w p t) kind
  thread_abandoned w main = refl
  thread_abandoned w (child f) = refl
  thread_abandoned w (serving k) = thread_abandoned_server w k (numbered w.servers k)

  -- a kill does the same to both
  killed_by_alike : (w : World Point Entry) (c n : ℕ) (kind : Kind) → with_thread (killed_by m w c n kind) p t ≡ with_thread (killed_by m (with_thread w p t) c n kind) p t
  killed_by_alike w c n kind =
      thread_abandoned (with_event (record w { procs = change_numbered dying w.procs n }) (kill c n)) kind
      ∙ ap (λ (qs : List (Process Point)). abandoned m (with_event (record w { procs = qs }) (kill c n)) kind) (changed_between w.procs n p)
      ∙ sym (thread_abandoned (with_event (record w { procs = change_numbered dying (change_numbered threaded w.procs p) n }) (kill c n)) kind)

  thread_twice : (w : World Point Entry) → with_thread w p t ≡ with_thread (with_thread w p t) p t
  thread_twice w = ap (λ (qs : List (Process Point)). record w { procs = qs }) (sym (changed-twice threaded threaded w.procs p))

  -- a process, but for its thread
  pub data IsAlike : Option (Process Point) → Option (Process Point) → Type 0 where
    both_none : IsAlike None None
    both_some : (q : Process Point) (u v : Point) → IsAlike (Some (record q { thread = u })) (Some (record q { thread = v }))

  alike_self : (o : Option (Process Point)) → IsAlike o o
  alike_self None = both_none
  alike_self (Some q) = both_some q q.thread q.thread

  alike_at : (qs : List (Process Point)) (n i : ℕ) → IsAlike (slice_get qs n) (slice_get (change threaded qs i) n)
  alike_at [] n i = both_none
  alike_at (q ∷ qs) zero zero = both_some q q.thread t
  alike_at (q ∷ qs) zero (suc i) = both_some q q.thread q.thread
  alike_at (q ∷ qs) (suc n) zero = alike_self (slice_get qs n)
  alike_at (q ∷ qs) (suc n) (suc i) = alike_at qs n i

  alike_numbered : (qs : List (Process Point)) (n k : ℕ) → IsAlike (numbered qs n) (numbered (change_numbered threaded qs k) n)
  alike_numbered qs zero zero = both_none
  alike_numbered qs zero (suc i) = both_none
  alike_numbered qs (suc n) zero = alike_self (slice_get qs n)
  alike_numbered qs (suc n) (suc i) = alike_at qs n i

  killed_if_alike : (w : World Point Entry) (c owner n : ℕ) (o u : Option (Process Point)) → IsAlike o u
      → with_thread (killed_if_within m w c owner n o) p t ≡ with_thread (killed_if_within m (with_thread w p t) c owner n u) p t
  killed_if_alike w c owner n None None both_none = thread_twice w
  killed_if_alike w c owner n None (Some b) x = elim x [ ]
  killed_if_alike w c owner n (Some a) None x = elim x [ ]
  killed_if_alike w c owner n (Some a) (Some b) (both_some q u v) =
      ⊎_elim
      (λ (y : (is_live q && (is_within w.catches q c && not (n == owner))) ≡ true). rw y (killed_by_alike w c n q.kind))
      (λ (y : (is_live q && (is_within w.catches q c && not (n == owner))) ≡ false). rw y (thread_twice w))
      (cases_Bool (is_live q && (is_within w.catches q c && not (n == owner))))

  killed_alike : (w : World Point Entry) (c owner n : ℕ) → with_thread (killed_at m w c owner n) p t ≡ with_thread (killed_at m (with_thread w p t) c owner n) p t
  killed_alike w c owner n = killed_if_alike w c owner n (numbered w.procs n) (numbered (change_numbered threaded w.procs p) n) (alike_numbered w.procs n p)

-- worlds that are the same but for a thread stay so
pub same_kills : (m : Machine Point Entry) (p : ℕ) (w v : World Point Entry) (c owner n : ℕ) → IsSameBut p w v → IsSameBut p (killed_at m w c owner n) (killed_at m v c owner n)
same_kills m p w v c owner n h t =
    killed_alike m p t w c owner n
    ∙ ap (λ x. with_thread (killed_at m x c owner n) p t) (h t)
    ∙ sym (killed_alike m p t v c owner n)

-- a process gets an aim, and unwinds
pub unwound_aim : (m : Machine Point Entry) (rs : List Person) (ts us : List Point) (n : ℕ) (a : Aim) → us ≡ change_numbered (unwinds_at m) ts n
    → joined (change_numbered (λ r. record r { aim = a }) rs n) us ≡ change_numbered (λ q. record q { aim = a; thread = unwinds_at m q.thread }) (joined rs ts) n
unwound_aim m rs ts us n a e =
    ap (joined (change_numbered (λ (r : Person). record r { aim = a }) rs n)) e
    ∙ joined-thread (unwinds_at m) (change_numbered (λ (r : Person). record r { aim = a }) rs n) ts n
    ∙ ap (λ (qs : List (Process Point)). change_numbered (λ q. record q { thread = unwinds_at m q.thread }) qs n) (joined-aim a rs ts n)
    ∙ changed-twice (λ (q : Process Point). record q { aim = a }) (λ q. record q { thread = unwinds_at m q.thread }) (joined rs ts) n

-- a kill, seen from the tables
module _ (m : Machine Point Entry) (old new : Shared) (ts us : List Point) (c n : ℕ) (kind : Kind) where
  abbrev pub with_procs : List (Process Point) → World Point Entry
  with_procs qs = abandoned m (with_event (record (world_of old ts) { procs = qs }) (kill c n)) kind

  module _ (is : world_of new us ≡ with_procs (joined (change_numbered (aimed_at die) old.tree.persons n) us)) where
    pub unwound_kill : (spared : ℕ) → us ≡ change_numbered (unwinds_at m) ts n → IsSameBut spared (world_of new us) (killed_by m (world_of old ts) c n kind)
    unwound_kill spared e t =
        ap (λ w. with_thread w spared t) (is ∙ ap with_procs (unwound_aim m old.tree.persons ts us n die e))

    pub spared_kill : us ≡ ts → IsSameBut n (world_of new us) (killed_by m (world_of old ts) c n kind)
    spared_kill e t =
        let rs = old.tree.persons in
        let qs : List (Process Point) = joined (change_numbered (aimed_at die) rs n) us in
        ap (λ w. with_thread w n t) is
        ∙ thread_abandoned m n t (with_event (record (world_of old ts) { procs = qs }) (kill c n)) kind
        ∙ ap with_procs
        (ap (λ (x : List Point). change_numbered (threaded m n t) (joined (change_numbered (aimed_at die) rs n) x) n) e
        ∙ ap (λ (x : List (Process Point)). change_numbered (threaded m n t) x n) (joined-aim die rs ts n)
        ∙ changed-twice (λ (q : Process Point). record q { aim = die }) (threaded m n t) (joined rs ts) n
        ∙ sym (changed-twice (dying m n t) (threaded m n t) (joined rs ts) n))
        ∙ sym (thread_abandoned m n t (with_event (record (world_of old ts) { procs = change_numbered (dying m n t) (joined rs ts) n }) (kill c n)) kind)

-- whether there is a kill

thread_there : (rs : List Person) (ts : List Point) (i : ℕ) (r : Person) → slice_get rs i ≡ Some r → length ts ≡ length rs → (t : Point) × (slice_get ts i ≡ Some t)
thread_there [] ts i r e l = absurd cc
thread_there (q ∷ rs) [] i r e l = absurd (omega (arith, l))
thread_there (q ∷ rs) (t ∷ ts) zero r e l = (t, refl)
thread_there (q ∷ rs) (t ∷ ts) (suc i) r e l = thread_there rs ts i r e (omega (arith, l))

thread_numbered : (rs : List Person) (ts : List Point) (n : ℕ) (r : Person) → numbered rs n ≡ Some r → length ts ≡ length rs → (t : Point) × (numbered ts n ≡ Some t)
thread_numbered rs ts zero r e l = absurd cc
thread_numbered rs ts (suc i) r e l = thread_there rs ts i r e l

module _ (m : Machine Point Entry) (h : Shared) (ts : List Point) (c owner n : ℕ) where
  pub killed_found : (r : Person) → numbered h.tree.persons n ≡ Some r → length ts ≡ length h.tree.persons → is_killed h.tree.catches c owner n r ≡ true
      → killed_by m (world_of h ts) c n r.kind ≡ killed_at m (world_of h ts) c owner n
  killed_found r e l k =
      let w = world_of h ts in
      let t = thread_numbered h.tree.persons ts n r e l in
      let there : numbered (joined h.tree.persons ts) n ≡ Some (process_of_person r t.0) = joined-numbered h.tree.persons ts n ∙ rw (e, t.1) refl in
      sym (ap (killed_if_within m w c owner n) there ∙ ap (λ (b : Bool). if b then killed_by m w c n r.kind else w) k)

  not_if : (o : Option Person) (u : Option Point) → is_killed_at h.tree.catches c owner n o ≡ false → world_of h ts ≡ killed_if_within m (world_of h ts) c owner n (process_at o u)
  not_if None None k = refl
  not_if None (Some t) k = refl
  not_if (Some r) None k = refl
  not_if (Some r) (Some t) k = sym (ap (λ (b : Bool). if b then killed_by m (world_of h ts) c n r.kind else world_of h ts) k)

  pub not_killed : is_killed_at h.tree.catches c owner n (numbered h.tree.persons n) ≡ false → world_of h ts ≡ killed_at m (world_of h ts) c owner n
  not_killed k = not_if (numbered h.tree.persons n) (numbered ts n) k ∙ sym (ap (killed_if_within m (world_of h ts) c owner n) (joined-numbered h.tree.persons ts n))

-- room for those that are left
module _ (catches : List Catch) (c owner at : ℕ) (rs : List Person) where
  abbrev pub is_next : Bool
  is_next = is_killed_at catches c owner (suc at) (numbered rs (suc at))

  abbrev pub left_from : ℕ → List Person → ℕ
  left_from n qs = length (those_from (is_killed catches c owner) (suc n) (drop n qs))

  pub room_for : (first now all : ℕ) → first + left_from at rs ≤ now + all → all ≤ first → (if is_next then 1 else 0) ≤ now
  room_for first now all h l = let e = left_next catches c owner (suc at) at rs in omega (arith, e, h, l)

  abbrev pub after : Bool → List Person
  after b = if b then change_numbered (aimed_at die) rs (suc at) else rs

  later_stay : (b : Bool) → drop (suc at) (after b) ≡ drop (suc at) rs
  later_stay true = drop_changed (aimed_at die) rs at
  later_stay false = refl

  pub room_after : (us : List Person) (first now next all : ℕ) → us ≡ after is_next → first + left_from at rs ≤ now + all → now ≤ next + (if is_next then 1 else 0) → first + left_from (suc at) us ≤ next + all
  room_after us first now next all u h s =
      let e = left_next catches c owner (suc at) at rs in
      let f : left_from (suc at) us ≡ left_from (suc at) rs = ap (λ qs. length (those_from (is_killed catches c owner) (suc (suc at)) qs)) (ap (drop (suc at)) u ∙ later_stay is_next) in
      omega (arith, e, f, h, s)

  length_after : (b : Bool) → length (after b) ≡ length rs
  length_after true = length_changed (aimed_at die) rs (suc at)
  length_after false = refl

  pub as_many_after : (us : List Person) → us ≡ after is_next → length us ≡ length rs
  as_many_after us u = ap length u ∙ length_after is_next

-- to kill among all
pub all_killed_is : (m : Machine Point Entry) (h : Shared) (ts : List Point) (c owner n : ℕ) → length h.tree.persons ≡ length ts → n ≡ length h.tree.persons
    → killed_among m (world_of h ts) c owner n ≡ killed_within m (world_of h ts) c owner
all_killed_is m h ts c owner n l e = ap (killed_among m (world_of h ts) c owner) (e ∙ l ∙ sym (joined-length h.tree.persons ts l))

module _ {A : Type 0} where
  slice_got : (xs : List A) (i : ℕ) (d x : A) → slice_get xs i ≡ Some x → get_or xs i d ≡ x
  slice_got [] i d x e = absurd cc
  slice_got (y ∷ xs) zero d x e = cc
  slice_got (y ∷ xs) (suc i) d x e = slice_got xs i d x e

  pub numbered_got : (xs : List A) (k : ℕ) (d x : A) → numbered xs k ≡ Some x → get_or xs (k - 1) d ≡ x
  numbered_got xs zero d x e = absurd cc
  numbered_got xs (suc i) d x e = let s : suc i - 1 ≡ i = omega arith in rw s (slice_got xs i d x e)

  pub numbered_within : (xs : List A) (k : ℕ) (x : A) → numbered xs k ≡ Some x → (0 < k) × (k ≤ length xs)
  numbered_within xs zero x e = absurd cc
  numbered_within xs (suc i) x e = let h : i < length xs = slice_get_within xs i x e in (omega arith, omega (arith, h))

  pub numbered_there : (xs : List A) (k : ℕ) (x : A) → 0 < k → k ≤ length xs → x ≡ get_or xs (k - 1) x → numbered xs k ≡ Some x
  numbered_there xs zero x h l e = absurd (omega (arith, h))
  numbered_there xs (suc i) x h l e =
      let s : suc i - 1 ≡ i = omega arith in
      slice_get_read xs (length xs) i x refl (omega (arith, l)) (rw s at e)
