-- One worker's schedule: it is taken tick by tick, and there is only one.
use Rattle.std.proofs.Common.{◌≡◌, ◌≢◌, ◌≤◌, ◌<◌, ℕ, zero, suc, ◌+◌, ◌==◌, Bool, true, false, not, List, [], ◌∷◌, ◌++◌, Option, Some, None, refl, sym, ap, ap₂, ◌∙◌, subst, append_assoc, append-nil, eq-eqb, eqb-true, ne_eqb, arith}
use Rattle.std.specs.Prelude.{◌||◌, ◌&&◌, if◌then◌else◌, nat_lt, is_none, slice_get, option_map, option_and_then}
use Rattle.std.specs.List.{list_all}
use Rattle.ql_base.specs.declared.limits.Limits.{Limits}
use Rattle.ql_base.specs.declared.limits.Policy.{Policy}
use Rattle.ql_base.specs.declared.limits.Policy.TheVariants.{Old, New, Turn}
use Rattle.ql_world.specs.declared.event.Stop.{Stop}
use Rattle.ql_world.specs.declared.event.Stop.TheVariants.{Done as done, Deadlock as deadlock, Budget as budget}
use Rattle.ql_world.specs.World.{World, numbered}
use Rattle.ql_world.specs.Machine.{Machine}
use Rattle.ql_world.specs.Tick.{can_step, tick}
use Rattle.ql_world.specs.Run.{Story, mark_or, those_from, any_from, is_stuck, stop_of, run, story_of, told, Picked, least, greatest, least_above, first_of, pick, is_in, next_picked, ready_ones, is_picked, is_planned_after, is_planned}
use Rattle.ql_top.proofs.Counted.{by, spelled, counted_tick}

-- those that pass a test

module _ {A : Type 0} (f : ℕ → A → Bool) where
  abbrev pub passes : ℕ → Option A → Bool
  passes p None = false
  passes p (Some x) = f p x

  below_those : (p n : ℕ) (xs : List A) → p < n → is_in p (those_from f n xs) ≡ false
  below_those p n [] h = refl
  below_those p n (x ∷ xs) h =
      let apart : (p == n) ≡ false = ne_eqb p n (λ e. omega (arith, h, e)) in
      let others = below_those p (suc n) xs (let k : p < suc n = omega (arith, h) in k) in
      by (f n x) (λ t. rw (t, apart) others) (λ t. rw t others)

  is_in_those : (xs : List A) (p k n : ℕ) → p ≡ n + k → is_in p (those_from f n xs) ≡ passes p (slice_get xs k)
  is_in_those [] p k n e = refl
  is_in_those (x ∷ xs) p zero n e =
      let same : n ≡ p = omega (arith, e) in
      let there : (p == p) ≡ true = eq-eqb p p refl in
      subst (λ z. is_in p (those_from f z (x ∷ xs)) ≡ f p x) (sym same)
      (by (f p x) (λ t. rw (t, there) refl) (λ t. rw t (below_those p (suc p) xs (omega arith))))
  is_in_those (x ∷ xs) p (suc k) n e =
      let apart : (p == n) ≡ false = ne_eqb p n (λ h. omega (arith, h, e)) in
      let others = is_in_those xs p k (suc n) (omega (arith, e)) in
      by (f n x) (λ t. rw (t, apart) others) (λ t. rw t others)

  pub is_in_numbered : (xs : List A) (p : ℕ) → is_in p (those_from f 1 xs) ≡ passes p (numbered xs p)
  is_in_numbered xs zero = below_those 0 1 xs (omega arith)
  is_in_numbered xs (suc k) = is_in_those xs (suc k) k 1 (omega arith)

  pub none_pass : (n : ℕ) (xs : List A) → those_from f n xs ≡ [] → any_from f n xs ≡ false
  none_pass n [] e = refl
  none_pass n (x ∷ xs) e =
      by (f n x)
      (λ t. let bad : n ∷ those_from f (suc n) xs ≡ [] = rw t at e in absurd cc)
      (λ t. rw t (none_pass (suc n) xs (rw t at e)))

-- what a policy picks

or_more : (a b : Bool) → b ≡ true → (a || b) ≡ true
or_more true b h = refl
or_more false b h = h

first_is_in : (p : ℕ) (ps : List ℕ) → is_in p (p ∷ ps) ≡ true
first_is_in p ps = let there : (p == p) ≡ true = eq-eqb p p refl in rw there refl

least_is_in : (ps : List ℕ) (p : ℕ) → least ps ≡ Some p → is_in p ps ≡ true
least_is_in [] p e = absurd cc
least_is_in (r ∷ ps) p e = let same : r ≡ p = cc in subst (λ z. is_in p (z ∷ ps) ≡ true) (sym same) (first_is_in p ps)

greatest_is_in : (ps : List ℕ) (p : ℕ) → greatest ps ≡ Some p → is_in p ps ≡ true
greatest_is_in [] p e = absurd cc
greatest_is_in (r ∷ []) p e = let same : r ≡ p = cc in subst (λ z. is_in p (z ∷ []) ≡ true) (sym same) (first_is_in p [])
greatest_is_in (r ∷ (s ∷ ps)) p e = or_more (p == r) _ (greatest_is_in (s ∷ ps) p e)

above_is_in : (last : ℕ) (ps : List ℕ) (p : ℕ) → least_above last ps ≡ Some p → is_in p ps ≡ true
above_is_in last [] p e = absurd cc
above_is_in last (r ∷ ps) p e =
    by (nat_lt last r)
    (λ t. least_is_in (r ∷ ps) p (rw t at e))
    (λ t. or_more (p == r) (is_in p ps) (above_is_in last ps p (rw t at e)))

turn_is_in : (o : Option ℕ) (ps : List ℕ) (p : ℕ) → ((r : ℕ) → o ≡ Some r → is_in r ps ≡ true) → first_of o (least ps) ≡ Some p → is_in p ps ≡ true
turn_is_in None ps p h e = least_is_in ps p e
turn_is_in (Some r) ps p h e = h p e

pub pick_is_in : (policy : Policy) (last : ℕ) (ps : List ℕ) (p : ℕ) → pick policy last ps ≡ Some p → is_in p ps ≡ true
pick_is_in Old last ps p e = least_is_in ps p e
pick_is_in New last ps p e = greatest_is_in ps p e
pick_is_in Turn last ps p e = turn_is_in (least_above last ps) ps p (λ r h. above_is_in last ps r h) e

none_least : (ps : List ℕ) → least ps ≡ None → ps ≡ []
none_least [] e = refl
none_least (p ∷ ps) e = absurd cc

none_greatest : (ps : List ℕ) → greatest ps ≡ None → ps ≡ []
none_greatest [] e = refl
none_greatest (p ∷ []) e = absurd cc
none_greatest (p ∷ (r ∷ ps)) e = let bad : r ∷ ps ≡ [] = none_greatest (r ∷ ps) e in absurd cc

none_first : (o r : Option ℕ) → first_of o r ≡ None → r ≡ None
none_first None r e = e
none_first (Some p) r e = absurd cc

pub none_picked : (policy : Policy) (last : ℕ) (ps : List ℕ) → pick policy last ps ≡ None → ps ≡ []
none_picked Old last ps e = none_least ps e
none_picked New last ps e = none_greatest ps e
none_picked Turn last ps e = none_least ps (none_first (least_above last ps) (least ps) e)

module _ {P K : Type 0} (m : Machine P K) (names : List (List ℕ)) (limits : Limits) where
  -- a run that goes on

  pub record GoesOn (w : World P K) : Type 0 where
    pub some : is_stuck m names limits w ≡ false
    pub left : (w.ticks == limits.budget) ≡ false

  not_stopped : (w : World P K) (ended : Bool) (mark : Option Stop) (stuck spent : Bool)
      → (if ended then Some done else mark_or mark (if stuck then Some deadlock else (if spent then Some budget else None))) ≡ None
      → (stuck ≡ false) × (spent ≡ false)
  not_stopped w true mark stuck spent e = absurd cc
  not_stopped w false (Some stop) stuck spent e = absurd cc
  not_stopped w false None true spent e = absurd cc
  not_stopped w false None false true e = absurd cc
  not_stopped w false None false false e = (refl, refl)

  pub goes_on : (w : World P K) → stop_of m names limits w ≡ None → GoesOn w
  goes_on w e =
      let h = not_stopped w (list_all (λ q. q.ended) w.procs) w.mark (is_stuck m names limits w) (w.ticks == limits.budget) e in
      record { some = h.0; left = h.1 }

  pub some_ticks_left : (w : World P K) → stop_of m names limits w ≡ None → w.ticks ≤ limits.budget → w.ticks < limits.budget
  some_ticks_left w e h =
      let apart : w.ticks ≢ limits.budget = λ k. let bad : true ≡ false = sym (eq-eqb _ _ k) ∙ (goes_on w e).left in absurd cc in
      omega (arith, h, apart)

  -- then there is a process to pick
  pub some_ready : (w : World P K) (last : ℕ) → stop_of m names limits w ≡ None → pick limits.policy last (ready_ones m names limits w) ≡ None → Prim.⊥
  some_ready w last e k =
      let none : any_from (λ p q. can_step m names limits p q w) 1 w.procs ≡ false =
      none_pass (λ p q. can_step m names limits p q w) 1 w.procs (none_picked limits.policy last (ready_ones m names limits w) k) in
      let some : not (any_from (λ p q. can_step m names limits p q w) 1 w.procs) ≡ false = (goes_on w e).some in
      let bad : not false ≡ false = subst (λ b. not b ≡ false) none some in
      absurd cc

  -- the schedule of one worker, so far

  -- what the worker who picked this last takes from here goes on with what was taken since the first world
  abbrev pub IsPlan : World P K → World P K → Picked → Type 0
  IsPlan first w last = (ps : List ℕ) → is_planned_after m names limits (Some last) (Some w) ps ≡ true
      → is_planned m names limits first (spelled w.events ++ ps) ≡ true

  is_first : (p : ℕ) (x : Option Picked) (b : Bool) → (is_picked m names limits p x && b) ≡ true → (next : Picked) × (x ≡ Some next) × (p ≡ next.process) × (b ≡ true)
  is_first p None b e = absurd cc
  is_first p (Some next) b e =
      by (p == next.process)
      (λ t. (next, refl, eqb-true p next.process t, rw t at e))
      (λ t. let bad : false ≡ true = rw t at e in absurd cc)

  -- a schedule of one worker begins with the one that it picks, and goes on so
  planned_first : (p : ℕ) (ps : List ℕ) (last : Picked) (w : World P K) → is_planned_after m names limits (Some last) (Some w) (p ∷ ps) ≡ true
      → (next : Picked) × (next_picked limits last (ready_ones m names limits w) ≡ Some next) × (p ≡ next.process)
      × ((v : World P K) → tick m names limits w p ≡ Some v → is_planned_after m names limits (Some next) (Some v) ps ≡ true)
  planned_first p ps last w e =
      let f = is_first p (next_picked limits last (ready_ones m names limits w)) _ e in (
        f.0,
        f.1,
        f.2,
        λ v t. subst (λ o. is_planned_after m names limits (Some f.0) o ps ≡ true) t
            (subst (λ o. is_planned_after m names limits o (tick m names limits w p) ps ≡ true) f.1 f.3),
      )

  pub plan_goes_on : (first w v : World P K) (last next : Picked) → IsPlan first w last → next_picked limits last (ready_ones m names limits w) ≡ Some next
      → tick m names limits w next.process ≡ Some v → IsPlan first v next
  plan_goes_on first w v last next plan e t = λ ps h.
      let there : (next.process == next.process) ≡ true = eq-eqb next.process next.process refl in
      let more : is_planned_after m names limits (Some last) (Some w) (next.process ∷ ps) ≡ true = rw (e, t, there) h in
      let one = (counted_tick m names limits w v next.process t).1 in
      subst (λ done. is_planned m names limits first done ≡ true)
      (sym (ap (λ done. done ++ ps) one ∙ append_assoc (spelled w.events) (next.process ∷ []) ps)) (plan (next.process ∷ ps) more)

  pub plan_ends : (first w : World P K) (last : Picked) → IsPlan first w last → is_planned m names limits first (spelled w.events) ≡ true
  plan_ends first w last plan = subst (λ done. is_planned m names limits first done ≡ true) (append-nil (spelled w.events)) (plan [] refl)

  -- there is only one

  none_told : (w : World P K) (p : ℕ) (ps : List ℕ) (x y : Story) → told m names limits w [] ≡ Some x → told m names limits w (p ∷ ps) ≡ Some y → Prim.⊥
  none_told w p ps x y e f = at_stop (stop_of m names limits w) refl
    where
      at_stop : (o : Option Stop) → stop_of m names limits w ≡ o → Prim.⊥
      at_stop None s = let bad : None ≡ Some x = rw s at e in absurd cc
      at_stop (Some stop) s = let bad : None ≡ Some y = rw s at f in absurd cc

  -- what is told after a tick
  told_next : (w : World P K) (p : ℕ) (ps : List ℕ) (x : Story) → told m names limits w (p ∷ ps) ≡ Some x
      → (v : World P K) × (tick m names limits w p ≡ Some v) × (told m names limits v ps ≡ Some x)
  told_next w p ps x e =
      by (is_none (stop_of m names limits w))
      (λ t. at_tick (tick m names limits w p) refl (rw t at e))
      (λ t. let bad : None ≡ Some x = rw t at e in absurd cc)
    where
      at_tick : (o : Option (World P K)) → tick m names limits w p ≡ o
          → option_and_then (λ v. option_map (story_of m names limits v) (stop_of m names limits v)) (option_and_then (λ v. run m names limits v ps) o) ≡ Some x
          → (v : World P K) × (tick m names limits w p ≡ Some v) × (told m names limits v ps ≡ Some x)
      at_tick None t h = absurd cc
      at_tick (Some v) t h = (v, t, h)

  one_from : (s t : List ℕ) (last : Picked) (w : World P K) (x y : Story) → told m names limits w s ≡ Some x → told m names limits w t ≡ Some y
      → is_planned_after m names limits (Some last) (Some w) s ≡ true → is_planned_after m names limits (Some last) (Some w) t ≡ true → s ≡ t
  one_from [] [] last w x y e f g h = refl
  one_from [] (r ∷ t) last w x y e f g h = absurd (none_told w r t x y e f)
  one_from (p ∷ s) [] last w x y e f g h = absurd (none_told w p s y x f e)
  one_from (p ∷ s) (r ∷ t) last w x y e f g h =
      let one = planned_first p s last w g in
      let two = planned_first r t last w h in
      let alike : Some one.0 ≡ Some two.0 = sym one.1 ∙ two.1 in
      let next : one.0 ≡ two.0 = cc in
      let same : p ≡ r = one.2 ∙ ap (λ (n : Picked). n.process) next ∙ sym two.2 in
      let after = told_next w p s x e in
      let other = told_next w r t y f in
      let worlds : Some after.0 ≡ Some other.0 = sym after.1 ∙ ap (tick m names limits w) same ∙ other.1 in
      let world : after.0 ≡ other.0 = cc in
      ap₂ (λ n ns. n ∷ ns) same
      (one_from s t one.0 after.0 x y after.2 (subst (λ v. told m names limits v t ≡ Some y) (sym world) other.2)
      (one.3 after.0 after.1)
      (subst (λ v. is_planned_after m names limits (Some one.0) (Some v) t ≡ true) (sym world)
      (subst (λ n. is_planned_after m names limits (Some n) (Some other.0) t ≡ true) (sym next) (two.3 other.0 other.1))))

  pub one_planned : (w : World P K) (s t : List ℕ) (x y : Story) → told m names limits w s ≡ Some x → told m names limits w t ≡ Some y
      → is_planned m names limits w s ≡ true → is_planned m names limits w t ≡ true → s ≡ t
  one_planned w s t x y e f g h = one_from s t (record { process = 0; ticks = 0 }) w x y e f g h
