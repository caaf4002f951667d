-- What a process does by itself is a run of its ticks.
use Rattle.std.proofs.Common.{◌≡◌, ℕ, zero, suc, ◌+◌, ◌<◌, ◌≤◌, ◌==◌, Bool, true, false, not, ◌&&◌, ◌||◌, if◌then◌else◌, List, [], ◌∷◌, replicate, Some, None, is_none, option_and_then, slice_get, refl, sym, ap, ap₂, ◌∙◌, arith, ne_eqb}
use Rattle.std.specs.List.{list_all}
use Rattle.ql_base.specs.declared.limits.Limits.{Limits}
use Rattle.ql_world.specs.declared.event.Stop.TheVariants.{Done as done, Deadlock as deadlock, Budget as budget}
use Rattle.ql_world.specs.World.{World, change, numbered, change_numbered, counted, with_thread}
use Rattle.ql_world.specs.declared.world.Process.{Process}
use Rattle.ql_world.specs.Machine.{Machine}
use Rattle.ql_world.specs.Tick.{can_step, step, tick}
use Rattle.ql_world.specs.Run.{mark_or, any_from, is_stuck, stuck_or_spent, stop_of, run}
use Rattle.ql_code.specs.LocalPath.{Seen}
use Rattle.ql_code.proofs.Within.{of_and_then, of_map}
use Rattle.ql_code.specs.LocalLaws.{alone, own_step, own_steps, Shows, with_ticks, worked}
use Rattle.ql_code.proofs.Alone.{steps_alone}

module _ {A : Type 0} where
  got_changed : (f : A → A) (xs : List A) (i : ℕ) (x : A) → slice_get xs i ≡ Some x → slice_get (change f xs i) i ≡ Some (f x)
  got_changed f [] i x e = absurd cc
  got_changed f (y ∷ xs) zero x e = let same : y ≡ x = cc in ap (λ z. Some (f z)) same
  got_changed f (y ∷ xs) (suc i) x e = got_changed f xs i x e

  pub numbered_changed : (f : A → A) (xs : List A) (p : ℕ) (x : A) → numbered xs p ≡ Some x → numbered (change_numbered f xs p) p ≡ Some (f x)
  numbered_changed f xs zero x e = absurd cc
  numbered_changed f xs (suc n) x e = got_changed f xs n x e

  unchanged : (f : A → A) (xs : List A) (i : ℕ) (x : A) → slice_get xs i ≡ Some x → f x ≡ x → change f xs i ≡ xs
  unchanged f [] i x e s = refl
  unchanged f (y ∷ xs) zero x e s = let same : y ≡ x = cc in ap (λ z. z ∷ xs) (ap f same ∙ s ∙ sym same)
  unchanged f (y ∷ xs) (suc i) x e s = ap (λ ys. y ∷ ys) (unchanged f xs i x e s)

  pub numbered_unchanged : (f : A → A) (xs : List A) (p : ℕ) (x : A) → numbered xs p ≡ Some x → f x ≡ x → change_numbered f xs p ≡ xs
  numbered_unchanged f xs zero x e s = refl
  numbered_unchanged f xs (suc n) x e s = unchanged f xs n x e s

  changed_twice : (f g : A → A) (xs : List A) (i : ℕ) → change g (change f xs i) i ≡ change (λ x. g (f x)) xs i
  changed_twice f g [] i = refl
  changed_twice f g (y ∷ xs) zero = refl
  changed_twice f g (y ∷ xs) (suc i) = ap (λ ys. y ∷ ys) (changed_twice f g xs i)

  pub numbered_twice : (f g : A → A) (xs : List A) (p : ℕ) → change_numbered g (change_numbered f xs p) p ≡ change_numbered (λ x. g (f x)) xs p
  numbered_twice f g xs zero = refl
  numbered_twice f g xs (suc n) = changed_twice f g xs n

  any_at : (f : ℕ → A → Bool) (n i : ℕ) (xs : List A) (x : A) → slice_get xs i ≡ Some x → f (n + i) x ≡ true → any_from f n xs ≡ true
  any_at f n i [] x e t = absurd cc
  any_at f n zero (y ∷ xs) x e t =
      let same : y ≡ x = cc in
      let here : f n y ≡ true = ap₂ f (let z : n ≡ n + 0 = omega arith in z) same ∙ t in
      ap (λ b. b || any_from f (suc n) xs) here
  any_at f n (suc i) (y ∷ xs) x e t =
      let there : f (suc n + i) x ≡ true = ap (λ k. f k x) (let z : suc n + i ≡ n + suc i = omega arith in z) ∙ t in
      ap (λ b. f n y || b) (any_at f (suc n) i xs x e there) ∙ or_true (f n y)
    where
      or_true : (b : Bool) → (b || true) ≡ true
      or_true true = refl
      or_true false = refl

  pub any_numbered : (f : ℕ → A → Bool) (xs : List A) (p : ℕ) (x : A) → numbered xs p ≡ Some x → f p x ≡ true → any_from f 1 xs ≡ true
  any_numbered f xs zero x e t = absurd cc
  any_numbered f xs (suc n) x e t = any_at f 1 n xs x e (ap (λ k. f k x) (let z : 1 + n ≡ suc n = omega arith in z) ∙ t)

  not_all_at : (f : A → Bool) (xs : List A) (i : ℕ) (x : A) → slice_get xs i ≡ Some x → f x ≡ false → list_all f xs ≡ false
  not_all_at f [] i x e t = absurd cc
  not_all_at f (y ∷ xs) zero x e t = let same : y ≡ x = cc in ap (λ b. b && list_all f xs) (ap f same ∙ t)
  not_all_at f (y ∷ xs) (suc i) x e t = ap (λ b. f y && b) (not_all_at f xs i x e t) ∙ and_false (f y)
    where
      and_false : (b : Bool) → (b && false) ≡ false
      and_false true = refl
      and_false false = refl

  pub not_all : (f : A → Bool) (xs : List A) (p : ℕ) (x : A) → numbered xs p ≡ Some x → f x ≡ false → list_all f xs ≡ false
  not_all f xs zero x e t = absurd cc
  not_all f xs (suc n) x e t = not_all_at f xs n x e t

module _ {P K : Type 0} (m : Machine P K) (names : List (List ℕ)) (limits : Limits) where
  -- process p has not ended, and what it sees is there
  pub record AtWork (seen : Seen) (w : World P K) (p : ℕ) (q : Process P) : Type 0 where
    pub is_there : numbered w.procs p ≡ Some q
    pub goes_on : q.ended ≡ false
    pub shows : Shows seen w.pairs
    pub within : w.cells ≤ limits.cells

  module _ (seen : Seen) where
    pub tick_alone : (w : World P K) (p : ℕ) (q : Process P) (t : P) → AtWork seen w p q → own_step m seen q.thread ≡ Some t → (can_step m names limits p q w ≡ true) × (tick m names limits w p ≡ Some (worked w p 1 t))
    tick_alone w p q t a e =
        let r = of_map (m.go q.thread) (alone seen (m.want q.thread)) t e in
        let s = steps_alone m names limits p q w seen r.0 a.goes_on a.shows a.within r.1 in
        (s.0, ap (option_and_then (λ q. step m names limits p q w)) a.is_there ∙ s.1 ∙ ap (λ t. Some (with_thread (counted w p) p t)) r.2)

    pub goes_on_working : (w : World P K) (p : ℕ) (q : Process P) (t : P) → AtWork seen w p q → AtWork seen (worked w p 1 t) p (record q { thread = t })
    goes_on_working w p q t a = record { is_there = numbered_changed (λ q. record q { thread = t }) w.procs p q a.is_there; goes_on = a.goes_on; shows = a.shows; within = a.within }

    -- The run goes on while a process can step, and ticks are left.
    pub no_stop : (w : World P K) (p : ℕ) (q : Process P) (t : P) → AtWork seen w p q → w.mark ≡ None → w.ticks < limits.budget → own_step m seen q.thread ≡ Some t → stop_of m names limits w ≡ None
    no_stop w p q t a u less e =
        let s = tick_alone w p q t a e in
        let runs : list_all (λ q. q.ended) w.procs ≡ false = not_all (λ q. q.ended) w.procs p q a.is_there a.goes_on in
        let can : is_stuck m names limits w ≡ false = ap not (any_numbered (λ p q. can_step m names limits p q w) w.procs p q a.is_there s.0) in
        let left : (w.ticks == limits.budget) ≡ false = ne_eqb _ _ (λ k. omega arith) in
        ap (λ b. if b then Some done else mark_or w.mark (stuck_or_spent m names limits w)) runs
        ∙ ap (λ k. mark_or k (stuck_or_spent m names limits w)) u
        ∙ ap (λ b. if b then Some deadlock else (if w.ticks == limits.budget then Some budget else None)) can
        ∙ ap (λ b. if b then Some budget else None) left

    worked_on : (w : World P K) (p n : ℕ) (t u : P) → worked (worked w p 1 t) p n u ≡ worked w p (suc n) u
    worked_on w p n t u =
        ap₂ (λ ps k. record w { procs = ps; events = with_ticks p (suc n) w.events; ticks = k })
        (numbered_twice (λ q. record q { thread = t }) (λ q. record q { thread = u }) w.procs p)
        (let z : w.ticks + 1 + n ≡ w.ticks + suc n = omega arith in z)

    -- What a process does by itself is so many ticks of a run.
    pub run_alone : (n : ℕ) (w : World P K) (p : ℕ) (q : Process P) (t : P) → AtWork seen w p q → w.mark ≡ None → w.ticks + n ≤ limits.budget → own_steps m seen n q.thread ≡ Some t → run m names limits w (replicate n p) ≡ Some (worked w p n t)
    run_alone zero w p q t a k h e =
        let same : q.thread ≡ t = cc in
        ap₂ (λ ps k. Some (record w { procs = ps; ticks = k }))
        (sym (numbered_unchanged (λ q. record q { thread = t }) w.procs p q a.is_there (ap (λ t. record q { thread = t }) (sym same))))
        (let z : w.ticks ≡ w.ticks + 0 = omega arith in z)
    run_alone (suc n) w p q t a k h e =
        let r = of_and_then (own_steps m seen n) (own_step m seen q.thread) t e in
        let u = r.0 in
        let stop = no_stop w p q u a k (omega arith) r.1 in
        let first = tick_alone w p q u a r.1 in
        let others = run_alone n (worked w p 1 u) p (record q { thread = u }) t (goes_on_working w p q u a) k (let z : w.ticks + 1 + n ≤ limits.budget = omega arith in z) r.2 in
        ap (λ s. if is_none s then option_and_then (λ v. run m names limits v (replicate n p)) (tick m names limits w p) else None) stop
        ∙ ap (option_and_then (λ v. run m names limits v (replicate n p))) first.1
        ∙ others
        ∙ ap Some (worked_on w p n u t)
