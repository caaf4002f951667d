-- A turn tick by tick.
use Rattle.std.proofs.Common.{◌≡◌, ◌⊎◌, ℕ, zero, suc, ◌+◌, ◌<◌, ◌==◌, Bool, true, false, Option, Some, None, refl, sym, ap, ◌∙◌, subst, ⊎_elim, inl, inr, arith}
use Rattle.std.specs.Prelude.{option_and_then, ◌||◌, if◌then◌else◌, is_none, is_some}
use Rattle.ql_world.specs.declared.event.Stop.{Stop}
use Rattle.ql_replay.specs.Replay.{Host, is_zero, is_quiet, goes_on, can_end, stepped, turned, of_turn}
use Rattle.ql_replay.specs.Following.{more_turned, Tells, TakesTicks, TakesMore}
use Rattle.ql_replay.proofs.Basics.{cases}

module _ {W : Type 0} (host : Host W) where
  pub no_more : (w u : W) (p k n : ℕ) → turned host w p k ≡ Some u → more_turned host k u p ≡ None → k < n → turned host w p n ≡ None
  no_more w u p k zero t m l = absurd (omega (arith, l))
  no_more w u p k (suc n) t m l =
      ⊎_elim (λ (e : k ≡ n). let f : turned host w p n ≡ Some u = subst (λ i. turned host w p i ≡ Some u) e t in let g : more_turned host n u p ≡ None = subst (λ i. more_turned host i u p ≡ None) e m in
      ap (option_and_then (λ v. more_turned host n v p)) f ∙ g)
      (λ (j : k < n). ap (option_and_then (λ v. more_turned host n v p)) (no_more w u p k n t m j))
      (same_or_below k n l)
    where
      same_or_below : (k n : ℕ) → k < suc n → (k ≡ n) ⊎ (k < n)
      same_or_below zero zero l = inl refl
      same_or_below zero (suc n) l = inr (omega arith)
      same_or_below (suc k) zero l = absurd (omega (arith, l))
      same_or_below (suc k) (suc n) l = ⊎_elim (λ (e : k ≡ n). inl (ap suc e)) (λ (j : k < n). inr (omega (arith, j))) (same_or_below k n (omega (arith, l)))

  -- ticks of a turn that has some
  after_those : (w u v : W) (p k n : ℕ) (o : Option W) → turned host u p (suc n) ≡ o → ((x : W) → turned host u p (suc n) ≡ Some x → turned host w p (suc (k + n)) ≡ Some x)
      → option_and_then (λ x. if is_zero (suc n) || is_quiet (host.events x) then stepped host x p else None) o ≡ Some v → turned host w p (suc (suc (k + n))) ≡ Some v
  after_those w u v p k n None e before h = absurd cc
  after_those w u v p k n (Some x) e before h = let i : turned host w p (suc (k + n)) ≡ Some x = before x e in rw i h

  pub on_turned : (w u v : W) (p k n : ℕ) → turned host w p k ≡ Some u → (is_zero k || is_quiet (host.events u)) ≡ true → turned host u p (suc n) ≡ Some v
      → turned host w p (suc (k + n)) ≡ Some v
  on_turned w u v p k zero t c h = let z : k + 0 ≡ k = omega arith in rw (z, t, c) h
  on_turned w u v p k (suc n) t c h =
      let z : k + suc n ≡ suc (k + n) = omega arith in
      subst (λ i. turned host w p (suc i) ≡ Some v) (sym z)
      (after_those w u v p k n (turned host u p (suc n)) refl (λ x e. on_turned w u x p k n t c e) h)

  pub more_on : (w u v : W) (p k n : ℕ) → turned host w p k ≡ Some u → TakesMore host p k n u v → (n == 0) ≡ false → turned host w p (k + n) ≡ Some v
  more_on w u v p k zero t h z = absurd cc
  more_on w u v p k (suc n) t h z =
      let e : k + suc n ≡ suc (k + n) = omega arith in
      subst (λ i. turned host w p i ≡ Some v) (sym e) (on_turned w u v p k n t h.0 h.1)

  pub none_on : (w u v : W) (p k n all : ℕ) → turned host w p k ≡ Some u → TakesMore host p k n u v → n ≡ 0 → k < all → turned host w p all ≡ None
  none_on w u v p k zero all t h z l = no_more w u p k all t h l
  none_on w u v p k (suc n) all t h z l = absurd (omega (arith, z))

  -- ---- the same for one call of the host

  pub ended_turn : (u v : W) (p k : ℕ) → 0 < k → is_quiet (host.events u) ≡ false → TakesMore host p k 0 u v
  ended_turn u v p zero l q = absurd (omega (arith, l))
  ended_turn u v p (suc k) l q = rw q refl

  stopped_there : (o : Option Stop) (u : Option W) → is_some o ≡ true → (if is_none o then u else None) ≡ None
  stopped_there None u h = absurd cc
  stopped_there (Some s) u h = refl

  none_either : (b : Bool) (o : Option W) → o ≡ None → (if b then o else None) ≡ None
  none_either true o h = h
  none_either false o h = refl

  pub stopped_turn : (u v : W) (p k : ℕ) → is_some (host.stop u) ≡ true → TakesMore host p k 0 u v
  stopped_turn u v p k s = none_either (is_zero k || is_quiet (host.events u)) (stepped host u p) (stopped_there (host.stop u) (host.tick u p) s)

  running_tick : (o : Option Stop) (u : Option W) → u ≡ None → (if is_none o then u else None) ≡ None
  running_tick None u h = h
  running_tick (Some s) u h = refl

  pub ticks_more : (u v : W) (p k n : ℕ) → (is_zero k || is_quiet (host.events u)) ≡ true → TakesTicks host p n u v → TakesMore host p k n u v
  ticks_more u v p k zero c h = none_either (is_zero k || is_quiet (host.events u)) (stepped host u p) (running_tick (host.stop u) (host.tick u p) h)
  ticks_more u v p k (suc n) c h = (c, h)

  pub may_go : (u : W) (k : ℕ) (b : Bool) → b ≡ is_quiet (host.events u) → (k ≡ 0) ⊎ (b ≡ true) → (is_zero k || is_quiet (host.events u)) ≡ true
  may_go u zero b e h = refl
  may_go u (suc k) b e h = ⊎_elim (λ (z : suc k ≡ 0). absurd (omega (arith, z))) (λ (t : b ≡ true). sym e ∙ t) h

  pub no_turn : (w : W) (p n : ℕ) → turned host w p n ≡ None → of_turn host w p n ≡ None
  no_turn w p zero t = refl
  no_turn w p (suc n) t =
      ⊎_elim (λ (g : goes_on p (host.events w) ≡ true). rw g refl) (λ (g : goes_on p (host.events w) ≡ false). rw (g, t) refl) (cases (goes_on p (host.events w)))

  pub joined_turn : (w : W) (p n : ℕ) → goes_on p (host.events w) ≡ true → of_turn host w p n ≡ None
  joined_turn w p zero g = refl
  joined_turn w p (suc n) g = rw g refl

  pub whole_turn : (w v : W) (p n : ℕ) → 0 < n → goes_on p (host.events w) ≡ false → turned host w p n ≡ Some v → Tells (can_end host v p) (of_turn host w p n) v
  whole_turn w v p zero l g t = absurd (omega (arith, l))
  whole_turn w v p (suc n) l g t =
      ⊎_elim (λ (e : can_end host v p ≡ true). rw (e, g, t, e) refl) (λ (e : can_end host v p ≡ false). rw (e, g, t, e) refl) (cases (can_end host v p))
