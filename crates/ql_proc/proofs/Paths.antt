-- Local paths, one tick after another.
use Rattle.std.proofs.Common.{◌≡◌, ◌⊎◌, ℕ, zero, suc, ◌+◌, ◌≤◌, IsTrue, List, Option, Some, None, is_some, option_map, option_and_then, slice_get, refl, sym, ap, ap₂, ◌∙◌, subst, ⊎_elim, arith}
use Rattle.ql_code.specs.Code.{Instruction}
use Rattle.ql_world.specs.declared.world.Aim.{Aim}
use Rattle.ql_code.specs.Machine.{Item}
use Rattle.ql_code.specs.declared.mark.State.{State}
use Rattle.ql_code.specs.declared.mark.State.TheVariants.{Running}
use Rattle.ql_code.specs.LocalPath.{Window, local_step, local_steps, local_tick, IsGreatest}

of-and-then : {A B : Type 0} (f : A → Option B) (o : Option A) (b : B) → option_and_then f o ≡ Some b → (a : A) × (o ≡ Some a) × (f a ≡ Some b)
of-and-then f None b e = absurd cc
of-and-then f (Some a) b e = (a, refl, e)

module _ (code : List Instruction) where
  abbrev steps : ℕ → Window → Option Window
  steps = local_steps code None

  abbrev step : Window → Option Window
  step = local_step code None

  pub one-more : (n : ℕ) (a b c : Window) → steps n a ≡ Some b → step b ≡ Some c → steps (n + 1) a ≡ Some c
  one-more zero a b c e f = let same : a ≡ b = cc in ap (option_and_then (steps 0)) (ap step same ∙ f)
  one-more (suc n) a b c e f =
      let r = of-and-then (steps n) (step a) b e in
      let others = one-more n r.0 b c r.2 f in
      let all : steps (suc (n + 1)) a ≡ Some c = ap (option_and_then (steps (n + 1))) r.1 ∙ others in
      subst (λ i. steps i a ≡ Some c) (let z : suc (n + 1) ≡ suc n + 1 = omega arith in z) all

  -- the next window is where the next tick of a process that runs ends
  pub one-step : (a b : Window) → a.state ≡ Running → b.state ≡ Running → a.aim ≡ b.aim → local_tick code None Running (slice_get code a.place) a.place a.items ≡ Some (b.place, b.items) → step a ≡ Some b
  one-step a b s t u e =
      let here = λ (x : ℕ × List Item). record a { place = x.0; items = x.1 } in
      ap (λ (k : State). option_map here (local_tick code None k (slice_get code a.place) a.place a.items)) s
      ∙ (ap (option_map here) e ∙ ap₂ (λ (aim : Aim) (k : State). Some (record { place = b.place; aim = aim; state = k; items = b.items })) u (s ∙ sym t))

  pub no-step : (a : Window) → a.state ≡ Running → local_tick code None Running (slice_get code a.place) a.place a.items ≡ None → step a ≡ None
  no-step a s e =
      let here = λ (x : ℕ × List Item). record a { place = x.0; items = x.1 } in
      ap (λ (k : State). option_map here (local_tick code None k (slice_get code a.place) a.place a.items)) s ∙ ap (option_map here) e

  is-there : (o : Option Window) (b : Window) → o ≡ Some b → IsTrue (is_some o)
  is-there o b e = subst (λ x. IsTrue (is_some x)) (sym e) refl

  -- the last window has no local step
  no-more : (k n : ℕ) (a b : Window) → steps n a ≡ Some b → step b ≡ None → IsTrue (is_some (steps k a)) → k ≤ n
  no-more k zero a b e f t = of-none k (ap step (let same : a ≡ b = cc in same) ∙ f) t
    where
      of-none : (k : ℕ) → step a ≡ None → IsTrue (is_some (steps k a)) → k ≤ 0
      of-none zero f t = omega arith
      of-none (suc k) f t = let bad : IsTrue (is_some (option_and_then (steps k) None)) = subst (λ o. IsTrue (is_some (option_and_then (steps k) o))) f t in absurd cc
  no-more zero (suc n) a b e f t = omega arith
  no-more (suc k) (suc n) a b e f t =
      let r = of-and-then (steps n) (step a) b e in
      let others : IsTrue (is_some (steps k r.0)) = subst (λ o. IsTrue (is_some (option_and_then (steps k) o))) r.1 t in
      let less = no-more k n r.0 b r.2 f others in
      omega (arith, less)

  -- A path is the longest where its number is the bound, or its last window has no local step.
  pub greatest-at : (most n : ℕ) (a b : Window) → n ≤ most → steps n a ≡ Some b → (n ≡ most) ⊎ (step b ≡ None) → IsGreatest code None a most n
  greatest-at most n a b h e f =
      record {
        within = h;
        is_path = is-there (steps n a) b e;
        greatest = λ k g t. ⊎_elim (λ (s : n ≡ most). omega (arith, s, g)) (λ (s : step b ≡ None). no-more k n a b e s t) f;
      }
