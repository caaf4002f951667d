-- Whether another process can step, by what is picked.
use Rattle.std.proofs.Common.{◌≡◌, ℕ, zero, suc, ◌+◌, ◌==◌, Bool, true, false, not, List, [], ◌∷◌, Option, Some, None, refl, sym, ap, ◌∙◌, subst, arith}
use Rattle.std.specs.Prelude.{◌&&◌, ◌||◌, slice_get}
use Rattle.ql_base.specs.declared.limits.Policy.{Policy}
use Rattle.ql_base.specs.declared.limits.Policy.TheVariants.{Turn}
use Rattle.ql_world.specs.declared.world.Process.{Process}
use Rattle.ql_world.specs.World.{numbered}
use Rattle.ql_world.specs.Tick as ticks
use Rattle.ql_world.specs.Run.{any_from, those_from, least_above, first_of, pick, is_in}
use Rattle.ql_code.specs.Machine.{Point, code_machine}
use Rattle.ql_host.specs.Host.{Host, process_can_step, can_step, ready, ready_home}
use Rattle.ql_replay.specs.Law.{is_another}
use Rattle.ql_replay.specs.Running.{Run, host_in}
use Rattle.ql_replay.proofs.Picks.{other_is_picked}

and_home : (b : Bool) → (b && true) ≡ b
and_home true = refl
and_home false = refl

module _ {A : Type 0} (f : ℕ → A → Bool) where
  none_away : (k : ℕ) (xs : List A) → those_from (λ p x. f p x && not (is_in p [])) k xs ≡ those_from f k xs
  none_away k [] = refl
  none_away k (x ∷ xs) = rw (and_home (f k x), none_away (suc k) xs) refl

  -- one of them passes
  one_passes : (xs : List A) (n i : ℕ) (x : A) → slice_get xs i ≡ Some x → f (n + i) x ≡ true → any_from f n xs ≡ true
  one_passes [] n i x e t = absurd cc
  one_passes (z ∷ xs) n zero x e t =
      let s : z ≡ x = cc in
      let m : n + 0 ≡ n = omega arith in
      let u : f n z ≡ true = rw (s, ← m) t in
      rw u refl
  one_passes (z ∷ xs) n (suc i) x e t =
      let m : n + suc i ≡ suc n + i = omega arith in
      let r : any_from f (suc n) xs ≡ true = one_passes xs (suc n) i x e (subst (λ k. f k x ≡ true) m t) in
      or_true (f n z) r
    where
      or_true : (b : Bool) → any_from f (suc n) xs ≡ true → (b || any_from f (suc n) xs) ≡ true
      or_true true r = refl
      or_true false r = r

none_picked : (last : ℕ) (rs : List ℕ) → pick Turn last rs ≡ None → rs ≡ []
none_picked last [] h = refl
none_picked last (r ∷ rs) h = absurd (some_first (least_above last (r ∷ rs)) h)
  where
    some_first : (o : Option ℕ) → first_of o (Some r) ≡ None → ⊥
    some_first None e = absurd cc
    some_first (Some x) e = absurd cc

module _ (r : Run) (home : r.host.away ≡ []) (policy : r.host.limits.policy ≡ Turn) (p : ℕ) where
  abbrev h : Host
  h = r.host

  all_home : ready_home h ≡ ready h
  all_home = rw home (none_away (λ i q. ticks.can_step (code_machine h.code.instructions) h.names h.limits i q h.world) 1 h.world.procs)

  other_is : (host_in r).has_other h.world p ≡ is_another p (pick Turn p (ready h))
  other_is = other_is_picked h.names h.code h.limits h.world p

  pub no_other : pick h.limits.policy h.last (ready_home h) ≡ None → (host_in r).has_other h.world p ≡ false
  no_other e =
      let a : pick Turn h.last (ready h) ≡ None = ap (λ (z : Policy). pick z h.last (ready h)) (sym policy) ∙ (ap (pick h.limits.policy h.last) (sym all_home) ∙ e) in
      let n : ready h ≡ [] = none_picked h.last (ready h) a in
      other_is ∙ ap (λ (rs : List ℕ). is_another p (pick Turn p rs)) n

  can_there : (q : ℕ) (o : Option (Process Point)) → process_can_step h q o ≡ true → (x : Process Point) × ((o ≡ Some x) × (ticks.can_step (code_machine h.code.instructions) h.names h.limits q x h.world ≡ true))
  can_there q None t = absurd cc
  can_there q (Some x) t = (x, (refl, t))

  pub one_other : (q : ℕ) → can_step h q ≡ true → (q == p) ≡ false → (host_in r).has_other h.world p ≡ true
  one_other zero t d = absurd cc
  one_other (suc i) t d =
      let x = can_there (suc i) (numbered h.world.procs (suc i)) t in
      let z : 1 + i ≡ suc i = omega arith in
      one_passes (λ i q. not (i == p) && ticks.can_step (code_machine h.code.instructions) h.names h.limits i q h.world) h.world.procs 1 i x.0 x.1.0
      (subst (λ k. (not (k == p) && ticks.can_step (code_machine h.code.instructions) h.names h.limits k x.0 h.world) ≡ true) (sym z) (rw (d, x.1.1) refl))

  pub picked_again : (o : Option ℕ) → o ≡ pick h.limits.policy p (ready_home h) → is_another p o ≡ (host_in r).has_other h.world p
  picked_again o e =
      let a : o ≡ pick Turn p (ready h) = e ∙ (ap (pick h.limits.policy p) all_home ∙ ap (λ (z : Policy). pick z p (ready h)) policy) in
      ap (is_another p) a ∙ sym other_is

  -- it was picked, and then one is picked once more
  pub again : (first : ℕ) (g : Host) (next : Option ℕ) (answer : Bool) → first ≡ p → g ≡ record h { last = first } → next ≡ pick g.limits.policy g.last (ready_home g) → answer ≡ is_another p next
      → answer ≡ (host_in r).has_other h.world p
  again first g next answer f e n a =
      let there : next ≡ pick h.limits.policy p (ready_home h) =
      n ∙ (ap (λ (z : Host). pick z.limits.policy z.last (ready_home z)) e ∙ ap (λ (z : ℕ). pick h.limits.policy z (ready_home h)) f) in
      a ∙ picked_again next there
