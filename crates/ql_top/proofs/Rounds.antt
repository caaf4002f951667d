-- Many ticks of one process, one after another.
use Rattle.std.proofs.Common.{◌≡◌, ◌⊎◌, ◌≤◌, ℕ, zero, suc, ◌+◌, true, List, [], ◌∷◌, Option, Some, None, refl, ◌∙◌, subst, arith, inr, ⊎_elim}
use Rattle.std.specs.Prelude.{nat_lt, is_none, replicate, option_and_then}
use Rattle.ql_base.specs.declared.limits.Limits.{Limits}
use Rattle.ql_world.specs.World.{World, numbered}
use Rattle.ql_world.specs.declared.world.Process.{Process}
use Rattle.ql_world.specs.Machine.{Machine}
use Rattle.ql_world.specs.Tick.{can_step, step, tick}
use Rattle.ql_world.specs.Run.{stop_of, run, Picked, is_in, next_picked, ready_ones}
use Rattle.ql_top.proofs.Counted.{by, counted_tick}
use Rattle.ql_top.proofs.Planned.{passes, is_in_numbered, some_ticks_left, IsPlan, plan_goes_on}

none_of : {A : Type 0} (o : Option A) → is_none o ≡ true → o ≡ None
none_of None e = refl
none_of (Some x) e = absurd cc

module _ {P K : Type 0} (m : Machine P K) (names : List (List ℕ)) (limits : Limits) where
  -- a run along a schedule begins with a tick
  pub record Begins (w v : World P K) (p : ℕ) (ps : List ℕ) : Type 0 where
    pub goes_on : stop_of m names limits w ≡ None
    pub after : World P K
    pub first : tick m names limits w p ≡ Some after
    pub others : run m names limits after ps ≡ Some v

  pub begins : (w v : World P K) (p : ℕ) (ps : List ℕ) → run m names limits w (p ∷ ps) ≡ Some v → Begins w v p ps
  begins w v p ps e =
      by (is_none (stop_of m names limits w))
      (λ t. at_tick (none_of (stop_of m names limits w) t) (tick m names limits w p) refl (rw t at e))
      (λ t. let bad : None ≡ Some v = rw t at e in absurd cc)
    where
      at_tick : stop_of m names limits w ≡ None → (o : Option (World P K)) → tick m names limits w p ≡ o → option_and_then (λ z. run m names limits z ps) o ≡ Some v → Begins w v p ps
      at_tick s None t h = absurd cc
      at_tick s (Some z) t h = record { goes_on = s; after = z; first = t; others = h }

  -- who takes a tick can step
  can_tick : (w v : World P K) (p : ℕ) → tick m names limits w p ≡ Some v → is_in p (ready_ones m names limits w) ≡ true
  can_tick w v p e = is_in_numbered (λ p q. can_step m names limits p q w) w.procs p ∙ of_process (numbered w.procs p) e
    where
      of_process : (o : Option (Process P)) → option_and_then (λ q. step m names limits p q w) o ≡ Some v → passes (λ p q. can_step m names limits p q w) p o ≡ true
      of_process None e = absurd cc
      of_process (Some q) e = by (can_step m names limits p q w) (λ t. t) (λ t. let bad : None ≡ Some v = rw t at e in absurd cc)

  pub record Ran (w v : World P K) (n : ℕ) : Type 0 where
    pub count : v.ticks ≡ w.ticks + n
    pub few : v.ticks ≤ limits.budget

  -- each is counted, and the budget holds
  pub ran : (n p : ℕ) (w v : World P K) → w.ticks ≤ limits.budget → run m names limits w (replicate n p) ≡ Some v → Ran w v n
  ran zero p w v few e = let same : w ≡ v = cc in subst (λ (z : World P K). Ran w z 0) same (record { count = omega arith; few = few })
  ran (suc n) p w v few e =
      let b = begins w v p (replicate n p) e in
      let one : b.after.ticks ≡ w.ticks + 1 = (counted_tick m names limits w b.after p b.first).0 in
      let room = some_ticks_left m names limits w b.goes_on few in
      let others = ran n p b.after v (omega (arith, one, room)) b.others in
      let c = others.count in
      record { count = omega (arith, one, c); few = others.few }

  -- The worker who picked a process keeps it for the ticks of its quantum.
  pub plan_works : (n : ℕ) (first w v : World P K) (last : Picked) (p t : ℕ) → IsPlan m names limits first w last
      → next_picked limits last (ready_ones m names limits w) ≡ Some (record { process = p; ticks = t })
      → (n ≡ 0) ⊎ (t + n ≤ limits.quantum) → run m names limits w (replicate (suc n) p) ≡ Some v
      → IsPlan m names limits first v (record { process = p; ticks = t + n })
  plan_works zero first w v last p t plan picked within e =
      let b = begins w v p [] e in
      let same : b.after ≡ v = let o = b.others in cc in
      let last_one : t + 0 ≡ t = omega arith in
      rw last_one (plan_goes_on m names limits first w v last (record { process = p; ticks = t }) plan picked (subst (λ z. tick m names limits w p ≡ Some z) same b.first))
  plan_works (suc n) first w v last p t plan picked within e =
      let b = begins w v p (replicate (suc n) p) e in
      let more = begins b.after v p (replicate n p) b.others in
      let few : t + suc n ≤ limits.quantum = ⊎_elim (λ (z : suc n ≡ 0). absurd (omega (arith, z))) (λ z. z) within in
      let still : nat_lt t limits.quantum ≡ true = grind (arith, few) in
      let can = can_tick b.after more.after p more.first in
      let next : next_picked limits (record { process = p; ticks = t }) (ready_ones m names limits b.after) ≡ Some (record { process = p; ticks = t + 1 }) = rw (can, still) refl in
      let sum : t + 1 + n ≡ t + suc n = omega arith in
      let rest : (n ≡ 0) ⊎ (t + 1 + n ≤ limits.quantum) = inr (omega (arith, few, sum)) in
      subst (λ k. IsPlan m names limits first v (record { process = p; ticks = k })) sum
      (plan_works n first b.after v (record { process = p; ticks = t }) p (t + 1)
      (plan_goes_on m names limits first w b.after last (record { process = p; ticks = t }) plan picked b.first) next rest b.others)
