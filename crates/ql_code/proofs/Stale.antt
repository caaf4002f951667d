-- Work that was done for a process before a kill or a throw hit it is seen to be stale.
use Rattle.std.proofs.Common.{◌≡◌, ◌≢◌, ◌⊎◌, ℕ, ◌==◌, Bool, true, false, not, ◌&&◌, if◌then◌else◌, List, [], ◌∷◌, Option, Some, is_none, option_map, refl, sym, ap, ap₂, ◌∙◌, inl, inr, ⊎_elim, ne_eqb}
use Rattle.ql_base.specs.declared.limits.Limits.{Limits}
use Rattle.ql_world.specs.World.{World, numbered}
use Rattle.ql_world.specs.declared.world.Aim.{Aim}
use Rattle.ql_world.specs.declared.world.Aim.TheVariants.{Die as die}
use Rattle.ql_world.specs.declared.world.Process.{Process}
use Rattle.ql_world.specs.Within.{is_die, is_free, is_live, is_within}
use Rattle.ql_world.specs.Machine.{Machine}
use Rattle.ql_world.specs.Idle.{killed_within}
use Rattle.ql_world.specs.Tick.{with_owner_aimed, tick}
use Rattle.ql_world.specs.Run.{stop_of, run}
use Rattle.ql_code.specs.Code.{Instruction}
use Rattle.ql_code.specs.Machine.{Point, Entry, code_machine}
use Rattle.ql_code.specs.LocalPath.{Window, window_of}
use Rattle.ql_code.specs.LocalLaws.{IsAway}
use Rattle.ql_code.proofs.Within.{of_and_then, of_if}
use Rattle.ql_code.proofs.Kills.{numbered_here, dying, hit, is_hit, killed_each}
use Rattle.ql_code.proofs.Others.{Change, same, killed, thrown, aimed, others_tick}

module _ {P K : Type 0} (m : Machine P K) (names : List (List ℕ)) (limits : Limits) where
  -- untouched, or hit by others and since then with an aim
  pub record Stays (q : Process P) (o : Option (Process P)) : Type 0 where
    pub now : Process P
    pub is_there : o ≡ Some now
    pub either : (now ≡ q) ⊎ (is_free now.aim ≡ false)

  changed : (q v u : Process P) → (v ≡ q) ⊎ (is_free v.aim ≡ false) → Change m v u → (u ≡ q) ⊎ (is_free u.aim ≡ false)
  changed q v u h (same e) = ⊎_elim (λ (s : v ≡ q). inl (e ∙ s)) (λ (s : is_free v.aim ≡ false). inr (ap (λ z. is_free z.aim) e ∙ s)) h
  changed q v u h (killed l e) = inr (ap (λ z. is_free z.aim) e)
  changed q v u h (thrown c x e) = inr (ap (λ z. is_free z.aim) e)

  -- Along ticks of others a process stays just as it is, or gets an aim.
  stays_along : (schedule : List ℕ) (w v : World P K) (p : ℕ) (q o : Process P) → IsAway p schedule → numbered w.procs p ≡ Some o → (o ≡ q) ⊎ (is_free o.aim ≡ false) → run m names limits w schedule ≡ Some v → Stays q (numbered v.procs p)
  stays_along [] w v p q o a h e r = let w_is_v : w ≡ v = cc in record { now = o; is_there = ap (λ z. numbered z.procs p) (sym w_is_v) ∙ h; either = e }
  stays_along (s ∷ ss) w v p q o a h e r =
      let i = of_if (is_none (stop_of m names limits w)) _ v r in
      let t = of_and_then (λ u. run m names limits u ss) (tick m names limits w s) v i.1 in
      let b = others_tick m names limits w t.0 p s o a.0 h t.1 in
      stays_along ss t.0 v p q b.now a.1 b.is_there (changed q o b.now e b.change) t.2

  pub stays : (schedule : List ℕ) (w v : World P K) (p : ℕ) (q : Process P) → IsAway p schedule → numbered w.procs p ≡ Some q → run m names limits w schedule ≡ Some v → Stays q (numbered v.procs p)
  stays schedule w v p q a h r = stays_along schedule w v p q q a h (inl refl) r

live_aim : {P : Type 0} → (q : Process P) → is_live q ≡ true → is_die q.aim ≡ false
live_aim q l = of_both q.ended (is_die q.aim) l
  where
    of_both : (a b : Bool) → (not a && not b) ≡ true → b ≡ false
    of_both true b e = absurd cc
    of_both false true e = absurd cc
    of_both false false e = refl

apart_by : {A : Type 0} → (f : A → Bool) (a b : A) → f a ≡ true → f b ≡ false → a ≢ b
apart_by f a b t n e = let bad : true ≡ false = sym t ∙ ap f e ∙ n in absurd cc

module _ (code : List Instruction) (names : List (List ℕ)) (limits : Limits) where
  abbrev m : Machine Point Entry
  m = code_machine code

  -- A kill that hits process p gives it a window that is none of those before, which had another aim.
  pub record HasAim (a : Aim) (o : Option (Process Point)) : Type 0 where
    pub now : Process Point
    pub is_there : o ≡ Some now
    pub aim_is : now.aim ≡ a

  pub kill_aims : (w : World Point Entry) (c owner p : ℕ) (q : Process Point) → numbered w.procs p ≡ Some q → is_live q ≡ true → is_within w.catches q c ≡ true → p ≢ owner → HasAim die (numbered (killed_within m w c owner).procs p)
  kill_aims w c owner p q h l i n =
      let hits : is_hit m w.catches c owner p q ≡ true = ap₂ (λ a b. a && (b && not (p == owner))) l i ∙ ap not (ne_eqb p owner n) in
      record { now = dying m q; is_there = killed_each m w c owner p ∙ ap (option_map (hit m w.catches c owner p)) h ∙ ap (λ b. Some (if b then dying m q else q)) hits; aim_is = refl }

  pub throw_aims : (w : World Point Entry) (r p : ℕ) (t q : Process Point) (a : Aim) → numbered w.procs p ≡ Some q → HasAim a (numbered (with_owner_aimed m names limits r t w p a).procs p)
  throw_aims w r p t q a h = record { now = aimed m a q; is_there = numbered_here (aimed m a) w.procs p ∙ ap (option_map (aimed m a)) h; aim_is = refl }

  -- so the windows differ
  pub other_window : (q v : Process Point) → q.aim ≢ v.aim → window_of q ≢ window_of v
  other_window q v n e = n (ap (λ z. z.aim) e)

  pub killed_window : (w : World Point Entry) (c owner p : ℕ) (q v : Process Point) → numbered w.procs p ≡ Some q → is_live q ≡ true → is_within w.catches q c ≡ true → p ≢ owner → numbered (killed_within m w c owner).procs p ≡ Some v →
      (a : Window) → is_die a.aim ≡ false → window_of v ≢ a
  killed_window w c owner p q v h l i n k a d =
      let g = kill_aims w c owner p q h l i n in
      let now_is : g.now ≡ v = let e : Some g.now ≡ Some v = sym g.is_there ∙ k in cc in
      apart_by (λ z. is_die z.aim) (window_of v) a (ap (λ z. is_die z.aim) (sym now_is) ∙ ap is_die g.aim_is) d

  pub thrown_window : (w : World Point Entry) (r p : ℕ) (t q v : Process Point) (a : Aim) → numbered w.procs p ≡ Some q → numbered (with_owner_aimed m names limits r t w p a).procs p ≡ Some v → (b : Window) → b.aim ≢ a → window_of v ≢ b
  thrown_window w r p t q v a h k b n e =
      let g = throw_aims w r p t q a h in
      let now_is : g.now ≡ v = let e : Some g.now ≡ Some v = sym g.is_there ∙ k in cc in
      n (ap (λ z. z.aim) (sym e) ∙ ap (λ z. z.aim) (sym now_is) ∙ g.aim_is)

  -- Where a process was away, with no aim, and its window is the same when it comes back, then it is the same as a whole:
  -- it was not killed, nobody threw to a catch of its own, and what is under the window is as it was.
  pub same_window : (schedule : List ℕ) (w v : World Point Entry) (p : ℕ) (q u : Process Point) → IsAway p schedule → numbered w.procs p ≡ Some q → run m names limits w schedule ≡ Some v → numbered v.procs p ≡ Some u → is_free q.aim ≡ true → window_of u ≡ window_of q → u ≡ q
  same_window schedule w v p q u a h r k f e =
      let s = stays m names limits schedule w v p q a h r in
      let now_is : s.now ≡ u = let e : Some s.now ≡ Some u = sym s.is_there ∙ k in cc in
      ⊎_elim
      (λ (t : s.now ≡ q). sym now_is ∙ t)
      (λ (t : is_free s.now.aim ≡ false).
      let bad : true ≡ false = sym f ∙ ap (λ z. is_free z.aim) (sym e) ∙ ap (λ z. is_free z.aim) (sym now_is) ∙ t in
      absurd cc)
      s.either
