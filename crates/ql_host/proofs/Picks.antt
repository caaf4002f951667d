-- Scans for processes that can step.
use Rattle.std.proofs.Common.{◌≡◌, ◌<◌, ◌+◌, ◌-◌, refl, sym, ap, ◌∙◌, ℕ, zero, suc, nat_lt, Bool, true, false, List, [], ◌∷◌, length, drop, Option, Some, None, arith, ⊎_elim}
use Rattle.std.specs.Prelude.{◌==◌, not, ◌&&◌, if◌then◌else◌, map, slice_get, is_some, is_none}
use Rattle.std.specs.List.{list_all}
use Rattle.std.proofs.lemmas.Bool.{cases_Bool}
use Rattle.std.proofs.lemmas.List.{length-map}
use Rattle.ql_world.specs.declared.world.Process.{Process}
use Rattle.ql_world.specs.World.{World, numbered}
use Rattle.ql_world.specs.Tick.{can_step}
use Rattle.ql_world.specs.Run.{least, least_above, greatest, first_of, those_from, any_from, is_stuck, mark_or, stuck_or_spent}
use Rattle.ql_world.specs.declared.event.Stop.{Stop}
use Rattle.ql_world.specs.declared.event.Stop.TheVariants.{Done as done, Deadlock as deadlock, Budget as budget}
use Rattle.ql_tree.specs.declared.person.Person.{Person}
use Rattle.ql_tree.specs.Persons.{joined}
use Rattle.ql_tree.specs.Joined.{joined-all}
use Rattle.ql_code.specs.Machine.{Point, Entry}
use Rattle.ql_proc.specs.declared.process.Proc.{Proc}
use Rattle.ql_proc.specs.Points.{point_of}
use Rattle.ql_host.specs.declared.setting.Setting.{Setting}
use Rattle.ql_host.specs.declared.shared.Shared.{Shared}
use Rattle.ql_host.specs.Ready.{machine, world, is_free, free_in, stop}

greatest_with : (p r : ℕ) (ps : List ℕ) → greatest ps ≡ Some r → greatest (p ∷ ps) ≡ Some r
greatest_with p r [] e = absurd cc
greatest_with p r (q ∷ ps) e = e

first_is_some : (last : ℕ) (ps : List ℕ) → is_some (first_of (least_above last ps) (least ps)) ≡ is_some (least ps)
first_is_some last [] = refl
first_is_some last (p ∷ ps) = either_is_some (least_above last (p ∷ ps)) p
  where
    either_is_some : (o : Option ℕ) (p : ℕ) → is_some (first_of o (Some p)) ≡ true
    either_is_some None p = refl
    either_is_some (Some r) p = refl

pub none_or_some : {A : Type 0} (o : Option A) → is_none o ≡ not (is_some o)
none_or_some None = refl
none_or_some (Some x) = refl

module _ (f : ℕ → Process Point → Bool) where
  -- all are above the number before the first
  all_above : (k j : ℕ) (qs : List (Process Point)) → least_above k (those_from f (suc (k + j)) qs) ≡ least (those_from f (suc (k + j)) qs)
  all_above k j [] = refl
  all_above k j (q ∷ qs) =
      let e : suc (k + suc j) ≡ suc (suc (k + j)) = omega arith in
      let above : nat_lt k (suc (k + j)) ≡ true = grind arith in
      ⊎_elim
      (λ (t : f (suc (k + j)) q ≡ true). rw (t, above) refl)
      (λ (t : f (suc (k + j)) q ≡ false). rw (t, ← e) (all_above k (suc j) qs))
      (cases_Bool (f (suc (k + j)) q))

  above_from : (n k : ℕ) (qs : List (Process Point)) → least_above (k + n) (those_from f (suc k) qs) ≡ least (those_from f (suc (k + n)) (drop n qs))
  above_from zero k qs = let e : k + 0 ≡ k = omega arith in rw e (rw e at (all_above k 0 qs))
  above_from (suc n) k [] = refl
  above_from (suc n) k (q ∷ qs) =
      let e : k + suc n ≡ suc k + n = omega arith in
      let below : nat_lt (suc k + n) (suc k) ≡ false = grind arith in
      rw e
      (⊎_elim
      (λ (t : f (suc k) q ≡ true). rw (t, below) (above_from n (suc k) qs))
      (λ (t : f (suc k) q ≡ false). rw t (above_from n (suc k) qs))
      (cases_Bool (f (suc k) q)))

  any_is : (k : ℕ) (qs : List (Process Point)) → any_from f k qs ≡ is_some (least (those_from f k qs))
  any_is k [] = refl
  any_is k (q ∷ qs) =
      ⊎_elim
      (λ (t : f k q ≡ true). rw t refl)
      (λ (t : f k q ≡ false). rw t (any_is (suc k) qs))
      (cases_Bool (f k q))

module _ (s : Setting) (w : World Point Entry) (away : List ℕ) where
  abbrev pub free_from : ℕ → List (Process Point) → List ℕ
  free_from k qs = those_from (is_free s w away) k qs

  -- those above a number are those that stand from there on
  pub above_is : (last : ℕ) (qs : List (Process Point)) → least_above last (free_from 1 qs) ≡ least (free_from (suc last) (drop last qs))
  above_is last qs = let e : 0 + last ≡ last = omega arith in rw e at (above_from (is_free s w away) last 0 qs)

  pub not_free : (n k : ℕ) (qs : List (Process Point)) → free_in s w away k (slice_get qs n) ≡ false → free_from k (drop n qs) ≡ free_from (suc k) (drop (suc n) qs)
  not_free zero k [] e = refl
  not_free zero k (q ∷ qs) e = rw e refl
  not_free (suc n) k [] e = refl
  not_free (suc n) k (q ∷ qs) e = not_free n k qs e

  pub least_is : (n k : ℕ) (qs : List (Process Point)) → free_in s w away k (slice_get qs n) ≡ true → least (free_from k (drop n qs)) ≡ Some k
  least_is zero k [] e = absurd cc
  least_is zero k (q ∷ qs) e = rw e refl
  least_is (suc n) k [] e = absurd cc
  least_is (suc n) k (q ∷ qs) e = least_is n k qs e

  -- the last one that can step is the greatest
  pub greatest_is : (n k : ℕ) (qs : List (Process Point)) → free_in s w away (k + n) (slice_get qs n) ≡ true → free_from (suc (k + n)) (drop (suc n) qs) ≡ []
      → greatest (free_from k qs) ≡ Some (k + n)
  greatest_is n k [] e f = absurd cc
  greatest_is zero k (q ∷ qs) e f =
      let z : k + 0 ≡ k = omega arith in
      let t = rw z at e in
      let r = rw z at f in
      rw (z, t, r) refl
  greatest_is (suc n) k (q ∷ qs) e f =
      let z : k + suc n ≡ suc k + n = omega arith in
      let r : greatest (free_from (suc k) qs) ≡ Some (suc k + n) = greatest_is n (suc k) qs (rw z at e) (rw z at f) in
      rw z
      (⊎_elim
      (λ (t : is_free s w away k q ≡ true). rw t (greatest_with k (suc k + n) (free_from (suc k) qs) r))
      (λ (t : is_free s w away k q ≡ false). rw t r)
      (cases_Bool (is_free s w away k q)))

  pub greatest_at : (at : ℕ) (qs : List (Process Point)) → 0 < at → free_in s w away at (numbered qs at) ≡ true → free_from (suc at) (drop at qs) ≡ [] → greatest (free_from 1 qs) ≡ Some at
  greatest_at zero qs h e f = absurd (omega (arith, h))
  greatest_at (suc n) qs h e f =
      let z : 1 + n ≡ suc n = omega arith in
      rw z at (greatest_is n 1 qs (rw z e) (rw z f))

  pub not_free_at : (at : ℕ) (qs : List (Process Point)) → 0 < at → free_in s w away at (numbered qs at) ≡ false → free_from (suc at) (drop at qs) ≡ []
      → free_from (suc (at - 1)) (drop (at - 1) qs) ≡ []
  not_free_at zero qs h e f = absurd (omega (arith, h))
  not_free_at (suc n) qs h e f = let z : suc n - 1 ≡ n = omega arith in rw z (not_free n (suc n) qs e ∙ f)

  -- the first one, where numbers begin at 1
  pub first_is : (qs : List (Process Point)) → least_above 0 (free_from 1 qs) ≡ least (free_from 1 qs)
  first_is qs = above_is 0 qs

module _ (s : Setting) (w : World Point Entry) where
  all_home : (b : Bool) → (b && true) ≡ b
  all_home true = refl
  all_home false = refl

  -- Where none is away, those at home are all.
  any_home : (k : ℕ) (qs : List (Process Point)) → any_from (is_free s w []) k qs ≡ any_from (λ p q. can_step (machine s) s.names.now s.limits p q w) k qs
  any_home k [] = refl
  any_home k (q ∷ qs) = rw (all_home (can_step (machine s) s.names.now s.limits k q w), any_home (suc k) qs) refl

  -- the run is stuck where nothing is found from anywhere on
  pub stuck_is : (last : ℕ) → is_none (first_of (least_above last (free_from s w [] 1 w.procs)) (least (free_from s w [] 1 w.procs))) ≡ is_stuck (machine s) s.names.now s.limits w
  stuck_is last =
      none_or_some (first_of (least_above last (free_from s w [] 1 w.procs)) (least (free_from s w [] 1 w.procs)))
      ∙ ap not (first_is_some last (free_from s w [] 1 w.procs) ∙ sym (any_is (is_free s w []) 1 w.procs) ∙ any_home 1 w.procs)

module _ (s : Setting) (h : Shared) (ts : List Proc) (same : length ts ≡ length h.tree.persons) where
  all_ended : list_all (λ q. q.ended) (joined h.tree.persons (map point_of ts)) ≡ list_all (λ r. r.ended) h.tree.persons
  all_ended = joined-all (λ (r : Person). r.ended) (λ (q : Process Point). q.ended) (λ r t. refl) h.tree.persons (map point_of ts) (sym (length-map ts point_of ∙ same))

  abbrev stop_by : Bool → Option Stop
  stop_by b = if b then Some done else mark_or h.mark (stuck_or_spent (machine s) s.names.now s.limits (world s h ts))

  pub stop_is : list_all (λ r. r.ended) h.tree.persons ≡ true → Some done ≡ stop s h ts
  stop_is e = sym (ap stop_by (all_ended ∙ e))

  pub stop_else : list_all (λ r. r.ended) h.tree.persons ≡ false → mark_or h.mark (stuck_or_spent (machine s) s.names.now s.limits (world s h ts)) ≡ stop s h ts
  stop_else e = sym (ap stop_by (all_ended ∙ e))

  module _ (runs : list_all (λ r. r.ended) h.tree.persons ≡ false) (unmarked : h.mark ≡ None) where
    abbrev pub stuck : Bool
    stuck = is_stuck (machine s) s.names.now s.limits (world s h ts)

    pub stop_of_stuck : (b d : Bool) → stuck ≡ b → (h.history.ticks == s.limits.budget) ≡ d → (if b then Some deadlock else (if d then Some budget else None)) ≡ stop s h ts
    stop_of_stuck b d e f =
        sym (ap (λ (x : Bool). if x then Some deadlock else (if d then Some budget else None)) e)
        ∙ sym (ap (λ (x : Bool). if is_stuck (machine s) s.names.now s.limits (world s h ts) then Some deadlock else (if x then Some budget else None)) f)
        ∙ sym (ap (λ o. mark_or o (stuck_or_spent (machine s) s.names.now s.limits (world s h ts))) unmarked)
        ∙ stop_else runs
