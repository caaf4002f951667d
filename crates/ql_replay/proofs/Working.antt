-- Ticks of one process, by the host.
use Rattle.std.proofs.Common.{◌≡◌, ◌≤◌, ◌==◌, ℕ, zero, suc, true, false, List, [], ◌∷◌, ◌++◌, Option, Some, None, refl, sym, ap, ◌∙◌, subst, arith, eq-eqb}
use Rattle.std.specs.Prelude.{is_none, is_some, option_and_then, if◌then◌else◌}
use Rattle.ql_world.specs.declared.event.Stop.{Stop}
use Rattle.ql_world.specs.declared.world.Process.{Process}
use Rattle.ql_world.specs.World.{World, numbered}
use Rattle.ql_world.specs.Tick as ticks
use Rattle.ql_code.specs.Code.{Instruction, Code}
use Rattle.ql_code.specs.Machine.{Point, Entry}
use Rattle.ql_code.specs.LocalPath.{Window, local_step, is_next_local, IsGreatest}
use Rattle.ql_proc.specs.declared.window.Job.{Job}
use Rattle.ql_proc.specs.Windows.{window_in}
use Rattle.ql_host.specs.Host.{Host, machine, process_can_step, can_step, stop, ticked, worked, window, is_local_in, next_is_local, without, IsJob, Comes}
use Rattle.ql_host.specs.declared.work.Commit.{Commit}
use Rattle.ql_host.specs.declared.work.Commit.TheVariants.{Applied as applied, Dropped as dropped}
use Rattle.ql_replay.specs.Following.{TakesTicks}
use Rattle.ql_replay.specs.Running.{Run, host_in}

module _ (code : List Instruction) (a : Window) where
  one_step : (o : Option Window) → is_some o ≡ true → is_some (option_and_then (λ b. Some b) o) ≡ true
  one_step None e = e
  one_step (Some b) e = refl

  -- where the next tick is local, one tick is taken at least
  some_taken : (most n : ℕ) → 1 ≤ most → is_next_local code None a ≡ true → IsGreatest code None a most n → 1 ≤ n
  some_taken most n some local g = g.greatest 1 some (one_step (local_step code None a) local)

-- the host whose process is away, and the one to which it came back
module _ (h r c : Host) (p q : ℕ) (out : r ≡ record h { away = h.away ++ p ∷ [] }) (back : c ≡ record r { world = c.world; away = without q r.away }) (same : q ≡ p) (home : h.away ≡ []) where
  alone : (p : ℕ) → without p (p ∷ []) ≡ []
  alone p = let same : (p == p) ≡ true = eq-eqb p p refl in rw same refl

  home_again : without p (h.away ++ p ∷ []) ≡ h.away
  home_again = rw home (alone p)

  pub only_world : c ≡ record h { world = c.world }
  only_world =
      back
      ∙ ap (λ (x : Host). record x { world = c.world; away = without q x.away }) out
      ∙ ap (λ n. record h { world = c.world; away = without n (h.away ++ p ∷ []) }) same
      ∙ ap (λ rs. record h { world = c.world; away = rs }) home_again

  -- dropped for want of memory, it is as before
  pub as_before : c.world ≡ r.world → c ≡ h
  as_before w = only_world ∙ ap (λ (x : World Point Entry). record h { world = x }) (w ∙ ap (λ (x : Host). x.world) out)

local_is : (h : Host) (o : Option Window) (a : Window) → o ≡ Some a → is_local_in h o ≡ true → is_next_local h.code.instructions None a ≡ true
local_is h None a e t = absurd cc
local_is h (Some b) a e t = let z : b ≡ a = cc in subst (λ x. is_next_local h.code.instructions None x ≡ true) z t

-- work on a process whose next tick is local takes a tick at least
pub takes_some : (h : Host) (code : Code) (p most n k : ℕ) (j : Job) → code ≡ h.code → next_is_local h p ≡ true → IsJob h p most j → 1 ≤ most → IsGreatest code.instructions None (window_in j.start) j.most n → k ≡ n → 1 ≤ k
takes_some h code p most n k j same local job some g e =
    let there : is_next_local code.instructions None (window_in j.start) ≡ true =
    subst (λ (z : Code). is_next_local z.instructions None (window_in j.start) ≡ true) (sym same) (local_is h (window h p) (window_in j.start) job.start local) in
    let m = job.most_is in
    let t = some_taken code.instructions (window_in j.start) j.most n (omega (arith, m, some)) there g in
    omega (arith, e, t)

-- work that was taken in was taken in whole
pub all_taken : (z : Commit) (k p n : ℕ) (old new : Host) (a : Window) → z ≡ applied k → Comes z old new p a n → k ≡ n
all_taken (applied j) k p n old new a e c = let same : j ≡ k = cc in sym same ∙ c.0
all_taken dropped k p n old new a e c = absurd cc

module _ (r : Run) (p : ℕ) where
  abbrev h : Host
  h = r.host

  stays : (o : Option (Process Point)) → process_can_step h p o ≡ false → option_and_then (λ q. ticks.step (machine h) h.names h.limits p q h.world) o ≡ None
  stays None e = refl
  stays (Some q) e = rw e refl

  pub takes_none : can_step h p ≡ false → (v : World Point Entry) → TakesTicks (host_in r) p 0 h.world v
  takes_none e v = stays (numbered h.world.procs p) e

  one_tick : (o : Option Stop) (t : Option (World Point Entry)) (v : World Point Entry) → o ≡ None → (if is_none o then option_and_then (λ u. Some u) t else None) ≡ Some v → (if is_none o then t else None) ≡ Some v
  one_tick None None v s e = absurd cc
  one_tick None (Some u) v s e = e
  one_tick (Some x) t v s e = absurd cc

  pub takes_one : (n : ℕ) (v : World Point Entry) → stop h ≡ None → 1 ≤ n → n ≤ 1 → worked h p n ≡ Some v → TakesTicks (host_in r) p n h.world v
  takes_one zero v s a b e = absurd (omega (arith, a))
  takes_one (suc zero) v s a b e = one_tick (stop h) (ticked h p) v s e
  takes_one (suc (suc n)) v s a b e = absurd (omega (arith, b))
