-- Work on the window of a process that takes a tick at least.
use Rattle.std.proofs.Common.{◌≡◌, ◌≤◌, ◌==◌, ℕ, true, false, List, [], ◌∷◌, ◌++◌, Option, Some, None, refl, sym, ap, ◌∙◌, subst, arith, eq-eqb}
use Rattle.std.specs.Prelude.{is_some, option_and_then}
use Rattle.ql_world.specs.Run.{is_in}
use Rattle.ql_code.specs.Code.{Instruction}
use Rattle.ql_code.specs.LocalPath.{Window, local_step, is_next_local, IsGreatest}
use Rattle.ql_code.specs.Code.{Code}
use Rattle.ql_proc.specs.declared.window.Job.{Job}
use Rattle.ql_proc.specs.Windows.{window_in}
use Rattle.ql_host.specs.Host.{Host, window, is_local_in, next_is_local, without, IsJob, Comes}
use Rattle.ql_host.specs.declared.work.Commit.{Commit}
use Rattle.ql_host.specs.declared.work.Commit.TheVariants.{Applied as applied, Dropped as dropped}
use Rattle.ql_top.proofs.Counted.{by}

-- none is away twice
home_again : (p : ℕ) (away : List ℕ) → is_in p away ≡ false → without p (away ++ p ∷ []) ≡ away
home_again p [] e = let same : (p == p) ≡ true = eq-eqb p p refl in rw same refl
home_again p (r ∷ away) e =
    by (p == r)
    (λ t. let bad : true ≡ false = rw t at e in absurd cc)
    (λ t. rw t (ap (λ rs. r ∷ rs) (home_again p away (rw t at e))))

module _ (code : List Instruction) (a : Window) where
  one_step : (o : Option Window) → is_some o ≡ true → is_some (option_and_then (λ b. Some b) o) ≡ true
  one_step None e = e
  one_step (Some b) e = refl

  -- where the next tick is local, one tick is taken at least
  some_taken : (most n : ℕ) → 1 ≤ most → is_next_local code None a ≡ true → IsGreatest code None a most n → 1 ≤ n
  some_taken most n some local g = g.greatest 1 some (one_step (local_step code None a) local)

-- the host whose process is away, and the one to which it came back
module _ (h r c : Host) (p q : ℕ) (out : r ≡ record h { away = h.away ++ p ∷ [] }) (back : c ≡ record r { world = c.world; away = without q r.away }) (same : q ≡ p) (home : is_in p h.away ≡ false) where
  pub only_world : c ≡ record h { world = c.world }
  only_world =
      back
      ∙ ap (λ (x : Host). record x { world = c.world; away = without q x.away }) out
      ∙ ap (λ n. record h { world = c.world; away = without n (h.away ++ p ∷ []) }) same
      ∙ ap (λ rs. record h { world = c.world; away = rs }) (home_again p h.away home)

local_is : (h : Host) (o : Option Window) (a : Window) → o ≡ Some a → is_local_in h o ≡ true → is_next_local h.code.instructions None a ≡ true
local_is h None a e t = absurd cc
local_is h (Some b) a e t = let z : b ≡ a = cc in subst (λ x. is_next_local h.code.instructions None x ≡ true) z t

-- work on a process whose next tick is local takes a tick at least
pub takes_some : (h : Host) (code : Code) (p most n k : ℕ) (j : Job) → code ≡ h.code → next_is_local h p ≡ true → IsJob h p most j → 1 ≤ most → IsGreatest code.instructions None (window_in j.start) j.most n → k ≡ n → 1 ≤ k
takes_some h code p most n k j same local job some g e =
    let there : is_next_local code.instructions None (window_in j.start) ≡ true =
    subst (λ (z : Code). is_next_local z.instructions None (window_in j.start) ≡ true) (sym same) (local_is h (window h p) (window_in j.start) job.start local) in
    let m = job.most_is in
    let t = some_taken code.instructions (window_in j.start) j.most n (omega (arith, m, some)) there g in
    omega (arith, e, t)

-- work that was taken in was taken in whole
pub all_taken : (z : Commit) (k p n : ℕ) (old new : Host) (a : Window) → z ≡ applied k → Comes z old new p a n → k ≡ n
all_taken (applied j) k p n old new a e c = let same : j ≡ k = cc in sym same ∙ c.0
all_taken dropped k p n old new a e c = absurd cc
