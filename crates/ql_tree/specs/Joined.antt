-- What becomes of joined processes. Each is a proved fact, for the proofs of those who keep persons and threads apart.
use Rattle.std.specs.Prelude.{◌≡◌, refl, ℕ, zero, suc, pred, Bool, true, ◌&&◌, List, [], ◌∷◌, ◌++◌, length, Option, Some, None, slice_get, slice_set}
use Rattle.std.specs.List.{list_all}
use Rattle.std.proofs.Common.{ap, ap₂, sym}
use Rattle.std.proofs.Math.Nat.{suc-ne-zero}
use Rattle.ql_world.specs.declared.world.Aim.{Aim}
use Rattle.ql_world.specs.declared.world.Process.{Process}
use Rattle.ql_world.specs.World.{change, numbered, change_numbered}
use Rattle.ql_world.specs.Within.{all_from}
use Rattle.ql_tree.specs.Tree.{Person}
use Rattle.ql_tree.specs.Persons.{process_of_person, joined, process_at}

module _ {P : Type 0} where
  -- as many as there are threads
  pub joined-length : (rs : List Person) (ts : List P) → length rs ≡ length ts → length (joined rs ts) ≡ length ts
  joined-length [] [] e = refl
  joined-length [] (t ∷ ts) e = e
  joined-length (r ∷ rs) [] e = refl
  joined-length (r ∷ rs) (t ∷ ts) e = ap suc (joined-length rs ts (ap pred e))

  without_thread : (o : Option Person) → None ≡ process_at {P = P} o None
  without_thread None = refl
  without_thread (Some r) = refl

  -- the process at each place, and with each number
  pub joined-at : (rs : List Person) (ts : List P) (i : ℕ) → slice_get (joined rs ts) i ≡ process_at (slice_get rs i) (slice_get ts i)
  joined-at [] ts i = refl
  joined-at (r ∷ rs) [] i = without_thread (slice_get (r ∷ rs) i)
  joined-at (r ∷ rs) (t ∷ ts) zero = refl
  joined-at (r ∷ rs) (t ∷ ts) (suc i) = joined-at rs ts i

  pub joined-numbered : (rs : List Person) (ts : List P) (p : ℕ) → numbered (joined rs ts) p ≡ process_at (numbered rs p) (numbered ts p)
  joined-numbered rs ts zero = refl
  joined-numbered rs ts (suc i) = joined-at rs ts i

  -- a process gets another thread
  pub joined-set : (rs : List Person) (ts : List P) (i : ℕ) (t : P) → joined rs (slice_set ts i t) ≡ change (λ q. record q { thread = t }) (joined rs ts) i
  joined-set [] ts i t = refl
  joined-set (r ∷ rs) [] i t = refl
  joined-set (r ∷ rs) (u ∷ ts) zero t = refl
  joined-set (r ∷ rs) (u ∷ ts) (suc i) t = ap (λ qs. process_of_person r u ∷ qs) (joined-set rs ts i t)

  -- the thread of a process changes
  joined-change_thread : (f : P → P) (rs : List Person) (ts : List P) (i : ℕ) → joined rs (change f ts i) ≡ change (λ q. record q { thread = f q.thread }) (joined rs ts) i
  joined-change_thread f [] ts i = refl
  joined-change_thread f (r ∷ rs) [] i = refl
  joined-change_thread f (r ∷ rs) (t ∷ ts) zero = refl
  joined-change_thread f (r ∷ rs) (t ∷ ts) (suc i) = ap (λ qs. process_of_person r t ∷ qs) (joined-change_thread f rs ts i)

  pub joined-thread : (f : P → P) (rs : List Person) (ts : List P) (p : ℕ) → joined rs (change_numbered f ts p) ≡ change_numbered (λ q. record q { thread = f q.thread }) (joined rs ts) p
  joined-thread f rs ts zero = refl
  joined-thread f rs ts (suc i) = joined-change_thread f rs ts i

  -- a process that is changed in a tree is changed alike
  module _ (f : Person → Person) (g : Process P → Process P) (alike : (r : Person) (t : P) → process_of_person (f r) t ≡ g (process_of_person r t)) where
    joined-change : (rs : List Person) (ts : List P) (i : ℕ) → joined (change f rs i) ts ≡ change g (joined rs ts) i
    joined-change [] ts i = refl
    joined-change (r ∷ rs) [] zero = refl
    joined-change (r ∷ rs) [] (suc i) = refl
    joined-change (r ∷ rs) (t ∷ ts) zero = ap (λ q. q ∷ joined rs ts) (alike r t)
    joined-change (r ∷ rs) (t ∷ ts) (suc i) = ap (λ qs. process_of_person r t ∷ qs) (joined-change rs ts i)

    pub joined-changed : (rs : List Person) (ts : List P) (p : ℕ) → joined (change_numbered f rs p) ts ≡ change_numbered g (joined rs ts) p
    joined-changed rs ts zero = refl
    joined-changed rs ts (suc i) = joined-change rs ts i

  pub joined-aim : (a : Aim) (rs : List Person) (ts : List P) (p : ℕ) → joined (change_numbered (λ r. record r { aim = a }) rs p) ts ≡ change_numbered (λ q. record q { aim = a }) (joined rs ts) p
  joined-aim a = joined-changed (λ r. record r { aim = a }) (λ q. record q { aim = a }) (λ r t. refl)

  pub joined-end : (rs : List Person) (ts : List P) (p : ℕ) → joined (change_numbered (λ r. record r { ended = true }) rs p) ts ≡ change_numbered (λ q. record q { ended = true }) (joined rs ts) p
  joined-end = joined-changed (λ r. record r { ended = true }) (λ q. record q { ended = true }) (λ r t. refl)

  -- one more process
  pub joined-append : (rs : List Person) (ts : List P) (r : Person) (t : P) → length rs ≡ length ts → joined (rs ++ r ∷ []) (ts ++ t ∷ []) ≡ joined rs ts ++ process_of_person r t ∷ []
  joined-append [] [] r t e = refl
  joined-append [] (u ∷ ts) r t e = absurd (suc-ne-zero (length ts) (sym e))
  joined-append (s ∷ rs) [] r t e = absurd (suc-ne-zero (length rs) e)
  joined-append (s ∷ rs) (u ∷ ts) r t e = ap (λ qs. process_of_person s u ∷ qs) (joined-append rs ts r t (ap pred e))

  -- what a tree tells of all its processes
  module _ (f : Person → Bool) (g : Process P → Bool) (alike : (r : Person) (t : P) → g (process_of_person r t) ≡ f r) where
    pub joined-all : (rs : List Person) (ts : List P) → length rs ≡ length ts → list_all g (joined rs ts) ≡ list_all f rs
    joined-all [] ts e = refl
    joined-all (r ∷ rs) [] e = absurd (suc-ne-zero (length rs) e)
    joined-all (r ∷ rs) (t ∷ ts) e = ap₂ ◌&&◌ (alike r t) (joined-all rs ts (ap pred e))

  module _ (f : ℕ → Person → Bool) (g : ℕ → Process P → Bool) (alike : (n : ℕ) (r : Person) (t : P) → g n (process_of_person r t) ≡ f n r) where
    pub joined-all_from : (n : ℕ) (rs : List Person) (ts : List P) → length rs ≡ length ts → all_from g n (joined rs ts) ≡ all_from f n rs
    joined-all_from n [] ts e = refl
    joined-all_from n (r ∷ rs) [] e = absurd (suc-ne-zero (length rs) e)
    joined-all_from n (r ∷ rs) (t ∷ ts) e = ap₂ ◌&&◌ (alike n r t) (joined-all_from (suc n) rs ts (ap pred e))
