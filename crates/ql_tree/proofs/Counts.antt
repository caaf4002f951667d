-- How many processes haven't ended.
use Rattle.std.proofs.Common.{◌≡◌, refl, ap, ◌∙◌, ℕ, zero, suc, ◌+◌, ◌==◌, ◌≤◌, Bool, true, false, not, ◌&&◌, if◌then◌else◌, List, [], ◌∷◌, ◌++◌, length, arith, Some, slice_get}
use Rattle.std.specs.List.{list_all}
use Rattle.std.proofs.lemmas.Bool.Decides.{nat_tests}
use Rattle.ql_world.specs.World.{change, numbered, change_numbered}
use Rattle.ql_world.specs.declared.world.Aim.{Aim}
use Rattle.ql_tree.specs.Tree.{Person}
use Rattle.ql_tree.specs.Kept.{running}
use Rattle.ql_tree.specs.Kill.{aimed_at, changed_at_each}

most-with : (b : Bool) (m n : ℕ) → m ≤ n → (if b then m else suc m) ≤ suc n
most-with true m n l = omega arith
most-with false m n l = omega arith

pub running-most : (rs : List Person) → running rs ≤ length rs
running-most [] = omega arith
running-most (r ∷ rs) = most-with r.ended (running rs) (length rs) (running-most rs)

added-with : (b : Bool) (m n : ℕ) → m ≡ n + 1 → (if b then m else suc m) ≡ (if b then n else suc n) + 1
added-with true m n e = e
added-with false m n e = omega arith

pub running-added : (rs : List Person) (r : Person) → r.ended ≡ false → running (rs ++ r ∷ []) ≡ running rs + 1
running-added [] r e = rw e refl
running-added (s ∷ rs) r e = added-with s.ended (running (rs ++ r ∷ [])) (running rs) (running-added rs r e)

none-with : (b : Bool) (n : ℕ) → (b && (n == 0)) ≡ ((if b then n else suc n) == 0)
none-with true n = refl
none-with false n = grind (arith, nat_tests)

pub running-none : (rs : List Person) → list_all (λ r. r.ended) rs ≡ (running rs == 0)
running-none [] = refl
running-none (r ∷ rs) = rw (running-none rs) (none-with r.ended (running rs))

-- whether it was running
end-with : (b was : Bool) (m n : ℕ) → m ≡ (if not was then n + 1 else n) → (if b then m else suc m) ≡ (if not was then (if b then n else suc n) + 1 else (if b then n else suc n))
end-with true was m n e = e
end-with false true m n e = ap suc e
end-with false false m n e = omega arith

ended-with : (b : Bool) (n : ℕ) → (if b then n else suc n) ≡ (if not b then n + 1 else n)
ended-with true n = refl
ended-with false n = omega arith

running-end-at : (rs : List Person) (i : ℕ) (r : Person) → slice_get rs i ≡ Some r → running rs ≡ (if not r.ended then running (change (λ r. record r { ended = true }) rs i) + 1 else running (change (λ r. record r { ended = true }) rs i))
running-end-at [] i r e = absurd cc
running-end-at (s ∷ rs) zero r e = let same : s ≡ r = cc in rw same (ended-with r.ended (running rs))
running-end-at (s ∷ rs) (suc i) r e = end-with s.ended r.ended (running rs) _ (running-end-at rs i r e)

pub running-end : (rs : List Person) (q : ℕ) (r : Person) → numbered rs q ≡ Some r → running rs ≡ (if not r.ended then running (change_numbered (λ r. record r { ended = true }) rs q) + 1 else running (change_numbered (λ r. record r { ended = true }) rs q))
running-end rs zero r e = absurd cc
running-end rs (suc i) r e = running-end-at rs i r e

running-aimed-at : (a : Aim) (rs : List Person) (i : ℕ) → running (change (aimed_at a) rs i) ≡ running rs
running-aimed-at a [] i = refl
running-aimed-at a (r ∷ rs) zero = refl
running-aimed-at a (r ∷ rs) (suc i) = ap (λ n. if r.ended then n else suc n) (running-aimed-at a rs i)

pub running-aimed : (a : Aim) (rs : List Person) (q : ℕ) → running (change_numbered (aimed_at a) rs q) ≡ running rs
running-aimed a rs zero = refl
running-aimed a rs (suc i) = running-aimed-at a rs i

pub running-killed : (a : Aim) (rs : List Person) (ns : List ℕ) → running (changed_at_each (aimed_at a) rs ns) ≡ running rs
running-killed a rs [] = refl
running-killed a rs (n ∷ ns) = running-killed a (change_numbered (aimed_at a) rs n) ns ∙ running-aimed a rs n
