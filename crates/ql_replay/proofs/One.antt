-- A book has one first line that differs.
use Rattle.std.proofs.Common.{◌≡◌, ◌⊎◌, ℕ, zero, suc, ◌<◌, ◌≤◌, List, [], ◌∷◌, take, Option, Some, refl, sym, ap, ◌∙◌, subst, ⊎_elim, inl, inr, arith}
use Rattle.ql_world.specs.declared.event.Head.{Head}
use Rattle.ql_replay.specs.Book.{lines_in, head_line, head_in}
use Rattle.ql_replay.specs.FirstDiff.{limits_of, IsUsable, HasHead, FirstAmong, least, short, whole, headed, beyond, headless, IsTextOf}
use Rattle.ql_replay.specs.Law.{IsOne}
use Rattle.ql_replay.proofs.Reading.{head_in_reads}

module _ (A : List ℕ → Type 0) (book : List ℕ) where
  one_among : (d e : Option ℕ) → FirstAmong A book d → FirstAmong A book e → d ≡ e
  one_among d e (least i o l h n) (least j r k g m) =
      ⊎_elim (λ (t : i < j). absurd (m i o t h)) (λ (t : j ≤ i). ⊎_elim (λ (s : j < i). absurd (n j r s g)) (λ (s : i ≡ j). ap Some s) (below_or_same j i t)) (less_or_not i j)
    where
      less_or_not : (i j : ℕ) → (i < j) ⊎ (j ≤ i)
      less_or_not zero zero = inr (omega arith)
      less_or_not zero (suc j) = inl (omega arith)
      less_or_not (suc i) zero = inr (omega arith)
      less_or_not (suc i) (suc j) = ⊎_elim (λ (t : i < j). inl (omega (arith, t))) (λ (t : j ≤ i). inr (omega (arith, t))) (less_or_not i j)

      below_or_same : (j i : ℕ) → j ≤ i → (j < i) ⊎ (i ≡ j)
      below_or_same zero zero h = inr refl
      below_or_same zero (suc i) h = inl (omega arith)
      below_or_same (suc j) zero h = absurd (omega (arith, h))
      below_or_same (suc j) (suc i) h = ⊎_elim (λ (t : j < i). inl (omega (arith, t))) (λ (t : i ≡ j). inr (ap suc t)) (below_or_same j i (omega (arith, h)))
  one_among d e (least i o l h n) (short m w) = absurd (m i o l h)
  one_among d e (least i o l h n) (whole m w) = absurd (m i o l h)
  one_among d e (short m w) (least i o l h n) = absurd (m i o l h)
  one_among d e (whole m w) (least i o l h n) = absurd (m i o l h)
  one_among d e (short m w) (short n v) = refl
  one_among d e (short m w) (whole n v) = absurd (w v)
  one_among d e (whole m w) (short n v) = absurd (v w)
  one_among d e (whole m w) (whole n v) = refl

one_head : (book : List ℕ) (h g : Head) → HasHead book h → HasHead book g → h ≡ g
one_head book h g x y =
    let a : take 1 (lines_in book) ≡ Some (head_line h) ∷ [] = x.first in
    let b : take 1 (lines_in book) ≡ Some (head_line g) ∷ [] = y.first in
    let c : head_line h ≡ head_line g = cc in
    let r = head_in_reads.reads h x.low in
    let s = head_in_reads.reads g y.low in
    let t : Some h ≡ Some g = sym r ∙ (ap head_in c ∙ s) in
    cc

pub one_first : IsOne
one_first told book d e (headed h x u _ f) (headed g y v _ k) =
    let same : g ≡ h = one_head book g h y x in
    one_among (IsTextOf told (limits_of h)) book d e f (subst (λ (z : Head). FirstAmong (IsTextOf told (limits_of z)) book e) same k)
one_first told book d e (headed h x u _ f) (beyond g y v) = absurd (v (subst IsUsable (one_head book h g x y) u))
one_first told book d e (headed h x u _ f) (headless n _ k) = absurd (n h x)
one_first told book d e (beyond h x u) (headed g y v _ k) = absurd (u (subst IsUsable (one_head book g h y x) v))
one_first told book d e (beyond h x u) (beyond g y v) = refl
one_first told book d e (beyond h x u) (headless n _ k) = absurd (n h x)
one_first told book d e (headless n _ f) (headed g y v _ k) = absurd (n g y)
one_first told book d e (headless n _ f) (beyond g y v) = absurd (n g y)
one_first told book d e (headless n _ f) (headless m _ k) = one_among _ book d e f k
