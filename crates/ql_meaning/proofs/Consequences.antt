-- What a sane outline has besides, by the points together.
use Rattle.std.proofs.Common.{◌≡◌, ◌⊎◌, ℕ, ◌<◌, true, false, List, [], ◌∷◌, Some, refl, sym, ap, ◌∙◌, subst, ⊎_elim, arith}
use Rattle.ql_world.specs.World.{numbered, catch_at}
use Rattle.ql_world.specs.declared.world.Catch.{Catch}
use Rattle.ql_world.specs.Within.{is_within}
use Rattle.ql_meaning.specs.Sane.{Mark, catch_mark, protect_mark, cleanup_mark, base_mark, Seen, Outline, innermost_or, Stands, Chained, is_finished, Stage, waiting, running, is_running, Holds, IsHeld, SaneOutline}
use Rattle.ql_meaning.proofs.Lists.{not_both, one}
use Rattle.ql_meaning.proofs.Over.{Falling, over_le}
use Rattle.ql_meaning.proofs.Marks.{chained_open, stands_over_home, stands_under}
use Rattle.ql_meaning.proofs.Calm.{deny}

-- a catch stands twice on the frames
abbrev pub Twice : ℕ → List Mark → Type 0
Twice c [] = ⊥
Twice c (catch_mark d ∷ ms) = ((c ≡ d) × Stands c ms) ⊎ Twice c ms
Twice c (m ∷ ms) = Twice c ms

never_twice : (ks : List Catch) (p h c : ℕ) (ms : List Mark) → Falling ks → Chained ks p h ms → Twice c ms → ⊥
never_twice ks p h c [] f k t = t
never_twice ks p h c (catch_mark d ∷ ms) f k t =
    ⊎_elim
    (λ (u : (c ≡ d) × Stands c ms).
    let a = stands_under ks p h c ms f k.1 u.1 in
    let o = k.0 in
    let b : innermost_or h ms < d = subst (λ z. z < d) o.enclosing (f d o.kept o.is o.inner) in
    let e = u.0 in
    absurd (omega (arith, a, b, e)))
    (λ u. never_twice ks p h c ms f k.1 u)
    t
never_twice ks p h c (protect_mark u ∷ ms) f k t = never_twice ks p h c ms f k t
never_twice ks p h c (cleanup_mark u j ∷ ms) f k t = never_twice ks p h c ms f k t
never_twice ks p h c (base_mark b ∷ ms) f k t = never_twice ks p h c ms f k t

module _ (o : Outline) (s : SaneOutline o) where
  -- a catch stands on frames once, on those of its owner, and is open
  pub stands_once : (p : ℕ) (q : Seen) (c : ℕ) → numbered o.procs p ≡ Some q → Twice c q.thread.marks → ⊥
  stands_once p q c e t = never_twice o.catches p q.home c q.thread.marks s.homes.falling (s.catches.chained p q e) t

  pub stands_with_owner : (p : ℕ) (q : Seen) (c : ℕ) (k : Catch) → numbered o.procs p ≡ Some q → Stands c q.thread.marks → catch_at o.catches c ≡ Some k → (k.owner ≡ p) × (k.open_still ≡ true)
  stands_with_owner p q c k e t h =
      let j = (chained_open o.catches p q.home c q.thread.marks t (s.catches.chained p q e)).1 in
      (ap (λ (z : Catch). z.owner) (one h j.is) ∙ j.owner, ap (λ (z : Catch). z.open_still) (one h j.is) ∙ j.open_still)

  -- the owner of an open catch other than 0 is not within it
  pub owner_outside : (c : ℕ) (k : Catch) (q : Seen) → catch_at o.catches c ≡ Some k → k.open_still ≡ true → 0 < c → numbered o.procs k.owner ≡ Some q → is_within o.catches q c ≡ false
  owner_outside c k q e h l at =
      let t = s.catches.stands c k e h l in
      let same : t.0 ≡ q = one t.1 at in
      let low = stands_over_home o.catches k.owner q.home c q.thread.marks s.homes.falling (s.catches.chained k.owner q at) (subst (λ (z : Seen). Stands c z.thread.marks) same t.2) in
      deny _ (λ u. let a = over_le o.catches c q.home s.homes.falling u in absurd (omega (arith, a, low)))

  -- one process alone holds a protect, at one stage
  pub held_by_one : (p r : ℕ) (q t : Seen) (st sv : Stage) (u : ℕ) → numbered o.procs p ≡ Some q → numbered o.procs r ≡ Some t → Holds st u q.thread.marks → Holds sv u t.thread.marks → (p ≡ r) × (st ≡ sv)
  held_by_one p r q t st sv u e f h g =
      let a = s.protects.held p q st u e h in
      let b = s.protects.held r t sv u f g in
      (one a.mine b.mine, same_stage st sv (sym a.begun ∙ b.begun))
    where
      same_stage : (st sv : Stage) → is_running st ≡ is_running sv → st ≡ sv
      same_stage waiting waiting e = refl
      same_stage running running e = refl
      same_stage waiting running e = absurd (not_both e refl)
      same_stage running waiting e = absurd (not_both refl e)

  -- and a protect that is held has not finished
  pub held_unfinished : (u : ℕ) → IsHeld o u → is_finished u o.events ≡ false
  held_unfinished u h = (s.protects.held h.process h.by h.stage u h.is h.holds).unfinished
