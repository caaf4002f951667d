-- What a kill and a throw do to each process.
use Rattle.std.proofs.Common.{◌≡◌, ◌≢◌, ℕ, zero, suc, ◌<◌, ◌≤◌, ◌==◌, Bool, true, false, not, ◌&&◌, if◌then◌else◌, List, [], ◌∷◌, length, Option, Some, None, option_map, slice_get, refl, sym, ap, ap₂, ◌∙◌, subst, ⊎_elim, arith, eqb-true, eq-eqb, leb, leb-true, leb-false}
use Rattle.ql_world.specs.World.{ProcessClosure, World, change, numbered, change_numbered}
use Rattle.ql_world.specs.declared.world.Aim.TheVariants.{Die as die}
use Rattle.ql_world.specs.declared.world.Catch.{Catch}
use Rattle.ql_world.specs.declared.world.Kind.{Kind}
use Rattle.ql_world.specs.declared.world.Kind.TheVariants.{Main as main, Child as child, Closure as serving}
use Rattle.ql_world.specs.declared.world.Process.{Process}
use Rattle.ql_world.specs.Within.{is_live, is_within}
use Rattle.ql_world.specs.Machine.{Machine}
use Rattle.ql_world.specs.Idle.{unwinds_at, abandoned_server, abandoned, killed_process, killed_if_within, killed_at, killed_among, killed_within}
use Rattle.ql_code.proofs.Within.{cases}

module _ {A : Type 0} where
  got_other : (f : A → A) (xs : List A) (i j : ℕ) → i ≢ j → slice_get (change f xs j) i ≡ slice_get xs i
  got_other f [] i j n = refl
  got_other f (x ∷ xs) zero zero n = absurd (n refl)
  got_other f (x ∷ xs) zero (suc j) n = refl
  got_other f (x ∷ xs) (suc i) zero n = refl
  got_other f (x ∷ xs) (suc i) (suc j) n = got_other f xs i j (λ e. n (ap suc e))

  -- a change of another one
  pub numbered_other : (f : A → A) (xs : List A) (p r : ℕ) → p ≢ r → numbered (change_numbered f xs r) p ≡ numbered xs p
  numbered_other f xs zero r n = refl
  numbered_other f xs (suc i) zero n = refl
  numbered_other f xs (suc i) (suc j) n = got_other f xs i j (λ e. n (ap suc e))

  got_here : (f : A → A) (xs : List A) (i : ℕ) → slice_get (change f xs i) i ≡ option_map f (slice_get xs i)
  got_here f [] i = refl
  got_here f (x ∷ xs) zero = refl
  got_here f (x ∷ xs) (suc i) = got_here f xs i

  pub numbered_here : (f : A → A) (xs : List A) (p : ℕ) → numbered (change_numbered f xs p) p ≡ option_map f (numbered xs p)
  numbered_here f xs zero = refl
  numbered_here f xs (suc n) = got_here f xs n

  none_past : (xs : List A) (i : ℕ) → length xs ≤ i → slice_get xs i ≡ None
  none_past [] i h = refl
  none_past (x ∷ xs) zero h = absurd (omega arith)
  none_past (x ∷ xs) (suc i) h = none_past xs i (omega arith)

  numbered_past : (xs : List A) (p : ℕ) → length xs < p → numbered xs p ≡ None
  numbered_past xs zero h = refl
  numbered_past xs (suc n) h = none_past xs n (omega arith)

module _ {P K : Type 0} (m : Machine P K) where
  -- whether a kill by way of catch c hits process n
  abbrev pub is_hit : List Catch → (c owner n : ℕ) → Process P → Bool
  is_hit catches c owner n q = is_live q && (is_within catches q c && not (n == owner))

  -- a killed process
  abbrev pub dying : Process P → Process P
  dying q = record q { aim = die; thread = unwinds_at m q.thread }

  abbrev pub hit : List Catch → (c owner n : ℕ) → Process P → Process P
  hit catches c owner n q = if is_hit catches c owner n q then dying q else q

  server_procs : (w : World P K) (k : ℕ) (s : Option (ProcessClosure K)) → ((abandoned_server m w k s).procs ≡ w.procs) × ((abandoned_server m w k s).catches ≡ w.catches)
  server_procs w k None = (refl, refl)
  server_procs w k (Some s) = (refl, refl)

  abandoned_procs : (w : World P K) (kind : Kind) → ((abandoned m w kind).procs ≡ w.procs) × ((abandoned m w kind).catches ≡ w.catches)
  abandoned_procs w main = (refl, refl)
  abandoned_procs w (child f) = (refl, refl)
  abandoned_procs w (serving k) = server_procs w k (numbered w.servers k)

  -- one process is killed if it is hit
  record Killed (w v : World P K) (c owner n : ℕ) (o : Option (Process P)) : Type 0 where
    here : numbered v.procs n ≡ option_map (hit w.catches c owner n) o
    others : (p : ℕ) → p ≢ n → numbered v.procs p ≡ numbered w.procs p
    catches : v.catches ≡ w.catches

  killed_one : (w : World P K) (c owner n : ℕ) (o : Option (Process P)) → numbered w.procs n ≡ o → Killed w (killed_if_within m w c owner n o) c owner n o
  killed_one w c owner n None e = record { here = e; others = λ p d. refl; catches = refl }
  killed_one w c owner n (Some q) e =
      ⊎_elim
      (λ (t : is_hit w.catches c owner n q ≡ true). subst (λ b. Killed w (if b then killed_process m w c n q else w) c owner n (Some q)) (sym t) (struck t))
      (λ (t : is_hit w.catches c owner n q ≡ false). subst (λ b. Killed w (if b then killed_process m w c n q else w) c owner n (Some q)) (sym t) (record { here = e ∙ ap (λ b. Some (if b then dying q else q)) (sym t); others = λ p d. refl; catches = refl }))
      (cases (is_hit w.catches c owner n q))
    where
      struck : is_hit w.catches c owner n q ≡ true → Killed w (killed_process m w c n q) c owner n (Some q)
      struck t =
          let a = abandoned_procs _ q.kind in
          record {
            here = ap (λ ps. numbered ps n) a.0 ∙ numbered_here dying w.procs n ∙ ap (option_map dying) e ∙ ap (λ b. Some (if b then dying q else q)) (sym t);
            others = λ p d. ap (λ ps. numbered ps p) a.0 ∙ numbered_other dying w.procs p n d;
            catches = a.1;
          }

  record Among (w v : World P K) (c owner n : ℕ) : Type 0 where
    low : (p : ℕ) → p ≤ n → numbered v.procs p ≡ option_map (hit w.catches c owner p) (numbered w.procs p)
    high : (p : ℕ) → n < p → numbered v.procs p ≡ numbered w.procs p
    catches : v.catches ≡ w.catches

  among : (w : World P K) (c owner n : ℕ) → Among w (killed_among m w c owner n) c owner n
  among w c owner zero = record {
    low = λ p h. let none : p ≡ 0 = omega arith in subst (λ i. numbered w.procs i ≡ option_map (hit w.catches c owner i) (numbered w.procs i)) (sym none) refl;
    high = λ p h. refl;
    catches = refl;
  }
  among w c owner (suc n) =
      let i = among w c owner n in
      let v = killed_among m w c owner n in
      let k = killed_one v c owner (suc n) (numbered v.procs (suc n)) refl in
      record {
        low = λ p h. ⊎_elim
            (λ (t : (p == suc n) ≡ true).
            let same : p ≡ suc n = eqb-true _ _ t in
            subst (λ j. numbered (killed_at m v c owner (suc n)).procs j ≡ option_map (hit w.catches c owner j) (numbered w.procs j)) (sym same)
            (k.here ∙ ap₂ (λ cs o. option_map (hit cs c owner (suc n)) o) i.catches (i.high (suc n) (omega arith))))
            (λ (t : (p == suc n) ≡ false).
            let apart : p ≢ suc n = λ s. let bad : true ≡ false = sym (eq-eqb p (suc n) s) ∙ t in absurd cc in
            k.others p apart ∙ i.low p (omega arith))
            (cases (p == suc n));
        high = λ p h. k.others p (λ s. omega arith) ∙ i.high p (omega arith);
        catches = k.catches ∙ i.catches;
      }

  -- Each process after a kill: those that are hit die, and all others are as before.
  pub killed_each : (w : World P K) (c owner p : ℕ) → numbered (killed_within m w c owner).procs p ≡ option_map (hit w.catches c owner p) (numbered w.procs p)
  killed_each w c owner p =
      let a = among w c owner (length w.procs) in
      ⊎_elim
      (λ (t : leb p (length w.procs) ≡ true). a.low p (leb-true _ _ t))
      (λ (t : leb p (length w.procs) ≡ false).
      let past : length w.procs < p = leb-false _ _ t in
      let none : numbered w.procs p ≡ None = numbered_past w.procs p past in
      a.high p past ∙ none ∙ ap (option_map (hit w.catches c owner p)) (sym none))
      (cases (leb p (length w.procs)))

  pub killed_catches : (w : World P K) (c owner : ℕ) → (killed_within m w c owner).catches ≡ w.catches
  killed_catches w c owner = let a = among w c owner (length w.procs) in a.catches
