-- Rows that make, begin and finish protects.
use Rattle.std.proofs.Common.{◌≡◌, ◌≢◌, ◌⊎◌, ℕ, ◌+◌, ◌<◌, ◌==◌, Bool, true, false, List, [], ◌∷◌, Some, refl, sym, ap, ◌∙◌, subst, ⊎_elim, inl, inr, arith, eq-eqb, ne_eqb}
use Rattle.std.specs.Prelude.{◌||◌}
use Rattle.ql_world.specs.declared.event.Event.TheVariants.{Protect as protect, Begin as begin, Finish as finish}
use Rattle.ql_world.specs.World.{numbered}
use Rattle.ql_world.specs.declared.world.Cleanup.{Cleanup}
use Rattle.ql_meaning.specs.Sane.{Mark, catch_mark, protect_mark, cleanup_mark, base_mark, Seen, Outline, is_begun, is_finished, protector, Stage, waiting, running, Holds, AllUnder, Rising, StageSane, IsHeld, ProtectsSane}
use Rattle.ql_meaning.proofs.Lists.{same_or, one, put, put_at, put_else, put_cases}

pub holds_more : (stage : Stage) (u : ℕ) (m : Mark) (ms : List Mark) → Holds stage u ms → Holds stage u (m ∷ ms)
holds_more waiting u (catch_mark c) ms h = h
holds_more running u (catch_mark c) ms h = h
holds_more waiting u (protect_mark v) ms h = inr h
holds_more running u (protect_mark v) ms h = h
holds_more waiting u (cleanup_mark v k) ms h = h
holds_more running u (cleanup_mark v k) ms h = inr h
holds_more waiting u (base_mark b) ms h = h
holds_more running u (base_mark b) ms h = h

pub protect_cases : (stage : Stage) (u v : ℕ) (ms : List Mark) → Holds stage u (protect_mark v ∷ ms) → ((stage ≡ waiting) × (u ≡ v)) ⊎ Holds stage u ms
protect_cases waiting u v ms h = ⊎_elim (λ t. inl (refl, t)) (λ t. inr t) h
protect_cases running u v ms h = inr h

pub cleanup_cases : (stage : Stage) (u v : ℕ) (k : Cleanup) (ms : List Mark) → Holds stage u (cleanup_mark v k ∷ ms) → ((stage ≡ running) × (u ≡ v)) ⊎ Holds stage u ms
cleanup_cases waiting u v k ms h = inr h
cleanup_cases running u v k ms h = ⊎_elim (λ t. inl (refl, t)) (λ t. inr t) h

catch_less : (stage : Stage) (u c : ℕ) (ms : List Mark) → Holds stage u (catch_mark c ∷ ms) → Holds stage u ms
catch_less waiting u c ms h = h
catch_less running u c ms h = h

holds_nothing : (stage : Stage) (u : ℕ) → Holds stage u [] → ⊥
holds_nothing waiting u h = h
holds_nothing running u h = h

pub base_less : (stage : Stage) (u : ℕ) (m : Mark) (ms : List Mark) → ((c : ℕ) → m ≡ catch_mark c → ⊥) → ((c : ℕ) → m ≡ protect_mark c → ⊥) → ((c : ℕ) (k : Cleanup) → m ≡ cleanup_mark c k → ⊥) → Holds stage u (m ∷ ms) → Holds stage u ms
base_less stage u (catch_mark c) ms f g i h = absurd (f c refl)
base_less stage u (protect_mark c) ms f g i h = absurd (g c refl)
base_less stage u (cleanup_mark c k) ms f g i h = absurd (i c k refl)
base_less waiting u (base_mark b) ms f g i h = h
base_less running u (base_mark b) ms f g i h = h

pub under_all : (n : ℕ) (ms : List Mark) → ((stage : Stage) (v : ℕ) → Holds stage v ms → v < n) → AllUnder n ms
under_all n [] h = tt
under_all n (catch_mark c ∷ ms) h = under_all n ms (λ stage v k. h stage v (holds_more stage v (catch_mark c) ms k))
under_all n (protect_mark u ∷ ms) h = (h waiting u (inl refl), under_all n ms (λ stage v k. h stage v (holds_more stage v (protect_mark u) ms k)))
under_all n (cleanup_mark u j ∷ ms) h = (h running u (inl refl), under_all n ms (λ stage v k. h stage v (holds_more stage v (cleanup_mark u j) ms k)))
under_all n (base_mark b ∷ ms) h = under_all n ms (λ stage v k. h stage v (holds_more stage v (base_mark b) ms k))

pub all_under : (n : ℕ) (ms : List Mark) (stage : Stage) (v : ℕ) → AllUnder n ms → Holds stage v ms → v < n
all_under n [] stage v a h = absurd (holds_nothing stage v h)
all_under n (catch_mark c ∷ ms) stage v a h = all_under n ms stage v a (catch_less stage v c ms h)
all_under n (protect_mark u ∷ ms) stage v a h = ⊎_elim (λ (t : (stage ≡ waiting) × (v ≡ u)). let l = a.0 in let e = t.1 in omega (arith, l, e)) (λ t. all_under n ms stage v a.1 t) (protect_cases stage v u ms h)
all_under n (cleanup_mark u j ∷ ms) stage v a h = ⊎_elim (λ (t : (stage ≡ running) × (v ≡ u)). let l = a.0 in let e = t.1 in omega (arith, l, e)) (λ t. all_under n ms stage v a.1 t) (cleanup_cases stage v u j ms h)
all_under n (base_mark b ∷ ms) stage v a h = all_under n ms stage v a (base_less stage v (base_mark b) ms (λ c e. absurd cc) (λ c e. absurd cc) (λ c k e. absurd cc) h)

-- numbers apart
seen_apart : (u v : ℕ) (b : Bool) → u ≢ v → (u == v || b) ≡ b
seen_apart u v b n = rw (ne_eqb u v n) refl

seen_here : (u v : ℕ) (b : Bool) → u ≡ v → (u == v || b) ≡ true
seen_here u v b e = rw (eq-eqb u v e) refl

module _ (o : Outline) (s : ProtectsSane o) (p : ℕ) (q : Seen) (at : numbered o.procs p ≡ Some q) (r : Seen) where
  module _ (is : r.thread.marks ≡ protect_mark (o.protects + 1) ∷ q.thread.marks) where
    abbrev n : ℕ
    n = o.protects + 1

    abbrev guarded : Outline
    guarded = record o { procs = put o.procs p r; protects = n; events = protect p n ∷ o.events }

    later : (i v : ℕ) (stage : Stage) → StageSane o i v stage → StageSane guarded i v stage
    later i v stage k =
        let low = k.low in
        let apart : (v == n) ≡ false = ne_eqb v n (λ z. omega (arith, low, z)) in
        record { low = omega (arith, low); mine = rw apart k.mine; begun = k.begun; unfinished = k.unfinished }

    pub protect_made : ProtectsSane guarded
    protect_made = record {
      held = λ i x stage v e h.
          ⊎_elim
          (λ (t : (i ≡ p) × (x ≡ r)).
          let h' : Holds stage v (protect_mark n ∷ q.thread.marks) = subst (Holds stage v) (ap (λ (z : Seen). z.thread.marks) t.1 ∙ is) h in
          subst (λ z. StageSane guarded z v stage) (sym t.0)
          (⊎_elim
          (λ (u : (stage ≡ waiting) × (v ≡ n)). subst (λ (z : ℕ × Stage). StageSane guarded p z.0 z.1) (λ z. (sym u.1 z, sym u.0 z)) new)
          (λ (u : Holds stage v q.thread.marks). later p v stage (s.held p q stage v at u))
          (protect_cases stage v n q.thread.marks h')))
          (λ (t : (i ≢ p) × (numbered o.procs i ≡ Some x)). later i v stage (s.held i x stage v t.1 h))
          (put_cases o.procs p i r x e);
      placed = λ v l h.
          ⊎_elim
          (λ (t : v ≡ n). inl (record { process = p; by = r; is = put_at o.procs p q r at; stage = waiting; holds = subst (Holds waiting v) (sym is) (inl t) }))
          (λ (t : ((v == n) ≡ false) × (v ≢ n)).
          let apart = t.1 in
          ⊎_elim
          (λ (k : IsHeld o v). inl (⊎_elim
          (λ (a : k.process ≡ p).
          let same : k.by ≡ q = one k.is (subst (λ z. numbered o.procs z ≡ Some q) (sym a) at) in
          record { process = p; by = r; is = put_at o.procs p q r at; stage = k.stage; holds = subst (Holds k.stage v) (sym is) (holds_more k.stage v (protect_mark n) q.thread.marks (subst (λ (z : Seen). Holds k.stage v z.thread.marks) same k.holds)) })
          (λ (a : ((k.process == p) ≡ false) × (k.process ≢ p)).
          record { process = k.process; by = k.by; is = put_else o.procs p k.process r a.1 ∙ k.is; stage = k.stage; holds = k.holds })
          (same_or k.process p)))
          (λ k. inr k)
          (s.placed v l (omega (arith, h, apart))))
          (same_or v n);
      rising = λ i x e.
          ⊎_elim
          (λ (t : (i ≡ p) × (x ≡ r)).
          subst Rising (sym (ap (λ (z : Seen). z.thread.marks) t.1 ∙ is))
          (under_all n q.thread.marks (λ stage v h. let k = s.held p q stage v at h in let low = k.low in omega (arith, low)), s.rising p q at))
          (λ (t : (i ≢ p) × (numbered o.procs i ≡ Some x)). s.rising i x t.1)
          (put_cases o.procs p i r x e);
      unmade = λ v h.
          let apart : (v == n) ≡ false = ne_eqb v n (λ z. omega (arith, h, z)) in
          let k = s.unmade v (omega (arith, h)) in
          (rw apart k.0, k.1);
    }
      where
        new : StageSane guarded p n waiting
        new = let k = s.unmade n (omega arith) in record { low = omega arith; mine = rw (eq-eqb n n refl) refl; begun = k.1.0; unfinished = k.1.1 }

  -- what stands lower on the frames

  module _ (u : ℕ) (stage : Stage) (holds : Holds stage u q.thread.marks) where
    abbrev top : StageSane o p u stage
    top = s.held p q stage u at holds

    -- no other process holds it
    not_elsewhere : (i : ℕ) (x : Seen) (st : Stage) (v : ℕ) → i ≢ p → numbered o.procs i ≡ Some x → Holds st v x.thread.marks → v ≢ u
    not_elsewhere i x st v n e h same =
        let k = s.held i x st v e h in
        let mine : protector u o.events ≡ Some i = subst (λ z. protector z o.events ≡ Some i) same k.mine in
        n (one mine top.mine)

    placed_else : (es : Outline) (v : ℕ) → es.procs ≡ put o.procs p r → v ≢ u → ((st : Stage) → Holds st v q.thread.marks → Holds st v r.thread.marks) → IsHeld o v → IsHeld es v
    placed_else es v same n h k =
        ⊎_elim
        (λ (a : k.process ≡ p).
        let is_q : k.by ≡ q = one k.is (subst (λ z. numbered o.procs z ≡ Some q) (sym a) at) in
        record { process = p; by = r; is = subst (λ z. numbered z p ≡ Some r) (sym same) (put_at o.procs p q r at); stage = k.stage; holds = h k.stage (subst (λ (z : Seen). Holds k.stage v z.thread.marks) is_q k.holds) })
        (λ (a : ((k.process == p) ≡ false) × (k.process ≢ p)).
        record { process = k.process; by = k.by; is = subst (λ z. numbered z k.process ≡ Some k.by) (sym same) (put_else o.procs p k.process r a.1 ∙ k.is); stage = k.stage; holds = k.holds })
        (same_or k.process p)

  module _ (u : ℕ) (ms : List Mark) (was : q.thread.marks ≡ protect_mark u ∷ ms) (k : Cleanup) (is : r.thread.marks ≡ cleanup_mark u k ∷ ms) where
    abbrev begun_outline : Outline
    begun_outline = record o { procs = put o.procs p r; events = begin p u ∷ o.events }

    here : Holds waiting u q.thread.marks
    here = subst (Holds waiting u) (sym was) (inl refl)

    rises : AllUnder u ms × Rising ms
    rises = subst Rising was (s.rising p q at)

    begun_later : (i v : ℕ) (stage : Stage) → v ≢ u → StageSane o i v stage → StageSane begun_outline i v stage
    begun_later i v stage n j = record { low = j.low; mine = j.mine; begun = seen_apart v u (is_begun v o.events) n ∙ j.begun; unfinished = j.unfinished }

    pub protect_begun : ProtectsSane begun_outline
    protect_begun = record {
      held = λ i x stage v e h.
          ⊎_elim
          (λ (t : (i ≡ p) × (x ≡ r)).
          subst (λ z. StageSane begun_outline z v stage) (sym t.0)
          (⊎_elim
          (λ (y : (stage ≡ running) × (v ≡ u)). subst (λ (z : ℕ × Stage). StageSane begun_outline p z.0 z.1) (λ z. (sym y.1 z, sym y.0 z)) now)
          (λ (y : Holds stage v ms).
          let less = all_under u ms stage v rises.0 y in
          begun_later p v stage (λ z. omega (arith, less, z)) (s.held p q stage v at (subst (Holds stage v) (sym was) (holds_more stage v (protect_mark u) ms y))))
          (cleanup_cases stage v u k ms (subst (Holds stage v) (ap (λ (z : Seen). z.thread.marks) t.1 ∙ is) h))))
          (λ (t : (i ≢ p) × (numbered o.procs i ≡ Some x)). begun_later i v stage (not_elsewhere u waiting here i x stage v t.0 t.1 h) (s.held i x stage v t.1 h))
          (put_cases o.procs p i r x e);
      placed = λ v l h.
          ⊎_elim
          (λ (t : v ≡ u). inl (record { process = p; by = r; is = put_at o.procs p q r at; stage = running; holds = subst (Holds running v) (sym is) (inl t) }))
          (λ (t : ((v == u) ≡ false) × (v ≢ u)).
          ⊎_elim
          (λ (j : IsHeld o v). inl (placed_else u waiting here begun_outline v refl t.1 (λ st y. subst (Holds st v) (sym is) (holds_more st v (cleanup_mark u k) ms (⊎_elim (λ z. absurd (t.1 z.1)) (λ z. z) (protect_cases st v u ms (subst (Holds st v) was y))))) j))
          (λ (j : (is_begun v o.events ≡ true) × (is_finished v o.events ≡ true)). inr (seen_apart v u (is_begun v o.events) t.1 ∙ j.0, j.1))
          (s.placed v l h))
          (same_or v u);
      rising = λ i x e.
          ⊎_elim
          (λ (t : (i ≡ p) × (x ≡ r)). subst Rising (sym (ap (λ (z : Seen). z.thread.marks) t.1 ∙ is)) rises)
          (λ (t : (i ≢ p) × (numbered o.procs i ≡ Some x)). s.rising i x t.1)
          (put_cases o.procs p i r x e);
      unmade = λ v h.
          let low = old.low in
          let j = s.unmade v h in
          (j.0, (seen_apart v u (is_begun v o.events) (λ z. omega (arith, h, low, z)) ∙ j.1.0, j.1.1));
    }
      where
        old : StageSane o p u waiting
        old = s.held p q waiting u at here

        now : StageSane begun_outline p u running
        now = record { low = old.low; mine = old.mine; begun = seen_here u u (is_begun u o.events) refl; unfinished = old.unfinished }

  module _ (u : ℕ) (k : Cleanup) (ms : List Mark) (was : q.thread.marks ≡ cleanup_mark u k ∷ ms) (is : r.thread.marks ≡ ms) where
    abbrev finished_outline : Outline
    finished_outline = record o { procs = put o.procs p r; events = finish p u ∷ o.events }

    ran : Holds running u q.thread.marks
    ran = subst (Holds running u) (sym was) (inl refl)

    rose : AllUnder u ms × Rising ms
    rose = subst Rising was (s.rising p q at)

    finished_later : (i v : ℕ) (stage : Stage) → v ≢ u → StageSane o i v stage → StageSane finished_outline i v stage
    finished_later i v stage n j = record { low = j.low; mine = j.mine; begun = j.begun; unfinished = seen_apart v u (is_finished v o.events) n ∙ j.unfinished }

    pub protect_finished : ProtectsSane finished_outline
    protect_finished = record {
      held = λ i x stage v e h.
          ⊎_elim
          (λ (t : (i ≡ p) × (x ≡ r)).
          let y : Holds stage v ms = subst (Holds stage v) (ap (λ (z : Seen). z.thread.marks) t.1 ∙ is) h in
          let less = all_under u ms stage v rose.0 y in
          subst (λ z. StageSane finished_outline z v stage) (sym t.0)
          (finished_later p v stage (λ z. omega (arith, less, z)) (s.held p q stage v at (subst (Holds stage v) (sym was) (holds_more stage v (cleanup_mark u k) ms y)))))
          (λ (t : (i ≢ p) × (numbered o.procs i ≡ Some x)). finished_later i v stage (not_elsewhere u running ran i x stage v t.0 t.1 h) (s.held i x stage v t.1 h))
          (put_cases o.procs p i r x e);
      placed = λ v l h.
          ⊎_elim
          (λ (t : v ≡ u). inr (subst (λ z. is_begun z o.events ≡ true) (sym t) old.begun, seen_here v u (is_finished v o.events) t))
          (λ (t : ((v == u) ≡ false) × (v ≢ u)).
          ⊎_elim
          (λ (j : IsHeld o v). inl (placed_else u running ran finished_outline v refl t.1 (λ st y. subst (Holds st v) (sym is) (⊎_elim (λ z. absurd (t.1 z.1)) (λ z. z) (cleanup_cases st v u k ms (subst (Holds st v) was y)))) j))
          (λ (j : (is_begun v o.events ≡ true) × (is_finished v o.events ≡ true)). inr (j.0, seen_apart v u (is_finished v o.events) t.1 ∙ j.1))
          (s.placed v l h))
          (same_or v u);
      rising = λ i x e.
          ⊎_elim
          (λ (t : (i ≡ p) × (x ≡ r)). subst Rising (sym (ap (λ (z : Seen). z.thread.marks) t.1 ∙ is)) rose.1)
          (λ (t : (i ≢ p) × (numbered o.procs i ≡ Some x)). s.rising i x t.1)
          (put_cases o.procs p i r x e);
      unmade = λ v h.
          let low = old.low in
          let j = s.unmade v h in
          (j.0, (j.1.0, seen_apart v u (is_finished v o.events) (λ z. omega (arith, h, low, z)) ∙ j.1.1));
    }
      where
        old : StageSane o p u running
        old = s.held p q running u at ran
