-- A machine and its world are a host that keeps the laws.
use Rattle.std.proofs.Common.{◌≡◌, ℕ, zero, suc, ◌+◌, ◌-◌, ◌<◌, ◌≤◌, ◌==◌, Bool, true, false, List, [], ◌∷◌, ◌++◌, length, Option, Some, None, refl, sym, ap, ◌∙◌, subst, ⊎_elim, arith}
use Rattle.std.specs.Prelude.{if◌then◌else◌, not, ◌&&◌, ◌||◌, is_none, option_and_then, slice_get}
use Rattle.std.specs.List.{list_all}
use Rattle.std.proofs.lemmas.Bool.Decides.{nat_tests}
use Rattle.ql_base.specs.declared.limits.Limits.{Limits}
use Rattle.ql_world.specs.Event.{with_tick}
use Rattle.ql_world.specs.declared.event.Event.{Event}
use Rattle.ql_world.specs.declared.event.Stop.{Stop}
use Rattle.ql_world.specs.declared.event.Stop.TheVariants.{Done as done, Deadlock as deadlock, Budget as budget}
use Rattle.ql_world.specs.declared.event.Event.TheVariants.{Turn as turn}
use Rattle.ql_world.specs.World.{World, numbered}
use Rattle.ql_world.specs.declared.world.Process.{Process}
use Rattle.ql_world.specs.Machine.{Machine}
use Rattle.ql_world.specs.Tick.{can_step, step, tick}
use Rattle.ql_world.specs.Run.{any_from, is_stuck, mark_or, stop_of, run}
use Rattle.ql_replay.specs.Book.{AreOneLine}
use Rattle.ql_replay.specs.Replay.{Host, host_of, is_turn, stepped, turned, of_turn, is_quiet}
use Rattle.ql_replay.proofs.Basics.{cases, and_both, if_some, then_some, same_some, no_turns}
use Rattle.ql_replay.proofs.Feeds.{is_clean}
use Rattle.ql_replay.proofs.Rows.{all_news, tick_fits}
use Rattle.ql_replay.proofs.Turns.{Laws, stepped_is, whole_facts}
use Rattle.ql_replay.proofs.Ends.{run_on, first_step, run_step}

abbrev pub all_clean : List Event → Bool
all_clean [] = true
all_clean (e ∷ es) = is_clean e && all_clean es

news_calm : (es : List Event) → all_news es ≡ true → no_turns es ≡ true
news_calm [] h = refl
news_calm (e ∷ es) h = parts (not (is_turn e)) (is_clean e) (all_news es) (no_turns es) h (news_calm es)
  where
    parts : (a b c d : Bool) → ((a && b) && c) ≡ true → (c ≡ true → d ≡ true) → (a && d) ≡ true
    parts true true c d h f = f h
    parts true false c d h f = absurd cc
    parts false b c d h f = absurd cc

news_clean : (es old : List Event) → all_news es ≡ true → all_clean old ≡ true → all_clean (es ++ old) ≡ true
news_clean [] old h k = k
news_clean (e ∷ es) old h k = parts (not (is_turn e)) (is_clean e) (all_news es) (all_clean (es ++ old)) h (λ t. news_clean es old t k)
  where
    parts : (a b c d : Bool) → ((a && b) && c) ≡ true → (c ≡ true → d ≡ true) → (b && d) ≡ true
    parts true true c d h f = f h
    parts true false c d h f = absurd cc
    parts false b c d h f = absurd cc

ticked_clean : (p : ℕ) (es : List Event) → all_clean es ≡ true → all_clean (with_tick p es) ≡ true
ticked_clean p [] h = refl
ticked_clean p (turn q n ∷ es) h = ⊎_elim (λ (t : (p == q) ≡ true). rw t h) (λ (t : (p == q) ≡ false). rw t h) (cases (p == q))
ticked_clean p (e ∷ es) h = h

-- ---- lists of processes

module _ {A : Type 0} (f : ℕ → A → Bool) where
  pub any_some : (xs : List A) (n : ℕ) → any_from f n xs ≡ true → (p : ℕ) × ((i : ℕ) × ((x : A) × ((p ≡ n + i) × ((slice_get xs i ≡ Some x) × (f p x ≡ true)))))
  any_some [] n h = absurd cc
  any_some (x ∷ xs) n h =
      ⊎_elim (λ (t : f n x ≡ true). let e : n ≡ n + 0 = omega arith in (n, (0, (x, (e, (refl, t))))))
      (λ (t : f n x ≡ false).
      let r : any_from f (suc n) xs ≡ true = rw t at h in
      let y = any_some xs (suc n) r in
      let e : y.0 ≡ suc n + y.1.0 = y.1.1.1.0 in
      let g : y.0 ≡ n + suc y.1.0 = omega (arith, e) in
      (y.0, (suc y.1.0, (y.1.1.0, (g, (y.1.1.1.1.0, y.1.1.1.1.1))))))
      (cases (f n x))

  pub any_none : (xs : List A) (n p i : ℕ) (x : A) → any_from f n xs ≡ false → p ≡ n + i → slice_get xs i ≡ Some x → f p x ≡ false
  any_none [] n p i x h e g = absurd cc
  any_none (y ∷ xs) n p zero x h e g =
      let same : y ≡ x = same_some y x g in
      let at : p ≡ n = omega (arith, e) in
      subst (λ z. f p z ≡ false) same (subst (λ k. f k y ≡ false) (sym at) (parts (f n y) (any_from f (suc n) xs) h).0)
    where
      parts : (b c : Bool) → (b || c) ≡ false → (b ≡ false) × (c ≡ false)
      parts true c h = absurd cc
      parts false c h = (refl, h)
  any_none (y ∷ xs) n p (suc i) x h e g = any_none xs (suc n) p i x ((parts (f n y) (any_from f (suc n) xs) h).1) (omega (arith, e)) g
    where
      parts : (b c : Bool) → (b || c) ≡ false → (b ≡ false) × (c ≡ false)
      parts true c h = absurd cc
      parts false c h = (refl, h)

  pub any_numbered : (xs : List A) → any_from f 1 xs ≡ true → (p : ℕ) × ((x : A) × ((numbered xs p ≡ Some x) × (f p x ≡ true)))
  any_numbered xs h =
      let y = any_some xs 1 h in
      let e : y.0 ≡ 1 + y.1.0 = y.1.1.1.0 in
      let g : y.0 ≡ suc y.1.0 = omega (arith, e) in
      (suc y.1.0, (y.1.1.0, (y.1.1.1.1.0, subst (λ k. f k y.1.1.0 ≡ true) g y.1.1.1.1.1)))

  pub none_numbered : (xs : List A) (p : ℕ) (x : A) → any_from f 1 xs ≡ false → numbered xs p ≡ Some x → f p x ≡ false
  none_numbered xs zero x h g = absurd cc
  none_numbered xs (suc i) x h g = any_none xs 1 (suc i) i x h (omega arith) g

module _ {A : Type 0} where
  get_low : (ys : List A) (i : ℕ) (x : A) → slice_get ys i ≡ Some x → suc i ≤ length ys
  get_low [] i x h = absurd cc
  get_low (y ∷ ys) zero x h = omega arith
  get_low (y ∷ ys) (suc i) x h = let l : suc i ≤ length ys = get_low ys i x h in omega (arith, l)

  numbered_low : (xs : List A) (p : ℕ) (x : A) → numbered xs p ≡ Some x → p ≤ length xs
  numbered_low xs zero x h = absurd cc
  numbered_low xs (suc i) x h = get_low xs i x h

-- ---- stops

stop_parts : (over stuck spent : Bool) (mark : Option Stop)
    → (if over then Some done else mark_or mark (if stuck then Some deadlock else (if spent then Some budget else None))) ≡ None → (stuck ≡ false) × (spent ≡ false)
stop_parts true stuck spent mark h = absurd cc
stop_parts false stuck spent (Some s) h = absurd cc
stop_parts false true spent None h = absurd cc
stop_parts false false true None h = absurd cc
stop_parts false false false None h = (refl, refl)

module _ {P K : Type 0} (m : Machine P K) (names : List (List ℕ)) (one : AreOneLine names) (limits : Limits) (start : World P K) where
  abbrev pub H : Host (World P K)
  H = host_of m names limits

  -- a process that can step has a tick, in each state that a run reaches
  abbrev pub NeverLost : Type 0
  NeverLost = (schedule : List ℕ) (w : World P K) (p : ℕ) (q : Process P) → run m names limits start schedule ≡ Some w → numbered w.procs p ≡ Some q
      → can_step m names limits p q w ≡ true → (v : World P K) × (tick m names limits w p ≡ Some v)

  pub run_same : (schedule : List ℕ) (w : World P K) → run_on H w schedule ≡ run m names limits w schedule
  run_same [] w = refl
  run_same (p ∷ ps) w = if_same (is_none (stop_of m names limits w)) _ _ (then_same (λ v. run_same ps v) (tick m names limits w p))
    where
      if_same : (b : Bool) (x y : Option (World P K)) → x ≡ y → (if b then x else None) ≡ (if b then y else None)
      if_same b x y e = ap (λ (z : Option (World P K)). if b then z else None) e

      then_same : ((v : World P K) → run_on H v ps ≡ run m names limits v ps) → (o : Option (World P K)) → option_and_then (λ v. run_on H v ps) o ≡ option_and_then (λ v. run m names limits v ps) o
      then_same again None = refl
      then_same again (Some v) = again v

  pub record Good (w : World P K) : Type 0 where
    pub schedule : List ℕ
    pub reached : run_on H start schedule ≡ Some w
    pub ticks : w.ticks ≤ limits.budget
    pub procs : length w.procs ≤ limits.procs
    pub clean : all_clean w.events ≡ true

  abbrev pub left : World P K → ℕ
  left w = limits.budget - w.ticks

  goes_further : (ps : List ℕ) (w u v : World P K) (p : ℕ) → run_on H w ps ≡ Some u → stop_of m names limits u ≡ None → tick m names limits u p ≡ Some v → run_on H w (ps ++ p ∷ []) ≡ Some v
  goes_further [] w u v p r s t =
      let same : w ≡ u = same_some w u r in
      subst (λ z. run_on H z (p ∷ []) ≡ Some v) (sym same) (run_step H u v v p [] s t refl)
  goes_further (q ∷ ps) w u v p r s t =
      let x = first_step H w u q ps r in
      run_step H w x.after v q (ps ++ p ∷ []) x.runs x.ticks (goes_further ps x.after u v p x.rest s t)

  stops_not : (w : World P K) → stop_of m names limits w ≡ None → (is_stuck m names limits w ≡ false) × ((w.ticks == limits.budget) ≡ false)
  stops_not w h = stop_parts (list_all (λ q. q.ended) w.procs) (is_stuck m names limits w) (w.ticks == limits.budget) w.mark h

  more_left : (w : World P K) → Good w → stop_of m names limits w ≡ None → w.ticks < limits.budget
  more_left w g h =
      let l : w.ticks ≤ limits.budget = g.ticks in
      let n : (w.ticks == limits.budget) ≡ false = (stops_not w h).1 in
      grind (arith, nat_tests, l, n)

  keeps_good : (w v : World P K) (p : ℕ) → Good w → stop_of m names limits w ≡ None → tick m names limits w p ≡ Some v → Good v
  keeps_good w v p g s t =
      let f = tick_fits m names one limits p w v t in
      let e : v.ticks ≡ w.ticks + 1 = f.ticks in
      let l : w.ticks < limits.budget = more_left w g s in
      record {
        schedule = g.schedule ++ p ∷ [];
        reached = goes_further g.schedule start w v p g.reached s t;
        ticks = omega (arith, e, l);
        procs = f.procs g.procs;
        clean = subst (λ z. all_clean z ≡ true) (sym f.events) (news_clean f.new (with_tick p w.events) f.news (ticked_clean p w.events g.clean));
      }

  sinks_left : (w v : World P K) (p : ℕ) → Good w → stop_of m names limits w ≡ None → tick m names limits w p ≡ Some v → left v < left w
  sinks_left w v p g s t =
      let f = tick_fits m names one limits p w v t in
      let e : v.ticks ≡ w.ticks + 1 = f.ticks in
      let l : w.ticks < limits.budget = more_left w g s in
      omega (arith, e, l)

  pub ticks_of : (w v : World P K) (p : ℕ) → tick m names limits w p ≡ Some v → (q : Process P) × ((numbered w.procs p ≡ Some q) × (can_step m names limits p q w ≡ true))
  ticks_of w v p h =
      let x = then_some (λ q. step m names limits p q w) (numbered w.procs p) v h in
      let y = if_some (can_step m names limits p x.0 w) _ v x.1.1 in
      (x.0, (x.1.0, y.0))

  module _ (lost : NeverLost) where
    lives_on : (w : World P K) → Good w → stop_of m names limits w ≡ None → (p : ℕ) × ((v : World P K) × (tick m names limits w p ≡ Some v))
    lives_on w g s =
        let x = any_numbered (λ p q. can_step m names limits p q w) w.procs (not_stuck _ (stops_not w s).0) in
        let y = lost g.schedule w x.0 x.1.0 (sym (run_same g.schedule start) ∙ g.reached) x.1.1.0 x.1.1.1 in
        (x.0, y)
      where
        not_stuck : (b : Bool) → not b ≡ false → b ≡ true
        not_stuck true h = refl
        not_stuck false h = absurd cc

    other_steps : (w : World P K) (p : ℕ) → Good w → stop_of m names limits w ≡ None → H.has_other w p ≡ true
        → (i : ℕ) × ((v : World P K) × (((i == p) ≡ false) × (tick m names limits w i ≡ Some v)))
    other_steps w p g s h =
        let x = any_numbered (λ i q. not (i == p) && can_step m names limits i q w) w.procs h in
        let b = and_both (not (x.0 == p)) (can_step m names limits x.0 x.1.0 w) x.1.1.1 in
        let y = lost g.schedule w x.0 x.1.0 (sym (run_same g.schedule start) ∙ g.reached) x.1.1.0 b.1 in
        (x.0, (y.0, (of_not (x.0 == p) b.0, y.1)))
      where
        of_not : (b : Bool) → not b ≡ true → b ≡ false
        of_not true h = absurd cc
        of_not false h = refl

    alone_steps : (w v : World P K) (p i : ℕ) → Good w → stop_of m names limits w ≡ None → H.has_other w p ≡ false → tick m names limits w i ≡ Some v → (i == p) ≡ true
    alone_steps w v p i g s h t =
        let x = ticks_of w v i t in
        let n = none_numbered (λ i q. not (i == p) && can_step m names limits i q w) w.procs i x.0 h x.1.0 in
        parts (i == p) (can_step m names limits i x.0 w) n x.1.1
      where
        parts : (b c : Bool) → (not b && c) ≡ false → c ≡ true → b ≡ true
        parts true c h k = refl
        parts false c h k = absurd cc

    pub laws : Laws H Good left
    laws = record {
      keeps = keeps_good;
      sinks = sinks_left;
      adds = λ w v p g s t. let f = tick_fits m names one limits p w v t in (f.new, (f.events, news_calm f.new f.news));
      lives = lives_on;
      other = other_steps;
      alone = alone_steps;
    }

    -- ---- turn lines can be read

    module _ (line : Event → List ℕ) (read : List ℕ → Option (ℕ × ℕ)) where
      first_ticks : (n : ℕ) (w v : World P K) (p : ℕ) → turned H w p (suc n) ≡ Some v → (u : World P K) × (tick m names limits w p ≡ Some u)
      first_ticks zero w v p h = (v, (stepped_is H line read w v p h).1)
      first_ticks (suc n) w v p h =
          let x = then_some (λ u. if is_quiet (H.events u) then stepped H u p else None) (turned H w p (suc n)) v h in
          first_ticks n w x.0 p x.1.0

      pub low_numbers : (w v : World P K) (p n : ℕ) → Good w → of_turn H w p n ≡ Some v → (p ≤ limits.procs) × ((1 ≤ n) × (n ≤ limits.budget))
      low_numbers w v p n g h =
          let f = whole_facts H line read Good left laws w v p n g h in
          let x = first_ticks f.count w v p f.turned in
          let q = ticks_of w x.0 p x.1 in
          let a : p ≤ length w.procs = numbered_low w.procs p q.0 q.1.0 in
          let b : length w.procs ≤ limits.procs = g.procs in
          let c : left v + suc f.count ≤ left w = f.facts.less in
          let e : n ≡ suc f.count = f.is in
          (omega (arith, a, b), (omega (arith, e), omega (arith, c, e)))
