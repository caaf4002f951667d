-- Runs as whole turns.
use Rattle.std.proofs.Common.{◌≡◌, ◌⊎◌, ℕ, zero, suc, ◌+◌, ◌<◌, ◌≤◌, ◌==◌, Bool, true, false, List, [], ◌∷◌, ◌++◌, Option, Some, None, refl, sym, ap, ◌∙◌, subst, ⊎_elim, inl, inr, arith, append-nil, append_assoc}
use Rattle.std.specs.Prelude.{if◌then◌else◌, not, ◌&&◌, ◌||◌, is_none, is_some, option_and_then}
use Rattle.ql_world.specs.declared.event.Stop.{Stop}
use Rattle.ql_world.specs.declared.event.Event.{Event}
use Rattle.ql_world.specs.declared.event.Event.TheVariants.{Turn as turn}
use Rattle.ql_replay.specs.Replay.{Host, is_quiet, goes_on, due, stepped, turned, can_end, of_turn}
use Rattle.ql_replay.proofs.Basics.{cases, same_number, equal_self, and_both, if_some, none_of, none_or_some, then_some, same_some, goes_on_quiet, goes_on_same, quiet_calm}
use Rattle.ql_replay.proofs.Turns.{Laws, lines_told, stepped_is, turned_first, turned_more, IsWhole, Turned, turned_facts, whole_facts, makes_turn, whole_after, told_after}

module _ {W : Type 0} (host : Host W) where
  -- the state after a schedule
  abbrev pub run_on : W → List ℕ → Option W
  run_on w [] = Some w
  run_on w (p ∷ ps) = if is_none (host.stop w) then option_and_then (λ v. run_on v ps) (host.tick w p) else None

  pub record Step (w : W) (p : ℕ) (ps : List ℕ) (z : W) : Type 0 where
    pub runs : host.stop w ≡ None
    pub after : W
    pub ticks : host.tick w p ≡ Some after
    pub rest : run_on after ps ≡ Some z

  pub first_step : (w z : W) (p : ℕ) (ps : List ℕ) → run_on w (p ∷ ps) ≡ Some z → Step w p ps z
  first_step w z p ps h =
      let x = if_some (is_none (host.stop w)) (option_and_then (λ v. run_on v ps) (host.tick w p)) z h in
      let y = then_some (λ v. run_on v ps) (host.tick w p) z x.1 in
      record { runs = none_of (host.stop w) x.0; after = y.0; ticks = y.1.0; rest = y.1.1 }

  pub run_step : (w v z : W) (p : ℕ) (ps : List ℕ) → host.stop w ≡ None → host.tick w p ≡ Some v → run_on v ps ≡ Some z → run_on w (p ∷ ps) ≡ Some z
  run_step w v z p ps h k r = rw (h, k) r

module _ {W : Type 0} (host : Host W) (line : Event → List ℕ) (read : List ℕ → Option (ℕ × ℕ)) where
  -- From a state whose newest turn is whole: the lines that a run goes on to tell up to its stop line, and its output.
  pub data Ends : W → List (List ℕ) → List ℕ → Type 0 where
    stops : (w : W) → is_some (host.stop w) ≡ true → Ends w [] (host.output w)
    turns : (w v : W) (p n : ℕ) (more : List (List ℕ)) (out : List ℕ) → host.stop w ≡ None → of_turn host w p n ≡ Some v → Ends v more out
        → Ends w (line (turn p n) ∷ (due host line read v ++ more)) out

  pub record Stops (w : W) (more : List (List ℕ)) (out : List ℕ) : Type 0 where
    pub stopped : is_some (host.stop w) ≡ true
    pub none : more ≡ []
    pub output : out ≡ host.output w

  pub record Goes (w : W) (more : List (List ℕ)) (out : List ℕ) : Type 0 where
    pub after : W
    pub process : ℕ
    pub count : ℕ
    pub later : List (List ℕ)
    pub runs : host.stop w ≡ None
    pub turns : of_turn host w process count ≡ Some after
    pub ends : Ends after later out
    pub is : more ≡ line (turn process count) ∷ (due host line read after ++ later)

  pub ends_cases : (w : W) (more : List (List ℕ)) (out : List ℕ) → Ends w more out → Stops w more out ⊎ Goes w more out
  ends_cases w more out (stops _ h) = inl (record { stopped = h; none = refl; output = refl })
  ends_cases w more out (turns _ v p n later _ r t e) =
      inr (record { after = v; process = p; count = n; later = later; runs = r; turns = t; ends = e; is = refl })

  stopped_runs : (o : Option Stop) → is_some o ≡ true → o ≡ None → ⊥
  stopped_runs o h k = absurd cc

  module _ (Good : W → Type 0) (left : W → ℕ) (laws : Laws host Good left) where
    -- ---- each run can be carried on to a stop

    -- a process whose tick isn't joined to the newest turn
    begins_turn : (w : W) → Good w → IsWhole host line read w → host.stop w ≡ None → (p : ℕ) × ((v : W) × ((host.tick w p ≡ Some v) × (goes_on p (host.events w) ≡ false)))
    begins_turn w g whole r =
        let x = laws.lives w g r in
        ⊎_elim (λ (t : goes_on x.0 (host.events w) ≡ true).
        let q : is_quiet (host.events w) ≡ true = goes_on_quiet x.0 (host.events w) t in
        let e : can_end host w x.0 ≡ true = whole x.0 t in
        let o : host.has_other w x.0 ≡ true = rw (q, r) at e in
        let y = laws.other w x.0 g r o in
        let apart : goes_on y.0 (host.events w) ≡ false =
        ⊎_elim (λ (s : goes_on y.0 (host.events w) ≡ true).
        let same : y.0 ≡ x.0 = goes_on_same y.0 x.0 (host.events w) s t in
        let yes : (y.0 == x.0) ≡ true = subst (λ i. (i == x.0) ≡ true) (sym same) (equal_self x.0) in
        let no : (y.0 == x.0) ≡ false = y.1.1.0 in
        absurd cc)
        (λ s. s) (cases (goes_on y.0 (host.events w))) in
        (y.0, (y.1.0, (y.1.1.1, apart))))
        (λ (t : goes_on x.0 (host.events w) ≡ false). (x.0, (x.1.0, (x.1.1, t)))) (cases (goes_on x.0 (host.events w)))

    cannot_end : (v : W) (p : ℕ) → can_end host v p ≡ false → (is_quiet (host.events v) ≡ true) × ((host.stop v ≡ None) × (host.has_other v p ≡ false))
    cannot_end v p h = parts (is_quiet (host.events v)) (host.stop v) (host.has_other v p) h
      where
        parts : (b : Bool) (o : Option Stop) (c : Bool) → (not b || (is_some o || c)) ≡ false → (b ≡ true) × ((o ≡ None) × (c ≡ false))
        parts true None c h = (refl, (refl, h))
        parts true (Some s) c h = absurd cc
        parts false o c h = absurd cc

    -- a turn that can't end here goes on until it can
    widened : (k : ℕ) (w u : W) (p n : ℕ) → left u < k → Good w → goes_on p (host.events w) ≡ false → turned host w p (suc n) ≡ Some u
        → (m : ℕ) × ((v : W) × ((turned host w p (suc m) ≡ Some v) × (can_end host v p ≡ true)))
    widened zero w u p n l g o t = absurd (omega (arith, l))
    widened (suc k) w u p n l g o t =
        ⊎_elim (λ (e : can_end host u p ≡ true). (n, (u, (t, e))))
        (λ (e : can_end host u p ≡ false).
        let c = cannot_end u p e in
        let f = turned_facts host line read Good left laws w u p n g o t in
        let x = laws.lives u f.good c.1.0 in
        let same : x.0 ≡ p = same_number x.0 p (laws.alone u x.1.0 p x.0 f.good c.1.0 c.1.1 x.1.1) in
        let tick : host.tick u p ≡ Some x.1.0 = subst (λ i. host.tick u i ≡ Some x.1.0) same x.1.1 in
        let less : left x.1.0 < left u = laws.sinks u x.1.0 p f.good c.1.0 tick in
        let fuel : left x.1.0 < k = omega (arith, l, less) in
        widened k w x.1.0 p (suc n) fuel g o (turned_more host line read w u x.1.0 p n t c.0 c.1.0 tick))
        (cases (can_end host u p))

    ends_within : (k : ℕ) (w : W) → left w < k → Good w → IsWhole host line read w → (more : List (List ℕ)) × ((out : List ℕ) × Ends w more out)
    ends_within zero w l g whole = absurd (omega (arith, l))
    ends_within (suc k) w l g whole =
        ⊎_elim (λ (s : is_some (host.stop w) ≡ true). ([], (host.output w, stops w s)))
        (λ (r : host.stop w ≡ None).
        let x = begins_turn w g whole r in
        let one = turned_first host line read w x.1.0 x.0 r x.1.1.0 in
        let y = widened (suc (left x.1.0)) w x.1.0 x.0 0 (omega arith) g x.1.1.1 one in
        let t = makes_turn host line read Good left laws w y.1.0 x.0 y.0 x.1.1.1 y.1.1.0 y.1.1.1 in
        let f = whole_facts host line read Good left laws w y.1.0 x.0 (suc y.0) g t in
        let less : left y.1.0 + suc f.count ≤ left w = f.facts.less in
        let fuel : left y.1.0 < k = omega (arith, l, less) in
        let z = ends_within k y.1.0 fuel f.facts.good (whole_after host line read Good left laws w y.1.0 x.0 (suc y.0) f) in
        (line (turn x.0 (suc y.0)) ∷ (due host line read y.1.0 ++ z.0), (z.1.0, turns w y.1.0 x.0 (suc y.0) z.0 z.1.0 r t z.1.1)))
        (none_or_some (host.stop w))

    pub ends_somehow : (w : W) → Good w → IsWhole host line read w → (more : List (List ℕ)) × ((out : List ℕ) × Ends w more out)
    ends_somehow w g whole = ends_within (suc (left w)) w (omega arith) g whole

    -- ---- schedules as turns

    put_after : (a b c : List (List ℕ)) (x : List (List ℕ)) (l : List ℕ) (d more : List (List ℕ)) → b ≡ a ++ (l ∷ d) → c ≡ b ++ more → c ≡ a ++ (l ∷ (d ++ more))
    put_after a b c x l d more e f = f ∙ (ap (λ (z : List (List ℕ)). z ++ more) e ∙ append_assoc a (l ∷ d) more)

    abbrev pub Tells : W → W → Type 0
    Tells w z = (more : List (List ℕ)) × (Ends w more (host.output z) × (lines_told host line read z ≡ lines_told host line read w ++ more))

    stop_ends : (o : Option Stop) (b c : Bool) → is_some o ≡ true → (not b || (is_some o || c)) ≡ true
    stop_ends None b c h = absurd cc
    stop_ends (Some s) true c h = refl
    stop_ends (Some s) false c h = refl

    other_ends : (o : Option Stop) (b c : Bool) → (b ≡ true → c ≡ true) → (not b || (is_some o || c)) ≡ true
    other_ends None true c h = h refl
    other_ends (Some s) true c h = refl
    other_ends o false c h = refl

    -- a run in the midst of a turn of p
    into_turns : (ps : List ℕ) (w u z : W) (p n : ℕ) → Good w → goes_on p (host.events w) ≡ false → turned host w p (suc n) ≡ Some u
        → run_on host u ps ≡ Some z → is_some (host.stop z) ≡ true → Tells w z
    into_turns [] w u z p n g o t r s =
        let same : u ≡ z = same_some u z r in
        let t' : turned host w p (suc n) ≡ Some z = t ∙ ap Some same in
        let e : can_end host z p ≡ true = stop_ends (host.stop z) (is_quiet (host.events z)) (host.has_other z p) s in
        let f = turned_facts host line read Good left laws w z p n g o t' in (
          line (turn p (suc n)) ∷ (due host line read z ++ []),
          (
            turns w z p (suc n) [] (host.output z) f.runs (makes_turn host line read Good left laws w z p n o t' e) (stops z s),
            put_after (lines_told host line read w) (lines_told host line read z) (lines_told host line read z) [] (line (turn p (suc n))) (due host line read z) []
                (told_after host line read Good left laws w z p (suc n) f) (sym (append-nil (lines_told host line read z))),
          ),
        )
    into_turns (q ∷ ps) w u z p n g o t r s =
        let x = first_step host u z q ps r in
        let f = turned_facts host line read Good left laws w u p n g o t in
        ⊎_elim (λ (b : ((q == p) && is_quiet (host.events u)) ≡ true).
        let c = and_both (q == p) (is_quiet (host.events u)) b in
        let tick : host.tick u p ≡ Some x.after = subst (λ i. host.tick u i ≡ Some x.after) (same_number q p c.0) x.ticks in
        into_turns ps w x.after z p (suc n) g o (turned_more host line read w u x.after p n t c.1 x.runs tick) x.rest s)
        (λ (b : ((q == p) && is_quiet (host.events u)) ≡ false).
        let e : can_end host u p ≡ true =
        other_ends (host.stop u) (is_quiet (host.events u)) (host.has_other u p) (λ (k : is_quiet (host.events u) ≡ true).
        ⊎_elim (λ y. y) (λ (y : host.has_other u p ≡ false).
        let same : (q == p) ≡ true = laws.alone u x.after p q f.good x.runs y x.ticks in
        let bad : true ≡ false = rw (same, k) at b in absurd cc) (cases (host.has_other u p))) in
        let whole = makes_turn host line read Good left laws w u p n o t e in
        let wf = whole_facts host line read Good left laws w u p (suc n) g whole in
        let apart : goes_on q (host.events u) ≡ false =
        ⊎_elim (λ (y : goes_on q (host.events u) ≡ true).
        let k : is_quiet (host.events u) ≡ true = goes_on_quiet q (host.events u) y in
        let none : f.new ≡ [] = quiet_calm (turn p (suc n)) (host.events w) refl f.new f.calm (subst (λ l. is_quiet l ≡ true) f.events k) in
        let now : host.events u ≡ turn p (suc n) ∷ host.events w = f.events ∙ ap (λ (l : List Event). l ++ turn p (suc n) ∷ host.events w) none in
        let same : (q == p) ≡ true = subst (λ l. goes_on q l ≡ true) now y in
        let bad : true ≡ false = rw (same, k) at b in absurd cc)
        (λ y. y) (cases (goes_on q (host.events u))) in
        let later = into_turns ps u x.after z q 0 f.good apart (turned_first host line read u x.after q x.runs x.ticks) x.rest s in (
          line (turn p (suc n)) ∷ (due host line read u ++ later.0),
          (
            turns w u p (suc n) later.0 (host.output z) f.runs whole later.1.0,
            put_after (lines_told host line read w) (lines_told host line read u) (lines_told host line read z) [] (line (turn p (suc n))) (due host line read u) later.0
                (told_after host line read Good left laws w u p (suc n) f) later.1.1,
          ),
        ))
        (cases ((q == p) && is_quiet (host.events u)))

    -- from the first state on
    pub run_ends : (ps : List ℕ) (w z : W) → Good w → host.events w ≡ [] → run_on host w ps ≡ Some z → is_some (host.stop z) ≡ true → Tells w z
    run_ends [] w z g none r s =
        let same : w ≡ z = same_some w z r in
        subst (λ v. is_some (host.stop v) ≡ true → Tells w v) same (λ h. ([], (stops w h, sym (append-nil (lines_told host line read w))))) s
    run_ends (p ∷ ps) w z g none r s =
        let x = first_step host w z p ps r in
        into_turns ps w x.after z p 0 g (ap (goes_on p) none) (turned_first host line read w x.after p x.runs x.ticks) x.rest s

    -- ---- turns as a schedule

    turned_runs : (n : ℕ) (w v z : W) (p : ℕ) (ps : List ℕ) → turned host w p n ≡ Some v → run_on host v ps ≡ Some z → (qs : List ℕ) × (run_on host w qs ≡ Some z)
    turned_runs zero w v z p ps t r = let same : w ≡ v = same_some w v t in (ps, subst (λ u. run_on host u ps ≡ Some z) (sym same) r)
    turned_runs (suc zero) w v z p ps t r =
        let s = stepped_is host line read w v p t in (p ∷ ps, run_step host w v z p ps s.0 s.1 r)
    turned_runs (suc (suc n)) w v z p ps t r =
        let x = then_some (λ u. if is_quiet (host.events u) then stepped host u p else None) (turned host w p (suc n)) v t in
        let y = if_some (is_quiet (host.events x.0)) (stepped host x.0 p) v x.1.1 in
        let s = stepped_is host line read x.0 v p y.1 in
        turned_runs (suc n) w x.0 z p (p ∷ ps) x.1.0 (run_step host x.0 v z p ps s.0 s.1 r)

    pub record Run (w : W) (more : List (List ℕ)) (out : List ℕ) : Type 0 where
      pub schedule : List ℕ
      pub after : W
      pub runs : run_on host w schedule ≡ Some after
      pub stopped : is_some (host.stop after) ≡ true
      pub told : lines_told host line read after ≡ lines_told host line read w ++ more
      pub output : host.output after ≡ out

    pub ends_run : (w : W) (more : List (List ℕ)) (out : List ℕ) → Good w → Ends w more out → Run w more out
    ends_run w more out g (stops _ s) = record { schedule = []; after = w; runs = refl; stopped = s; told = sym (append-nil (lines_told host line read w)); output = refl }
    ends_run w more out g (turns _ v p n later _ r t e) =
        let f = whole_facts host line read Good left laws w v p n g t in
        let i = ends_run v later out f.facts.good e in
        let x = turned_runs (suc f.count) w v i.after p i.schedule f.turned i.runs in
        record {
          schedule = x.0;
          after = i.after;
          runs = x.1;
          stopped = i.stopped;
          told =
              put_after (lines_told host line read w) (lines_told host line read v) (lines_told host line read i.after) [] (line (turn p n)) (due host line read v) later
              (told_after host line read Good left laws w v p n (subst (λ k. Turned host line read Good left laws w p k v) (sym f.is) f.facts)) i.told;
          output = i.output;
        }
