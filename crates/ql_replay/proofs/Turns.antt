-- Turns of a host that keeps the laws.
use Rattle.std.proofs.Common.{◌≡◌, ℕ, zero, suc, ◌+◌, ◌<◌, ◌≤◌, ◌==◌, true, false, List, [], ◌∷◌, ◌++◌, map, Option, Some, None, refl, sym, ap, ◌∙◌, subst, arith, append-nil}
use Rattle.std.specs.Prelude.{if◌then◌else◌, is_none, option_and_then, reverse}
use Rattle.ql_world.specs.Event.{with_tick}
use Rattle.ql_world.specs.declared.event.Event.{Event}
use Rattle.ql_world.specs.declared.event.Event.TheVariants.{Turn as turn}
use Rattle.ql_replay.specs.Replay.{Host, is_quiet, goes_on, since_turn, stop_lines, due, stepped, turned, can_end, if_ends, of_turn}
use Rattle.ql_replay.proofs.Basics.{same_number, if_some, if_none_some, none_of, then_some, no_turns, ticked, joined, goes_on_quiet, quiet_calm, since_is, lines_of_turn}

-- what a tick does to a state from which the run goes on
pub record Laws {W : Type 0} (host : Host W) (Good : W → Type 0) (left : W → ℕ) : Type 0 where
  pub keeps : (w v : W) (p : ℕ) → Good w → host.stop w ≡ None → host.tick w p ≡ Some v → Good v
  -- ticks come to an end
  pub sinks : (w v : W) (p : ℕ) → Good w → host.stop w ≡ None → host.tick w p ≡ Some v → left v < left w
  pub adds : (w v : W) (p : ℕ) → Good w → host.stop w ≡ None → host.tick w p ≡ Some v
      → (es : List Event) × ((host.events v ≡ es ++ with_tick p (host.events w)) × (no_turns es ≡ true))
  -- a run that hasn't stopped can go on
  pub lives : (w : W) → Good w → host.stop w ≡ None → (p : ℕ) × ((v : W) × (host.tick w p ≡ Some v))
  pub other : (w : W) (p : ℕ) → Good w → host.stop w ≡ None → host.has_other w p ≡ true
      → (i : ℕ) × ((v : W) × (((i == p) ≡ false) × (host.tick w i ≡ Some v)))
  pub alone : (w v : W) (p i : ℕ) → Good w → host.stop w ≡ None → host.has_other w p ≡ false → host.tick w i ≡ Some v → (i == p) ≡ true

module _ {W : Type 0} (host : Host W) (line : Event → List ℕ) (read : List ℕ → Option (ℕ × ℕ)) where
  abbrev st : W → List (List ℕ)
  st w = stop_lines host line read (host.stop w)

  -- the lines so far, with the stop line if the run stops here
  abbrev pub lines_told : W → List (List ℕ)
  lines_told w = map line (reverse (host.events w)) ++ stop_lines host line read (host.stop w)

  pub stepped_is : (w v : W) (p : ℕ) → stepped host w p ≡ Some v → (host.stop w ≡ None) × (host.tick w p ≡ Some v)
  stepped_is w v p h = let x = if_some (is_none (host.stop w)) (host.tick w p) v h in (none_of (host.stop w) x.0, x.1)

  pub steps : (w v : W) (p : ℕ) → host.stop w ≡ None → host.tick w p ≡ Some v → stepped host w p ≡ Some v
  steps w v p h k = rw (h, k) refl

  -- a last tick, or one more of a turn that is quiet so far
  pub turned_first : (w v : W) (p : ℕ) → host.stop w ≡ None → host.tick w p ≡ Some v → turned host w p 1 ≡ Some v
  turned_first w v p h k = steps w v p h k

  pub turned_more : (w u v : W) (p n : ℕ) → turned host w p (suc n) ≡ Some u → is_quiet (host.events u) ≡ true
      → host.stop u ≡ None → host.tick u p ≡ Some v → turned host w p (suc (suc n)) ≡ Some v
  turned_more w u v p n t q h k = rw (t, q) (steps u v p h k)

  -- the newest turn is whole
  abbrev pub IsWhole : W → Type 0
  IsWhole w = (p : ℕ) → goes_on p (host.events w) ≡ true → can_end host w p ≡ true

  module _ (Good : W → Type 0) (left : W → ℕ) (laws : Laws host Good left) where
    -- after a turn
    pub record Turned (w : W) (p n : ℕ) (v : W) : Type 0 where
      pub good : Good v
      pub runs : host.stop w ≡ None
      pub less : left v + n ≤ left w
      pub new : List Event
      pub events : host.events v ≡ new ++ turn p n ∷ host.events w
      pub calm : no_turns new ≡ true

    ticked_now : (now old : List Event) (p n n' : ℕ) → n + 1 ≡ n' → now ≡ turn p n ∷ old → with_tick p now ≡ turn p n' ∷ old
    ticked_now now old p n n' e h = ap (with_tick p) h ∙ (joined p n old ∙ ap (λ i. turn p i ∷ old) e)

    pub turned_facts : (w v : W) (p n : ℕ) → Good w → goes_on p (host.events w) ≡ false → turned host w p (suc n) ≡ Some v → Turned w p (suc n) v
    turned_facts w v p zero g o h =
        let s = stepped_is w v p h in
        let a = laws.adds w v p g s.0 s.1 in
        record {
          good = laws.keeps w v p g s.0 s.1;
          runs = s.0;
          less = let l : left v < left w = laws.sinks w v p g s.0 s.1 in omega (arith, l);
          new = a.0;
          events = a.1.0 ∙ ap (λ l. a.0 ++ l) (ticked p (host.events w) o);
          calm = a.1.1;
        }
    turned_facts w v p (suc n) g o h =
        let x = then_some (λ u. if is_quiet (host.events u) then stepped host u p else None) (turned host w p (suc n)) v h in
        let u = x.0 in
        let y = if_some (is_quiet (host.events u)) (stepped host u p) v x.1.1 in
        let s = stepped_is u v p y.1 in
        let f = turned_facts w u p n g o x.1.0 in
        let a = laws.adds u v p f.good s.0 s.1 in
        let none : f.new ≡ [] = quiet_calm (turn p (suc n)) (host.events w) refl f.new f.calm (subst (λ l. is_quiet l ≡ true) f.events y.0) in
        let now : host.events u ≡ turn p (suc n) ∷ host.events w = f.events ∙ ap (λ (l : List Event). l ++ turn p (suc n) ∷ host.events w) none in
        let l : left v < left u = laws.sinks u v p f.good s.0 s.1 in
        let k : left u + suc n ≤ left w = f.less in
        let more : suc n + 1 ≡ suc (suc n) = omega arith in
        record {
          good = laws.keeps u v p f.good s.0 s.1;
          runs = f.runs;
          less = omega (arith, l, k);
          new = a.0;
          events = a.1.0 ∙ ap (λ (l : List Event). a.0 ++ l) (ticked_now (host.events u) (host.events w) p (suc n) (suc (suc n)) more now);
          calm = a.1.1;
        }

    -- a whole turn
    pub record Whole (w : W) (p n : ℕ) (v : W) : Type 0 where
      pub count : ℕ
      pub is : n ≡ suc count
      pub apart : goes_on p (host.events w) ≡ false
      pub turned : turned host w p (suc count) ≡ Some v
      pub ends : can_end host v p ≡ true
      pub facts : Turned w p (suc count) v

    pub whole_facts : (w v : W) (p n : ℕ) → Good w → of_turn host w p n ≡ Some v → Whole w p n v
    whole_facts w v p zero g h = absurd cc
    whole_facts w v p (suc n) g h =
        let x = if_none_some (goes_on p (host.events w)) (option_and_then (if_ends host p) (turned host w p (suc n))) v h in
        let y = then_some (if_ends host p) (turned host w p (suc n)) v x.1 in
        let z = if_some (can_end host y.0 p) (Some y.0) v y.1.1 in
        let same : y.0 ≡ v = let e : Some y.0 ≡ Some v = z.1 in cc in
        let t : turned host w p (suc n) ≡ Some v = y.1.0 ∙ ap Some same in
        record {
          count = n;
          is = refl;
          apart = x.0;
          turned = t;
          ends = subst (λ u. can_end host u p ≡ true) same z.0;
          facts = turned_facts w v p n g x.0 t;
        }

    pub makes_turn : (w v : W) (p n : ℕ) → goes_on p (host.events w) ≡ false → turned host w p (suc n) ≡ Some v → can_end host v p ≡ true
        → of_turn host w p (suc n) ≡ Some v
    makes_turn w v p n o t e = rw (o, t, e) refl

    pub whole_after : (w v : W) (p n : ℕ) → Whole w p n v → IsWhole v
    whole_after w v p n f q h =
        let t = f.facts in
        let k : is_quiet (host.events v) ≡ true = goes_on_quiet q (host.events v) h in
        let none : t.new ≡ [] = quiet_calm (turn p (suc f.count)) (host.events w) refl t.new t.calm (subst (λ l. is_quiet l ≡ true) t.events k) in
        let now : host.events v ≡ turn p (suc f.count) ∷ host.events w = t.events ∙ ap (λ (l : List Event). l ++ turn p (suc f.count) ∷ host.events w) none in
        let same : q ≡ p = same_number q p (subst (λ l. goes_on q l ≡ true) now h) in
        subst (λ i. can_end host v i ≡ true) (sym same) f.ends

    pub told_after : (w v : W) (p n : ℕ) → Turned w p n v → lines_told v ≡ lines_told w ++ (line (turn p n) ∷ due host line read v)
    told_after w v p n t =
        let d : since_turn (host.events v) ≡ t.new = ap since_turn t.events ∙ since_is (turn p n) (host.events w) refl t.new t.calm in
        let a : lines_told w ≡ map line (reverse (host.events w)) = rw t.runs (append-nil (map line (reverse (host.events w)))) in
        let b : lines_told v ≡ map line (reverse (host.events w)) ++ (line (turn p n) ∷ (map line (reverse t.new) ++ st v)) =
        ap (λ (l : List Event). map line (reverse l) ++ st v) t.events ∙ lines_of_turn line (turn p n) t.new (host.events w) (st v) in
        rw (a, d) b
