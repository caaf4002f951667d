-- The events of a run spell its schedule, tick by tick.
use Rattle.std.proofs.Common.{◌≡◌, ℕ, zero, suc, ◌+◌, ◌==◌, Bool, true, false, List, [], ◌∷◌, ◌++◌, Option, Some, None, refl, sym, ap, ◌∙◌, arith, append_assoc, eqb-true}
use Rattle.std.proofs.lemmas.List.{reverse-append, append-nil}
use Rattle.std.specs.Prelude.{reverse, replicate, if◌then◌else◌, not, ◌&&◌, is_none, option_map, option_and_then}
use Rattle.ql_base.specs.declared.limits.Limits.{Limits}
use Rattle.ql_world.specs.Event.{turns, with_tick}
use Rattle.ql_world.specs.declared.event.Event.{Event}
use Rattle.ql_world.specs.declared.event.Event.TheVariants.{Turn as turn, Stopped as stopped}
use Rattle.ql_world.specs.declared.event.Stop.{Stop}
use Rattle.ql_world.specs.World.{World}
use Rattle.ql_world.specs.Machine.{Machine}
use Rattle.ql_world.specs.Tick.{tick}
use Rattle.ql_world.specs.Run.{stop_of, run, story_of, told}
use Rattle.ql_code.specs.LocalLaws.{with_ticks}
use Rattle.ql_host.proofs.News.{is_turn, all_news}

turns_append : (xs ys : List Event) → turns (xs ++ ys) ≡ turns xs ++ turns ys
turns_append [] ys = refl
turns_append (turn p n ∷ xs) ys = ap (λ z. replicate n p ++ z) (turns_append xs ys) ∙ sym (append_assoc (replicate n p) (turns xs) (turns ys))
turns_append (e ∷ xs) ys = turns_append xs ys

turned : (e : Event) (es : List Event) → turns (reverse (e ∷ es)) ≡ turns (reverse es) ++ turns (e ∷ [])
turned e es = ap turns (reverse-append (e ∷ []) es) ∙ turns_append (reverse es) (e ∷ [])

pushed : (n p : ℕ) → replicate n p ++ p ∷ [] ≡ p ∷ replicate n p
pushed zero p = refl
pushed (suc n) p = ap (λ z. p ∷ z) (pushed n p)

other_alone : (e : Event) → not (is_turn e) ≡ true → turns (e ∷ []) ≡ []
other_alone (turn p n) h = absurd cc
other_alone e h = refl

first_of : (a b : Bool) → (a && b) ≡ true → a ≡ true
first_of true b h = refl
first_of false b h = absurd cc

rest_of : (a b : Bool) → (a && b) ≡ true → b ≡ true
rest_of true b h = h
rest_of false b h = absurd cc

-- news spell nothing
news_alone : (new es : List Event) → all_news new ≡ true → turns (reverse (new ++ es)) ≡ turns (reverse es)
news_alone [] es h = refl
news_alone (e ∷ new) es h =
    turned e (new ++ es)
    ∙ ap (λ z. turns (reverse (new ++ es)) ++ z) (other_alone e (first_of (not (is_turn e)) (all_news new) h))
    ∙ append-nil (turns (reverse (new ++ es)))
    ∙ news_alone new es (rest_of (not (is_turn e)) (all_news new) h)

new_turn : (p : ℕ) (es : List Event) → turns (reverse (turn p 1 ∷ es)) ≡ turns (reverse es) ++ p ∷ []
new_turn p es = turned (turn p 1) es

longer_turn : (p q n : ℕ) (es : List Event) → (p == q) ≡ true → turns (reverse (turn q (n + 1) ∷ es)) ≡ turns (reverse (turn q n ∷ es)) ++ p ∷ []
longer_turn p q n es e =
    let same : p ≡ q = eqb-true p q e in
    turned (turn q (n + 1)) es
    ∙ ap (λ z. turns (reverse es) ++ (z ++ [])) (ap (λ k. replicate k q) (let k : n + 1 ≡ suc n = omega arith in k) ∙ sym (pushed n q))
    ∙ ap (λ z. turns (reverse es) ++ z) (append-nil (replicate n q ++ q ∷ []))
    ∙ sym (append_assoc (turns (reverse es)) (replicate n q) (q ∷ []))
    ∙ ap (λ z. (turns (reverse es) ++ z) ++ q ∷ []) (sym (append-nil (replicate n q)))
    ∙ ap (λ z. z ++ q ∷ []) (sym (turned (turn q n) es))
    ∙ ap (λ z. turns (reverse (turn q n ∷ es)) ++ z ∷ []) (sym same)

tick_if : (p q n : ℕ) (es : List Event) (b : Bool) → (p == q) ≡ b → turns (reverse (if b then turn q (n + 1) ∷ es else turn p 1 ∷ (turn q n ∷ es))) ≡ turns (reverse (turn q n ∷ es)) ++ p ∷ []
tick_if p q n es true e = longer_turn p q n es e
tick_if p q n es false e = new_turn p (turn q n ∷ es)

-- a tick is spelled last
tick_spelled : (p : ℕ) (es : List Event) → turns (reverse (with_tick p es)) ≡ turns (reverse es) ++ p ∷ []
tick_spelled p [] = new_turn p []
tick_spelled p (turn q n ∷ es) = tick_if p q n es (p == q) refl
tick_spelled p (e ∷ es) = new_turn p (e ∷ es)

pub spelled : (p : ℕ) (new es : List Event) → all_news new ≡ true → turns (reverse (new ++ with_tick p es)) ≡ turns (reverse es) ++ p ∷ []
spelled p new es h = news_alone new (with_tick p es) h ∙ tick_spelled p es

-- and so are many ticks
pub ticks_spelled : (p n : ℕ) (es : List Event) → turns (reverse (with_ticks p n es)) ≡ turns (reverse es) ++ replicate n p
ticks_spelled p zero es = sym (append-nil (turns (reverse es)))
ticks_spelled p (suc n) es =
    ticks_spelled p n (with_tick p es)
    ∙ ap (λ z. z ++ replicate n p) (tick_spelled p es)
    ∙ append_assoc (turns (reverse es)) (p ∷ []) (replicate n p)

pub stop_spelled : (why : Stop) (es : List Event) → turns (reverse (stopped why ∷ es)) ≡ turns (reverse es)
stop_spelled why es = turned (stopped why) es ∙ append-nil (turns (reverse es))

module _ {P K : Type 0} (m : Machine P K) (names : List (List ℕ)) (limits : Limits) where
  -- a run goes on
  pub run_on : (ps : List ℕ) (p : ℕ) (w v u : World P K) → run m names limits w ps ≡ Some v → stop_of m names limits v ≡ None → tick m names limits v p ≡ Some u → run m names limits w (ps ++ p ∷ []) ≡ Some u
  run_on [] p w v u r s t =
      let same : w ≡ v = cc in
      rw (same, s, t) refl
  run_on (q ∷ ps) p w v u r s t = on_first (λ z e. run_on ps p z v u e s t) (is_none (stop_of m names limits w)) (tick m names limits w q) r
    where
      on_first : ((z : World P K) → run m names limits z ps ≡ Some v → run m names limits z (ps ++ p ∷ []) ≡ Some u) → (b : Bool) (o : Option (World P K))
          → (if b then option_and_then (λ z. run m names limits z ps) o else None) ≡ Some v → (if b then option_and_then (λ z. run m names limits z (ps ++ p ∷ [])) o else None) ≡ Some u
      on_first again false o e = absurd cc
      on_first again true None e = absurd cc
      on_first again true (Some z) e = again z e

  -- a run along two schedules is one run after another
  pub run_all : (ps rest : List ℕ) (w v : World P K) → run m names limits w ps ≡ Some v → run m names limits w (ps ++ rest) ≡ run m names limits v rest
  run_all [] rest w v r = let same : w ≡ v = cc in ap (λ z. run m names limits z rest) same
  run_all (q ∷ ps) rest w v r = on_first (λ z e. run_all ps rest z v e) (is_none (stop_of m names limits w)) (tick m names limits w q) r
    where
      on_first : ((z : World P K) → run m names limits z ps ≡ Some v → run m names limits z (ps ++ rest) ≡ run m names limits v rest) → (b : Bool) (o : Option (World P K))
          → (if b then option_and_then (λ z. run m names limits z ps) o else None) ≡ Some v
          → (if b then option_and_then (λ z. run m names limits z (ps ++ rest)) o else None) ≡ run m names limits v rest
      on_first again false o e = absurd cc
      on_first again true None e = absurd cc
      on_first again true (Some z) e = again z e

  -- what is told of a run that stopped
  pub told_at : (ps : List ℕ) (w v : World P K) (why : Stop) → run m names limits w ps ≡ Some v → stop_of m names limits v ≡ Some why → told m names limits w ps ≡ Some (story_of m names limits v why)
  told_at ps w v why r s = ap (λ o. option_and_then (λ z. option_map (story_of m names limits z) (stop_of m names limits z)) o) r ∙ ap (λ o. option_map (story_of m names limits v) o) s
