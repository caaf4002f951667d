-- The schedule that events spell.
use Rattle.std.proofs.Common.{◌≡◌, ℕ, zero, suc, ◌+◌, ◌==◌, true, false, List, [], ◌∷◌, ◌++◌, refl, sym, ap, ◌∙◌, subst, ⊎_elim, arith, append_assoc, append-nil}
use Rattle.std.specs.Prelude.{not, reverse, replicate}
use Rattle.std.proofs.lemmas.List.{reverse-append}
use Rattle.ql_world.specs.Event.{with_tick, turns}
use Rattle.ql_world.specs.declared.event.Event.{Event}
use Rattle.ql_world.specs.declared.event.Stop.{Stop}
use Rattle.ql_world.specs.declared.event.Event.TheVariants.{Turn as turn, Stopped as stopped}
use Rattle.ql_replay.specs.Replay.{is_turn}
use Rattle.ql_replay.proofs.Basics.{cases, same_number, and_both, not_false, no_turns}

pub turns_append : (xs ys : List Event) → turns (xs ++ ys) ≡ turns xs ++ turns ys
turns_append [] ys = refl
turns_append (turn p n ∷ xs) ys = ap (λ (l : List ℕ). replicate n p ++ l) (turns_append xs ys) ∙ sym (append_assoc (replicate n p) (turns xs) (turns ys))
turns_append (e ∷ xs) ys = turns_append xs ys

turns_one : (e : Event) → is_turn e ≡ false → turns (e ∷ []) ≡ []
turns_one (turn p n) h = absurd cc
turns_one e h = refl

turns_last : (e : Event) (es : List Event) → turns (reverse (e ∷ es)) ≡ turns (reverse es) ++ turns (e ∷ [])
turns_last e es = ap turns (reverse-append (e ∷ []) es) ∙ turns_append (reverse es) (e ∷ [])

pub turns_calm : (es old : List Event) → no_turns es ≡ true → turns (reverse (es ++ old)) ≡ turns (reverse old)
turns_calm [] old h = refl
turns_calm (e ∷ es) old h =
    let b = and_both (not (is_turn e)) (no_turns es) h in
    turns_last e (es ++ old)
    ∙ (ap (λ (l : List ℕ). turns (reverse (es ++ old)) ++ l) (turns_one e (not_false (is_turn e) b.0))
    ∙ (append-nil (turns (reverse (es ++ old))) ∙ turns_calm es old b.1))

one_more : (n p : ℕ) → replicate (n + 1) p ≡ replicate n p ++ p ∷ []
one_more zero p = refl
one_more (suc n) p = let e : suc n + 1 ≡ suc (n + 1) = omega arith in ap (λ k. replicate k p) e ∙ ap (λ (l : List ℕ). p ∷ l) (one_more n p)

new_turn : (p : ℕ) (es : List Event) → turns (reverse (turn p 1 ∷ es)) ≡ turns (reverse es) ++ p ∷ []
new_turn p es = turns_last (turn p 1) es

more_turn : (p n : ℕ) (es : List Event) → turns (reverse (turn p (n + 1) ∷ es)) ≡ turns (reverse (turn p n ∷ es)) ++ p ∷ []
more_turn p n es =
    let a : replicate (n + 1) p ++ [] ≡ replicate n p ++ p ∷ [] = append-nil (replicate (n + 1) p) ∙ one_more n p in
    let b : turns (reverse (turn p n ∷ es)) ≡ turns (reverse es) ++ replicate n p = turns_last (turn p n) es ∙ ap (λ (l : List ℕ). turns (reverse es) ++ l) (append-nil (replicate n p)) in
    turns_last (turn p (n + 1)) es
    ∙ (ap (λ (l : List ℕ). turns (reverse es) ++ l) a
    ∙ (sym (append_assoc (turns (reverse es)) (replicate n p) (p ∷ [])) ∙ ap (λ (l : List ℕ). l ++ p ∷ []) (sym b)))

pub turns_ticked : (p : ℕ) (es : List Event) → turns (reverse (with_tick p es)) ≡ turns (reverse es) ++ p ∷ []
turns_ticked p [] = refl
turns_ticked p (turn q n ∷ es) =
    ⊎_elim
    (λ (t : (p == q) ≡ true). let s : q ≡ p = sym (same_number p q t) in rw t (subst (λ k. turns (reverse (turn q (n + 1) ∷ es)) ≡ turns (reverse (turn q n ∷ es)) ++ k ∷ []) s (more_turn q n es)))
    (λ (t : (p == q) ≡ false). rw t (new_turn p (turn q n ∷ es)))
    (cases (p == q))
turns_ticked p (e ∷ es) = new_turn p (e ∷ es)

pub turns_stopped : (s : Stop) (es : List Event) → turns (reverse (stopped s ∷ es)) ≡ turns (reverse es)
turns_stopped s es = turns_last (stopped s) es ∙ append-nil (turns (reverse es))
