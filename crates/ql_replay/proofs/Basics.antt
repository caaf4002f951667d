-- Options, truth values and lists.
use Rattle.std.proofs.Common.{◌≡◌, ◌⊎◌, ℕ, ◌+◌, ◌==◌, Bool, true, false, List, [], ◌∷◌, ◌++◌, map, Option, Some, None, refl, sym, ap, ◌∙◌, inl, inr, append_assoc, eq-eqb, eqb-true}
use Rattle.std.proofs.lemmas.List.{reverse-append, map-append}
use Rattle.std.specs.Prelude.{if◌then◌else◌, not, ◌&&◌, is_none, is_some, option_and_then, reverse}
use Rattle.ql_world.specs.Event.{with_tick}
use Rattle.ql_world.specs.declared.event.Event.{Event}
use Rattle.ql_world.specs.declared.event.Event.TheVariants.{Turn as turn}
use Rattle.ql_replay.specs.Replay.{is_turn, is_quiet, goes_on, since_turn}

pub cases : (b : Bool) → (b ≡ true) ⊎ (b ≡ false)
cases true = inl refl
cases false = inr refl

pub same_number : (m n : ℕ) → (m == n) ≡ true → m ≡ n
same_number m n h = eqb-true m n h

pub equal_self : (n : ℕ) → (n == n) ≡ true
equal_self n = eq-eqb n n refl

pub and_both : (b c : Bool) → (b && c) ≡ true → (b ≡ true) × (c ≡ true)
and_both true c h = (refl, h)
and_both false c h = absurd cc

pub not_false : (b : Bool) → not b ≡ true → b ≡ false
not_false true h = absurd cc
not_false false h = refl

module _ {A : Type 0} where
  pub if_some : (b : Bool) (o : Option A) (v : A) → (if b then o else None) ≡ Some v → (b ≡ true) × (o ≡ Some v)
  if_some true o v h = (refl, h)
  if_some false o v h = absurd cc

  pub if_none_some : (b : Bool) (o : Option A) (v : A) → (if b then None else o) ≡ Some v → (b ≡ false) × (o ≡ Some v)
  if_none_some true o v h = absurd cc
  if_none_some false o v h = (refl, h)

  pub none_of : (o : Option A) → is_none o ≡ true → o ≡ None
  none_of None h = refl
  none_of (Some x) h = absurd cc

  pub some_of : (o : Option A) → is_some o ≡ true → (x : A) × (o ≡ Some x)
  some_of None h = absurd cc
  some_of (Some x) h = (x, refl)

  pub none_or_some : (o : Option A) → (is_some o ≡ true) ⊎ (o ≡ None)
  none_or_some None = inr refl
  none_or_some (Some x) = inl refl

  pub same_some : (x y : A) → Some x ≡ Some y → x ≡ y
  same_some x y h = cc

pub then_some : {A B : Type 0} (f : A → Option B) (o : Option A) (y : B) → option_and_then f o ≡ Some y → (x : A) × ((o ≡ Some x) × (f x ≡ Some y))
then_some f None y h = absurd cc
then_some f (Some x) y h = (x, (refl, h))

-- ---- events

abbrev pub no_turns : List Event → Bool
no_turns [] = true
no_turns (e ∷ es) = not (is_turn e) && no_turns es

pub ticked : (p : ℕ) (es : List Event) → goes_on p es ≡ false → with_tick p es ≡ turn p 1 ∷ es
ticked p [] h = refl
ticked p (turn q n ∷ es) h = rw h refl
ticked p (e ∷ es) h = refl

pub joined : (p n : ℕ) (es : List Event) → with_tick p (turn p n ∷ es) ≡ turn p (n + 1) ∷ es
joined p n es = rw (equal_self p) refl

pub goes_on_quiet : (p : ℕ) (es : List Event) → goes_on p es ≡ true → is_quiet es ≡ true
goes_on_quiet p [] h = absurd cc
goes_on_quiet p (turn q n ∷ es) h = refl
goes_on_quiet p (e ∷ es) h = absurd cc

pub goes_on_same : (p q : ℕ) (es : List Event) → goes_on p es ≡ true → goes_on q es ≡ true → p ≡ q
goes_on_same p q [] h k = absurd cc
goes_on_same p q (turn r n ∷ es) h k = same_number p r h ∙ sym (same_number q r k)
goes_on_same p q (e ∷ es) h k = absurd cc

module _ (t : Event) (old : List Event) (is : is_turn t ≡ true) where
  pub quiet_calm : (new : List Event) → no_turns new ≡ true → is_quiet (new ++ t ∷ old) ≡ true → new ≡ []
  quiet_calm [] h k = refl
  quiet_calm (e ∷ es) h k = let x : is_turn e ≡ false = not_false (is_turn e) (and_both _ _ h).0 in absurd cc

  pub since_is : (new : List Event) → no_turns new ≡ true → since_turn (new ++ t ∷ old) ≡ new
  since_is [] h = rw is refl
  since_is (e ∷ es) h =
      let x : is_turn e ≡ false = not_false (is_turn e) (and_both _ _ h).0 in
      rw x (ap (λ l. e ∷ l) (since_is es (and_both _ _ h).1))

-- ---- lines

pub lines_of_turn : (line : Event → List ℕ) (t : Event) (new old : List Event) (st : List (List ℕ))
    → map line (reverse (new ++ t ∷ old)) ++ st ≡ map line (reverse old) ++ (line t ∷ (map line (reverse new) ++ st))
lines_of_turn line t new old st =
    let r : reverse (new ++ t ∷ old) ≡ reverse old ++ (t ∷ reverse new) =
    reverse-append new (t ∷ old) ∙ (ap (λ (l : List Event). l ++ reverse new) (reverse-append (t ∷ []) old) ∙ append_assoc (reverse old) (t ∷ []) (reverse new)) in
    rw (r, map-append line (reverse old) (t ∷ reverse new)) (append_assoc (map line (reverse old)) (line t ∷ map line (reverse new)) st)
