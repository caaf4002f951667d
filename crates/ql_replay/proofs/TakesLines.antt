-- A book line by line.
use Rattle.std.proofs.Common.{◌≡◌, ℕ, zero, suc, ◌+◌, Bool, true, false, List, [], ◌∷◌, drop, Option, Some, None, refl, sym, ap, ◌∙◌, ⊎_elim, arith}
use Rattle.std.specs.Prelude.{if◌then◌else◌, is_none, is_some, slice_get, option_and_then}
use Rattle.std.specs.Str.{bytes_eq}
use Rattle.std.proofs.lemmas.Slice.Eq.{bytes_eq-Decides}
use Rattle.ql_world.specs.declared.event.Stop.{Stop}
use Rattle.ql_world.specs.declared.event.Event.{Event}
use Rattle.ql_replay.specs.Book.{Line}
use Rattle.ql_replay.specs.Replay.{Host, Verdict, differs, due, of_turn, next, on_next, follow, follow_past}
use Rattle.ql_replay.specs.Following.{Finds, Tells}
use Rattle.ql_replay.proofs.Basics.{cases}

pub get_drop : {A : Type 0} (ds : List A) (i : ℕ) (d : A) → slice_get ds i ≡ Some d → drop i ds ≡ d ∷ drop (i + 1) ds
get_drop [] i d h = absurd cc
get_drop (x ∷ ds) zero d h = let e : x ≡ d = cc in ap (λ z. z ∷ ds) e
get_drop (x ∷ ds) (suc i) d h = let e : suc i + 1 ≡ suc (i + 1) = omega arith in get_drop ds i d h ∙ ap (λ k. d ∷ drop k (x ∷ ds)) (sym e)

pub none_drop : {A : Type 0} (ds : List A) (i : ℕ) → slice_get ds i ≡ None → drop i ds ≡ []
none_drop [] zero h = refl
none_drop [] (suc i) h = refl
none_drop (x ∷ ds) zero h = absurd cc
none_drop (x ∷ ds) (suc i) h = none_drop ds i h

module _ {W : Type 0} (host : Host W) (line : Event → List ℕ) (read : List ℕ → Option (ℕ × ℕ)) (w : W) (seen : ℕ) (l : List ℕ) (rest : List Line) (at : ℕ) where
  abbrev Here : Verdict → Type 0
  Here v = follow_past host line read w seen (Some l ∷ rest) at ≡ v

  at_due : (d : List ℕ) (found : Bool) → Finds found (slice_get (due host line read w) seen) d → found ≡ true → slice_get (due host line read w) seen ≡ Some d
  at_due d true h e = h.0
  at_due d false h e = absurd cc

  at_none : (d : List ℕ) (found : Bool) → Finds found (slice_get (due host line read w) seen) d → found ≡ false → slice_get (due host line read w) seen ≡ None
  at_none d true h e = absurd cc
  at_none d false h e = h

  pub due_same : (d : List ℕ) (found : Bool) → Finds found (slice_get (due host line read w) seen) d → found ≡ true → d ≡ l → Here (follow_past host line read w (seen + 1) rest (suc at))
  due_same d found f t e =
      let g = get_drop (due host line read w) seen d (at_due d found f t) in
      let b : bytes_eq d l ≡ true = (bytes_eq-Decides d l).1 e in
      rw g (rw b refl)

  pub due_other : (d : List ℕ) (found : Bool) → Finds found (slice_get (due host line read w) seen) d → found ≡ true → (d ≡ l → ⊥) → Here (differs at)
  due_other d found f t e =
      let g = get_drop (due host line read w) seen d (at_due d found f t) in
      ⊎_elim (λ (b : bytes_eq d l ≡ true). absurd (e ((bytes_eq-Decides d l).0 b))) (λ (b : bytes_eq d l ≡ false). rw g (rw b refl)) (cases (bytes_eq d l))

  -- no line is due
  module _ (d : List ℕ) (found : Bool) (f : Finds found (slice_get (due host line read w) seen) d) (no : found ≡ false) where
    by_next : (o : Option W) → next host line read w l ≡ o → Here (on_next host line read at (λ v. follow host line read v (due host line read v) rest (suc at)) o)
    by_next o e =
        let g = none_drop (due host line read w) seen (at_none d found f no) in
        rw g (ap (on_next host line read at (λ v. follow host line read v (due host line read v) rest (suc at))) e)

    pub stopped_here : (b : Bool) → b ≡ is_some (host.stop w) → b ≡ true → Here (differs at)
    stopped_here b s t = by_next None (stops (host.stop w) (sym s ∙ t))
      where
        stops : (o : Option Stop) → is_some o ≡ true → (if is_none o then option_and_then (λ x. of_turn host w x.0 x.1) (read l) else None) ≡ None
        stops None h = absurd cc
        stops (Some x) h = refl

    pub no_turn_line : read l ≡ None → Here (differs at)
    no_turn_line r = by_next None (none (is_none (host.stop w)) (read l) r)
      where
        none : (b : Bool) (o : Option (ℕ × ℕ)) → o ≡ None → (if b then option_and_then (λ x. of_turn host w x.0 x.1) o else None) ≡ None
        none true None h = refl
        none false None h = refl
        none b (Some x) h = absurd cc

    next_is : (b : Bool) (p n : ℕ) → b ≡ is_some (host.stop w) → b ≡ false → read l ≡ Some (p, n) → next host line read w l ≡ of_turn host w p n
    next_is b p n s t r = ap (λ (o : Option (ℕ × ℕ)). if is_none (host.stop w) then option_and_then (λ x. of_turn host w x.0 x.1) o else None) r ∙ runs (host.stop w) (sym s ∙ t)
      where
        runs : (o : Option Stop) → is_some o ≡ false → (if is_none o then of_turn host w p n else None) ≡ of_turn host w p n
        runs None h = refl
        runs (Some x) h = absurd cc

    pub turn_taken : (v : W) (b took : Bool) (p n : ℕ) → b ≡ is_some (host.stop w) → b ≡ false → read l ≡ Some (p, n) → Tells took (of_turn host w p n) v → took ≡ true
        → Here (follow_past host line read v 0 rest (suc at))
    turn_taken v b took p n s t r h e = by_next (Some v) (next_is b p n s t r ∙ told took h e)
      where
        told : (took : Bool) → Tells took (of_turn host w p n) v → took ≡ true → of_turn host w p n ≡ Some v
        told true h e = h
        told false h e = absurd cc

    pub turn_refused : (v : W) (b took : Bool) (p n : ℕ) → b ≡ is_some (host.stop w) → b ≡ false → read l ≡ Some (p, n) → Tells took (of_turn host w p n) v → took ≡ false
        → Here (differs at)
    turn_refused v b took p n s t r h e = by_next None (next_is b p n s t r ∙ told took h e)
      where
        told : (took : Bool) → Tells took (of_turn host w p n) v → took ≡ false → of_turn host w p n ≡ None
        told true h e = absurd cc
        told false h e = h
