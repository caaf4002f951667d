-- The line that is due next, and the events since the newest turn.
use Rattle.std.proofs.Common.{◌≡◌, ℕ, zero, suc, ◌-◌, ◌<◌, ◌≤◌, true, false, List, [], ◌∷◌, ◌++◌, length, get_or, map, drop, take, drop-cons, Option, Some, None, refl, sym, ap, ◌∙◌, subst, arith, append_assoc}
use Rattle.std.specs.Prelude.{not, reverse, slice_get}
use Rattle.std.proofs.lemmas.List.{reverse-append, reverse-reverse, take-append-drop}
use Rattle.ql_world.specs.declared.event.Stop.{Stop}
use Rattle.ql_world.specs.declared.event.Event.{Event}
use Rattle.ql_world.specs.declared.event.Event.TheVariants.{Turn as turn, Spawn as spawn, Opened as opened, Exit as exit, Throw as throw, Land as land, Kill as kill, Protect as protect, Begin as begin, Finish as finish, Send as send, Take as take_call, Reply as reply, EndOk as end_ok, EndKilled as end_killed, Stopped as stopped}
use Rattle.ql_replay.specs.Replay.{Host, is_turn, since_turn, stop_lines, due}
use Rattle.ql_replay.proofs.Basics.{and_both, not_false, no_turns, since_is}

module _ {A B : Type 0} (f : A → B) where
  at_front : (xs : List A) (ys : List B) (i : ℕ) (x : A) → slice_get xs i ≡ Some x → slice_get (map f xs ++ ys) i ≡ Some (f x)
  at_front [] ys i x e = absurd cc
  at_front (z ∷ xs) ys zero x e = let s : z ≡ x = cc in ap (λ (z : A). Some (f z)) s
  at_front (z ∷ xs) ys (suc i) x e = at_front xs ys i x e

  at_end : (xs : List A) (ys : List B) (i : ℕ) → i ≡ length xs → slice_get (map f xs ++ ys) i ≡ slice_get ys 0
  at_end [] ys i e = rw e refl
  at_end (z ∷ xs) ys zero e = absurd (omega (arith, e))
  at_end (z ∷ xs) ys (suc i) e = at_end xs ys i (omega (arith, e))

  past_end : (xs : List A) (ys : List B) (i : ℕ) → length xs < i → length ys ≤ 1 → slice_get (map f xs ++ ys) i ≡ None
  past_end [] [] i l m = refl
  past_end [] (y ∷ []) zero l m = absurd (omega (arith, l))
  past_end [] (y ∷ []) (suc i) l m = refl
  past_end [] (y ∷ (z ∷ ys)) i l m = absurd (omega (arith, m))
  past_end (z ∷ xs) ys zero l m = absurd (omega (arith, l))
  past_end (z ∷ xs) ys (suc i) l m = past_end xs ys i (omega (arith, l)) m

module _ {W : Type 0} (host : Host W) (line : Event → List ℕ) (read : List ℕ → Option (ℕ × ℕ)) (w : W) (left : List Event) (same : left ≡ reverse (since_turn (host.events w))) (seen : ℕ) where
  due_is : due host line read w ≡ map line left ++ stop_lines host line read (host.stop w)
  due_is = ap (λ (es : List Event). map line es ++ stop_lines host line read (host.stop w)) (sym same)

  few_lines : (o : Option Stop) → length (stop_lines host line read o) ≤ 1
  few_lines None = omega arith
  few_lines (Some s) = omega arith

  pub event_due : (e : Event) → slice_get left seen ≡ Some e → slice_get (due host line read w) seen ≡ Some (line e)
  event_due e h = ap (λ (ds : List (List ℕ)). slice_get ds seen) due_is ∙ at_front line left (stop_lines host line read (host.stop w)) seen e h

  pub none_due : length left < seen → slice_get (due host line read w) seen ≡ None
  none_due l = ap (λ (ds : List (List ℕ)). slice_get ds seen) due_is ∙ past_end line left (stop_lines host line read (host.stop w)) seen l (few_lines (host.stop w))

  pub stop_due : (o : Option Stop) → o ≡ host.stop w → seen ≡ length left → slice_get (due host line read w) seen ≡ slice_get (stop_lines host line read o) 0
  stop_due o e s =
      ap (λ (ds : List (List ℕ)). slice_get ds seen) due_is
      ∙ (at_end line left (stop_lines host line read (host.stop w)) seen s ∙ ap (λ (z : Option Stop). slice_get (stop_lines host line read z) 0) (sym e))

-- ---- the events since the newest turn

-- none of these is a turn
abbrev pub NoTurns : List Event → Type 0
NoTurns es = no_turns (reverse es) ≡ true

no_turns_both : (xs ys : List Event) → no_turns xs ≡ true → no_turns ys ≡ true → no_turns (xs ++ ys) ≡ true
no_turns_both [] ys a b = b
no_turns_both (x ∷ xs) ys a b = let c = and_both (not (is_turn x)) (no_turns xs) a in rw (c.0, no_turns_both xs ys c.1 b) refl

pub one_before : (e : Event) (es : List Event) → is_turn e ≡ false → NoTurns es → NoTurns (e ∷ es)
one_before e es t h =
    let alone : no_turns (e ∷ []) ≡ true = rw t refl in
    ap no_turns (reverse-append (e ∷ []) es) ∙ no_turns_both (reverse es) (e ∷ []) h alone

since_all : (xs : List Event) → no_turns xs ≡ true → since_turn xs ≡ xs
since_all [] h = refl
since_all (x ∷ xs) h =
    let c = and_both (not (is_turn x)) (no_turns xs) h in
    let t : is_turn x ≡ false = not_false (is_turn x) c.0 in
    rw t (ap (λ (l : List Event). x ∷ l) (since_all xs c.1))

pub no_turn_there : (es : List Event) → NoTurns es → es ≡ reverse (since_turn (reverse es))
no_turn_there es h = sym (ap reverse (since_all (reverse es) h) ∙ reverse-reverse es)

pub turn_there : (es : List Event) (k : ℕ) (d : Event) → k < length es → is_turn (get_or es k d) ≡ true → NoTurns (drop (suc k) es) → drop (suc k) es ≡ reverse (since_turn (reverse es))
turn_there es k d l t h =
    let e = get_or es k d in
    let rest = drop (suc k) es in
    let whole : es ≡ take k es ++ e ∷ rest = sym (take-append-drop k es) ∙ ap (λ (r : List Event). take k es ++ r) (drop-cons es k d l) in
    let back : reverse es ≡ reverse rest ++ e ∷ reverse (take k es) =
    ap reverse whole ∙ (reverse-append (take k es) (e ∷ rest) ∙ (ap (λ (r : List Event). r ++ reverse (take k es)) (reverse-append (e ∷ []) rest) ∙ append_assoc (reverse rest) (e ∷ []) (reverse (take k es)))) in
    let since : since_turn (reverse es) ≡ reverse rest = ap since_turn back ∙ since_is e (reverse (take k es)) t (reverse rest) h in
    sym (ap reverse since ∙ reverse-reverse rest)

pub left_is : (told : ℕ) (left got js es : List Event) → left ≡ drop told got → got ≡ js → reverse js ≡ es → drop told (reverse es) ≡ reverse (since_turn es) → left ≡ reverse (since_turn es)
left_is told left got js es a b c d =
    let e : js ≡ reverse es = sym (reverse-reverse js) ∙ ap reverse c in
    a ∙ (ap (drop told) (b ∙ e) ∙ d)

module _ (es : List Event) (at : ℕ) (d : Event) (some : 0 < at) (within : at ≤ length es) (is : d ≡ get_or es (at - 1) d) where
  pub newest_turn : is_turn d ≡ true → NoTurns (drop at es) → drop at es ≡ reverse (since_turn (reverse es))
  newest_turn t h =
      let e : at ≡ suc (at - 1) = omega (arith, some) in
      let l : at - 1 < length es = omega (arith, some, within) in
      let u : is_turn (get_or es (at - 1) d) ≡ true = subst (λ (z : Event). is_turn z ≡ true) is t in
      let n : NoTurns (drop (suc (at - 1)) es) = subst (λ i. NoTurns (drop i es)) e h in
      subst (λ i. drop i es ≡ reverse (since_turn (reverse es))) (sym e) (turn_there es (at - 1) d l u n)

  pub none_before : is_turn d ≡ false → NoTurns (drop at es) → NoTurns (drop (at - 1) es)
  none_before t h =
      let e : at ≡ suc (at - 1) = omega (arith, some) in
      let l : at - 1 < length es = omega (arith, some, within) in
      let n : NoTurns (drop (suc (at - 1)) es) = subst (λ i. NoTurns (drop i es)) e h in
      let u : is_turn (get_or es (at - 1) d) ≡ false = subst (λ (z : Event). is_turn z ≡ false) is t in
      subst NoTurns (sym (drop-cons es (at - 1) d l)) (one_before (get_or es (at - 1) d) (drop (suc (at - 1)) es) u n)

pub is_no_turn : (e : Event) → ((p n : ℕ) → e ≡ turn p n → ⊥) → is_turn e ≡ false
is_no_turn (turn p n) h = absurd (h p n refl)
is_no_turn (spawn p q c m) h = refl
is_no_turn (opened p c d) h = refl
is_no_turn (exit p c) h = refl
is_no_turn (throw p c) h = refl
is_no_turn (land p c) h = refl
is_no_turn (kill c q) h = refl
is_no_turn (protect p u) h = refl
is_no_turn (begin p u) h = refl
is_no_turn (finish p u) h = refl
is_no_turn (send p k n) h = refl
is_no_turn (take_call q k n) h = refl
is_no_turn (reply q k n text) h = refl
is_no_turn (end_ok p text) h = refl
is_no_turn (end_killed p) h = refl
is_no_turn (stopped s) h = refl
