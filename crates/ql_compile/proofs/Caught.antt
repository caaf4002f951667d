-- What a closure takes along.
use Rattle.std.proofs.Common.{◌≡◌, ℕ, suc, Bool, true, false, List, [], ◌∷◌, ◌++◌, length, map, Option, Some, None, refl, sym, ap, ◌∙◌, subst, ⊎_elim, eq-eqb}
use Rattle.std.specs.Prelude.{reverse}
use mathlib.Core.List.{reverse_aux}
use Rattle.ql_world.specs.declared.word.Slot.{Slot}
use Rattle.ql_expand.specs.Core.{Name, Binder}
use Rattle.ql_meaning.specs.Context.{same_name, name_of}
use Rattle.ql_meaning.specs.Control.{Bindings, lookup, bind_all}
use Rattle.ql_compile.specs.Compile.{Scope, find_in, is_name_among, without, without_all, with_variables, caught, caught_slots, scope_of}
use Rattle.ql_code.specs.Machine.{slots_at}
use Rattle.ql_compile.proofs.Cases.{cases}
use Rattle.ql_compile.proofs.Scopes.{name_same, binds_name, Match, Sees, match_more, Suited, stacked, long_bound, match_bound_all, still_among, not_among, bound_not_among, unbound_among, below_long}

abbrev pub Caught : Type 0
Caught = List (ℕ × (Name × Bool))

abbrev pub indices : Caught → List ℕ
indices cs = map (λ c. c.0) cs

abbrev pub variables : Caught → Scope
variables cs = map (λ c. Some c.1) cs

as_long : (ss : List Slot) (cs : Caught) (sc : Scope) (below : List Slot) → length sc ≡ length below
    → length (variables cs ++ sc) ≡ length (slots_at ss (indices cs) ++ below)
as_long ss [] sc below len = len
as_long ss (c ∷ cs) sc below len = ap suc (as_long ss cs sc below len)

stacked_more : (a b below : List Slot) → stacked (a ++ b) below ≡ stacked b (stacked a below)
stacked_more [] b below = refl
stacked_more (s ∷ a) b below = stacked_more a b (s ∷ below)

stacked_onto : (ss : List Slot) (is js : List ℕ) (below : List Slot)
    → stacked (slots_at ss (reverse_aux is js)) below ≡ stacked (slots_at ss js) (slots_at ss is ++ below)
stacked_onto ss [] js below = refl
stacked_onto ss (i ∷ is) js below = stacked_onto ss is (i ∷ js) below

stacked_reverse : (ss : List Slot) (is : List ℕ) (below : List Slot) → stacked (slots_at ss (reverse is)) below ≡ slots_at ss is ++ below
stacked_reverse ss is below = stacked_onto ss is [] below

module _ (globals : List ℕ) (ss : List Slot) (sc0 : Scope) (below : List Slot) (len : length sc0 ≡ length below) where
  -- under what is caught
  under : (y : Name) (sc : Scope) (names : List Name) (o : Option Slot) → is_name_among y names ≡ false → Match globals y below o (find_in sc0 y)
      → Match globals y (slots_at ss (indices (caught sc names)) ++ below) o (find_in (variables (caught sc names) ++ sc0) y)
  under y [] names o h m = m
  under y (None ∷ sc) names o h m = under y sc names o h m
  under y (Some v ∷ sc) names o h m =
      ⊎_elim
      (λ (t : is_name_among v.0 names ≡ true).
      let apart : same_name v.0 y ≡ false =
      ⊎_elim
      (λ (u : same_name v.0 y ≡ true). let k : is_name_among y names ≡ true = subst (λ z. is_name_among z names ≡ true) (name_same _ _ u) t in absurd cc)
      (λ (u : same_name v.0 y ≡ false). u)
      (cases (same_name v.0 y)) in
      let cs = caught sc (without v.0 names) in
      let b = below_long globals (variables cs ++ sc0) (slots_at ss (indices cs) ++ below) (as_long ss cs sc0 below len) y in
      rw (t, apart) (match_more globals y _ _ _ _ b (under y sc (without v.0 names) o (not_among names v.0 y h) m)))
      (λ (t : is_name_among v.0 names ≡ false). rw t (under y sc names o h m))
      (cases (is_name_among v.0 names))

  -- a variable that is named is in the closure's frame as it was outside
  capture : (y : Name) (o : Option Slot) → find_in sc0 y ≡ None → (sc : Scope) (names : List Name) → is_name_among y names ≡ true
      → Match globals y ss o (find_in sc y)
      → Match globals y (slots_at ss (indices (caught sc names)) ++ below) o (find_in (variables (caught sc names) ++ sc0) y)
  capture y None d [] names h m = rw d m
  capture y (Some s) d [] names h m = absurd m
  capture y o d (None ∷ sc) names h m = capture y o d sc names h m
  capture y o d (Some v ∷ sc) names h m =
      ⊎_elim
      (λ (t : same_name v.0 y ≡ true). found v sc names y h o t (rw t at m))
      (λ (t : same_name v.0 y ≡ false). let k = rw t at m in
      ⊎_elim
      (λ (u : is_name_among v.0 names ≡ true).
      let cs = caught sc (without v.0 names) in
      let b = below_long globals (variables cs ++ sc0) (slots_at ss (indices cs) ++ below) (as_long ss cs sc0 below len) y in
      rw (u, t) (match_more globals y _ _ _ _ b (capture y o d sc (without v.0 names) (still_among names v.0 y t h) k)))
      (λ (u : is_name_among v.0 names ≡ false). rw u (capture y o d sc names h k))
      (cases (is_name_among v.0 names)))
      (cases (same_name v.0 y))
    where
      found : (v : Name × Bool) (sc : Scope) (names : List Name) (y : Name) → is_name_among y names ≡ true → (o : Option Slot)
          → same_name v.0 y ≡ true → Match globals y ss o (Some (length sc, v.1))
          → Match globals y (slots_at ss (indices (caught (Some v ∷ sc) names)) ++ below) o (find_in (variables (caught (Some v ∷ sc) names) ++ sc0) y)
      found v sc names y h None t m = absurd m
      found v sc names y h (Some s) t m =
          let in_names : is_name_among v.0 names ≡ true = subst (λ z. is_name_among z names ≡ true) (sym (name_same _ _ t)) h in
          let last = eq-eqb _ _ (as_long ss (caught sc (without v.0 names)) sc0 below len) in
          rw (in_names, t, last, m.0) (refl, m.1)

unbound_lookup : (bs : List Binder) (new : List Slot) (env : Bindings) (y : Name) → binds_name bs y ≡ false → lookup (bind_all bs new env) y ≡ lookup env y
unbound_lookup [] new env y h = refl
unbound_lookup (b ∷ bs) [] env y h = refl
unbound_lookup (b ∷ bs) (s ∷ new) env y h =
    ⊎_elim
    (λ (t : same_name (name_of b) y ≡ true). let k : true ≡ false = rw t at h in absurd cc)
    (λ (t : same_name (name_of b) y ≡ false). unbound_lookup bs new _ y (rw t at h) ∙ rw t)
    (cases (same_name (name_of b) y))

unbound_find : (bs : List Binder) (ts : List Bool) (sc : Scope) (y : Name) → binds_name bs y ≡ false → find_in (with_variables bs ts sc) y ≡ find_in sc y
unbound_find [] ts sc y h = refl
unbound_find (b ∷ bs) [] sc y h = refl
unbound_find (b ∷ bs) (s ∷ ts) sc y h =
    ⊎_elim
    (λ (t : same_name (name_of b) y ≡ true). let k : true ≡ false = rw t at h in absurd cc)
    (λ (t : same_name (name_of b) y ≡ false). unbound_find bs ts _ y (rw t at h) ∙ rw t)
    (cases (same_name (name_of b) y))

-- the frame of a closure at its start
abbrev pub closure_frame : List Slot → Caught → List Slot → List Slot
closure_frame ss cs new = stacked (new ++ slots_at ss (caught_slots cs)) []

frame_is : (ss : List Slot) (cs : Caught) (new : List Slot) → closure_frame ss cs new ≡ slots_at ss (indices cs) ++ stacked new []
frame_is ss cs new = stacked_more new _ [] ∙ stacked_reverse ss (indices cs) (stacked new [])

module _ (globals : List ℕ) (xs : List Name) (ps : List Binder) (ts : List Bool) (new : List Slot) (u : Suited ps ts new) (env : Bindings) (sc : Scope) (ss : List Slot) where
  abbrev cs : Caught
  cs = caught sc (without_all ps xs)

  len : length (with_variables ps ts []) ≡ length (stacked new [])
  len = long_bound globals ps ts new u [] [] refl

  pub closure_long : length (scope_of cs ps ts) ≡ length (closure_frame ss cs new)
  closure_long = as_long ss cs _ _ len ∙ ap length (sym (frame_is ss cs new))

  sees_body : Sees globals (without_all ps xs) env sc ss → Sees globals xs (bind_all ps new env) (scope_of cs ps ts) (slots_at ss (indices cs) ++ stacked new [])
  sees_body h y i =
      ⊎_elim
      (λ (t : binds_name ps y ≡ true).
      under globals ss (with_variables ps ts []) (stacked new []) len y sc (without_all ps xs) _ (bound_not_among ps xs y t)
      (match_bound_all globals y ps ts new u env [] [] refl (λ e. let bad : true ≡ false = sym t ∙ e in absurd cc)))
      (λ (t : binds_name ps y ≡ false).
      let a = unbound_among ps xs y t i in
      rw (unbound_lookup ps new env y t)
      (capture globals ss (with_variables ps ts []) (stacked new []) len y (lookup env y) (unbound_find ps ts [] y t) sc (without_all ps xs) a (h y a)))
      (cases (binds_name ps y))

  -- the body of a closure sees its variables in the closure's frame
  pub sees_caught : Sees globals (without_all ps xs) env sc ss → Sees globals xs (bind_all ps new env) (scope_of cs ps ts) (closure_frame ss cs new)
  sees_caught h = subst (Sees globals xs (bind_all ps new env) (scope_of cs ps ts)) (sym (frame_is ss cs new)) (sees_body h)
