-- What a variable is, in bindings and in a frame.
use Rattle.std.proofs.Common.{◌≡◌, ℕ, suc, ◌<◌, ◌==◌, Bool, true, false, List, [], ◌∷◌, ◌++◌, length, Option, Some, None, refl, ap, ◌∙◌, subst, ⊎_elim, arith, eq-eqb, eqb-true, ne_eqb}
use Rattle.std.specs.Prelude.{if◌then◌else◌, ◌||◌}
use Rattle.ql_world.specs.declared.word.Slot.{Slot}
use Rattle.ql_world.specs.declared.word.Slot.TheVariants.{Val as plain, Cell as boxed}
use Rattle.ql_expand.specs.Core.{Name, named, hidden, Binder}
use Rattle.ql_meaning.specs.Context.{same_name, name_of}
use Rattle.ql_meaning.specs.Control.{Bindings, lookup, bind_all}
use Rattle.ql_compile.specs.Compile.{Scope, find_in, is_name_among, without, without_all, with_variables}
use Rattle.ql_compile.proofs.Cases.{cases}
use Rattle.ql_compile.proofs.Right.{IsGlobal, AreGlobal}
use Rattle.ql_code.specs.Machine.{slot_at}

abbrev pub is_box : Slot → Bool
is_box (plain w) = false
is_box (boxed n) = true

pub name_same : (x y : Name) → same_name x y ≡ true → x ≡ y
name_same (named v) (named w) h = ap named (eqb-true v w h)
name_same (hidden m) (hidden n) h = ap hidden (eqb-true m n h)
name_same (named v) (hidden n) h = absurd cc
name_same (hidden m) (named w) h = absurd cc

pub name_refl : (x : Name) → same_name x x ≡ true
name_refl (named v) = eq-eqb v v refl
name_refl (hidden n) = eq-eqb n n refl

-- whether a variable is among those of these binders
abbrev pub binds_name : List Binder → Name → Bool
binds_name [] y = false
binds_name (b ∷ bs) y = same_name (name_of b) y || binds_name bs y

abbrev pub Below : Option (ℕ × Bool) → ℕ → Type 0
Below None n = Unit {0}
Below (Some v) n = v.0 < n

below_if : (n : ℕ) (b : Bool) (o p : Option (ℕ × Bool)) → Below o n → Below p n → Below (if b then o else p) n
below_if n true o p h k = h
below_if n false o p h k = k

below_more : (n : ℕ) (o : Option (ℕ × Bool)) → Below o n → Below o (suc n)
below_more n None h = tt
below_more n (Some v) h = omega (arith, h)

pub find_below : (sc : Scope) (y : Name) → Below (find_in sc y) (length sc)
find_below [] y = tt
find_below (None ∷ sc) y = below_more _ _ (find_below sc y)
find_below (Some v ∷ sc) y = below_if _ (same_name v.0 y) _ _ (omega arith) (below_more _ _ (find_below sc y))

slot_more : (s : Slot) (ss : List Slot) (i : ℕ) → i < length ss → slot_at (s ∷ ss) i ≡ slot_at ss i
slot_more s ss i h = let e : (i == length ss) ≡ false = ne_eqb _ _ (λ k. omega arith) in rw e

pub slot_last : (s : Slot) (ss : List Slot) (i : ℕ) → i ≡ length ss → slot_at (s ∷ ss) i ≡ Some s
slot_last s ss i h = let e : (i == length ss) ≡ true = eq-eqb _ _ h in rw e

-- the slots of variables: those that are stored are boxes
abbrev pub Suited : List Binder → List Bool → List Slot → Type 0
Suited [] [] [] = Unit {0}
Suited (b ∷ bs) (f ∷ ts) (s ∷ ss) = (is_box s ≡ f) × Suited bs ts ss
Suited _ _ _ = ⊥

abbrev pub stacked : List Slot → List Slot → List Slot
stacked [] below = below
stacked (s ∷ ss) below = stacked ss (s ∷ below)

module _ (globals : List ℕ) where
  -- A variable's slot among these is what its binding says. One that is not bound is a global.
  abbrev pub Match : Name → List Slot → Option Slot → Option (ℕ × Bool) → Type 0
  Match y ss None None = IsGlobal globals y
  Match y ss (Some s) (Some v) = (slot_at ss v.0 ≡ Some s) × (is_box s ≡ v.1)
  Match y ss None (Some v) = ⊥
  Match y ss (Some s) None = ⊥

  -- the same of all of these variables
  abbrev pub Sees : List Name → Bindings → Scope → List Slot → Type 0
  Sees xs env sc ss = (y : Name) → is_name_among y xs ≡ true → Match y ss (lookup env y) (find_in sc y)

  pub match_more : (y : Name) (s : Slot) (ss : List Slot) (o : Option Slot) (v : Option (ℕ × Bool)) → Below v (length ss) → Match y ss o v → Match y (s ∷ ss) o v
  match_more y s ss None None b m = m
  match_more y s ss None (Some v) b m = absurd m
  match_more y s ss (Some x) None b m = absurd m
  match_more y s ss (Some x) (Some v) b m = (slot_more s ss v.0 b ∙ m.0, m.1)

  pub below_long : (sc : Scope) (ss : List Slot) → length sc ≡ length ss → (y : Name) → Below (find_in sc y) (length ss)
  below_long sc ss len y = subst (Below (find_in sc y)) len (find_below sc y)

  -- an operand comes on top
  pub sees_more : (xs : List Name) (env : Bindings) (sc : Scope) (ss : List Slot) (s : Slot) → length sc ≡ length ss → Sees xs env sc ss
      → Sees xs env (None ∷ sc) (s ∷ ss)
  sees_more xs env sc ss s len h y i = match_more y s ss _ _ (below_long sc ss len y) (h y i)

  match_bound : (y : Name) (slot : Slot) (s : Bool) (env : Bindings) (sc : Scope) (ss : List Slot) → length sc ≡ length ss → is_box slot ≡ s
      → (b : Bool) → (b ≡ false → Match y ss (lookup env y) (find_in sc y))
      → Match y (slot ∷ ss) (if b then Some slot else lookup env y) (if b then Some (length sc, s) else find_in sc y)
  match_bound y slot s env sc ss len e true h = (slot_last slot ss _ len, e)
  match_bound y slot s env sc ss len e false h = match_more y slot ss _ _ (below_long sc ss len y) (h refl)

  pub long_bound : (bs : List Binder) (ts : List Bool) (ss : List Slot) → Suited bs ts ss → (sc : Scope) (below : List Slot) → length sc ≡ length below
      → length (with_variables bs ts sc) ≡ length (stacked ss below)
  long_bound [] [] [] u sc below len = len
  long_bound [] [] (s ∷ ss) u sc below len = absurd u
  long_bound [] (t ∷ ts) ss u sc below len = absurd u
  long_bound (b ∷ bs) [] ss u sc below len = absurd u
  long_bound (b ∷ bs) (t ∷ ts) [] u sc below len = absurd u
  long_bound (b ∷ bs) (t ∷ ts) (s ∷ ss) u sc below len = long_bound bs ts ss u.1 _ _ (ap suc len)

  -- variables are bound
  pub match_bound_all : (y : Name) (bs : List Binder) (ts : List Bool) (ss : List Slot) → Suited bs ts ss
      → (env : Bindings) (sc : Scope) (below : List Slot) → length sc ≡ length below
      → (binds_name bs y ≡ false → Match y below (lookup env y) (find_in sc y))
      → Match y (stacked ss below) (lookup (bind_all bs ss env) y) (find_in (with_variables bs ts sc) y)
  match_bound_all y [] [] [] u env sc below len h = h refl
  match_bound_all y [] [] (s ∷ ss) u env sc below len h = absurd u
  match_bound_all y [] (t ∷ ts) ss u env sc below len h = absurd u
  match_bound_all y (b ∷ bs) [] ss u env sc below len h = absurd u
  match_bound_all y (b ∷ bs) (t ∷ ts) [] u env sc below len h = absurd u
  match_bound_all y (b ∷ bs) (t ∷ ts) (s ∷ ss) u env sc below len h =
      match_bound_all y bs ts ss u.1 _ _ _ (ap suc len)
      (λ k. match_bound y s t env sc below len u.0 (same_name (name_of b) y) (λ e. h (rw (e, k) refl)))

pub among_left : (y : Name) (xs ys : List Name) → is_name_among y xs ≡ true → is_name_among y (xs ++ ys) ≡ true
among_left y [] ys h = absurd cc
among_left y (x ∷ xs) ys h =
    ⊎_elim
    (λ (t : same_name y x ≡ true). rw t refl)
    (λ (t : same_name y x ≡ false). rw t (among_left y xs ys (rw t at h)))
    (cases (same_name y x))

pub among_right : (y : Name) (xs ys : List Name) → is_name_among y ys ≡ true → is_name_among y (xs ++ ys) ≡ true
among_right y [] ys h = h
among_right y (x ∷ xs) ys h =
    ⊎_elim
    (λ (t : same_name y x ≡ true). rw t refl)
    (λ (t : same_name y x ≡ false). rw t (among_right y xs ys h))
    (cases (same_name y x))

pub still_among : (xs : List Name) (x y : Name) → same_name x y ≡ false → is_name_among y xs ≡ true → is_name_among y (without x xs) ≡ true
still_among [] x y d h = h
still_among (z ∷ zs) x y d h =
    ⊎_elim
    (λ (t : same_name y z ≡ true).
    let same : y ≡ z = name_same y z t in
    let apart : same_name x z ≡ false = subst (λ k. same_name x k ≡ false) same d in
    rw (apart, t) refl)
    (λ (t : same_name y z ≡ false).
    let k : is_name_among y zs ≡ true = rw t at h in
    ⊎_elim
    (λ (u : same_name x z ≡ true). rw u (still_among zs x y d k))
    (λ (u : same_name x z ≡ false). rw (u, t) (still_among zs x y d k))
    (cases (same_name x z)))
    (cases (same_name y z))

pub not_among : (xs : List Name) (x y : Name) → is_name_among y xs ≡ false → is_name_among y (without x xs) ≡ false
not_among [] x y h = h
not_among (z ∷ zs) x y h =
    ⊎_elim
    (λ (t : same_name y z ≡ true). let k : true ≡ false = rw t at h in absurd cc)
    (λ (t : same_name y z ≡ false).
    let k : is_name_among y zs ≡ false = rw t at h in
    ⊎_elim
    (λ (u : same_name x z ≡ true). rw u (not_among zs x y k))
    (λ (u : same_name x z ≡ false). rw (u, t) (not_among zs x y k))
    (cases (same_name x z)))
    (cases (same_name y z))

itself_not_among : (xs : List Name) (x : Name) → is_name_among x (without x xs) ≡ false
itself_not_among [] x = refl
itself_not_among (z ∷ zs) x =
    ⊎_elim
    (λ (t : same_name x z ≡ true). rw t (itself_not_among zs x))
    (λ (t : same_name x z ≡ false). rw (t, t) (itself_not_among zs x))
    (cases (same_name x z))

pub out_stays : (bs : List Binder) (xs : List Name) (y : Name) → is_name_among y xs ≡ false → is_name_among y (without_all bs xs) ≡ false
out_stays [] xs y h = h
out_stays (b ∷ bs) xs y h = out_stays bs _ y (not_among xs (name_of b) y h)

-- a bound variable is not free
pub bound_not_among : (bs : List Binder) (xs : List Name) (y : Name) → binds_name bs y ≡ true → is_name_among y (without_all bs xs) ≡ false
bound_not_among [] xs y h = absurd cc
bound_not_among (b ∷ bs) xs y h =
    ⊎_elim
    (λ (t : same_name (name_of b) y ≡ true).
    let same : name_of b ≡ y = name_same _ y t in
    out_stays bs _ y (subst (λ z. is_name_among z (without (name_of b) xs) ≡ false) same (itself_not_among xs (name_of b))))
    (λ (t : same_name (name_of b) y ≡ false). bound_not_among bs _ y (rw t at h))
    (cases (same_name (name_of b) y))

-- any other stays free
pub unbound_among : (bs : List Binder) (xs : List Name) (y : Name) → binds_name bs y ≡ false → is_name_among y xs ≡ true → is_name_among y (without_all bs xs) ≡ true
unbound_among [] xs y h i = i
unbound_among (b ∷ bs) xs y h i =
    ⊎_elim
    (λ (t : same_name (name_of b) y ≡ true). let k : true ≡ false = rw t at h in absurd cc)
    (λ (t : same_name (name_of b) y ≡ false). unbound_among bs _ y (rw t at h) (still_among xs _ y t i))
    (cases (same_name (name_of b) y))

module _ (globals : List ℕ) (env : Bindings) (sc : Scope) (ss : List Slot) where
  -- a body sees its variables and those round it
  pub sees_bound : (xs : List Name) (bs : List Binder) (ts : List Bool) (new : List Slot) → Suited bs ts new → length sc ≡ length ss
      → Sees globals (without_all bs xs) env sc ss → Sees globals xs (bind_all bs new env) (with_variables bs ts sc) (stacked new ss)
  sees_bound xs bs ts new u len h y i = match_bound_all globals y bs ts new u env sc ss len (λ e. h y (unbound_among bs xs y e i))

-- nothing is bound at the top
pub sees_none : (globals : List ℕ) (xs : List Name) → AreGlobal globals xs → Sees globals xs [] [] []
sees_none globals xs h y i = h y i
