-- The rows of a frame, and the map from names to their last variables.
use Rattle.std.proofs.Common.{◌≡◌, ◌∙◌, ⊎_elim, ℕ, ◌+◌, ◌*◌, ◌≤◌, ◌<◌, Bool, true, false, ◌==◌, if◌then◌else◌, List, [], ◌∷◌, ◌++◌, length, Option, Some, None, is_some, refl, ap, sym, subst, arith, zero, suc, eq-eqb, eqb-true}
use Rattle.std.specs.Prelude.{option_map, slice_get}
use Rattle.ql_expand.specs.Core.{Name, named, hidden}
use Rattle.ql_expand.specs.View.{name_of}
use Rattle.ql_expand.specs.declared.core_form.VarName.{VarName}
use Rattle.ql_meaning.specs.Context.{same_name}
use Rattle.ql_compile.specs.Compile.{Scope, find_in}
use Rattle.ql_compile.specs.Slots.{key_of, variable_of, stacked, place_told, place_at, Hides, KeepHidden, HasPlaces}
use Rattle.ql_compile.specs.declared.frame.Row.{Row}
use Rattle.ql_compile.proofs.Cases.{cases}
use Rattle.ql_compile.proofs.Scopes.{name_same, name_refl}
use Rattle.ql_compile.specs.declared.frame.Place.{Place}

-- One more row is the top slot.
pub stacked_last : (rows : List Row) (r : Row) (below : Scope) → stacked (rows ++ r ∷ []) below ≡ variable_of r.variable ∷ stacked rows below
stacked_last [] r below = refl
stacked_last (x ∷ rows) r below = stacked_last rows r (variable_of x.variable ∷ below)

pub stacked_length : (rows : List Row) (below : Scope) → length (stacked rows below) ≡ length rows + length below
stacked_length [] below = omega arith
stacked_length (r ∷ rows) below = stacked_length rows (variable_of r.variable ∷ below) ∙ omega arith

pub rows_length : (rows : List Row) → length (stacked rows []) ≡ length rows
rows_length rows = stacked_length rows [] ∙ omega arith

kept_last : (rows : List Row) (r : Row) (below : Scope) → KeepHidden below rows → Hides (stacked rows below) r.variable r.hides → KeepHidden below (rows ++ r ∷ [])
kept_last [] r below k h = (h, tt)
kept_last (x ∷ rows) r below k h = (k.0, kept_last rows r (variable_of x.variable ∷ below) k.1 h)

last_kept : (rows : List Row) (r : Row) (below : Scope) → KeepHidden below (rows ++ r ∷ []) → KeepHidden below rows × Hides (stacked rows below) r.variable r.hides
last_kept [] r below k = (tt, k.0)
last_kept (x ∷ rows) r below k = let z = last_kept rows r (variable_of x.variable ∷ below) k.1 in ((k.0, z.0), z.1)

-- Names are the same where their numbers are.
doubled : (v w : ℕ) → (2 * v == 2 * w) ≡ (v == w)
doubled v w = ⊎_elim
    (λ (e : (v == w) ≡ true). let same : v ≡ w = eqb-true v w e in eq-eqb (2 * v) (2 * w) (ap (λ n. 2 * n) same) ∙ sym e)
    (λ (e : (v == w) ≡ false). ⊎_elim
    (λ (d : (2 * v == 2 * w) ≡ true). let both : 2 * v ≡ 2 * w = eqb-true (2 * v) (2 * w) d in let same : v ≡ w = omega (arith, both) in d ∙ sym (eq-eqb v w same))
    (λ (d : (2 * v == 2 * w) ≡ false). d ∙ sym e)
    (cases (2 * v == 2 * w)))
    (cases (v == w))

odd : (v w : ℕ) → (2 * v + 1 == 2 * w + 1) ≡ (v == w)
odd v w = ⊎_elim
    (λ (e : (v == w) ≡ true). let same : v ≡ w = eqb-true v w e in eq-eqb (2 * v + 1) (2 * w + 1) (ap (λ n. 2 * n + 1) same) ∙ sym e)
    (λ (e : (v == w) ≡ false). ⊎_elim
    (λ (d : (2 * v + 1 == 2 * w + 1) ≡ true). let both : 2 * v + 1 ≡ 2 * w + 1 = eqb-true (2 * v + 1) (2 * w + 1) d in let same : v ≡ w = omega (arith, both) in d ∙ sym (eq-eqb v w same))
    (λ (d : (2 * v + 1 == 2 * w + 1) ≡ false). d ∙ sym e)
    (cases (2 * v + 1 == 2 * w + 1)))
    (cases (v == w))

even_odd : (v w : ℕ) → (2 * v == 2 * w + 1) ≡ false
even_odd v w = ⊎_elim
    (λ (d : (2 * v == 2 * w + 1) ≡ true). let both : 2 * v ≡ 2 * w + 1 = eqb-true (2 * v) (2 * w + 1) d in absurd (omega (arith, both)))
    (λ (d : (2 * v == 2 * w + 1) ≡ false). d)
    (cases (2 * v == 2 * w + 1))

odd_even : (v w : ℕ) → (2 * v + 1 == 2 * w) ≡ false
odd_even v w = ⊎_elim
    (λ (d : (2 * v + 1 == 2 * w) ≡ true). let both : 2 * v + 1 ≡ 2 * w = eqb-true (2 * v + 1) (2 * w) d in absurd (omega (arith, both)))
    (λ (d : (2 * v + 1 == 2 * w) ≡ false). d)
    (cases (2 * v + 1 == 2 * w))

pub same_key : (x y : Name) → (key_of x == key_of y) ≡ same_name x y
same_key (named v) (named w) = doubled v w
same_key (named v) (hidden n) = even_odd v n
same_key (hidden m) (named w) = odd_even m w
same_key (hidden m) (hidden n) = odd m n

-- An operand is added.
pub pushed_operand : (rows : List Row) (r : Row) (entries : List (ℕ × Place)) → r.variable ≡ None → HasPlaces rows entries → HasPlaces (rows ++ r ∷ []) entries
pushed_operand rows r entries e h = record {
  places = λ x. h.places x ∙ sym (ap (λ sc. find_in sc x) (stacked_last rows r []) ∙ ap (λ v. find_in (variable_of v ∷ stacked rows []) x) e);
  kept = kept_last rows r [] h.kept (rw e tt);
}

-- A variable is added.
pub pushed_variable : (rows : List Row) (v : VarName) (s : Bool) (hides : Option Place) (old new : List (ℕ × Place)) (key slot : ℕ)
    → HasPlaces rows old → key ≡ key_of (name_of v) → slot ≡ length rows → hides ≡ place_at old key
    → ((k : ℕ) → place_at new k ≡ (if key == k then Some (record { slot = slot; stored = s }) else place_at old k))
    → HasPlaces (rows ++ record { variable = Some (v, s); hides = hides } ∷ []) new
pushed_variable rows v s hides old new key slot h is count was put = record {
  places = λ x. ap place_told (put (key_of x)) ∙ (by x (key == key_of x) (ap (λ k. k == key_of x) is ∙ same_key (name_of v) x)
      ∙ sym (ap (λ sc. find_in sc x) (stacked_last rows (record { variable = Some (v, s); hides = hides }) [])));
  kept = kept_last rows (record { variable = Some (v, s); hides = hides }) [] h.kept (ap place_told (was ∙ ap (place_at old) is) ∙ h.places (name_of v));
}
  where
    by : (x : Name) (t : Bool) → t ≡ same_name (name_of v) x
        → place_told (if t then Some (record { slot = slot; stored = s }) else place_at old (key_of x)) ≡ (if same_name (name_of v) x then Some (length (stacked rows []), s) else find_in (stacked rows []) x)
    by x true e = rw (← e) (ap (λ n. Some (n, s)) (count ∙ sym (rows_length rows)))
    by x false e = rw (← e) (h.places x)

-- What the last variable's name has is there.
pub is_there : (rows : List Row) (r : Row) (v : VarName) (s : Bool) (entries : List (ℕ × Place)) (key : ℕ) → HasPlaces (rows ++ r ∷ []) entries → r.variable ≡ Some (v, s) → key ≡ key_of (name_of v)
    → is_some (place_at entries key) ≡ true
is_there rows r v s entries key h e is =
    told (place_at entries key) (ap (λ k. place_told (place_at entries k)) is ∙ (h.places (name_of v) ∙ (ap (λ sc. find_in sc (name_of v)) (stacked_last rows r [])
    ∙ (ap (λ w. find_in (variable_of w ∷ stacked rows []) (name_of v)) e ∙ ap (λ b. if b then Some (length (stacked rows []), s) else find_in (stacked rows []) (name_of v)) (name_refl (name_of v))))))
  where
    told : (p : Option Place) → place_told p ≡ Some (length (stacked rows []), s) → is_some p ≡ true
    told None k = absurd cc
    told (Some p) k = refl

-- The last variable is taken away.
pub popped_variable : (rows : List Row) (r : Row) (v : VarName) (s : Bool) (old new : List (ℕ × Place)) (key : ℕ)
    → HasPlaces (rows ++ r ∷ []) old → r.variable ≡ Some (v, s) → key ≡ key_of (name_of v)
    → ((k : ℕ) → place_at new k ≡ (if key == k then r.hides else place_at old k))
    → HasPlaces rows new
popped_variable rows r v s old new key h e is put =
    let both = last_kept rows r [] h.kept in
    let hides : place_told r.hides ≡ find_in (stacked rows []) (name_of v) = subst (λ w. Hides (stacked rows []) w r.hides) e both.1 in
    record {
      places = λ x. ap place_told (put (key_of x)) ∙ by x hides (key == key_of x) (ap (λ k. k == key_of x) is ∙ same_key (name_of v) x);
      kept = both.0;
    }
  where
    found : (x : Name) → place_told (place_at old (key_of x)) ≡ (if same_name (name_of v) x then Some (length (stacked rows []), s) else find_in (stacked rows []) x)
    found x = h.places x ∙ (ap (λ sc. find_in sc x) (stacked_last rows r []) ∙ ap (λ w. find_in (variable_of w ∷ stacked rows []) x) e)

    by : (x : Name) → place_told r.hides ≡ find_in (stacked rows []) (name_of v) → (t : Bool) → t ≡ same_name (name_of v) x
        → place_told (if t then r.hides else place_at old (key_of x)) ≡ find_in (stacked rows []) x
    by x hides true i = hides ∙ ap (find_in (stacked rows [])) (name_same (name_of v) x (sym i))
    by x hides false i = found x ∙ ap (λ b. if b then Some (length (stacked rows []), s) else find_in (stacked rows []) x) (sym i)

-- An operand is taken away.
pub popped_operand : (rows : List Row) (r : Row) (entries : List (ℕ × Place)) → HasPlaces (rows ++ r ∷ []) entries → r.variable ≡ None → HasPlaces rows entries
popped_operand rows r entries h e = record {
  places = λ x. h.places x ∙ (ap (λ sc. find_in sc x) (stacked_last rows r []) ∙ ap (λ v. find_in (variable_of v ∷ stacked rows []) x) e);
  kept = (last_kept rows r [] h.kept).0;
}

-- What is below the top slot.
pub below_last : (rows : List Row) (r : Row) (v : Option (Name × Bool)) (below : Scope) → stacked (rows ++ r ∷ []) [] ≡ v ∷ below → stacked rows [] ≡ below
below_last rows r v below e = let t : variable_of r.variable ∷ stacked rows [] ≡ v ∷ below = sym (stacked_last rows r []) ∙ e in cc

more : (bs cs : Scope) → length cs ≤ length (bs ++ cs)
more [] cs = omega arith
more (b ∷ bs) cs = let i = more bs cs in omega (arith, i)

-- what has a slot more is longer
longer : (bs ys ws : Scope) (z : Option (Name × Bool)) → ys ≡ bs ++ z ∷ ws → length ys ≤ length ws → ⊥
longer bs ys ws z e h = let i = more bs (z ∷ ws) in let j = ap length e in omega (arith, i, j, h)

-- lists of one length that end a list
ends_alike : (xs ys zs ws : Scope) → xs ++ ys ≡ zs ++ ws → length ys ≡ length ws → ys ≡ ws
ends_alike [] ys [] ws e h = e
ends_alike [] ys (z ∷ zs) ws e h = let i = more zs ws in let j = ap length e in absurd (omega (arith, i, j, h))
ends_alike (x ∷ xs) ys [] ws e h = let i = more xs ys in let j = ap length e in absurd (omega (arith, i, j, h))
ends_alike (x ∷ xs) ys (z ∷ zs) ws e h = ends_alike xs ys zs ws (cc) h

ends_below : (rows : List Row) (below : Scope) → (above : Scope) × (stacked rows below ≡ above ++ below)
ends_below [] below = ([], refl)
ends_below (r ∷ rows) below = let z = ends_below rows (variable_of r.variable ∷ below) in (z.0 ++ variable_of r.variable ∷ [], z.1 ∙ split z.0 (variable_of r.variable) below)
  where
    split : (ds : Scope) (b : Option (Name × Bool)) (cs : Scope) → ds ++ b ∷ cs ≡ (ds ++ b ∷ []) ++ cs
    split [] b cs = refl
    split (d ∷ ds) b cs = ap (λ t. d ∷ t) (split ds b cs)

-- The row that is so many above the bottom has that slot's variable.
pub slot_is : (rows : List Row) (under above below : Scope) (v : Option (Name × Bool)) (n : ℕ) → stacked rows under ≡ above ++ v ∷ below → length under + n ≡ length below
    → option_map (λ (r : Row). variable_of r.variable) (slice_get rows n) ≡ Some v
slot_is [] under above below v n e h = absurd (longer above under below v e (omega (arith, h)))
slot_is (r ∷ rows) under above below v zero e h =
    let z = ends_below rows (variable_of r.variable ∷ under) in
    let same : variable_of r.variable ∷ under ≡ v ∷ below = ends_alike z.0 (variable_of r.variable ∷ under) above (v ∷ below) (sym z.1 ∙ e) (omega (arith, h)) in
    cc
slot_is (r ∷ rows) under above below v (suc n) e h = slot_is rows (variable_of r.variable ∷ under) above below v n e (omega (arith, h))

-- Without its top slot a frame is shorter.
pub popped_less : (xs ys : Scope) → 0 < length xs → ((v : Option (Name × Bool)) (below : Scope) → xs ≡ v ∷ below → ys ≡ below) → length ys < length xs
popped_less [] ys h f = absurd (omega (arith, h))
popped_less (v ∷ xs) ys h f = let e = ap length (f v xs refl) in omega (arith, e)

-- Where there are slots above those that stay, the top slot is one of them.
pub still_above : (xs ys below : Scope) → length below < length xs → (more : Scope) × (xs ≡ more ++ below) → ((v : Option (Name × Bool)) (rest : Scope) → xs ≡ v ∷ rest → ys ≡ rest)
    → (more : Scope) × (ys ≡ more ++ below)
still_above xs ys below h ([], e) f = absurd (let k = ap length e in omega (arith, h, k))
still_above xs ys below h (v ∷ more, e) f = (more, f v (more ++ below) e)

pub none_above : (xs below : Scope) → length xs ≤ length below → (more : Scope) × (xs ≡ more ++ below) → xs ≡ below
none_above xs below h ([], e) = e
none_above xs below h (v ∷ rest, e) = absurd (let i = more rest below in let k = ap length e in omega (arith, h, i, k))
