-- The kinds of a scope's slots.
use Rattle.std.proofs.Common.{◌≡◌, ℕ, zero, suc, ◌+◌, ◌*◌, ◌^◌, ◌<◌, ◌≤◌, ◌==◌, Bool, true, false, List, [], ◌∷◌, ◌++◌, length, map, Option, Some, None, refl, sym, ap, ◌∙◌, subst, ⊎_elim, arith, eq-eqb, ne_eqb, pow-suc}
use Rattle.std.specs.Prelude.{◌/◌, ◌%◌, if◌then◌else◌, is_some}
use Rattle.std.proofs.lemmas.List.{length-map}
use Rattle.std.proofs.lemmas.Bool.{lt-ltb, le-leb}
use mathlib.Core.List.{reverse_aux}
use Rattle.ql_expand.specs.Core.{Name, Binder}
use Rattle.ql_meaning.specs.Context.{same_name, name_of}
use Rattle.ql_code.specs.Code.{bit, mask_of, unmasked}
use Rattle.ql_compile.specs.Compile.{Scope, find_in, is_name_among, without, caught, caught_slots, scope_of, with_variables}
use Rattle.ql_code.specs.Sound.{Part, value, boxed, catching, protecting, cleaning, Shape, is_slot, are_slots, slots_in, part_at, values, part_of, over, variables, is_mask, have_all, parts_at, same_part, under}
use Rattle.ql_compile.proofs.Cases.{cases}
use Rattle.ql_compile.proofs.Noted.{slot_kind, kinds_of}

pub kinds_long : (sc : Scope) → length (kinds_of sc) ≡ length sc
kinds_long sc = length-map sc slot_kind

slot_part : (b : Bool) → is_slot (part_of b) ≡ true
slot_part true = refl
slot_part false = refl

slot_kind_is : (o : Option (Name × Bool)) → is_slot (slot_kind o) ≡ true
slot_kind_is None = refl
slot_kind_is (Some v) = slot_part v.1

pub kinds_slots : (sc : Scope) → are_slots (kinds_of sc) ≡ true
kinds_slots [] = refl
kinds_slots (o ∷ sc) = rw (slot_kind_is o) (kinds_slots sc)

-- a slot below keeps its number
part_more : (p : Part) (ps : Shape) (i : ℕ) (q : Part) → part_at ps i ≡ Some q → i < length ps → part_at (p ∷ ps) i ≡ Some q
part_more p ps i q h l = let e : (i == length ps) ≡ false = ne_eqb _ _ (λ k. omega arith) in rw e h

part_last : (p : Part) (ps : Shape) (i : ℕ) → i ≡ length ps → part_at (p ∷ ps) i ≡ Some p
part_last p ps i h = let e : (i == length ps) ≡ true = eq-eqb _ _ h in rw e

abbrev Names : Shape → Option (ℕ × Bool) → Type 0
Names ps None = Unit {0}
Names ps (Some v) = (part_at ps v.0 ≡ Some (part_of v.1)) × (v.0 < length ps)

names_more : (p : Part) (ps : Shape) (o : Option (ℕ × Bool)) → Names ps o → Names (p ∷ ps) o
names_more p ps None h = tt
names_more p ps (Some v) h = (part_more p ps v.0 _ h.0 h.1, omega (arith, h.1))

names_if : (ps : Shape) (b : Bool) (o p : Option (ℕ × Bool)) → Names ps o → Names ps p → Names ps (if b then o else p)
names_if ps true o p h k = h
names_if ps false o p h k = k

names_last : (v : Name × Bool) (sc : Scope) → Names (kinds_of (Some v ∷ sc)) (Some (length sc, v.1))
names_last v sc = let e = kinds_long sc in let k : length sc < suc (length (kinds_of sc)) = omega (arith, e) in (part_last (part_of v.1) (kinds_of sc) (length sc) (sym e), k)

finds : (sc : Scope) (y : Name) → Names (kinds_of sc) (find_in sc y)
finds [] y = tt
finds (None ∷ sc) y = names_more value (kinds_of sc) _ (finds sc y)
finds (Some v ∷ sc) y =
    names_if (kinds_of (Some v ∷ sc)) (same_name v.0 y) (Some (length sc, v.1)) (find_in sc y) (names_last v sc) (names_more (part_of v.1) (kinds_of sc) (find_in sc y) (finds sc y))

-- a variable's slot is what its scope says
pub found : (sc : Scope) (y : Name) (v : ℕ × Bool) → find_in sc y ≡ Some v → part_at (kinds_of sc) v.0 ≡ Some (part_of v.1)
found sc y v e = (subst (Names (kinds_of sc)) e (finds sc y)).0

pub slots_over : (bs : List Bool) (sh : Shape) → slots_in (over (map part_of bs) sh) ≡ over (map part_of bs) (slots_in sh)
slots_over [] sh = refl
slots_over (b ∷ bs) sh = slots_over bs (part_of b ∷ sh) ∙ rw (slot_part b)

pub over_append : (a b : List Part) (sh : Shape) → over (a ++ b) sh ≡ over b (over a sh)
over_append [] b sh = refl
over_append (p ∷ a) b sh = over_append a b (p ∷ sh)

pub over_onto : (ps : List Part) (a b : Shape) → over ps (a ++ b) ≡ over ps a ++ b
over_onto [] a b = refl
over_onto (p ∷ ps) a b = over_onto ps (p ∷ a) b

pub over_long : (ps : List Part) (sh : Shape) → length (over ps sh) ≡ length ps + length sh
over_long [] sh = omega arith
over_long (p ∷ ps) sh = let i = over_long ps (p ∷ sh) in omega (arith, i)

pub over_slots : (bs : List Bool) (sh : Shape) → are_slots sh ≡ true → are_slots (over (map part_of bs) sh) ≡ true
over_slots [] sh h = h
over_slots (b ∷ bs) sh h = over_slots bs (part_of b ∷ sh) (rw (slot_part b) h)

-- a scope with variables
pub kinds_bound : (bs : List Binder) (ts : List Bool) (sc : Scope) → length bs ≡ length ts → kinds_of (with_variables bs ts sc) ≡ over (map part_of ts) (kinds_of sc)
kinds_bound [] [] sc h = refl
kinds_bound [] (t ∷ ts) sc h = absurd (omega (arith, h))
kinds_bound (b ∷ bs) [] sc h = absurd (omega (arith, h))
kinds_bound (b ∷ bs) (t ∷ ts) sc h = kinds_bound bs ts (Some (name_of b, t) ∷ sc) (omega (arith, h))

abbrev Caught : Type 0
Caught = List (ℕ × (Name × Bool))

abbrev indices : Caught → List ℕ
indices cs = map (λ c. c.0) cs

abbrev Points : Shape → Caught → Type 0
Points ps [] = Unit {0}
Points ps (c ∷ cs) = Names ps (Some (c.0, c.1.1)) × Points ps cs

points_more : (p : Part) (ps : Shape) (cs : Caught) → Points ps cs → Points (p ∷ ps) cs
points_more p ps [] h = tt
points_more p ps (c ∷ cs) h = (names_more p ps (Some (c.0, c.1.1)) h.0, points_more p ps cs h.1)

points_if : (ps : Shape) (b : Bool) (c d : Caught) → Points ps c → Points ps d → Points ps (if b then c else d)
points_if ps true c d h k = h
points_if ps false c d h k = k

points : (sc : Scope) (xs : List Name) → Points (kinds_of sc) (caught sc xs)
points [] xs = tt
points (None ∷ sc) xs = points_more value (kinds_of sc) _ (points sc xs)
points (Some v ∷ sc) xs =
    points_if (kinds_of (Some v ∷ sc)) (is_name_among v.0 xs) ((length sc, v) ∷ caught sc (without v.0 xs)) (caught sc xs)
    (names_last v sc, points_more (part_of v.1) (kinds_of sc) (caught sc (without v.0 xs)) (points sc (without v.0 xs)))
    (points_more (part_of v.1) (kinds_of sc) (caught sc xs) (points sc xs))

pointed : (ps : Shape) (cs : Caught) → Points ps cs → parts_at ps (indices cs) ≡ kinds_of (map (λ c. Some c.1) cs)
pointed ps [] h = refl
pointed ps (c ∷ cs) h = rw (h.0.0, pointed ps cs h.1)

have_pointed : (ps : Shape) (cs : Caught) → Points ps cs → have_all ps (indices cs) ≡ true
have_pointed ps [] h = refl
have_pointed ps (c ∷ cs) h = rw (h.0.0) (have_pointed ps cs h.1)

have_onto : (ps : Shape) (is js : List ℕ) → have_all ps is ≡ true → have_all ps js ≡ true → have_all ps (reverse_aux is js) ≡ true
have_onto ps [] js h k = k
have_onto ps (i ∷ is) js h k =
    ⊎_elim
    (λ (t : is_some (part_at ps i) ≡ true). have_onto ps is (i ∷ js) (rw t at h) (rw t k))
    (λ (t : is_some (part_at ps i) ≡ false). let bad : false ≡ true = rw t at h in absurd cc)
    (cases (is_some (part_at ps i)))

over_reverse : (ps : Shape) (is js : List ℕ) (sh : Shape) → over (parts_at ps (reverse_aux is js)) sh ≡ over (parts_at ps js) (parts_at ps is ++ sh)
over_reverse ps [] js sh = refl
over_reverse ps (i ∷ is) js sh = over_reverse ps is (i ∷ js) sh

-- what a closure captures is there
pub caught_there : (sc : Scope) (xs : List Name) → have_all (kinds_of sc) (caught_slots (caught sc xs)) ≡ true
caught_there sc xs = have_onto (kinds_of sc) (indices (caught sc xs)) [] (have_pointed _ _ (points sc xs)) refl

kinds_append : (a b : Scope) → kinds_of (a ++ b) ≡ kinds_of a ++ kinds_of b
kinds_append [] b = refl
kinds_append (o ∷ a) b = ap (λ k. slot_kind o ∷ k) (kinds_append a b)

-- the slots of its body
pub kinds_caught : (sc : Scope) (xs : List Name) (ps : List Binder) (ts : List Bool) → length ps ≡ length ts
    → over (map part_of ts ++ parts_at (kinds_of sc) (caught_slots (caught sc xs))) [] ≡ kinds_of (scope_of (caught sc xs) ps ts)
kinds_caught sc xs ps ts h =
    let cs = caught sc xs in
    let a : over (map part_of ts ++ parts_at (kinds_of sc) (caught_slots cs)) [] ≡ over (parts_at (kinds_of sc) (caught_slots cs)) (over (map part_of ts) []) = over_append (map part_of ts) (parts_at (kinds_of sc) (caught_slots cs)) [] in
    let b : over (parts_at (kinds_of sc) (caught_slots cs)) (over (map part_of ts) []) ≡ parts_at (kinds_of sc) (indices cs) ++ over (map part_of ts) [] = over_reverse (kinds_of sc) (indices cs) [] _ in
    let c : parts_at (kinds_of sc) (indices cs) ++ over (map part_of ts) [] ≡ kinds_of (map (λ c. Some c.1) cs) ++ over (map part_of ts) [] = ap (λ k. k ++ over (map part_of ts) []) (pointed _ cs (points sc xs)) in
    let d : kinds_of (map (λ c. Some c.1) cs) ++ over (map part_of ts) [] ≡ kinds_of (map (λ c. Some c.1) cs) ++ kinds_of (with_variables ps ts []) = ap (λ k. kinds_of (map (λ c. Some c.1) cs) ++ k) (sym (kinds_bound ps ts [] h)) in
    a ∙ (b ∙ (c ∙ (d ∙ sym (kinds_append (map (λ c. Some c.1) cs) (with_variables ps ts [])))))

-- a mask says which variables are stored
pub unmask : (bs : List Bool) → unmasked (length bs) (mask_of bs) ≡ bs
unmask [] = refl
unmask (true ∷ bs) =
    let r : (1 + 2 * mask_of bs) % 2 ≡ 1 = omega arith in
    let d : (1 + 2 * mask_of bs) / 2 ≡ mask_of bs = omega arith in
    rw (r, d) (ap (λ k. true ∷ k) (unmask bs))
unmask (false ∷ bs) =
    let r : (0 + 2 * mask_of bs) % 2 ≡ 0 = omega arith in
    let d : (0 + 2 * mask_of bs) / 2 ≡ mask_of bs = omega arith in
    rw (r, d) (ap (λ k. false ∷ k) (unmask bs))

bit_small : (b : Bool) → bit b ≤ 1
bit_small true = omega arith
bit_small false = omega arith

mask_small : (bs : List Bool) → mask_of bs < 2 ^ length bs
mask_small [] = omega arith
mask_small (b ∷ bs) =
    let i = mask_small bs in let j = bit_small b in
    let k : 2 ^ length (b ∷ bs) ≡ 2 ^ length bs * 2 = pow-suc 2 (length bs) in
    omega (arith, i, j, k)

pub mask_fits : (n : ℕ) (bs : List Bool) → n ≡ length bs → n ≤ 16 → is_mask n (mask_of bs) ≡ true
mask_fits n bs e h =
    let s : mask_of bs < 2 ^ n = subst (λ k. mask_of bs < 2 ^ k) (sym e) (mask_small bs) in
    rw (le-leb n 16 h, lt-ltb (mask_of bs) (2 ^ n) s)

pub variables_are : (n : ℕ) (bs : List Bool) → n ≡ length bs → variables n (mask_of bs) ≡ map part_of bs
variables_are n bs e = subst (λ k. variables k (mask_of bs) ≡ map part_of bs) (sym e) (ap (λ k. map part_of k) (unmask bs))

same_itself : (p : Part) → same_part p p ≡ true
same_itself value = refl
same_itself boxed = refl
same_itself catching = refl
same_itself protecting = refl
same_itself cleaning = refl

pub under_them : (ps : List Part) (sh : Shape) → under ps (ps ++ sh) ≡ Some sh
under_them [] sh = refl
under_them (p ∷ ps) sh = rw (same_itself p) (under_them ps sh)

pub values_more : (n : ℕ) (sh : Shape) → values n ++ (value ∷ sh) ≡ value ∷ (values n ++ sh)
values_more zero sh = refl
values_more (suc n) sh = ap (λ k. value ∷ k) (values_more n sh)

pub values_slots : (n : ℕ) (sh : Shape) → slots_in (values n ++ sh) ≡ values n ++ slots_in sh
values_slots zero sh = refl
values_slots (suc n) sh = ap (λ k. value ∷ k) (values_slots n sh)

pub slots_kinds : (sc : Scope) → slots_in (kinds_of sc) ≡ kinds_of sc
slots_kinds [] = refl
slots_kinds (o ∷ sc) = rw (slot_kind_is o) (ap (λ k. slot_kind o ∷ k) (slots_kinds sc))
