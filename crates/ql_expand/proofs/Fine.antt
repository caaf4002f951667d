-- A form without a fault has parts without one, of certain shapes, and smaller than it.
use Rattle.std.proofs.Common.{◌≡◌, ℕ, ◌+◌, ◌<◌, ◌≤◌, zero, suc, List, [], ◌∷◌, ◌++◌, length, get_or, Option, Some, None, refl, sym, ap, subst, ◌∙◌, arith}
use Rattle.std.specs.Prelude.{Bool, true, false, if◌then◌else◌, is_some}
use Rattle.std.specs.Option.{option_and_then}
use Rattle.ql_forms.specs.Form.{Form as Datum, Forms, none, more, atom, list, proper, dotted, symbol, items_of, operation_in, place_of}
use Rattle.ql_forms.specs.View.{form_of, forms_of}
use Rattle.ql_forms.specs.declared.form.Form.{Form}
use Rattle.ql_base.specs.declared.refusal.Fault.{Fault}
use Rattle.ql_expand.specs.Assembly.{nil_core}
use Rattle.ql_expand.specs.Building.{IsList, weight, weights, IsFine, AreFine, IsFineBind, AreFineBinds, IsFineClause, AreFineClauses, HasParameters, IsFineSplit}
use Rattle.ql_expand.specs.Core.{Binder, binder, named, Core}
use Rattle.ql_expand.specs.ExpandFault.{misshapen as bad_shape, levels_added, top_faults, all_faults, symbols_faults, items_faults, parameters_faults, split_faults, list_faults, faults}
use Rattle.ql_expand.specs.Expands.{applied, binders_in, Expands, Bind, with_value, without_value, alone}
use Rattle.ql_expand.specs.Operator.{operator_of, reading_of}
use Rattle.ql_expand.specs.Parts.{Split, misshapen, datum, forms, assignment, bindings, form_and_bindings, parameters, form_and_parameters, definition, clauses, parts_by, bind_in, clause_in}
use Rattle.ql_expand.specs.declared.search.Role.{Role}
use Rattle.ql_expand.specs.declared.search.Role.TheVariants.{Inner, Bind as BindRole, Clause}
use Rattle.ql_expand.proofs.Levels.{clean}

-- ---- no faults

pub neither : {xs ys : List Fault} → xs ++ ys ≡ [] → (xs ≡ []) × (ys ≡ [])
neither {xs = []} e = (refl, e)
neither {xs = x ∷ xs} e = cc

has_parameters : (names : List (List ℕ)) (ps : Datum) → parameters_faults names ps ≡ [] → HasParameters ps
has_parameters names ps = by_items (items_of ps)
  where
    by_binders : (fs : Forms) (o : Option (List Binder)) → binders_in fs ≡ o → (if is_some o then symbols_faults names fs else bad_shape (place_of ps)) ≡ [] → (bs : List Binder) × (o ≡ Some bs)
    by_binders fs None k h = cc
    by_binders fs (Some bs) k h = (bs, refl)

    by_items : (o : Option Forms) → items_faults names (place_of ps) o ≡ [] → (bs : List Binder) × (option_and_then binders_in o ≡ Some bs)
    by_items None h = cc
    by_items (Some fs) h = by_binders fs (binders_in fs) refl h

fine_split : (names : List (List ℕ)) (n at : ℕ) (s : Split) → split_faults names (faults names n) at s ≡ [] → IsFineSplit s
fine_split names n at misshapen e = cc
fine_split names n at (datum f) e = tt
fine_split names n at (forms fs) e = (names, n, e)
fine_split names n at (assignment o v f) e = (names, n, (neither e).1)
fine_split names n at (bindings bs es) e = let both = neither e in ((names, n, both.0), (names, n, both.1))
fine_split names n at (form_and_bindings f bs es) e =
    let both = neither e in let rest = neither both.1 in ((names, n, both.0), (names, n, rest.0), (names, n, rest.1))
fine_split names n at (parameters ps es) e = let both = neither e in (has_parameters names ps both.0, (names, n, both.1))
fine_split names n at (form_and_parameters f ps es) e =
    let both = neither e in let rest = neither both.1 in ((names, n, both.0), has_parameters names ps rest.0, (names, n, rest.1))
fine_split names n at (definition o v ps es) e =
    let both = neither e in let rest = neither both.1 in (has_parameters names ps rest.0, (names, n, rest.1))
fine_split names n at (clauses cs) e = (names, n, e)

-- The parts of a list without a fault have none.
pub fine_list : (names : List (List ℕ)) (n : ℕ) (r : Role) (at : ℕ) (o : (ℕ × ℕ) × Forms) → list_faults names (λ d. faults names (n + 1 + d)) r at (Some o) ≡ []
    → (top_faults r at (reading_of (operator_of o.0.1)) ≡ []) × IsFineSplit (parts_by (reading_of (operator_of o.0.1)) o.1)
fine_list names n r at o h =
    let q = reading_of (operator_of o.0.1) in let s = parts_by q o.1 in let both = neither h in (both.0, fine_split names (n + 1 + levels_added q s) at s both.1)

-- ---- operations, bindings and clauses

pub operation_shape : (f : Datum) (o w : ℕ) (fs : Forms) → operation_in f ≡ Some ((o, w), fs) → f ≡ applied (place_of f) o w fs
operation_shape (list at (more (atom p (symbol v)) gs) proper) o w fs k =
    let pair : ((p, v), gs) ≡ ((o, w), fs) = cc in ap (λ (q : (ℕ × ℕ) × Forms). applied at q.0.0 q.0.1 q.1) pair
operation_shape f o w fs k = cc

-- A form without a fault has a shape.
pub operation_found : (f : Datum) → IsFine f → IsList f → operation_in f ≡ None → ⊥
operation_found (list at fs t) (names, n, h) l e = let bad : bad_shape at ≡ [] = rw e at (clean names n Inner (list at fs t) h) in cc
operation_found (atom at a) fine l e = absurd l

pub bind_found : (f : Datum) → IsFineBind f → bind_in f ≡ None → ⊥
bind_found f (names, n, h) e = let bad : bad_shape (place_of f) ≡ [] = rw e at (clean names n BindRole f h) in cc

pub clause_found : (f : Datum) → IsFineClause f → clause_in f ≡ None → ⊥
clause_found f (names, n, h) e = let bad : bad_shape (place_of f) ≡ [] = rw e at (clean names n Clause f h) in cc

-- what follows where a form binds this
abbrev pub BoundBy : Datum → Option ((ℕ × ℕ) × Option Datum) → Type 0
BoundBy f None = Unit {0}
BoundBy f (Some (v, None)) = Bind f (binder v.0 (named v.1)) (nil_core v.0)
BoundBy f (Some (v, Some e)) = (weight e + 1 ≤ weight f) × ((k : Core) → Expands false e k → Bind f (binder v.0 (named v.1)) k) × (IsFineBind f → IsFine e)

bound_by : (f : Datum) → BoundBy f (bind_in f)
bound_by (atom at (symbol v)) = alone
bound_by (list at (more (atom o (symbol v)) none) proper) = without_value
bound_by (list at (more (atom o (symbol v)) (more e none)) proper) = (omega arith, λ k x. with_value x, λ fine. (fine.0, fine.1 + 1 + 0, (neither (clean fine.0 fine.1 BindRole _ fine.2)).1))
bound_by (list at (more (atom o (symbol v)) (more e (more f fs))) proper) = tt
bound_by (list at (more (atom o (symbol v)) (more e (more f fs))) (dotted a)) = tt
bound_by f = tt

pub bind_alone : (f : Datum) {v : ℕ × ℕ} → bind_in f ≡ Some (v, None) → BoundBy f (Some (v, None))
bind_alone f h = subst (BoundBy f) h (bound_by f)

pub bind_value : (f : Datum) {v : ℕ × ℕ} {e : Datum} → bind_in f ≡ Some (v, Some e) → BoundBy f (Some (v, Some e))
bind_value f h = subst (BoundBy f) h (bound_by f)

pub clause_shape : (f c : Datum) (es : Forms) → clause_in f ≡ Some (c, es) → (p : ℕ) × (f ≡ list p (more c es) proper)
clause_shape (list p (more b is) proper) c es h =
    let pair : (b, is) ≡ (c, es) = cc in (p, ap (λ (q : Datum × Forms). list p (more q.0 q.1) proper) pair)
clause_shape f c es h = cc

pub clause_parts : (f : Datum) {c : Datum} {es : Forms} → clause_in f ≡ Some (c, es) → IsFineClause f → (weight c + weights es + 2 ≤ weight f) × (IsFine c × AreFine es)
clause_parts f {c = c} {es = es} k (names, n, h) =
    let shape = clause_shape f c es k in
    let both = neither (rw k at (clean names n Clause f h)) in
    let size = ap weight shape.1 in (omega (arith, size), ((names, n + 1 + 0, both.0), (names, n + 1 + 0, both.1)))

-- ---- one of some forms

pub fine_first : (f : Datum) (fs : Forms) → AreFine (more f fs) → IsFine f × AreFine fs
fine_first f fs (names, n, h) = let both = neither h in ((names, n, both.0), (names, n, both.1))

pub clauses_parts : {f : Datum} {fs gs : Forms} → gs ≡ more f fs → AreFineClauses gs → (weights gs ≡ weight f + 1 + weights fs) × (IsFineClause f × AreFineClauses fs)
clauses_parts {f = f} {fs = fs} e (names, n, h) =
    let both = neither (ap (all_faults (faults names n Clause)) (sym e) ∙ h) in (ap weights e, ((names, n, both.0), (names, n, both.1)))

-- Where a fact of some forms is one of the first and one of the others, it is one of each.
pub at_place : (P : Forms → Type 0) (Q : Datum → Type 0) → ((f : Datum) (fs : Forms) → P (more f fs) → Q f × P fs)
    → (xs : List Form) (i : ℕ) (x : Form) → P (forms_of xs) → i < length xs → x ≡ get_or xs i x → Q (form_of x)
at_place P Q step [] i x h k e = absurd (omega arith)
at_place P Q step (y ∷ xs) zero x h k e = rw e (step (form_of y) (forms_of xs) h).0
at_place P Q step (y ∷ xs) (suc i) x h k e = let within : i < length xs = omega arith in at_place P Q step xs i x (step (form_of y) (forms_of xs) h).1 within e

pub fine_at : (xs : List Form) (i : ℕ) (x : Form) → AreFine (forms_of xs) → i < length xs → x ≡ get_or xs i x → IsFine (form_of x)
fine_at = at_place AreFine IsFine fine_first

pub fine_bind_at : (xs : List Form) (i : ℕ) (x : Form) → AreFineBinds (forms_of xs) → i < length xs → x ≡ get_or xs i x → IsFineBind (form_of x)
fine_bind_at = at_place AreFineBinds IsFineBind (λ f fs fine. let both = neither fine.2 in ((fine.0, fine.1, both.0), (fine.0, fine.1, both.1)))

fine_before : (xs : List Form) (x : Form) → AreFine (forms_of (xs ++ x ∷ [])) → AreFine (forms_of xs) × IsFine (form_of x)
fine_before xs x (names, n, h) = let both = of xs h in ((names, n, both.0), (names, n, both.1))
  where
    of : (xs : List Form) → all_faults (faults names n Inner) (forms_of (xs ++ x ∷ [])) ≡ [] → (all_faults (faults names n Inner) (forms_of xs) ≡ []) × (faults names n Inner (form_of x) ≡ [])
    of [] h = (refl, (neither h).0)
    of (y ∷ xs) h = let both = neither {xs = faults names n Inner (form_of y)} h in let rest = of xs both.1 in (rw (both.0, rest.0) refl, rest.1)

-- ---- how large the parts are

-- the weight of the one at a place
pub weight_at : (xs : List Form) (i : ℕ) (x : Form) → i < length xs → x ≡ get_or xs i x → weight (form_of x) + 1 ≤ weights (forms_of xs)
weight_at [] i x h e = absurd (omega arith)
weight_at (y ∷ xs) zero x h e = subst (λ (z : Form). weight (form_of z) + 1 ≤ weights (forms_of (y ∷ xs))) (sym e) (omega arith)
weight_at (y ∷ xs) (suc i) x h e =
    let within : i < length xs = omega arith in
    let small : weight (form_of x) + 1 ≤ weights (forms_of xs) = weight_at xs i x within e in
    omega arith

weight_before : (xs : List Form) (x : Form) → weights (forms_of (xs ++ x ∷ [])) ≡ weights (forms_of xs) + (weight (form_of x) + 1)
weight_before [] x = omega arith
weight_before (y ∷ xs) x = omega (arith, weight_before xs x)

-- Forms that end with one form, none of them at fault.
pub ends : {fs : List Form} (xs : List Form) (x : Form) → fs ≡ xs ++ x ∷ [] → AreFine (forms_of fs)
    → (AreFine (forms_of xs) × IsFine (form_of x)) × (weights (forms_of fs) ≡ weights (forms_of xs) + (weight (form_of x) + 1))
ends xs x e h = (fine_before xs x (subst (λ (ys : List Form). AreFine (forms_of ys)) e h), ap (λ (ys : List Form). weights (forms_of ys)) e ∙ weight_before xs x)
