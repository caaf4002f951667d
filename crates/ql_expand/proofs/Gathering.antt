-- What loops over forms have made so far.
use Rattle.std.proofs.Common.{◌≡◌, ℕ, ◌+◌, ◌<◌, ◌≤◌, List, [], ◌∷◌, ◌++◌, Option, Some, None, length, get_or, take, refl, sym, ap, subst, ◌∙◌, arith}
use Rattle.std.specs.Prelude.{Bool, true, false, ◌==◌}
use Rattle.std.specs.List.{AllZip}
use Rattle.std.proofs.lemmas.List.{take_more, take_all}
use Rattle.std.proofs.lemmas.Slice.Zip.{all_zipped_more}
use Rattle.std.proofs.lemmas.Bool.Decides.{nat_tests}
use Rattle.ql_forms.specs.Form.{Form as Datum, Forms, more, atom, symbol, symbol_in}
use Rattle.ql_forms.specs.View.{form_of, forms_of}
use Rattle.ql_forms.specs.declared.form.Form.{Form}
use Rattle.ql_expand.specs.Assembly.{nil_core}
use Rattle.ql_expand.specs.Building.{EachOf, none_of, one_of, HasBinders}
use Rattle.ql_expand.specs.Core as spec
use Rattle.ql_expand.specs.Core.{Name, named, Binder, binder, core, progn, Cores, no_cores, and_core, joined_cores}
use Rattle.ql_expand.specs.Expands.{with_binder, binders_in, Expands, Body, no_forms, one_form, forms, InTurn, last_form, then_forms, Bind, Binds, none_bound, one_bound}
use Rattle.ql_expand.specs.View.{name_of, binders_of, core_of, cores_of, bound_of, bounds_of}
use Rattle.ql_expand.specs.declared.core_form.Binder.{Binder as BinderValue}
use Rattle.ql_expand.specs.declared.core_form.Bound.{Bound}
use Rattle.ql_expand.specs.declared.core_form.Core.{Core}

-- ---- what was made of each form, up to a place

pub made_next : {M : Type 0} (Q : Form → M → Type 0) (xs : List Form) (i : ℕ) (x : Form) (ms now : List M) (m : M) → i < length xs → x ≡ get_or xs i x → AllZip Q (take i xs) ms → Q x m → now ≡ ms ++ m ∷ []
    → AllZip Q (take (i + 1) xs) now
made_next Q xs i x ms now m h e z q p = rw (p, take_more xs i x h, ← e) (all_zipped_more Q (take i xs) ms x m z q)

pub made_all : {M : Type 0} (Q : Form → M → Type 0) (xs : List Form) (i : ℕ) (ms : List M) → length xs ≤ i → AllZip Q (take i xs) ms → AllZip Q xs ms
made_all Q xs i ms h z = subst (λ (ys : List Form). AllZip Q ys ms) (take_all i xs h) z

-- This core was made of the form.
abbrev pub IsCore : Bool → Form → Core → Type 0
IsCore d f c = Expands d (form_of f) (core_of c)

pub cores_made : {d : Bool} (fs : List Form) (cs : List Core) → AllZip (IsCore d) fs cs → EachOf d (forms_of fs) (cores_of cs)
cores_made [] [] z = none_of
cores_made (f ∷ fs) (c ∷ cs) z = one_of z.0 (cores_made fs cs z.1)
cores_made _ _ z = absurd z

-- This variable and value were made of the form.
abbrev pub IsBound : Form → Bound → Type 0
IsBound f b = Bind (form_of f) (bound_of b).0 (bound_of b).1

pub bounds_made : (fs : List Form) (bs : List Bound) → AllZip IsBound fs bs → Binds (forms_of fs) (bounds_of bs)
bounds_made [] [] z = none_bound
bounds_made (f ∷ fs) (b ∷ bs) z = one_bound z.0 (bounds_made fs bs z.1)
bounds_made _ _ z = absurd z

symbol_named : (f : Datum) (at n : ℕ) (fs : Forms) (bs : List Binder) → symbol_in f ≡ Some (at, n) → binders_in fs ≡ Some bs → binders_in (more f fs) ≡ Some (binder at (named n) ∷ bs)
symbol_named (atom p (symbol v)) at n fs bs e h =
    let pair : (p, v) ≡ (at, n) = cc in rw h (ap (λ (q : ℕ × ℕ). Some (binder q.0 (named q.1) ∷ bs)) pair)
symbol_named f at n fs bs e h = cc

-- The form is the symbol of this binder.
abbrev pub IsNamed : Form → BinderValue → Type 0
IsNamed f b = (w : ℕ) × (symbol_in (form_of f) ≡ Some (b.at.0, w)) × (name_of b.name ≡ named w)

pub binders_made : (fs : List Form) (bs : List BinderValue) → AllZip IsNamed fs bs → binders_in (forms_of fs) ≡ Some (binders_of bs)
binders_made [] [] z = refl
binders_made (f ∷ fs) (b ∷ bs) z =
    symbol_named (form_of f) b.at.0 z.0.0 (forms_of fs) (binders_of bs) z.0.1 (binders_made fs bs z.1) ∙ ap (λ (v : Name). Some (binder b.at.0 v ∷ binders_of bs)) (sym z.0.2)
binders_made _ _ z = absurd z

-- ---- cores

-- cores that values stand for, and then more of them
abbrev pub with_cores : List Core → Cores → Cores
with_cores cs ds = joined_cores (cores_of cs) ds

abbrev pub then_core : Core → Cores → Cores
then_core c ds = and_core (core_of c) ds

pub cores_last : (cs : List Core) (c : Core) (ds : Cores) → with_cores (cs ++ c ∷ []) ds ≡ with_cores cs (then_core c ds)
cores_last [] c ds = refl
cores_last (b ∷ cs) c ds = ap (then_core b) (cores_last cs c ds)

pub cores_alone : (cs : List Core) → with_cores cs no_cores ≡ cores_of cs
cores_alone [] = refl
cores_alone (b ∷ cs) = ap (then_core b) (cores_alone cs)

-- ---- forms of which the last is used

turns : (xs : List Form) (x : Form) {cs : Cores} {c : spec.Core} → EachOf true (forms_of xs) cs → Expands false (form_of x) c
    → InTurn (forms_of (xs ++ x ∷ [])) (joined_cores cs (and_core c no_cores))
turns [] x none_of y = last_form y
turns (a ∷ []) x (one_of u none_of) y = then_forms u (last_form y)
turns (a ∷ (b ∷ xs)) x (one_of u us) y = then_forms u (turns (b ∷ xs) x us y)

as_turns : {at : ℕ} (xs : List Form) (x : Form) {cs : Cores} (b : Bool) → b ≡ (length xs == 0) → b ≡ false → InTurn (forms_of (xs ++ x ∷ [])) cs → Body at (forms_of (xs ++ x ∷ [])) (core at (progn cs))
as_turns [] x b e f i = cc
as_turns (a ∷ []) x b e f i = forms i
as_turns (a ∷ (d ∷ xs)) x b e f i = forms i

pub body_none : {at : ℕ} (fs : List Form) → length fs ≡ 0 → Body at (forms_of fs) (nil_core at)
body_none [] h = no_forms
body_none (x ∷ fs) h = absurd (omega arith)

pub body_alone : {at : ℕ} {k : spec.Core} (fs xs : List Form) (x : Form) (b : Bool) → fs ≡ xs ++ x ∷ [] → b ≡ (length xs == 0) → b ≡ true → Expands false (form_of x) k
    → Body at (forms_of fs) k
body_alone fs [] x b e f t y = rw e (one_form y)
body_alone fs (z ∷ xs) x b e f t y = let none : length (z ∷ xs) ≡ 0 = grind (arith, nat_tests) in absurd (omega arith)

pub body_turns : {at : ℕ} (fs xs : List Form) (x : Form) (now cs : List Core) (c : Core) (b : Bool) → fs ≡ xs ++ x ∷ [] → b ≡ (length xs == 0) → b ≡ false → now ≡ cs ++ c ∷ []
    → EachOf true (forms_of xs) (cores_of cs) → Expands false (form_of x) (core_of c) → Body at (forms_of fs) (core at (progn (cores_of now)))
body_turns fs xs x now cs c b e f t p y z =
    let made : cores_of now ≡ joined_cores (cores_of cs) (and_core (core_of c) no_cores) =
    ap cores_of p ∙ sym (cores_alone (cs ++ c ∷ [])) ∙ cores_last cs c no_cores in
    rw (made, e) (as_turns xs x b f t (turns xs x y z))

pub ruleset of_bodies = (body_none, body_alone, body_turns)

-- ---- binders

others : (o : Option (List Binder)) (at v : ℕ) (bs : List Binder) → with_binder at v o ≡ Some bs → (cs : List Binder) × (o ≡ Some cs)
others None at v bs e = absurd (cc)
others (Some cs) at v bs e = (cs, refl)

pub first_named : (f : Datum) (fs : Forms) → HasBinders (more f fs) → (symbol_in f ≡ None → ⊥) × HasBinders fs
first_named (atom at (symbol v)) fs (bs, h) = (λ e. cc, others (binders_in fs) at v bs h)
first_named f fs (bs, h) = absurd (cc)
