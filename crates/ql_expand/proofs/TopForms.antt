-- Top forms, one after another.
use Rattle.std.proofs.Common.{◌≡◌, ℕ, ◌+◌, ◌<◌, ◌≤◌, List, [], ◌∷◌, ◌++◌, drop, length, get_or, map, false, Some, refl, sym, ◌∙◌, subst, arith}
use Rattle.std.proofs.lemmas.List.{append-nil, append_assoc, map-append}
use Rattle.std.proofs.lemmas.Option.{slice_get_within}
use Rattle.ql_base.specs.Names.{BeginsWithReserved}
use Rattle.ql_base.specs.declared.numbers.Offset.{Offset}
use Rattle.ql_forms.specs.Form.{Form as Datum, Forms, none, more, atom, list, proper, symbol, place_of}
use Rattle.ql_forms.specs.View.{form_of, forms_of}
use Rattle.ql_forms.specs.declared.form.Form.{Form}
use Rattle.ql_expand.specs.Building.{IsFineSplit}
use Rattle.ql_expand.specs.Core.{no_cores, and_core}
use Rattle.ql_expand.specs.ExpandFault.{faults, source_faults}
use Rattle.ql_expand.specs.Expands.{applied, parameters_in, Expands, Body, TopForms, no_tops, top_function, top_global, top_form}
use Rattle.ql_expand.specs.Operator.{operator_of, reading_of}
use Rattle.ql_expand.specs.Opened.{opened, node_opened}
use Rattle.ql_expand.specs.Parts.{definition, assignment, parts_by}
use Rattle.ql_expand.specs.Searching.{inside}
use Rattle.ql_expand.specs.Tops.{defined_by, defined_in, IsTop, IsFineTop, Made, Adds}
use Rattle.ql_expand.specs.View.{binders_of, core_of, cores_of, function_of}
use Rattle.ql_expand.specs.declared.core_form.Core.{Core}
use Rattle.ql_expand.specs.declared.core_form.Function.{Function}
use Rattle.ql_expand.specs.declared.core_form.Node.TheVariants.{outs-Defvar}
use Rattle.ql_expand.specs.declared.core_form.Node.TheViews.{Defvar as vDefvar}
use Rattle.ql_expand.specs.declared.operator.Operator.{Operator}
use Rattle.ql_expand.specs.declared.operator.Operator.TheVariants.{Defun, Defvar}
use Rattle.ql_expand.specs.declared.search.Role.TheVariants.{Top, Inner}
use Rattle.ql_expand.specs.declared.top.Tops.{Tops}
use Rattle.ql_expand.proofs.Fine.{neither, fine_list, at_place}
use Rattle.ql_expand.proofs.Levels.{shallow, clean}
use Rattle.ql_expand.proofs.Counts.{rest, nothing_left}
use Rattle.ql_expand.proofs.Gathering.{cores_last, cores_alone}

-- A top form without a fault is a definition, or a form without a fault.
fine_top : (names : List (List ℕ)) (f : Datum) → faults names 1 Top f ≡ [] → IsFineTop f
fine_top names (list at (more (atom o (symbol w)) fs) proper) h =
    let none_in = clean names 1 Top (applied at o w fs) h in by_operator (operator_of w) fs refl none_in (fine_list names 1 Top at ((o, w), fs) none_in).1
  where
    by_operator : (r : Operator) (fs : Forms) → operator_of w ≡ r → inside names 1 Top (applied at o w fs) ≡ [] → IsFineSplit (parts_by (reading_of r) fs)
        → IsTop (applied at o w fs) (defined_by r fs)
    by_operator Defun (more (atom p (symbol v)) (more ps es)) k h split = (split.0, split.1, (o, w, k, refl))
    by_operator Defun (more f (more ps es)) k h split = absurd split
    by_operator Defun fs k h split = absurd split
    by_operator Defvar (more (atom p (symbol v)) (more e none)) k h split = (split, (o, w, k, refl))
    by_operator Defvar fs k h split = absurd split
    by_operator r fs k h split = (names, 1, shallow names 1 Inner (applied at o w fs) (omega arith) ∙ rw k (rw k at h))
fine_top names f h = (names, 1, shallow names 1 Inner f (omega arith) ∙ clean names 1 Top f h)

pub fine_top_at : (names : List (List ℕ)) (xs : List Form) (i : ℕ) (x : Form) → source_faults names (forms_of xs) ≡ [] → i < length xs → x ≡ get_or xs i x → IsFineTop (form_of x)
fine_top_at names = at_place (λ fs. source_faults names fs ≡ []) IsFineTop (λ f fs h. let both = neither h in (fine_top names f both.0, both.1))

pub made_next : (all : List Form) (i : ℕ) (x : Form) (t u : Tops) → Made (forms_of all) (forms_of (drop i all)) t → i < length all → x ≡ get_or all i x → Adds (form_of x) t u
    → Made (forms_of all) (forms_of (drop (i + 1) all)) u
made_next all i x t u made lt e adds = adds (forms_of all) (forms_of (drop (i + 1) all)) (subst (λ fs. Made (forms_of all) fs t) (rest all i x lt e) made)

pub made_all : (all : List Form) (i : ℕ) (t : Tops) → Made (forms_of all) (forms_of (drop i all)) t → length all ≤ i
    → TopForms (forms_of all) (map function_of t.functions) t.globals (cores_of t.body)
made_all all i t made le =
    let whole = subst (λ fs. Made (forms_of all) fs t) (nothing_left all i le) made [] [] no_cores no_tops in
    rw (← append-nil (map function_of t.functions), ← append-nil t.globals, ← cores_alone t.body) whole

-- ---- what a top form adds

pub form_added : {f : Datum} (t : Tops) (c : Core) (now : List Core) → Expands false f (core_of c) → now ≡ t.body ++ c ∷ []
    → Adds f t (record { functions = t.functions; globals = t.globals; body = now })
form_added t c now x e all others made fs ns cs h = rw (e, cores_last t.body c cs) (made fs ns (and_core (core_of c) cs) (top_form x h))

pub function_added : {f ps : Datum} {es : Forms} {v p : ℕ} (t : Tops) (g : Function) (now : List Function) → now ≡ t.functions ++ g ∷ [] → IsFineTop f → definition p v ps es ≡ defined_in f
    → g.at.0 ≡ place_of f → g.name ≡ v → g.named.0 ≡ p → parameters_in ps ≡ Some (binders_of g.params) → Body g.at.0 es (core_of g.body)
    → Adds f t (record { functions = now; globals = t.globals; body = t.body })
function_added {f = f} t g now e top d a n m i y all others made fs ns cs h =
    let is = (subst (IsTop f) (sym d) top).2 in
    rw (e, map-append function_of t.functions (g ∷ []), append_assoc (map function_of t.functions) (function_of g ∷ []) fs)
    (made (function_of g ∷ fs) ns cs (rw (a, n, m, is.3) (top_function is.2 i (rw a at y) h)))

pub global_added : {f e : Datum} {at : Offset} {v : ℕ} (p : Offset) (x : Core) (t : Tops) (names : List ℕ) (now : List Core) → now ≡ t.body ++ record { at = at; node = vDefvar v p x } ∷ []
    → names ≡ t.globals ++ v ∷ [] → IsFineTop f → assignment p.0 v e ≡ defined_in f → at.0 ≡ place_of f → Expands false e (core_of x)
    → Adds f t (record { functions = t.functions; globals = names; body = now })
global_added {f = f} {at = at} {v = v} p x t names now e l top d a y all others made fs ns cs h =
    let is = (subst (IsTop f) (sym d) top).1 in
    let c : Core = record { at = at; node = vDefvar v p x } in
    rw (l, append_assoc t.globals (v ∷ []) ns, e, cores_last t.body c cs)
    (made fs (v ∷ ns) (and_core (core_of c) cs) (rw (opened c, a, node_opened, outs-Defvar, is.3) (top_global is.2 y h)))

-- A table of names has at least the reserved words.
pub many_names : (names : List (List ℕ)) → BeginsWithReserved names → 46 ≤ length names
many_names names begins = let within : 45 < length names = slice_get_within names 45 _ (begins 45 _ refl) in omega (arith, within)
