-- Forms without a fault, their parts, and what they are built of. It serves the proofs.
use Rattle.std.specs.Prelude.{◌≡◌, ◌≤◌, ◌+◌, ◌==◌, ◌&&◌, ℕ, Bool, true, false, List, [], Some, None}
use Rattle.ql_forms.specs.Form.{Form, Forms, none, more, atom, list, count}
use Rattle.ql_expand.specs.Assembly.{let_core}
use Rattle.ql_expand.specs.Core.{named, Binder, Core, core, Cores, no_cores, and_core, Bounds, constant, setq, lambda, qlet, qlambda}
use Rattle.ql_expand.specs.ExpandFault.{all_faults, faults}
use Rattle.ql_expand.specs.Expands.{applied, binders_in, parameters_in, Expands, Body, Binds}
use Rattle.ql_expand.specs.Operator.{operator_of, reading_of}
use Rattle.ql_expand.specs.Parts.{fits, Split, misshapen, datum, forms, assignment, bindings, form_and_bindings, parameters, form_and_parameters, definition, clauses}
use Rattle.ql_expand.specs.declared.operator.Operator.{Operator}
use Rattle.ql_expand.specs.declared.operator.Operator.TheVariants.{Cond, And, Or}
use Rattle.ql_expand.specs.declared.operator.Reading.{Reading}
use Rattle.ql_expand.specs.declared.operator.Reading.TheVariants as readings
use Rattle.ql_expand.specs.declared.search.Role.TheVariants.{Inner, Bind, Clause}

abbrev pub IsList : Form → Type 0
IsList (atom at a) = ⊥
IsList (list at fs t) = Unit {0}

-- It has no fault at some level.
abbrev pub IsFine : Form → Type 0
IsFine f = (names : List (List ℕ)) × (n : ℕ) × (faults names n Inner f ≡ [])

abbrev pub AreFine : Forms → Type 0
AreFine fs = (names : List (List ℕ)) × (n : ℕ) × (all_faults (faults names n Inner) fs ≡ [])

abbrev pub IsFineBind : Form → Type 0
IsFineBind f = (names : List (List ℕ)) × (n : ℕ) × (faults names n Bind f ≡ [])

abbrev pub AreFineBinds : Forms → Type 0
AreFineBinds fs = (names : List (List ℕ)) × (n : ℕ) × (all_faults (faults names n Bind) fs ≡ [])

abbrev pub IsFineClause : Form → Type 0
IsFineClause f = (names : List (List ℕ)) × (n : ℕ) × (faults names n Clause f ≡ [])

abbrev pub AreFineClauses : Forms → Type 0
AreFineClauses fs = (names : List (List ℕ)) × (n : ℕ) × (all_faults (faults names n Clause) fs ≡ [])

abbrev pub HasParameters : Form → Type 0
HasParameters f = (bs : List Binder) × (parameters_in f ≡ Some bs)

abbrev pub HasBinders : Forms → Type 0
HasBinders fs = (bs : List Binder) × (binders_in fs ≡ Some bs)

abbrev pub IsFineSplit : Split → Type 0
IsFineSplit misshapen = ⊥
IsFineSplit (datum f) = Unit {0}
IsFineSplit (forms fs) = AreFine fs
IsFineSplit (assignment o v e) = IsFine e
IsFineSplit (bindings bs es) = AreFineBinds bs × AreFine es
IsFineSplit (form_and_bindings f bs es) = IsFine f × AreFineBinds bs × AreFine es
IsFineSplit (parameters ps es) = HasParameters ps × AreFine es
IsFineSplit (form_and_parameters f ps es) = IsFine f × HasParameters ps × AreFine es
IsFineSplit (definition o v ps es) = HasParameters ps × AreFine es
IsFineSplit (clauses cs) = AreFineClauses cs

-- so many forms can stand after an operator that is read like this
abbrev pub allows : Reading → ℕ → Bool
allows (readings.Forms low high) m = fits low high m
allows (readings.SugarForms low high) m = fits low high m
allows (readings.Operands low) m = fits low None m
allows _ m = false

-- Each `cond` at this offset with these clauses expands to this core.
abbrev pub Clauses : ℕ → Forms → Core → Type 0
Clauses at fs c = (d : Bool) (o w : ℕ) → operator_of w ≡ Cond → Expands d (applied at o w fs) c

-- forms whose values are all dropped, or all used
pub data EachOf : (dropped : Bool) → Forms → Cores → Type 0 where
  none_of : {d : Bool} → EachOf d none no_cores
  one_of : {d : Bool} {e : Form} {fs : Forms} {c : Core} {cs : Cores} → Expands d e c → EachOf d fs cs → EachOf d (more e fs) (and_core c cs)

-- whether the forms after an operator are dropped, where the whole is and there are so many
abbrev pub passes : Operator → Bool → ℕ → Bool
passes And d n = (n == 1) && d
passes Or d n = (n == 1) && d
passes _ d n = false

-- how large forms are, and their parts
abbrev mutual
  pub weight : Form → ℕ
  weight (atom at a) = 1
  weight (list at fs t) = weights fs + 1

  pub weights : Forms → ℕ
  weights none = 0
  weights (more f fs) = weight f + 1 + weights fs

-- How large the parts of the list at this offset are, and what it expands to where they do.
abbrev pub Gives : (at operator_at word : ℕ) → Forms → Split → Type 0
Gives at o w fs (datum f) = (d : Bool) (k : Core) → k ≡ core at (constant f) → Expands d (applied at o w fs) k
Gives at o w fs (forms gs) = (allows (reading_of (operator_of w)) (count fs) ≡ true) × AreFine fs
Gives at o w fs (assignment p v e) = (weight e + 1 ≤ weights fs)
    × ((d : Bool) (c k : Core) → Expands false e c → k ≡ core at (setq (named v) p c) → Expands d (applied at o w fs) k)
Gives at o w fs (bindings bs es) = (weights bs + weights es ≤ weights fs)
    × ((d : Bool) (r : Operator) (ns : Bounds) (c k : Core) → r ≡ operator_of w → Binds bs ns → Body at es c → k ≡ let_core r at ns c → Expands d (applied at o w fs) k)
Gives at o w fs (form_and_bindings f bs es) = (weight f + 1 + (weights bs + weights es) ≤ weights fs)
    × ((d : Bool) (e : Core) (ns : Bounds) (c k : Core) → Expands false f e → Binds bs ns → Body at es c → k ≡ core at (qlet e ns c) → Expands d (applied at o w fs) k)
Gives at o w fs (parameters ps es) = (weights es ≤ weights fs)
    × ((d : Bool) (vs : List Binder) (c k : Core) → parameters_in ps ≡ Some vs → Body at es c → k ≡ core at (lambda vs c) → Expands d (applied at o w fs) k)
Gives at o w fs (form_and_parameters f ps es) = (weight f + 1 + weights es ≤ weights fs)
    × ((d : Bool) (e : Core) (vs : List Binder) (c k : Core) → Expands false f e → parameters_in ps ≡ Some vs → Body at es c → k ≡ core at (qlambda e vs c) → Expands d (applied at o w fs) k)
Gives at o w fs (clauses cs) = (weights cs ≤ weights fs) × ((d : Bool) (k : Core) → Clauses at cs k → Expands d (applied at o w fs) k)
Gives at o w fs _ = ⊥
