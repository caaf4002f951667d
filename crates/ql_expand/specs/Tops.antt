-- What top forms make. It serves the proofs.
use Rattle.std.specs.Prelude.{◌≡◌, ℕ, List, ◌++◌, Some, None, map}
use Rattle.ql_forms.specs.Form.{Form, Forms, more, atom, symbol, operation_in, place_of}
use Rattle.ql_expand.specs.Building.{IsFine, AreFine, HasParameters}
use Rattle.ql_expand.specs.Core.{Cores, Function, joined_cores}
use Rattle.ql_expand.specs.Expands.{applied, two, TopForms}
use Rattle.ql_expand.specs.Operator.{operator_of}
use Rattle.ql_expand.specs.Parts.{Split, misshapen, assignment, definition, assignment_by, definition_by}
use Rattle.ql_expand.specs.View.{cores_of, function_of}
use Rattle.ql_expand.specs.declared.operator.Operator.{Operator}
use Rattle.ql_expand.specs.declared.operator.Operator.TheVariants.{Defun, Defvar}
use Rattle.ql_expand.specs.declared.top.Tops.{Tops}

-- the parts after an operator that defines something
abbrev pub defined_by : Operator → Forms → Split
defined_by Defun fs = definition_by fs
defined_by Defvar fs = assignment_by fs
defined_by _ fs = misshapen

-- the parts of a definition, which no other form has
abbrev pub defined_in : Form → Split
defined_in f = elim (operation_in f) [ None ↦ misshapen | Some o ↦ defined_by (operator_of o.0.1) o.1 ]

-- The form is this operator applied to these parts.
abbrev pub Applies : Operator → Forms → Form → Type 0
Applies r fs f = (o : ℕ) × (w : ℕ) × (operator_of w ≡ r) × (f ≡ applied (place_of f) o w fs)

-- A top form that defines this has no fault.
abbrev pub IsTop : Form → Split → Type 0
IsTop f misshapen = IsFine f
IsTop f (definition p v ps es) = HasParameters ps × AreFine es × Applies Defun (more (atom p (symbol v)) (more ps es)) f
IsTop f (assignment p v e) = IsFine e × Applies Defvar (two (atom p (symbol v)) e) f
IsTop f _ = ⊥

abbrev pub IsFineTop : Form → Type 0
IsFineTop f = IsTop f (defined_in f)

-- What the rest of all forms makes comes after what those before it made.
abbrev pub Made : Forms → Forms → Tops → Type 0
Made all rest t = (fs : List Function) (ns : List ℕ) (cs : Cores) → TopForms rest fs ns cs
    → TopForms all (map function_of t.functions ++ fs) (t.globals ++ ns) (joined_cores (cores_of t.body) cs)

-- What this top form makes comes last.
abbrev pub Adds : Form → Tops → Tops → Type 0
Adds f t u = (all rest : Forms) → Made all (more f rest) t → Made all rest u
