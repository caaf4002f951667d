-- What is wrong with forms.
use Rattle.std.specs.Prelude.{ℕ, zero, suc, ◌+◌, ◌*◌, ◌==◌, ltb, Bool, true, false, not, if◌then◌else◌, List, [], ◌∷◌, ◌++◌, Option, Some, None, is_some}
use Rattle.ql_base.specs.Refusal.{fault, least, told}
use Rattle.ql_base.specs.declared.refusal.Fault.{Fault}
use Rattle.ql_base.specs.declared.refusal.FaultKind.TheVariants.{BadShape, BadTop, ReservedName}
use Rattle.ql_forms.specs.Form.{Form, Forms, none, more, is_atom, symbol_in, items_of, operation_in, place_of, count}
use Rattle.ql_forms.specs.Numbered.{letters}
use Rattle.ql_expand.specs.Expands.{binders_in}
use Rattle.ql_expand.specs.Operator.{operator_of, reading_of, is_constant, is_call}
use Rattle.ql_expand.specs.Parts as parts
use Rattle.ql_expand.specs.Parts.{Split, parts_by, bind_in, clause_in}
use Rattle.ql_expand.specs.declared.operator.Reading.{Reading}
use Rattle.ql_expand.specs.declared.operator.Reading.TheVariants.{SugarForms, Operands, Global, SugarBindings, Definition, Clauses}
use Rattle.ql_expand.specs.declared.search.Role.{Role}
use Rattle.ql_expand.specs.declared.search.Role.TheVariants.{Top, Inner, Bind, Clause}

-- the deepest level
abbrev pub deepest : ℕ
deepest = 400

-- What stands at this offset has a wrong shape.
abbrev pub misshapen : ℕ → List Fault
misshapen at = fault BadShape at

-- how many parts a list has, where sugar counts them
abbrev pub part_count : Split → ℕ
part_count (parts.forms fs) = count fs
part_count (parts.bindings bs es) = count bs + count es
part_count (parts.clauses cs) = count cs
part_count _ = 0

-- what is read like this is sugar where it has so many parts
abbrev pub is_sugar : Reading → ℕ → Bool
is_sugar (SugarForms low high) m = true
is_sugar (Operands low) m = not (m == 2)
is_sugar SugarBindings m = true
is_sugar Clauses m = true
is_sugar _ m = false

-- how many levels a list that is read like this adds above its parts
abbrev pub levels_added : Reading → Split → ℕ
levels_added q s = if is_sugar q (part_count s) then 2 * part_count s + 1 else 0

-- the name of a variable
abbrev pub variable_faults : (at number : ℕ) → List Fault
variable_faults at w = if is_constant (operator_of w) then fault ReservedName at else []

-- the name of a function
abbrev pub function_faults : (at number : ℕ) → List Fault
function_faults at w = if is_call (operator_of w) then [] else fault ReservedName at

-- the byte `&` comes first
abbrev pub is_marked : List ℕ → Bool
is_marked [] = false
is_marked (b ∷ w) = b == 38

-- A definition stands among the top forms alone.
abbrev pub top_faults : Role → ℕ → Reading → List Fault
top_faults Top at r = []
top_faults _ at Global = fault BadTop at
top_faults _ at Definition = fault BadTop at
top_faults _ at _ = []

-- all that is wrong with some forms, where this is what is wrong with one
abbrev pub all_faults : (Form → List Fault) → Forms → List Fault
all_faults faults none = []
all_faults faults (more f fs) = faults f ++ all_faults faults fs

-- a binding, whose value is one level further
abbrev pub bound_faults : (Role → Form → List Fault) → ℕ → Option ((ℕ × ℕ) × Option Form) → List Fault
bound_faults below at None = misshapen at
bound_faults below at (Some (v, None)) = variable_faults v.0 v.1
bound_faults below at (Some (v, Some e)) = variable_faults v.0 v.1 ++ below Inner e

-- a clause, whose forms are one level further
abbrev pub tested_faults : (Role → Form → List Fault) → ℕ → Option (Form × Forms) → List Fault
tested_faults below at None = misshapen at
tested_faults below at (Some c) = below Inner c.0 ++ all_faults (below Inner) c.1

module _ (names : List (List ℕ)) where
  -- the symbol of a parameter, which is a variable
  abbrev pub parameter_faults : Option (ℕ × ℕ) → List Fault
  parameter_faults None = []
  parameter_faults (Some v) = if is_marked (letters names v.1) then misshapen v.0 else variable_faults v.0 v.1

  abbrev pub symbols_faults : Forms → List Fault
  symbols_faults fs = all_faults (λ f. parameter_faults (symbol_in f)) fs

  -- the items of a parameter list at this offset
  abbrev pub items_faults : ℕ → Option Forms → List Fault
  items_faults at None = misshapen at
  items_faults at (Some fs) = if is_some (binders_in fs) then symbols_faults fs else misshapen at

  -- a parameter list
  abbrev pub parameters_faults : Form → List Fault
  parameters_faults f = items_faults (place_of f) (items_of f)

  -- the parts of a list at this offset, where this is what is wrong with a form at their level
  abbrev pub split_faults : (Role → Form → List Fault) → ℕ → Split → List Fault
  split_faults below at parts.misshapen = misshapen at
  split_faults below at (parts.datum f) = []
  split_faults below at (parts.forms fs) = all_faults (below Inner) fs
  split_faults below at (parts.assignment o v e) = variable_faults o v ++ below Inner e
  split_faults below at (parts.bindings bs es) = all_faults (below Bind) bs ++ all_faults (below Inner) es
  split_faults below at (parts.form_and_bindings f bs es) = below Inner f ++ (all_faults (below Bind) bs ++ all_faults (below Inner) es)
  split_faults below at (parts.parameters ps es) = parameters_faults ps ++ all_faults (below Inner) es
  split_faults below at (parts.form_and_parameters f ps es) = below Inner f ++ (parameters_faults ps ++ all_faults (below Inner) es)
  split_faults below at (parts.definition o v ps es) = function_faults o v ++ (parameters_faults ps ++ all_faults (below Inner) es)
  split_faults below at (parts.clauses cs) = all_faults (below Clause) cs

  -- A list, where this is what is wrong with a form so many levels further than the next. Its parts are looked at where
  -- they fit its shape.
  abbrev pub list_faults : (ℕ → Role → Form → List Fault) → Role → ℕ → Option ((ℕ × ℕ) × Forms) → List Fault
  list_faults below r at None = misshapen at
  list_faults below r at (Some o) = let q = reading_of (operator_of o.0.1) in let s = parts_by q o.1 in top_faults r at q ++ split_faults (below (levels_added q s)) at s

  -- a form in this role
  abbrev pub shape_faults : (ℕ → Role → Form → List Fault) → Role → Form → List Fault
  shape_faults below Bind f = bound_faults (below 0) (place_of f) (bind_in f)
  shape_faults below Clause f = tested_faults (below 0) (place_of f) (clause_in f)
  shape_faults below r f = if is_atom f then [] else list_faults below r (place_of f) (operation_in f)

  -- a form in this role at this level, at most so many levels deep
  abbrev pub faults_to : (depth level : ℕ) → Role → Form → List Fault
  faults_to zero n r f = misshapen (place_of f)
  faults_to (suc depth) n r f = if ltb deepest n then misshapen (place_of f) else shape_faults (λ d. faults_to depth (n + 1 + d)) r f

-- All that is wrong with a form in this role at this level. No level is looked at that is deeper than the one after the deepest.
unfoldable pub faults : List (List ℕ) → (level : ℕ) → Role → Form → List Fault
faults names n r f = faults_to names (deepest + 1) n r f

-- all that is wrong with the forms of a source
abbrev pub source_faults : List (List ℕ) → Forms → List Fault
source_faults names fs = all_faults (faults names 1 Top) fs

-- the first fault of a source: its offset and the number of its kind
abbrev pub expand_fault : List (List ℕ) → Forms → Option (ℕ × ℕ)
expand_fault names fs = told (least (source_faults names fs))
