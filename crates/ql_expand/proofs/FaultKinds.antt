-- What is wrong with forms has kinds of its own.
use Rattle.std.proofs.Common.{◌≡◌, ℕ, zero, suc, ◌+◌, ◌≤◌, List, Option, Some, None, arith}
use Rattle.std.specs.Prelude.{ltb, is_some}
use Rattle.ql_base.specs.Kinds.{AreWithin, no_fault, and_fault, joined, either, told_within}
use Rattle.ql_base.specs.Refusal.{fault}
use Rattle.ql_base.specs.declared.refusal.Fault.{Fault}
use Rattle.ql_base.specs.declared.refusal.FaultKind.TheVariants.{ReservedName}
use Rattle.ql_forms.specs.Form.{Form, Forms, none, more, is_atom, symbol_in, items_of, operation_in, place_of}
use Rattle.ql_forms.specs.Numbered.{letters}
use Rattle.ql_expand.specs.ExpandFault.{misshapen, levels_added, variable_faults, function_faults, is_marked, top_faults, all_faults, parameter_faults, items_faults, parameters_faults, split_faults, list_faults, bound_faults, tested_faults, shape_faults, faults_to, faults, source_faults, expand_fault}
use Rattle.ql_expand.specs.Expands.{binders_in}
use Rattle.ql_expand.specs.Operator.{operator_of, reading_of, is_constant, is_call}
use Rattle.ql_expand.specs.Parts as parts
use Rattle.ql_expand.specs.Parts.{Split, parts_by, bind_in, clause_in}
use Rattle.ql_expand.specs.declared.operator.Reading.{Reading}
use Rattle.ql_expand.specs.declared.operator.Reading.TheVariants.{Global, Definition}
use Rattle.ql_expand.specs.declared.search.Role.{Role}
use Rattle.ql_expand.specs.declared.search.Role.TheVariants.{Top, Inner, Bind, Clause}

-- Each of these faults is of a kind of forms.
abbrev OfForms : List Fault → Type 0
OfForms fs = AreWithin 9 11 fs

wrong : (at : ℕ) → OfForms (misshapen at)
wrong at = and_fault (omega arith) (omega arith) no_fault

reserved : (at : ℕ) → OfForms (fault ReservedName at)
reserved at = and_fault (omega arith) (omega arith) no_fault

variable_kinds : (at w : ℕ) → OfForms (variable_faults at w)
variable_kinds at w = either (is_constant (operator_of w)) (reserved at) no_fault

function_kinds : (at w : ℕ) → OfForms (function_faults at w)
function_kinds at w = either (is_call (operator_of w)) no_fault (reserved at)

top_kinds : (r : Role) (at : ℕ) (q : Reading) → OfForms (top_faults r at q)
top_kinds Top at q = no_fault
top_kinds _ at Global = and_fault (omega arith) (omega arith) no_fault
top_kinds _ at Definition = and_fault (omega arith) (omega arith) no_fault
top_kinds _ at _ = no_fault

all_kinds : {faults : Form → List Fault} → ((f : Form) → OfForms (faults f)) → (fs : Forms) → OfForms (all_faults faults fs)
all_kinds h none = no_fault
all_kinds h (more f fs) = joined (h f) (all_kinds h fs)

module _ (names : List (List ℕ)) where
  parameter_kinds : (o : Option (ℕ × ℕ)) → OfForms (parameter_faults names o)
  parameter_kinds None = no_fault
  parameter_kinds (Some v) = either (is_marked (letters names v.1)) (wrong v.0) (variable_kinds v.0 v.1)

  items_kinds : (at : ℕ) (o : Option Forms) → OfForms (items_faults names at o)
  items_kinds at None = wrong at
  items_kinds at (Some fs) = either (is_some (binders_in fs)) (all_kinds (λ f. parameter_kinds (symbol_in f)) fs) (wrong at)

  parameters_kinds : (f : Form) → OfForms (parameters_faults names f)
  parameters_kinds f = items_kinds (place_of f) (items_of f)

  split_kinds : {below : Role → Form → List Fault} → ((r : Role) (f : Form) → OfForms (below r f)) → (at : ℕ) (s : Split) → OfForms (split_faults names below at s)
  split_kinds h at parts.misshapen = wrong at
  split_kinds h at (parts.datum f) = no_fault
  split_kinds h at _ = search (joined, all_kinds, variable_kinds, function_kinds, parameters_kinds, h)

  module _ {below : ℕ → Role → Form → List Fault} (h : (d : ℕ) (r : Role) (f : Form) → OfForms (below d r f)) where
    list_kinds : (r : Role) (at : ℕ) (o : Option ((ℕ × ℕ) × Forms)) → OfForms (list_faults names below r at o)
    list_kinds r at None = wrong at
    list_kinds r at (Some o) = let q = reading_of (operator_of o.0.1) in let s = parts_by q o.1 in joined (top_kinds r at q) (split_kinds (h (levels_added q s)) at s)

    bound_kinds : (at : ℕ) (o : Option ((ℕ × ℕ) × Option Form)) → OfForms (bound_faults (below 0) at o)
    bound_kinds at None = wrong at
    bound_kinds at (Some (v, None)) = variable_kinds v.0 v.1
    bound_kinds at (Some (v, Some e)) = joined (variable_kinds v.0 v.1) (h 0 Inner e)

    tested_kinds : (at : ℕ) (o : Option (Form × Forms)) → OfForms (tested_faults (below 0) at o)
    tested_kinds at None = wrong at
    tested_kinds at (Some c) = joined (h 0 Inner c.0) (all_kinds (h 0 Inner) c.1)

    shape_kinds : (r : Role) (f : Form) → OfForms (shape_faults names below r f)
    shape_kinds Bind f = bound_kinds (place_of f) (bind_in f)
    shape_kinds Clause f = tested_kinds (place_of f) (clause_in f)
    shape_kinds r f = either (is_atom f) no_fault (list_kinds r (place_of f) (operation_in f))

  form_kinds : (depth n : ℕ) (r : Role) (f : Form) → OfForms (faults_to names depth n r f)
  form_kinds zero n r f = wrong (place_of f)
  form_kinds (suc depth) n r f = either (ltb 400 n) (wrong (place_of f)) (shape_kinds (λ d. form_kinds depth (n + 1 + d)) r f)

pub kinds_of_forms : (names : List (List ℕ)) (fs : Forms) (at kind : ℕ) → expand_fault names fs ≡ Some (at, kind) → (9 ≤ kind) × (kind ≤ 11)
unfolding faults
kinds_of_forms names fs at kind e = told_within (source_faults names fs) at kind (all_kinds (form_kinds names 401 1 Top) fs) e
