-- The parts of a list as they fit its shape.
use Rattle.std.specs.Prelude.{ℕ, nat_le, Bool, ◌&&◌, Option, Some, None, option_map, if◌then◌else◌}
use Rattle.ql_forms.specs.Form.{Form, Forms, none, more, atom, list, proper, symbol_in, items_of, operation_in, count}
use Rattle.ql_forms.specs.View.{form_of, forms_of}
use Rattle.ql_expand.specs.declared.operator.Reading.{Reading}
use Rattle.ql_expand.specs.declared.operator.Reading.TheVariants as readings
use Rattle.ql_expand.specs.declared.parts.Parts.{Parts}
use Rattle.ql_expand.specs.declared.parts.Parts.TheVariants as values

-- misshapen: the parts fit no shape
pub data Split : Type 0 where
  misshapen : Split
  datum : Form → Split
  forms : Forms → Split
  assignment : (at variable : ℕ) → (value : Form) → Split
  bindings : (binds body : Forms) → Split
  form_and_bindings : Form → (binds body : Forms) → Split
  parameters : (parameters : Form) → (body : Forms) → Split
  form_and_parameters : (form parameters : Form) → (body : Forms) → Split
  definition : (at name : ℕ) → (parameters : Form) → (body : Forms) → Split
  clauses : Forms → Split

-- between the least and the most, where there is a most
abbrev pub fits : ℕ → Option ℕ → ℕ → Bool
fits low None m = nat_le low m
fits low (Some high) m = nat_le low m && nat_le m high

abbrev pub forms_by : ℕ → Option ℕ → Forms → Split
forms_by low high fs = if fits low high (count fs) then forms fs else misshapen

-- the form that stands alone
abbrev pub only_in : Forms → Option Form
only_in (more f none) = Some f
only_in _ = None

abbrev pub with_datum : Option Form → Split
with_datum (Some f) = datum f
with_datum None = misshapen

abbrev pub with_variable : Option (ℕ × ℕ) → Option Form → Split
with_variable (Some v) (Some e) = assignment v.0 v.1 e
with_variable _ _ = misshapen

abbrev pub assignment_by : Forms → Split
assignment_by (more v fs) = with_variable (symbol_in v) (only_in fs)
assignment_by none = misshapen

abbrev pub with_binds : Option Forms → Forms → Split
with_binds (Some bs) es = bindings bs es
with_binds None es = misshapen

abbrev pub bindings_by : Forms → Split
bindings_by (more b es) = with_binds (items_of b) es
bindings_by none = misshapen

-- bindings after a form
abbrev pub after : Form → Split → Split
after f (bindings bs es) = form_and_bindings f bs es
after f _ = misshapen

abbrev pub form_and_bindings_by : Forms → Split
form_and_bindings_by (more f fs) = after f (bindings_by fs)
form_and_bindings_by none = misshapen

abbrev pub parameters_by : Forms → Split
parameters_by (more ps es) = parameters ps es
parameters_by none = misshapen

abbrev pub form_and_parameters_by : Forms → Split
form_and_parameters_by (more f (more ps es)) = form_and_parameters f ps es
form_and_parameters_by _ = misshapen

abbrev pub with_name : Option (ℕ × ℕ) → Form → Forms → Split
with_name (Some v) ps es = definition v.0 v.1 ps es
with_name None ps es = misshapen

abbrev pub definition_by : Forms → Split
definition_by (more v (more ps es)) = with_name (symbol_in v) ps es
definition_by _ = misshapen

abbrev pub datum_by : Forms → Split
datum_by fs = with_datum (only_in fs)

-- the parts as they are read
abbrev pub parts_by : Reading → Forms → Split
parts_by readings.Nothing fs = misshapen
parts_by readings.Datum fs = datum_by fs
parts_by (readings.Forms low high) fs = forms_by low high fs
parts_by (readings.SugarForms low high) fs = forms_by low high fs
parts_by (readings.Operands low) fs = forms_by low None fs
parts_by readings.Assignment fs = assignment_by fs
parts_by readings.Global fs = assignment_by fs
parts_by readings.Bindings fs = bindings_by fs
parts_by readings.SugarBindings fs = bindings_by fs
parts_by readings.FormAndBindings fs = form_and_bindings_by fs
parts_by readings.Parameters fs = parameters_by fs
parts_by readings.FormAndParameters fs = form_and_parameters_by fs
parts_by readings.Definition fs = definition_by fs
parts_by readings.Clauses fs = clauses fs

-- a variable, and its value where it has one
abbrev pub with_value : (ℕ × ℕ) → Forms → Option ((ℕ × ℕ) × Option Form)
with_value v none = Some (v, None)
with_value v (more e none) = Some (v, Some e)
with_value v _ = None

abbrev pub bind_by : Option ((ℕ × ℕ) × Forms) → Option ((ℕ × ℕ) × Option Form)
bind_by None = None
bind_by (Some o) = with_value o.0 o.1

-- what a form binds
abbrev pub bind_in : Form → Option ((ℕ × ℕ) × Option Form)
bind_in (atom at a) = option_map (λ v. (v, None)) (symbol_in (atom at a))
bind_in (list at fs t) = bind_by (operation_in (list at fs t))

-- the test of a clause, and its other forms
abbrev pub clause_in : Form → Option (Form × Forms)
clause_in (list at (more c es) proper) = Some (c, es)
clause_in _ = None

-- the parts that a value stands for
abbrev pub split_of : Parts → Split
split_of (values.Datum f) = datum (form_of f.now)
split_of (values.Forms fs) = forms (forms_of fs.now)
split_of (values.Assignment v e) = assignment v.at.0 v.number (form_of e.now)
split_of (values.Bindings bs es) = bindings (forms_of bs.now) (forms_of es.now)
split_of (values.FormAndBindings f bs es) = form_and_bindings (form_of f.now) (forms_of bs.now) (forms_of es.now)
split_of (values.Parameters ps es) = parameters (form_of ps.now) (forms_of es.now)
split_of (values.FormAndParameters f ps es) = form_and_parameters (form_of f.now) (form_of ps.now) (forms_of es.now)
split_of (values.Definition v ps es) = definition v.at.0 v.number (form_of ps.now) (forms_of es.now)
split_of (values.Clauses cs) = clauses (forms_of cs.now)

abbrev pub split_in : Option Parts → Split
split_in None = misshapen
split_in (Some p) = split_of p
