-- The forms that values stand for.
use Rattle.std.specs.Prelude.{ℕ, List, [], ◌∷◌, map, Option, Some, None}
use Rattle.ql_forms.specs.Form as spec
use Rattle.ql_forms.specs.Form.{Form as Datum, Forms, none, more, Tail, proper, dotted, integer, symbol}
use Rattle.ql_forms.specs.Numbered.{spelled_form, spelled_forms}
use Rattle.ql_forms.specs.Spelled as spelled
use Rattle.ql_forms.specs.declared.form.Atom.{Atom}
use Rattle.ql_forms.specs.declared.form.Atom.TheVariants.{Int, Sym}
use Rattle.ql_forms.specs.declared.form.Form.{Form, fold-Form}
use Rattle.ql_forms.specs.declared.form.Form.TheOpen.{Form-F}

abbrev pub in_order : List Datum → Forms
in_order [] = none
in_order (f ∷ fs) = more f (in_order fs)

abbrev pub atom_of : Atom → spec.Atom
atom_of (Int z) = integer z
atom_of (Sym n) = symbol n

abbrev pub tail_of : Option Atom → Tail
tail_of None = proper
tail_of (Some a) = dotted (atom_of a)

-- one level, with each form inside already seen
abbrev pub form_step : Form-F Datum → Datum
form_step (Form-F.Atom at a) = spec.atom at.0 (atom_of a)
form_step (Form-F.List at items tail) = spec.list at.0 (in_order items) (tail_of tail)

abbrev pub form_of : Form → Datum
form_of = fold-Form Datum form_step

abbrev pub forms_of : List Form → Forms
forms_of fs = in_order (map form_of fs)

-- a value by the letters of its symbols
abbrev pub spelling_of : List (List ℕ) → Form → spelled.Form
spelling_of names f = spelled_form names (form_of f)

abbrev pub spellings_of : List (List ℕ) → List Form → spelled.Forms
spellings_of names fs = spelled_forms names (forms_of fs)
