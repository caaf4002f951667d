-- Forms by letters and the same forms by numbers, joined by a table of names.
use Rattle.std.specs.Prelude.{◌≡◌, ℕ, true, List, [], length, slice_index_or}
use Rattle.ql_base.specs.Names.{reserved, with_names}
use Rattle.ql_forms.specs.Form.{Atom, integer, symbol, Tail, proper, dotted, Form, atom, list, Forms, none, more, forms_below}
use Rattle.ql_forms.specs.Spelled as spelled
use Rattle.ql_forms.specs.Spelled.{symbols_in}

-- the letters of the symbol with this number
abbrev pub letters : List (List ℕ) → ℕ → List ℕ
letters names n = slice_index_or names n []

abbrev pub spelled_atom : List (List ℕ) → Atom → spelled.Atom
spelled_atom names (integer z) = spelled.integer z
spelled_atom names (symbol n) = spelled.symbol (letters names n)

abbrev pub spelled_tail : List (List ℕ) → Tail → spelled.Tail
spelled_tail names proper = spelled.proper
spelled_tail names (dotted a) = spelled.dotted (spelled_atom names a)

abbrev mutual
  -- a form with the letters of its symbols
  pub spelled_form : List (List ℕ) → Form → spelled.Form
  spelled_form names (atom at a) = spelled.atom at (spelled_atom names a)
  spelled_form names (list at fs t) = spelled.list at (spelled_forms names fs) (spelled_tail names t)

  pub spelled_forms : List (List ℕ) → Forms → spelled.Forms
  spelled_forms names none = spelled.none
  spelled_forms names (more f fs) = spelled.more (spelled_form names f) (spelled_forms names fs)

-- The names are the reserved words, and then the other symbols of what is spelled in the order in which they first
-- stand; the forms are what is spelled, with the number of each symbol among these names.
pub record Numbered (spelling : spelled.Forms) (names : List (List ℕ)) (forms : Forms) : Type 0 where
  pub in_order : names ≡ with_names reserved (symbols_in spelling)
  pub letters_are : spelled_forms names forms ≡ spelling
  pub below : forms_below (length names) forms ≡ true
