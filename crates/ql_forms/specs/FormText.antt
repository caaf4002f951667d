-- The one text that spells a form.
use Rattle.std.specs.Prelude.{◌≡◌, ◌≤◌, ◌<◌, ℕ, ◌+◌, true, false, List, [], ◌∷◌, ◌++◌, length, codes, FitsSigned}
use Rattle.std.specs.Int.{w64}
use Rattle.std.specs.Fmt.{signed_decimal}
use Rattle.ql_forms.specs.Bytes.{class, is_atom}
use Rattle.ql_forms.specs.Spelled.{Atom, integer, symbol, Tail, proper, dotted, Form, atom, list, Forms, none, more, is_nil}
use Rattle.ql_forms.specs.Spells.{is_numeric}

-- a decimal integer, or a symbol's name
abbrev pub atom_text : Atom → List ℕ
atom_text (integer z) = signed_decimal z
atom_text (symbol w) = w

-- a dot between two spaces, and the tail
abbrev pub tail_text : Tail → List ℕ
tail_text proper = []
tail_text (dotted a) = codes " . " ++ atom_text a

abbrev mutual
  pub form_text : Form → List ℕ
  form_text (atom at a) = atom_text a
  form_text (list at fs t) = codes "(" ++ items_text fs ++ tail_text t ++ codes ")"

  -- one space between items
  pub items_text : Forms → List ℕ
  items_text none = []
  items_text (more f fs) = form_text f ++ others_text fs

  pub others_text : Forms → List ℕ
  others_text none = []
  others_text (more f fs) = codes " " ++ form_text f ++ others_text fs

-- the text of each form, and a line feed after it
abbrev pub forms_text : Forms → List ℕ
forms_text none = []
forms_text (more f fs) = form_text f ++ codes "\n" ++ forms_text fs

abbrev mutual
  -- the form as if it stood at 0 with all its parts: forms alike up to offsets are equal so
  pub without_places : Form → Form
  without_places (atom at a) = atom 0 a
  without_places (list at fs t) = list 0 (all_without_places fs) t

  pub all_without_places : Forms → Forms
  all_without_places none = none
  all_without_places (more f fs) = more (without_places f) (all_without_places fs)

abbrev pub HasItem : Forms → Type 0
HasItem none = Prim.⊥
HasItem (more f fs) = Prim.Unit {0}

abbrev pub AreAtomBytes : List ℕ → Type 0
AreAtomBytes [] = Prim.Unit {0}
AreAtomBytes (b ∷ w) = (is_atom (class b) ≡ true) × AreAtomBytes w

-- an integer of 64 bits with a sign, or a symbol of 1 to 64 atom bytes that isn't a number
abbrev pub HasSpelling : Atom → Type 0
HasSpelling (integer z) = FitsSigned w64 z
HasSpelling (symbol w) = (0 < length w) × (length w ≤ 64) × AreAtomBytes w × (is_numeric w ≡ false)

-- the tail is none, or an atom with a spelling that isn't nil
abbrev pub IsTail : Tail → Type 0
IsTail proper = Prim.Unit {0}
IsTail (dotted a) = HasSpelling a × (is_nil a ≡ false)

abbrev mutual
  -- The form has a spelling with d levels open around it: its symbols have one, no list is empty or has the tail
  -- nil, and it is nested at most 200 deep.
  pub CanBeSpelled : ℕ → Form → Type 0
  CanBeSpelled d (atom at a) = HasSpelling a
  CanBeSpelled d (list at fs t) = (d < 200) × HasItem fs × AllCanBeSpelled (d + 1) fs × IsTail t

  pub AllCanBeSpelled : ℕ → Forms → Type 0
  AllCanBeSpelled d none = Prim.Unit {0}
  AllCanBeSpelled d (more f fs) = CanBeSpelled d f × AllCanBeSpelled d fs
