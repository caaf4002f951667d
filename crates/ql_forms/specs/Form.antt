-- Data, with the numbers of their symbols in a table of names, each with the offset of its first byte.
use Rattle.std.specs.Prelude.{ℕ, ◌+◌, ℤ, Bool, true, false, ◌==◌, ◌&&◌, nat_lt, if◌then◌else◌, Option, Some, None}

pub data Atom : Type 0 where
  integer : ℤ → Atom
  symbol : (number : ℕ) → Atom

-- what stands after the last item of a list: nothing, or a dot and an atom
pub data Tail : Type 0 where
  proper : Tail
  dotted : Atom → Tail

mutual
  pub data Form : Type 0 where
    atom : (at : ℕ) → Atom → Form
    list : (at : ℕ) → Forms → Tail → Form

  pub data Forms : Type 0 where
    none : Forms
    more : Form → Forms → Forms

-- Nil is the first reserved word.
abbrev pub nil : Atom
nil = symbol 0

abbrev pub is_nil : Atom → Bool
is_nil (integer z) = false
is_nil (symbol n) = n == 0

-- the offset of a form
abbrev pub place_of : Form → ℕ
place_of (atom at a) = at
place_of (list at fs t) = at

abbrev pub atom_below : ℕ → Atom → Bool
atom_below count (integer z) = true
atom_below count (symbol n) = nat_lt n count

abbrev pub tail_below : ℕ → Tail → Bool
tail_below count proper = true
tail_below count (dotted a) = atom_below count a

abbrev mutual
  -- whether each number of a symbol is below this count of names
  pub form_below : ℕ → Form → Bool
  form_below count (atom at a) = atom_below count a
  form_below count (list at fs t) = forms_below count fs && tail_below count t

  pub forms_below : ℕ → Forms → Bool
  forms_below count none = true
  forms_below count (more f fs) = form_below count f && forms_below count fs

abbrev pub is_atom : Form → Bool
is_atom (atom at a) = true
is_atom (list at fs t) = false

-- the offset and the number of a symbol
abbrev pub symbol_in : Form → Option (ℕ × ℕ)
symbol_in (atom at (symbol n)) = Some (at, n)
symbol_in _ = None

-- the items of a proper list
abbrev pub proper_items : Form → Option Forms
proper_items (list at fs proper) = Some fs
proper_items _ = None

-- the symbol at the head of a proper list, and the forms after it
abbrev pub operation_in : Form → Option ((ℕ × ℕ) × Forms)
operation_in (list at (more (atom o (symbol n)) parts) proper) = Some ((o, n), parts)
operation_in _ = None

-- the items of a proper list, which are none for nil
abbrev pub items_of : Form → Option Forms
items_of (list at fs proper) = Some fs
items_of (atom at a) = if is_nil a then Some none else None
items_of _ = None

-- how many there are
abbrev pub count : Forms → ℕ
count none = 0
count (more f fs) = count fs + 1
