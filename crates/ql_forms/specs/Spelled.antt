-- Forms as a text spells them: with the letters of their symbols, each with the offset of its first byte.
use Rattle.std.specs.Prelude.{ℕ, Bool, false, if◌then◌else◌, ℤ, List, [], ◌∷◌, ◌++◌, codes}
use Rattle.std.specs.Str.{bytes_eq}

pub data Atom : Type 0 where
  integer : ℤ → Atom
  symbol : (letters : List ℕ) → Atom

-- what stands after the last item of a list: nothing, or a dot and an atom
pub data Tail : Type 0 where
  proper : Tail
  dotted : Atom → Tail

mutual
  pub data Form : Type 0 where
    atom : (at : ℕ) → Atom → Form
    list : (at : ℕ) → Forms → Tail → Form

  pub data Forms : Type 0 where
    none : Forms
    more : Form → Forms → Forms

abbrev pub nil : Atom
nil = symbol (codes "nil")

abbrev pub is_nil : Atom → Bool
is_nil (integer z) = false
is_nil (symbol w) = bytes_eq w (codes "nil")

abbrev pub joined : Forms → Forms → Forms
joined none gs = gs
joined (more f fs) gs = more f (joined fs gs)

-- how a text ends a list: at once, or with a dot and a form
pub data Ending : Type 0 where
  plain : Ending
  with_tail : Form → Ending

abbrev pub tail_of : Atom → Tail
tail_of a = if is_nil a then proper else dotted a

-- Items with a last form as their tail: nil makes a proper list, and a list is joined.
abbrev pub with_last : ℕ → Forms → Form → Form
with_last at fs (atom o a) = list at fs (tail_of a)
with_last at fs (list o gs t) = list at (joined fs gs) t

-- the form that a pair of parentheses makes
abbrev pub list_form : ℕ → Forms → Ending → Form
list_form at none e = atom at nil
list_form at (more f fs) plain = list at (more f fs) proper
list_form at (more f fs) (with_tail g) = with_last at (more f fs) g

-- the form that a quote mark makes, with two items at the offset of the mark
abbrev pub quote_form : ℕ → Form → Form
quote_form at f = list at (more (atom at (symbol (codes "quote"))) (more f none)) proper

abbrev pub letters_of : Atom → List (List ℕ)
letters_of (integer z) = []
letters_of (symbol w) = w ∷ []

abbrev pub letters_in_tail : Tail → List (List ℕ)
letters_in_tail proper = []
letters_in_tail (dotted a) = letters_of a

abbrev mutual
  -- the letters of the symbols, in the order in which they stand in a text
  pub symbols_of : Form → List (List ℕ)
  symbols_of (atom at a) = letters_of a
  symbols_of (list at fs t) = symbols_in fs ++ letters_in_tail t

  pub symbols_in : Forms → List (List ℕ)
  symbols_in none = []
  symbols_in (more f fs) = symbols_of f ++ symbols_in fs
