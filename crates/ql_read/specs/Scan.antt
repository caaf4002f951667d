-- A text read byte by byte.
use Rattle.std.specs.Prelude.{ℕ, ◌+◌, ◌-◌, ◌*◌, ◌==◌, ltb, leb, Bool, true, false, if◌then◌else◌, List, [], ◌∷◌, ◌++◌, length, Option, Some, None}
use Rattle.ql_forms.specs.Bytes.{Class, blank, letter, digit, plus, minus, opening, closing, mark, semicolon, dot, other, class}
use Rattle.ql_forms.specs.Spelled.{Form, symbol, integer, list_form, quote_form, Forms, none, more, plain, with_tail, Atom, atom}
use Rattle.ql_forms.specs.Spells.{most, signed}
use Rattle.ql_base.specs.declared.refusal.FaultKind.{FaultKind}
use Rattle.ql_base.specs.declared.refusal.FaultKind.TheVariants.{BadByte, StrayClose, BadDot, BadNumber, LongName, TooDeep}

pub data Token : Type 0 where
  of_symbol : (letters : List ℕ) → Token
  of_sign : (negative : Bool) → (byte : ℕ) → Token
  of_number : (negative : Bool) → (value : ℕ) → Token

-- the token that a first byte begins
abbrev pub first : ℕ → Class → Token
first b digit = of_number false (b - 48)
first b plus = of_sign false b
first b minus = of_sign true b
first b c = of_symbol (b ∷ [])

abbrev pub number_or_none : Bool → ℕ → Option Token
number_or_none negative v = if leb v (most negative) then Some (of_number negative v) else None

-- the token with one more atom byte
abbrev pub next : Token → ℕ → Class → Option Token
next (of_symbol w) b c = if ltb (length w) 64 then Some (of_symbol (w ++ b ∷ [])) else None
next (of_sign negative a) b digit = Some (of_number negative (b - 48))
next (of_sign negative a) b c = Some (of_symbol (a ∷ b ∷ []))
next (of_number negative v) b digit = number_or_none negative (10 * v + (b - 48))
next (of_number negative v) b c = None

abbrev pub token_atom : Token → Atom
token_atom (of_symbol w) = symbol w
token_atom (of_sign negative b) = symbol (b ∷ [])
token_atom (of_number negative v) = integer (signed negative v)

abbrev pub token_form : ℕ → Token → Form
token_form at w = atom at (token_atom w)

abbrev pub token_kind : Token → FaultKind
token_kind (of_number negative v) = BadNumber
token_kind _ = LongName

-- what is open, the innermost first: the forms so far are in reverse
pub data Stack : Type 0 where
  top : Forms → Stack
  in_list : (at : ℕ) → Forms → Stack → Stack
  in_tail : (at : ℕ) → Forms → Stack → Stack
  past_tail : (at : ℕ) → Forms → Form → Stack → Stack
  in_quote : (at : ℕ) → Stack → Stack

abbrev pub depth : Stack → ℕ
depth (top fs) = 0
depth (in_list at fs k) = depth k + 1
depth (in_tail at fs k) = depth k + 1
depth (past_tail at fs f k) = depth k + 1
depth (in_quote at k) = depth k + 1

-- the forms of the first in reverse, then the others
abbrev pub onto : Forms → Forms → Forms
onto none fs = fs
onto (more f gs) fs = onto gs (more f fs)

-- a form has ended
abbrev pub push : Form → Stack → Stack
push f (top fs) = top (more f fs)
push f (in_list at fs k) = in_list at (more f fs) k
push f (in_tail at fs k) = past_tail at fs f k
push f (past_tail at fs g k) = past_tail at fs g k
push f (in_quote at k) = push (quote_form at f) k

pub data State : Type 0 where
  between : (o : ℕ) → Stack → State
  in_comment : (o : ℕ) → Stack → State
  in_atom : (o at : ℕ) → Token → Stack → State
  after_dot : (o : ℕ) → Stack → State
  bad : (at : ℕ) → FaultKind → State

abbrev pub close : ℕ → Stack → State
close o (top fs) = bad o StrayClose
close o (in_list at fs k) = between (o + 1) (push (list_form at (onto fs none) plain) k)
close o (in_tail at fs k) = bad o BadDot
close o (past_tail at fs f k) = between (o + 1) (push (list_form at (onto fs none) (with_tail f)) k)
close o (in_quote at k) = bad o StrayClose

abbrev pub put_dot : ℕ → Stack → State
put_dot o (in_list at (more f fs) k) = after_dot (o + 1) (in_tail at (more f fs) k)
put_dot o k = bad o BadDot

-- a form begins, where one may
abbrev pub form_in : ℕ → Stack → State → State
form_in o (past_tail at fs f k) s = bad o BadDot
form_in o k s = s

abbrev pub step_between : ℕ → Stack → ℕ → Class → State
step_between o k b blank = between (o + 1) k
step_between o k b letter = form_in o k (in_atom (o + 1) o (first b letter) k)
step_between o k b digit = form_in o k (in_atom (o + 1) o (first b digit) k)
step_between o k b plus = form_in o k (in_atom (o + 1) o (first b plus) k)
step_between o k b minus = form_in o k (in_atom (o + 1) o (first b minus) k)
step_between o k b opening = form_in o k (if ltb (depth k) 200 then between (o + 1) (in_list o none k) else bad o TooDeep)
step_between o k b closing = close o k
step_between o k b mark = form_in o k (if ltb (depth k) 200 then between (o + 1) (in_quote o k) else bad o TooDeep)
step_between o k b semicolon = in_comment (o + 1) k
step_between o k b dot = put_dot o k
step_between o k b other = bad o BadByte

abbrev pub atom_or_bad : ℕ → ℕ → Token → Stack → Option Token → State
atom_or_bad o at w k (Some v) = in_atom (o + 1) at v k
atom_or_bad o at w k None = bad o (token_kind w)

abbrev pub step_atom : ℕ → ℕ → Token → Stack → ℕ → Class → State
step_atom o at w k b letter = atom_or_bad o at w k (next w b letter)
step_atom o at w k b digit = atom_or_bad o at w k (next w b digit)
step_atom o at w k b plus = atom_or_bad o at w k (next w b plus)
step_atom o at w k b minus = atom_or_bad o at w k (next w b minus)
step_atom o at w k b dot = bad o BadDot
step_atom o at w k b c = step_between o (push (token_form at w) k) b c

abbrev pub step_dot : ℕ → Stack → ℕ → Class → State
step_dot o k b blank = step_between o k b blank
step_dot o k b opening = step_between o k b opening
step_dot o k b mark = step_between o k b mark
step_dot o k b semicolon = step_between o k b semicolon
step_dot o k b other = bad o BadByte
step_dot o k b c = bad o BadDot

abbrev pub step : State → ℕ → State
step (between o k) b = step_between o k b (class b)
step (in_comment o k) b = if b == 10 then between (o + 1) k else in_comment (o + 1) k
step (in_atom o at w k) b = step_atom o at w k b (class b)
step (after_dot o k) b = step_dot o k b (class b)
step (bad at kind) b = bad at kind

abbrev pub scan : State → List ℕ → State
scan s [] = s
scan s (b ∷ bs) = scan (step s b) bs

abbrev pub start : State
start = between 0 (top none)

abbrev pub whole : Stack → Option Forms
whole (top fs) = Some (onto fs none)
whole _ = None

-- the forms of a text that may end here
abbrev pub finish : State → Option Forms
finish (between o k) = whole k
finish (in_comment o k) = whole k
finish (in_atom o at w k) = whole (push (token_form at w) k)
finish (after_dot o k) = None
finish (bad at kind) = None

abbrev pub fault_of : State → Option (ℕ × FaultKind)
fault_of (bad at kind) = Some (at, kind)
fault_of _ = None

-- an item stands before
abbrev pub has_any : Forms → Bool
has_any none = false
has_any (more f fs) = true
