-- The stack and the state that values stand for.
use Rattle.ql_forms.specs.View.{spelling_of, spellings_of}
use Rattle.std.specs.Prelude.{◌+◌, ltb, if◌then◌else◌, ℕ, Bool, true, false, List, [], ◌∷◌, Option, Some, None}
use Rattle.ql_forms.specs.Bytes.{Class, letter, digit, plus, minus, opening, mark}
use Rattle.ql_forms.specs.Spelled.{Forms, none, more}
use Rattle.ql_forms.specs.declared.form.Form.{Form as Value}
use Rattle.ql_read.specs.declared.ending.Whole.{Whole}
use Rattle.ql_base.specs.declared.refusal.FaultKind.TheVariants.{BadByte, TooDeep}
use Rattle.ql_read.specs.Scan.{first, of_symbol, of_sign, of_number, Stack, top, in_list, in_tail, past_tail, in_quote, depth, State, between, in_comment, in_atom, after_dot, bad}
use Rattle.ql_read.specs.declared.nesting.Frame.{Frame}
use Rattle.ql_read.specs.declared.nesting.Frame.TheVariants.{InList, InTail, PastTail, InQuote}
use Rattle.ql_read.specs.declared.nesting.Nesting.{Nesting}
use Rattle.ql_read.specs.declared.token.Token.{Token}
use Rattle.ql_read.specs.declared.token.Token.TheVariants.{Between, InComment, InSymbol, InSign, InNumber, AfterDot, Bad}

-- the forms in reverse, before the others
abbrev pub backward : List (List ℕ) → Forms → List Value → Forms
backward names fs [] = fs
backward names fs (x ∷ xs) = backward names (more (spelling_of names x) fs) xs

abbrev pub frame_on : List (List ℕ) → Stack → Frame → Stack
frame_on names k (InList at items) = in_list at (backward names none items.items) k
frame_on names k (InTail at items) = in_tail at (backward names none items.items) k
frame_on names k (PastTail at items tail) = past_tail at (backward names none items.items) (spelling_of names tail) k
frame_on names k (InQuote at) = in_quote at k

abbrev pub frames_on : List (List ℕ) → Stack → List Frame → Stack
frames_on names k [] = k
frames_on names k (f ∷ fs) = frames_on names (frame_on names k f) fs

abbrev pub stack_of : List (List ℕ) → List Frame → List Value → Stack
stack_of names frames forms = frames_on names (top (backward names none forms)) frames

-- what is open, with these names for the numbers in it
abbrev pub nested : List (List ℕ) → Nesting → Stack
nested names n = stack_of names n.frames.items n.top.items

abbrev pub state_of : Token → ℕ → Stack → State
state_of Between o k = between o k
state_of InComment o k = in_comment o k
state_of (InSymbol at letters) o k = in_atom o at (of_symbol letters.items) k
state_of (InSign at negative byte) o k = in_atom o at (of_sign negative byte) k
state_of (InNumber at number) o k = in_atom o at (of_number number.negative number.value) k
state_of AfterDot o k = after_dot o k
state_of (Bad at fault) o k = bad at fault

abbrev pub deeper_at : List (List ℕ) → ℕ → Frame → Stack → State
deeper_at names o f k = if ltb (depth k) 200 then between (o + 1) (frame_on names k f) else bad o TooDeep

abbrev pub is_past : Stack → Bool
is_past (past_tail at fs f k) = true
is_past _ = false

-- a form that begins with this byte, where one may
abbrev pub form_from : ℕ → Stack → ℕ → Class → State
form_from o k b letter = in_atom (o + 1) o (first b letter) k
form_from o k b digit = in_atom (o + 1) o (first b digit) k
form_from o k b plus = in_atom (o + 1) o (first b plus) k
form_from o k b minus = in_atom (o + 1) o (first b minus) k
form_from o k b opening = if ltb (depth k) 200 then between (o + 1) (in_list o none k) else bad o TooDeep
form_from o k b mark = if ltb (depth k) 200 then between (o + 1) (in_quote o k) else bad o TooDeep
form_from o k b c = bad o BadByte

-- the forms of a text that may end here
abbrev pub text_told : List (List ℕ) → Option Whole → Option Forms
text_told names None = None
text_told names (Some text) = Some (spellings_of names text.forms)
