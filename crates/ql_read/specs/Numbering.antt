-- The table of names while a text is read.
use Rattle.std.specs.Prelude.{◌≡◌, ℕ, List, []}
use Rattle.ql_base.specs.Names.{reserved, with_names}
use Rattle.ql_forms.specs.Bytes.{Class, letter, digit, plus, minus, dot, class}
use Rattle.ql_forms.specs.Spelled.{none, letters_of, symbols_of, symbols_in}
use Rattle.ql_read.specs.Scan.{token_atom, Stack, top, in_list, in_tail, past_tail, in_quote, onto, State, between, in_comment, in_atom, after_dot, bad}

-- The later table has these names, and then those of some more texts that were new.
pub record GoesOn (names later : List (List ℕ)) : Type 0 where
  pub more : List (List ℕ)
  pub is : later ≡ with_names names more

-- the reserved words, and the symbols of the forms so far, in the order in which they first stand
abbrev pub stack_names : Stack → List (List ℕ)
stack_names (top fs) = with_names reserved (symbols_in (onto fs none))
stack_names (in_list at fs k) = with_names (stack_names k) (symbols_in (onto fs none))
stack_names (in_tail at fs k) = with_names (stack_names k) (symbols_in (onto fs none))
stack_names (past_tail at fs f k) = with_names (with_names (stack_names k) (symbols_in (onto fs none))) (symbols_of f)
stack_names (in_quote at k) = stack_names k

-- A symbol gets its number when it ends.
abbrev pub state_names : State → List (List ℕ)
state_names (between o k) = stack_names k
state_names (in_comment o k) = stack_names k
state_names (in_atom o at w k) = stack_names k
state_names (after_dot o k) = stack_names k
state_names (bad at kind) = reserved

-- the symbol that a text ends in
abbrev pub pending : State → List (List ℕ)
pending (in_atom o at w k) = letters_of (token_atom w)
pending _ = []

-- what a byte of this class ends
abbrev pub ended_by : Class → List (List ℕ) → List (List ℕ)
ended_by letter ws = []
ended_by digit ws = []
ended_by plus ws = []
ended_by minus ws = []
ended_by dot ws = []
ended_by _ ws = ws

-- the symbol that this byte ends
abbrev pub ended : State → ℕ → List (List ℕ)
ended s b = ended_by (class b) (pending s)
