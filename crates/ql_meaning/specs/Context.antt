-- What the forms of a program speak of: its quoted data, its functions, globals and stored variables.
use Rattle.std.specs.Prelude.{ℕ, ◌+◌, ◌==◌, nat_lt, Bool, false, if◌then◌else◌, List, [], ◌∷◌, ◌++◌, length, map, Option, Some, None, option_map}
use Rattle.ql_forms.specs.Form as form
use Rattle.ql_forms.specs.Form.{Atom, Tail, proper, dotted, Form, atom, list, Forms, none, more}
use Rattle.ql_expand.specs.Core.{Name, named, hidden, Binder, binder, Core, core, Node, constant, variable, setq, conditional, progn, binding, primitive, print, call, funcall, lambda, qlet, qlambda, catch, qcatch, throw, protect, defvar, Cores, no_cores, and_core, Bounds, no_bounds, and_bound, Function, function, Program, program}
use Rattle.ql_scope.specs.Stored.{stored_binders, is_binder_among}
use Rattle.ql_world.specs.Word.{nil}
use Rattle.ql_world.specs.declared.word.Word.{Word}
use Rattle.ql_world.specs.declared.word.Word.TheVariants.{Int as integer, Sym as symbol, Pair as pair}

abbrev pub or_zero : Option ℕ → ℕ
or_zero None = 0
or_zero (Some n) = n

-- the place of a number in a list
abbrev pub place_of : List ℕ → ℕ → Option ℕ
place_of [] n = None
place_of (m ∷ ms) n = if m == n then Some 0 else option_map (λ i. i + 1) (place_of ms n)

abbrev pub Pairs : Type 0
Pairs = List (Word × Word)

abbrev pub with_pair : Word → Pairs × Word → Pairs × Word
with_pair a d = (d.0 ++ (a, d.1) ∷ [], pair (length d.0))

-- the pairs of the first, then those of the second, then the pair of both
abbrev pub pair_after : (Pairs → Pairs × Word) → (Pairs → Pairs × Word) → Pairs → Pairs × Word
pair_after first second ps = with_pair (first ps).1 (second (first ps).0)

abbrev pub atom_word : Atom → Word
atom_word (form.integer z) = integer z
atom_word (form.symbol n) = symbol n

abbrev pub tail_word : Tail → Word
tail_word proper = nil
tail_word (dotted a) = atom_word a

abbrev mutual
  -- the word of a datum, and the pairs with its own after those before
  pub quoted : Form → Pairs → Pairs × Word
  quoted (atom at a) ps = (ps, atom_word a)
  quoted (list at fs t) ps = quoted_items fs t ps

  pub quoted_items : Forms → Tail → Pairs → Pairs × Word
  quoted_items none t ps = (ps, tail_word t)
  quoted_items (more f fs) t ps = pair_after (quoted f) (quoted_items fs t) ps

-- a datum that is a list, with its offset
abbrev pub Datum : Type 0
Datum = ℕ × Form

abbrev pub datum : Form → List Datum
datum (atom at a) = []
datum (list at fs t) = (at, list at fs t) ∷ []

abbrev mutual
  pub data_in : Core → List Datum
  data_in (core at n) = data_in_node n

  pub data_in_node : Node → List Datum
  data_in_node (constant f) = datum f
  data_in_node (variable x) = []
  data_in_node (setq x o c) = data_in c
  data_in_node (conditional a b c) = data_in a ++ (data_in b ++ data_in c)
  data_in_node (progn cs) = data_in_cores cs
  data_in_node (binding bs c) = data_in_bounds bs ++ data_in c
  data_in_node (primitive o cs) = data_in_cores cs
  data_in_node (print c) = data_in c
  data_in_node (call f o cs) = data_in_cores cs
  data_in_node (funcall i c cs) = data_in c ++ data_in_cores cs
  data_in_node (lambda ps c) = data_in c
  data_in_node (qlet p bs c) = data_in p ++ (data_in_bounds bs ++ data_in c)
  data_in_node (qlambda p ps c) = data_in p ++ data_in c
  data_in_node (catch a b) = data_in a ++ data_in b
  data_in_node (qcatch a b) = data_in a ++ data_in b
  data_in_node (throw a b) = data_in a ++ data_in b
  data_in_node (protect a b) = data_in a ++ data_in b
  data_in_node (defvar l o c) = data_in c

  pub data_in_cores : Cores → List Datum
  data_in_cores no_cores = []
  data_in_cores (and_core c cs) = data_in c ++ data_in_cores cs

  pub data_in_bounds : Bounds → List Datum
  data_in_bounds no_bounds = []
  data_in_bounds (and_bound b c bs) = data_in c ++ data_in_bounds bs

abbrev pub data_in_functions : List Function → List Datum
data_in_functions [] = []
data_in_functions (function at l o ps c ∷ fs) = data_in c ++ data_in_functions fs

-- rising by offset
abbrev pub with_datum : Datum → List Datum → List Datum
with_datum d [] = d ∷ []
with_datum d (e ∷ es) = if nat_lt d.0 e.0 then d ∷ (e ∷ es) else e ∷ with_datum d es

abbrev pub in_source_order : List Datum → List Datum
in_source_order [] = []
in_source_order (d ∷ ds) = with_datum d (in_source_order ds)

abbrev pub all_data : Program → List Datum
all_data (program fs globals cs) = in_source_order (data_in_functions fs ++ data_in_cores cs)

-- the words of data by their offsets, and all their pairs
abbrev pub Quotes : Type 0
Quotes = Pairs × List (ℕ × Word)

abbrev pub with_quote : ℕ → Word → Quotes → Quotes
with_quote at x q = (q.0, (at, x) ∷ q.1)

abbrev pub quotes_after : List Datum → Pairs → Quotes
quotes_after [] ps = (ps, [])
quotes_after (d ∷ ds) ps = with_quote d.0 (quoted d.1 ps).1 (quotes_after ds (quoted d.1 ps).0)

abbrev pub word_at : List (ℕ × Word) → ℕ → Word
word_at [] at = nil
word_at (q ∷ qs) at = if q.0 == at then q.1 else word_at qs at

pub record Context : Type 0 where
  pub functions : List Function
  pub globals : List ℕ
  -- the binders whose variables live in boxes
  pub stored : List Binder
  pub quotes : List (ℕ × Word)

abbrev pub functions_of : Program → List Function
functions_of (program fs globals cs) = fs

abbrev pub globals_of : Program → List ℕ
globals_of (program fs globals cs) = globals

abbrev pub tops_of : Program → Cores
tops_of (program fs globals cs) = cs

abbrev pub quotes_of : Program → Quotes
quotes_of p = quotes_after (all_data p) []

abbrev pub context_of : Program → Context
context_of p = record {
  functions = functions_of p;
  globals = globals_of p;
  stored = stored_binders p;
  quotes = (quotes_of p).1;
}

abbrev pub offset_of : Core → ℕ
offset_of (core at n) = at

abbrev pub same_name : Name → Name → Bool
same_name (named v) (named w) = v == w
same_name (hidden m) (hidden n) = m == n
same_name _ _ = false

abbrev pub name_of : Binder → Name
name_of (binder at x) = x

abbrev pub is_called : ℕ → Function → Bool
is_called w (function at l o ps c) = l == w

abbrev pub parameters_of : Function → List Binder
parameters_of (function at l o ps c) = ps

abbrev pub body_of : Function → Core
body_of (function at l o ps c) = c

abbrev pub function_called : List Function → ℕ → Option Function
function_called [] w = None
function_called (f ∷ fs) w = if is_called w f then Some f else function_called fs w

module _ (x : Context) where
  -- the word of a constant
  abbrev pub constant_word : Form → Word
  constant_word (atom at a) = atom_word a
  constant_word (list at fs t) = word_at x.quotes at

  -- which of these variables live in boxes
  abbrev pub stored_among : List Binder → List Bool
  stored_among bs = map (λ b. is_binder_among b x.stored) bs
