-- Words, and the slots that hold them.
use Rattle.std.specs.Prelude.{ℕ, ◌==◌, Bool, true, false, if◌then◌else◌, ℤ, pos, negsuc, List, [], ◌∷◌, Option, Some, None}
pub use Rattle.ql_world.specs.declared.word.Word.{Word}
pub use Rattle.ql_world.specs.declared.word.Word.TheVariants.{Int as integer, Sym as symbol, Pair as pair, Fun as closure, Proc as process_closure, Fut as future}
pub use Rattle.ql_world.specs.declared.word.Slot.{Slot}
pub use Rattle.ql_world.specs.declared.word.Slot.TheVariants.{Val as plain, Cell as boxed}

-- the words that mean themselves, by their numbers among the reserved words
abbrev pub nil : Word
nil = symbol 0

abbrev pub truth : Word
truth = symbol 1

abbrev pub eager_word : Word
eager_word = symbol 3

abbrev pub is_symbol : ℕ → Word → Bool
is_symbol n (symbol m) = n == m
is_symbol n _ = false

abbrev pub is_nil : Word → Bool
is_nil = is_symbol 0

abbrev pub is_eager : Word → Bool
is_eager = is_symbol 3

abbrev pub of_bool : Bool → Word
of_bool b = if b then truth else nil

abbrev pub same_integer : ℤ → ℤ → Bool
same_integer (pos m) (pos n) = m == n
same_integer (negsuc m) (negsuc n) = m == n
same_integer _ _ = false

-- integers and symbols by value, all else by identity
abbrev pub identical : Word → Word → Bool
identical (integer y) (integer z) = same_integer y z
identical (symbol m) (symbol n) = m == n
identical (pair m) (pair n) = m == n
identical (closure m) (closure n) = m == n
identical (process_closure m) (process_closure n) = m == n
identical (future m) (future n) = m == n
identical _ _ = false

-- the leftmost future among these words
abbrev pub first_future : List Word → Option ℕ
first_future [] = None
first_future (future f ∷ ws) = Some f
first_future (_ ∷ ws) = first_future ws

-- the words with this one in place of the leftmost future
abbrev pub with_value : Word → List Word → List Word
with_value v [] = []
with_value v (future f ∷ ws) = v ∷ ws
with_value v (w ∷ ws) = w ∷ with_value v ws

abbrev pub is_future : Word → Bool
is_future (future f) = true
is_future _ = false

-- the number of a pair
abbrev pub pair_in : Word → Option ℕ
pair_in (pair i) = Some i
pair_in _ = None
