-- Sets of names, and walks that gather them: these definitions serve proofs alone.
use Rattle.std.specs.Prelude.{◌≡◌, ℕ, Bool, not, ◌&&◌, ◌||◌, if◌then◌else◌, List, [], ◌∷◌, ◌++◌}
use Rattle.ql_expand.specs.Core.{Name, named, hidden, Binder}
use Rattle.ql_expand.specs.View.{name_of}
use Rattle.ql_meaning.specs.Context.{name_of as called}
use Rattle.ql_compile.specs.Compile.{is_name_among}
use Rattle.ql_compile.specs.declared.captured.Taken.{Taken}
use Rattle.ql_compile.specs.declared.names.Key.{Key}

-- the name that a key stands for
abbrev pub named_by : Key → Name
named_by k = if k.hidden then hidden k.number else named k.number

-- these names with one more, where it is new
abbrev pub with_name : List Name → Name → List Name
with_name xs x = if is_name_among x xs then xs else xs ++ x ∷ []

-- the names that are bound, and those that were found so far
pub record Gathered : Type 0 where
  pub bound : List Name
  pub found : List Name

-- Over a stretch of a walk those of these names are found that aren't bound, and the bound ones stay.
pub record Finds (old new : Gathered) (names : List Name) : Type 0 where
  pub bound : new.bound ≡ old.bound
  pub found : (x : Name) → is_name_among x new.found ≡ (is_name_among x old.found || (not (is_name_among x old.bound) && is_name_among x names))

-- these names with those of binders in turn
abbrev pub with_names : List Name → List Binder → List Name
with_names xs [] = xs
with_names xs (b ∷ bs) = with_names (with_name xs (called b)) bs

-- a captured variable: its slot in the frame around, its name, and whether it lives in a box
abbrev pub caught_of : Taken → ℕ × (Name × Bool)
caught_of t = (t.slot, (name_of t.name, t.stored))
