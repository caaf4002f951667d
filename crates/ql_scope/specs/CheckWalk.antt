-- How far a check of a program has come: these definitions serve proofs alone.
use Rattle.std.specs.Prelude.{◌≡◌, ℕ, List, [], ◌∷◌, ◌++◌, Option, if◌then◌else◌}
use Rattle.ql_base.specs.Refusal.{first_of}
use Rattle.ql_base.specs.declared.refusal.Fault.{Fault}
use Rattle.ql_expand.specs.Core.{Binder, binder, named}
use Rattle.ql_scope.specs.Scope.{Head, Place, names_at}
use Rattle.ql_scope.specs.Stored.{inside, is_binder_among}
use Rattle.ql_scope.specs.declared.variable.Variable.{Variable}

-- what is seen from the place at hand
pub record Seen : Type 0 where
  -- of the whole program
  pub functions : List Head
  pub globals : List ℕ
  -- the binders above, from the outermost
  pub row : List Binder

-- what is seen, and what was found so far
pub record Walk : Type 0 where
  pub seen : Seen
  pub first : Option Fault
  pub stored : List Binder

-- the place at hand
abbrev pub place_in : Seen → Place
place_in s = record { functions = s.functions; globals = s.globals; variables = names_at s.row }

-- the binders above, from the innermost
abbrev pub above : Seen → List Binder
above s = inside s.row []

-- what is seen under these binders too
abbrev pub seen_under : List Binder → Seen → Seen
seen_under bs s = record s { row = s.row ++ bs }

-- these binders with one more, where it is new
abbrev pub with_binder : List Binder → Binder → List Binder
with_binder bs b = if is_binder_among b bs then bs else bs ++ b ∷ []

-- these binders with more of them in turn
abbrev pub with_binders : List Binder → List Binder → List Binder
with_binders bs [] = bs
with_binders bs (c ∷ cs) = with_binders (with_binder bs c) cs

-- the binder of a variable
abbrev pub variable_of : Variable → Binder
variable_of v = binder v.at (named v.name)

-- A stretch of the way adds these faults and these stored variables, and leads back to where it began.
pub record Adds (old new : Walk) (faults : Seen → List Fault) (binders : Seen → List Binder) : Type 0 where
  pub first : new.first ≡ first_of old.first (faults old.seen)
  pub stored : new.stored ≡ with_binders old.stored (binders old.seen)
  pub seen : new.seen ≡ old.seen
