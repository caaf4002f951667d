-- What the tables of a check hold: these definitions serve proofs alone.
use Rattle.std.specs.Prelude.{◌≡◌, ℕ, List, [], ◌∷◌, Option, Some, None, option_map, if◌then◌else◌, is_some, length, map, slice_index_or}
use Rattle.ql_expand.specs.Core.{Binder}
use Rattle.ql_expand.specs.View.{binder_of}
use Rattle.ql_expand.specs.declared.core_form.VarName.{VarName}
use Rattle.ql_expand.specs.declared.core_form.VarName.TheVariants.{Sym, Hidden}
use Rattle.ql_scope.specs.Scope.{Head, is_among, offset_of, parameter_count}
use Rattle.ql_scope.specs.Stored.{has_name, binder_named, inside}
use Rattle.ql_scope.specs.declared.binder_stack.Above.{Above}
use Rattle.ql_scope.specs.declared.binder_stack.Innermost.{Innermost}

-- the offset of the innermost binder with this name
abbrev pub offset_named : List Binder → ℕ → Option ℕ
offset_named above w = option_map offset_of (binder_named above w)

-- the same binder's place, counted from the outermost, and its offset
abbrev pub innermost_named : List Binder → ℕ → Option Innermost
innermost_named [] w = None
innermost_named (b ∷ bs) w = if has_name w b then Some (record { place = length bs; at = offset_of b }) else innermost_named bs w

-- the binders of a row, from the outermost
abbrev pub binders_of_row : List Above → List Binder
binders_of_row row = map (λ a. binder_of a.binder) row

-- What a binder of this name hides: the innermost with its name among those outside of it.
abbrev pub Hides : List Binder → VarName → Option Innermost → Type 0
Hides outer (Sym n) hides = hides ≡ innermost_named outer n
Hides outer (Hidden n) hides = Unit {0}

-- Each binder of a row keeps what it hides.
abbrev pub KeepHidden : List Binder → List Above → Type 0
KeepHidden outer [] = Unit {0}
KeepHidden outer (a ∷ row) = Hides outer a.binder.name a.hides × KeepHidden (binder_of a.binder ∷ outer) row

-- The table has the innermost binder of each name in the row, which tells what they are once its last binders are gone.
pub record HasInnermost (row : List Above) (table : List (Option Innermost)) : Type 0 where
  pub innermost : (n : ℕ) → slice_index_or table n None ≡ innermost_named (inside (binders_of_row row) []) n
  pub kept : KeepHidden [] row

-- For each number, the parameters of the first function of that name, and whether it is that of a global.
pub record HasTables (functions : List Head) (globals : List ℕ) (parameters : List (Option ℕ)) (among : List (Option (Unit {0}))) : Type 0 where
  pub counted : (n : ℕ) → slice_index_or parameters n None ≡ parameter_count functions n
  pub marked : (n : ℕ) → is_some (slice_index_or among n None) ≡ is_among n globals
