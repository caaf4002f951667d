-- Programs that are in scope.
use Rattle.std.specs.Prelude.{◌≡◌, ℕ, ◌==◌, ◌&&◌, ◌||◌, Bool, false, List, [], ◌∷◌, length, None}
use Rattle.ql_forms.specs.Form.{Forms}
use Rattle.ql_expand.specs.Core.{Program, binder, named}
use Rattle.ql_expand.specs.ExpandFault.{expand_fault}
use Rattle.ql_expand.specs.Expands.{ExpandsTo}
use Rattle.ql_scope.specs.Scope.{InScope}
use Rattle.ql_scope.specs.Stored.{is_stored}
use Rattle.ql_scope.specs.declared.variable.Variable.{Variable}

-- some forms without a fault expand to the program, in a source with so many names
pub record IsExpanded (p : Program) (count : ℕ) : Type 0 where
  pub names : List (List ℕ)
  pub forms : Forms
  pub expands : ExpandsTo forms p
  pub no_fault : expand_fault names forms ≡ None
  pub counted : length names ≡ count

-- whether the variable with this offset and this number is in the table
abbrev pub is_listed : List Variable → (at number : ℕ) → Bool
is_listed [] at n = false
is_listed (v ∷ vs) at n = (at == v.at && n == v.name) || is_listed vs at n

-- The variables in the table are those of the program that some `setq` names.
abbrev pub HasStored : Program → List Variable → Type 0
HasStored p vs = (at n : ℕ) → is_listed vs at n ≡ is_stored p (binder at (named n))

-- The program comes of forms without a fault, nothing is wrong with the names in it, and its stored variables are those
-- in the table.
pub record HasScope (p : Program) (count : ℕ) (table : List Variable) : Type 0 where
  pub expanded : IsExpanded p count
  pub in_scope : InScope p
  pub stored : HasStored p table
