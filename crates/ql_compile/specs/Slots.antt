-- What a frame's rows and its map hold: these definitions serve proofs alone.
use Rattle.std.specs.Prelude.{◌≡◌, ◌==◌, ◌+◌, ◌*◌, ℕ, Bool, List, [], ◌∷◌, Option, Some, None, option_map}
use Rattle.std.specs.Map.{lookup}
use Rattle.ql_expand.specs.Core.{Name, named, hidden}
use Rattle.ql_expand.specs.View.{name_of}
use Rattle.ql_expand.specs.declared.core_form.VarName.{VarName}
use Rattle.ql_compile.specs.Compile.{Scope, find_in}
use Rattle.ql_compile.specs.declared.frame.Row.{Row}
use Rattle.ql_compile.specs.declared.frame.Place.{Place}

-- a name as a number
abbrev pub key_of : Name → ℕ
key_of (named v) = 2 * v
key_of (hidden n) = 2 * n + 1

abbrev pub variable_of : Option (VarName × Bool) → Option (Name × Bool)
variable_of v = option_map (λ x. (name_of x.0, x.1)) v

-- the slots of these rows, the last one first, on top of others
abbrev pub stacked : List Row → Scope → Scope
stacked [] below = below
stacked (r ∷ rs) below = stacked rs (variable_of r.variable ∷ below)

abbrev pub place_told : Option Place → Option (ℕ × Bool)
place_told p = option_map (λ x. (x.slot, x.stored)) p

-- what a map has for a key
abbrev pub place_at : List (ℕ × Place) → ℕ → Option Place
place_at entries key = lookup (λ k. key == k) entries

-- What a variable hides: the last one of its name among those below.
abbrev pub Hides : Scope → Option (VarName × Bool) → Option Place → Type 0
Hides below None hides = Unit {0}
Hides below (Some v) hides = place_told hides ≡ find_in below (name_of v.0)

-- Each row keeps what its variable hides.
abbrev pub KeepHidden : Scope → List Row → Type 0
KeepHidden below [] = Unit {0}
KeepHidden below (r ∷ rs) = Hides below r.variable r.hides × KeepHidden (variable_of r.variable ∷ below) rs

-- The map has the last variable of each name, and the rows tell what it was before each of them.
pub record HasPlaces (rows : List Row) (entries : List (ℕ × Place)) : Type 0 where
  pub places : (x : Name) → place_told (place_at entries (key_of x)) ≡ find_in (stacked rows []) x
  pub kept : KeepHidden [] rows
