-- Functions with their places and their entries: these definitions serve proofs alone.
use Rattle.std.specs.Prelude.{ℕ, ◌==◌, if◌then◌else◌, List, [], ◌∷◌, Option, Some, None}
use Rattle.ql_expand.specs.Core as core
use Rattle.ql_expand.specs.declared.core_form.Function.{Function}
use Rattle.ql_code.specs.declared.code.FunEntry.{FunEntry}
use Rattle.ql_compile.specs.Compile.{Places}

-- the entry of the first function of this name, as far as there are both
abbrev pub entry_named : List Function → List FunEntry → ℕ → Option FunEntry
entry_named [] es n = None
entry_named (f ∷ fs) [] n = None
entry_named (f ∷ fs) (e ∷ es) n = if f.name == n then Some e else entry_named fs es n

-- functions with their places, as far as there are both
abbrev pub with_places : List core.Function → List ℕ → Places
with_places [] ns = []
with_places (f ∷ fs) [] = []
with_places (f ∷ fs) (n ∷ ns) = (f, n) ∷ with_places fs ns
