-- The offsets of instructions, and how they are counted: these definitions serve proofs alone.
use Rattle.std.specs.Prelude.{ℕ, ◌+◌, nat_lt, true, false, if◌then◌else◌, List, [], ◌∷◌, ◌++◌, Option, Some, None}
use Rattle.ql_base.specs.declared.numbers.Offset.{Offset}
use Rattle.ql_expand.specs.Core as core
use Rattle.ql_expand.specs.Core.{Core, Node, constant, variable, setq, conditional, progn, binding, primitive, lambda, defvar, Cores, no_cores, and_core, Bounds, no_bounds, and_bound, Function, function, Program, program}
use Rattle.ql_meaning.specs.Context.{offset_of}
use Rattle.ql_compile.specs.declared.measure.Meter.{Meter}

-- The offsets of the instructions of a core form, which don't depend on the frame and on where the code stands.
abbrev mutual
  pub offsets_of : Core → List ℕ
  offsets_of (core.core at n) = offsets_of_node at n

  pub offsets_of_node : ℕ → Node → List ℕ
  offsets_of_node at (constant f) = at ∷ []
  offsets_of_node at (variable y) = at ∷ []
  offsets_of_node at (setq y o c) = offsets_of c ++ at ∷ []
  offsets_of_node at (conditional a b c) = offsets_of a ++ at ∷ (offsets_of b ++ at ∷ offsets_of c)
  offsets_of_node at (progn cs) = offsets_of_forms at cs
  offsets_of_node at (binding bs c) = offsets_of_values bs ++ at ∷ (offsets_of c ++ at ∷ [])
  offsets_of_node at (primitive o cs) = offsets_of_cores cs ++ at ∷ []
  offsets_of_node at (core.print c) = offsets_of c ++ at ∷ []
  offsets_of_node at (core.call f o cs) = offsets_of_cores cs ++ at ∷ []
  offsets_of_node at (core.funcall true c cs) = offsets_of c ++ (offsets_of_cores cs ++ at ∷ [])
  offsets_of_node at (core.funcall false c cs) = offsets_of c ++ (offsets_of_cores cs ++ at ∷ (at ∷ []))
  offsets_of_node at (lambda ps c) = at ∷ (offsets_of c ++ at ∷ [])
  offsets_of_node at (core.qlet p bs c) = offsets_of p ++ at ∷ (offsets_of_joined bs ++ at ∷ (at ∷ (at ∷ (offsets_of c ++ at ∷ []))))
  offsets_of_node at (core.qlambda p ps c) = offsets_of p ++ at ∷ (offsets_of c ++ at ∷ [])
  offsets_of_node at (core.catch a b) = offsets_of a ++ at ∷ (offsets_of b ++ at ∷ [])
  offsets_of_node at (core.qcatch a b) = offsets_of a ++ at ∷ (offsets_of b ++ at ∷ [])
  offsets_of_node at (core.throw a b) = offsets_of a ++ (offsets_of b ++ at ∷ [])
  offsets_of_node at (core.protect a b) = at ∷ (offsets_of a ++ at ∷ (offsets_of b ++ at ∷ []))
  offsets_of_node at (defvar l o c) = offsets_of c ++ at ∷ []

  pub offsets_of_cores : Cores → List ℕ
  offsets_of_cores no_cores = []
  offsets_of_cores (and_core c cs) = offsets_of c ++ offsets_of_cores cs

  pub offsets_of_values : Bounds → List ℕ
  offsets_of_values no_bounds = []
  offsets_of_values (and_bound b c bs) = offsets_of c ++ offsets_of_values bs

  pub offsets_of_joined : Bounds → List ℕ
  offsets_of_joined no_bounds = []
  offsets_of_joined (and_bound b c bs) = offsets_of c ++ offset_of c ∷ offsets_of_joined bs

  pub offsets_of_forms : ℕ → Cores → List ℕ
  offsets_of_forms at no_cores = at ∷ []
  offsets_of_forms at (and_core c no_cores) = offsets_of c
  offsets_of_forms at (and_core c (and_core d ds)) = offsets_of c ++ offset_of c ∷ offsets_of_forms at (and_core d ds)

abbrev pub offsets_of_tops : Cores → List ℕ
offsets_of_tops no_cores = []
offsets_of_tops (and_core c cs) = offsets_of c ++ offset_of c ∷ offsets_of_tops cs

abbrev pub offsets_of_functions : List Function → List ℕ
offsets_of_functions [] = []
offsets_of_functions (function at l o ps c ∷ fs) = offsets_of c ++ at ∷ offsets_of_functions fs

-- the offset of the first instruction that is too many, which stays
abbrev pub first_over : Option Offset → ℕ → Option Offset
first_over None at = Some (record { 0 = at })
first_over (Some o) at = Some o

-- one more instruction, with this offset
abbrev pub with_one : Meter → ℕ → Meter
with_one m at = if nat_lt m.count 65535 then record m { count = m.count + 1 } else record m { over = first_over m.over at }

-- more instructions, with these offsets
abbrev pub counted : Meter → List ℕ → Meter
counted m [] = m
counted m (at ∷ ats) = counted (with_one m at) ats
