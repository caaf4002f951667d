-- How far a search has come. It serves the proofs.
use Rattle.std.specs.Prelude.{◌≡◌, ℕ, ◌+◌, List, drop}
use Rattle.ql_base.specs.Refusal.{first_of}
use Rattle.ql_base.specs.declared.refusal.Fault.{Fault}
use Rattle.ql_forms.specs.Form.{Form, Forms}
use Rattle.ql_forms.specs.View.{forms_of}
use Rattle.ql_forms.specs.declared.form.Form.{Form as FormValue}
use Rattle.ql_expand.specs.ExpandFault.{shape_faults, faults}
use Rattle.ql_expand.specs.declared.search.Role.{Role}
use Rattle.ql_expand.specs.declared.search.Search.{Search}

-- what is wrong in a form at this level that isn't too deep
abbrev pub inside : List (List ℕ) → ℕ → Role → Form → List Fault
inside names n r f = shape_faults names (λ d. faults names (n + 1 + d)) r f

-- The search has gone on past these faults, and has its names still.
abbrev pub Past : Search → Search → List Fault → Type 0
Past s t faults = (t.names ≡ s.names) × (t.first ≡ first_of s.first faults)

-- What is wrong in the forms from this place on is still to be gone past, of all that was to be.
abbrev pub Going : Search → Search → (Forms → List Fault) → List FormValue → ℕ → Type 0
Going s t faults xs i = (t.names ≡ s.names) × (first_of t.first (faults (forms_of (drop i xs))) ≡ first_of s.first (faults (forms_of xs)))
