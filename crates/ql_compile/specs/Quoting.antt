-- How far the quoted data of a program have come: these definitions serve proofs alone.
use Rattle.std.specs.Prelude.{◌≡◌, ℕ, List, ◌∷◌, ◌++◌, map}
use denote.Ref.{Bor}
use Rattle.ql_forms.specs.declared.form.Form.{Form}
use Rattle.ql_forms.specs.Form.{place_of}
use Rattle.ql_forms.specs.View.{form_of}
use Rattle.ql_meaning.specs.Context.{Datum, word_at}
use Rattle.ql_world.specs.declared.word.Word.{Word}

-- a form of the source with its offset
abbrev pub datum_at : Bor Form → Datum
datum_at f = (place_of (form_of f.now), form_of f.now)

abbrev pub data_at : List (Bor Form) → List Datum
data_at fs = map datum_at fs

-- These data are added at the end.
abbrev pub AddsData : List (Bor Form) → List (Bor Form) → List Datum → Type 0
AddsData old new ds = data_at new ≡ data_at old ++ ds

-- Whatever words follow, the new ones with them find what the old ones find with this word before them.
abbrev pub AddsWord : List (ℕ × Word) → List (ℕ × Word) → ℕ → Word → Type 0
AddsWord old new at w = (more : List (ℕ × Word)) (q : ℕ) → word_at (new ++ more) q ≡ word_at (old ++ (at, w) ∷ more) q
