-- Slices of forms.
use Rattle.std.proofs.Common.{◌≡◌, ℕ, suc, ◌+◌, ◌<◌, ◌≤◌, List, [], ◌∷◌, length, get_or, drop, refl, sym, ap, arith, Some, None, add-one, drop-cons}
use Rattle.std.specs.Prelude.{Bool, true, false, ◌==◌, if◌then◌else◌}
use Rattle.std.proofs.lemmas.List.{drop_all}
use Rattle.std.proofs.lemmas.Bool.Decides.{nat_tests}
use Rattle.ql_forms.specs.Form.{Forms, count, none, more}
use Rattle.ql_forms.specs.View.{form_of, forms_of}
use Rattle.ql_forms.specs.declared.form.Form.{Form}

pub as_many : (fs : List Form) → count (forms_of fs) ≡ length fs
as_many [] = refl
as_many (f ∷ fs) = omega (arith, as_many fs)

-- nil has no items
pub nil_items : (n : Bool) (fs : Forms) → (if n then Some none else None) ≡ Some fs → none ≡ fs
nil_items true fs e = cc
nil_items false fs e = cc

pub not_one : (n : ℕ) → (n + 1 + 1 == 1) ≡ false
not_one n = grind (arith, nat_tests)

-- the forms from a place on
pub rest : (fs : List Form) (i : ℕ) (f : Form) → i < length fs → f ≡ get_or fs i f → forms_of (drop i fs) ≡ more (form_of f) (forms_of (drop (i + 1) fs))
rest fs i f h e = rw (add-one, drop-cons fs i f) (ap (λ g. more (form_of g) (forms_of (drop (suc i) fs))) (sym e))

pub nothing_left : (fs : List Form) (i : ℕ) → length fs ≤ i → forms_of (drop i fs) ≡ none
nothing_left fs i h = ap (λ (gs : List Form). forms_of gs) (drop_all i fs h)
