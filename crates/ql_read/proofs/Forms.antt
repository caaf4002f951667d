-- The forms that lists and quote marks make, seen with later names.
use Rattle.std.proofs.Common.{◌≡◌, ℕ, ◌==◌, true, false, length, arith, List, [], ◌∷◌, ◌++◌, Option, None, refl, sym, ap, ◌∙◌}
use Rattle.std.specs.Prelude.{if◌then◌else◌, slice_index_or}
use Rattle.std.proofs.lemmas.Bool.{ne_eqb}
use Rattle.ql_base.specs.Names.{reserved}
use Rattle.ql_base.specs.declared.numbers.Offset.{Offset}
use Rattle.ql_forms.specs.Spelled as spec
use Rattle.ql_forms.specs.Spelled.{Forms, none, more, atom, list, symbol, proper, dotted, nil, joined, Ending, plain, with_tail, tail_of, with_last, list_form, quote_form}
use Rattle.ql_forms.specs.Form.{Form as Datum}
use Rattle.ql_forms.specs.Numbered.{spelled_atom, spelled_tail, spelled_form}
use Rattle.ql_forms.specs.View.{atom_of, tail_of as tail_told, form_step, spelling_of, spellings_of}
use Rattle.ql_forms.specs.declared.form.Atom.{Atom}
use Rattle.ql_forms.specs.declared.form.Atom.TheVariants.{Sym}
use Rattle.ql_forms.specs.declared.form.Form.{Form, fold-roll-Form}
use Rattle.ql_forms.specs.declared.form.Form.TheOpen.{Form-F}
use Rattle.ql_forms.specs.declared.form.Form.TheViews.{List as vList}
use Rattle.ql_forms.specs.declared.form.Form.TheVariants.{Atom as vAtom}
use Rattle.ql_read.specs.Numbering.{GoesOn}
use Rattle.ql_read.proofs.Naming.{nil_named, quote_named, is_nil_named, not_nil}

pub list_view : (names : List (List ℕ)) (at : Offset) (vs : List Form) (t : Option Atom) → spelling_of names (vList at vs t) ≡ list at.0 (spellings_of names vs) (spelled_tail names (tail_told t))
unfolding Rattle.ql_forms.specs.declared.form.Form.TheViews.roll-Form denote.Hole.Carrier.roll
list_view names at vs t = ap (spelled_form names) (fold-roll-Form Datum form_step (Form-F.List at vs t))

pub atom_view : (names : List (List ℕ)) (at : Offset) (a : Atom) → spelling_of names (vAtom at a) ≡ atom at.0 (spelled_atom names (atom_of a))
unfolding Rattle.ql_forms.specs.declared.form.Form.TheViews.roll-Form denote.Hole.Carrier.roll
atom_view names at a = ap (spelled_form names) (fold-roll-Form Datum form_step (Form-F.Atom at a))

forms_append : (names : List (List ℕ)) (xs ys : List Form) → spellings_of names (xs ++ ys) ≡ joined (spellings_of names xs) (spellings_of names ys)
forms_append names [] ys = refl
forms_append names (x ∷ xs) ys = ap (more (spelling_of names x)) (forms_append names xs ys)

pub no_items : {A : Type 0} (n : ℕ) (vs : List A) → n ≡ length vs → true ≡ (n == 0) → vs ≡ []
no_items n [] e h = refl
no_items n (v ∷ vs) e h = let z : (n == 0) ≡ false = ne_eqb _ _ (λ i. omega (arith, e, i)) in absurd (cc)

nothing : (n : ℕ) (vs : List Form) → n ≡ length vs → false ≡ (n == 0) → vs ≡ [] → Prim.⊥
nothing n vs e h i = let z : (n == 0) ≡ true = rw (e, i) refl in absurd (cc)

-- no items are nil
pub nil_form : (names : List (List ℕ)) (at n : ℕ) (vs : List Form) (e : Ending) (f : spec.Form) → GoesOn reserved names → n ≡ length vs → true ≡ (n == 0)
    → f ≡ atom at (symbol (slice_index_or names 0 [])) → f ≡ list_form at (spellings_of names vs) e
nil_form names at n vs e f g len h is = is ∙ ap (λ w. atom at (symbol w)) (nil_named names g) ∙ sym (ap (λ z. list_form at (spellings_of names z) e) (no_items n vs len h))

pub proper_form : (names : List (List ℕ)) (at : Offset) (n : ℕ) (vs ws : List Form) → n ≡ length vs → false ≡ (n == 0) → ws ≡ vs → spelling_of names (vList at ws None) ≡ list_form at.0 (spellings_of names vs) plain
proper_form names at n [] ws len h e = absurd (nothing n [] len h (refl {A = List Form}))
proper_form names at n (v ∷ vs) ws len h e = ap (λ z. spelling_of names (vList at z None)) e ∙ list_view names at (v ∷ vs) None

-- a tail that is an atom
pub tail_form : (names : List (List ℕ)) (at o : Offset) (n : ℕ) (vs ws : List Form) (a : Atom) (t : Option Atom) (last : Form) → n ≡ length vs → false ≡ (n == 0) → ws ≡ vs → last ≡ vAtom o a
    → spelled_tail names (tail_told t) ≡ tail_of (spelled_atom names (atom_of a)) → spelling_of names (vList at ws t) ≡ list_form at.0 (spellings_of names vs) (with_tail (spelling_of names last))
tail_form names at o n [] ws a t last len h e is tail = absurd (nothing n [] len h (refl {A = List Form}))
tail_form names at o n (v ∷ vs) ws a t last len h e is tail =
    ap (λ z. spelling_of names (vList at z t)) e ∙ list_view names at (v ∷ vs) t ∙ ap (list at.0 (spellings_of names (v ∷ vs))) tail
    ∙ sym (ap (with_last at.0 (spellings_of names (v ∷ vs))) (ap (spelling_of names) is ∙ atom_view names o a))

-- a tail that is a list
pub joined_form : (names : List (List ℕ)) (at o : Offset) (n : ℕ) (vs ws ys zs : List Form) (t : Option Atom) (last : Form) → n ≡ length vs → false ≡ (n == 0) → ws ≡ vs → last ≡ vList o ys t → zs ≡ ws ++ ys
    → spelling_of names (vList at zs t) ≡ list_form at.0 (spellings_of names vs) (with_tail (spelling_of names last))
joined_form names at o n [] ws ys zs t last len h e is all = absurd (nothing n [] len h (refl {A = List Form}))
joined_form names at o n (v ∷ vs) ws ys zs t last len h e is all =
    list_view names at zs t ∙ ap (λ x. list at.0 x (spelled_tail names (tail_told t))) (ap (spellings_of names) (all ∙ ap (λ z. z ++ ys) e) ∙ forms_append names (v ∷ vs) ys)
    ∙ sym (ap (with_last at.0 (spellings_of names (v ∷ vs))) (ap (spelling_of names) is ∙ list_view names o ys t))

pub quoted_form : (names : List (List ℕ)) (at : Offset) (xs ys zs ws : List Form) (q f : Form) → GoesOn reserved names → xs ≡ [] → ys ≡ xs ++ q ∷ [] → zs ≡ ys ++ f ∷ [] → ws ≡ zs
    → spelling_of names q ≡ atom at.0 (symbol (slice_index_or names 2 [])) → spelling_of names (vList at ws None) ≡ quote_form at.0 (spelling_of names f)
quoted_form names at xs ys zs ws q f g e h i j is =
    let both : ws ≡ q ∷ (f ∷ []) = j ∙ i ∙ ap (λ z. z ++ f ∷ []) (h ∙ ap (λ z. z ++ q ∷ []) e) in
    list_view names at ws None ∙ ap (λ z. list at.0 (spellings_of names z) proper) both
    ∙ ap (λ z. list at.0 (more z (more (spelling_of names f) none)) proper) (is ∙ ap (λ w. atom at.0 (symbol w)) (quote_named names g))

pub symbol_form : (names : List (List ℕ)) (at : Offset) (n : ℕ) (w : List ℕ) → slice_index_or names n [] ≡ w → spelling_of names (vAtom at (Sym n)) ≡ atom at.0 (symbol w)
symbol_form names at n w e = atom_view names at (Sym n) ∙ ap (λ z. atom at.0 (symbol z)) e

-- a tail that is nil, and one that isn't
pub nil_tail : (names : List (List ℕ)) (n : ℕ) (a : Atom) → GoesOn reserved names → a ≡ Sym n → n ≡ 0 → proper ≡ tail_of (spelled_atom names (atom_of a))
nil_tail names n a g is z = sym (ap (λ x. tail_of (spelled_atom names (atom_of x))) is ∙ ap (λ b. if b then proper else dotted (symbol (slice_index_or names n []))) (is_nil_named names n g z))

pub other_tail : (names : List (List ℕ)) (n : ℕ) (a : Atom) → GoesOn reserved names → a ≡ Sym n → (n ≡ 0 → Prim.⊥) → dotted (symbol (slice_index_or names n [])) ≡ tail_of (spelled_atom names (atom_of a))
other_tail names n a g is z = sym (ap (λ x. tail_of (spelled_atom names (atom_of x))) is ∙ ap (λ b. if b then proper else dotted (symbol (slice_index_or names n []))) (not_nil names n g z))
