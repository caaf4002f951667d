-- A symbol that is spelled with letters has the number of a name.
use Rattle.std.proofs.Common.{◌≡◌, ℕ, zero, suc, ◌+◌, ◌<◌, nat_lt, true, List, [], ◌∷◌, length, arith, refl}
use Rattle.std.specs.Prelude.{slice_index_or}
use Rattle.std.proofs.lemmas.Bool.{lt-ltb}
use Rattle.ql_forms.specs.Form.{Atom, integer, symbol, Tail, proper, dotted, Form, atom, list, Forms, none, more, atom_below, tail_below, form_below, forms_below}
use Rattle.ql_forms.specs.FormText.{CanBeSpelled, AllCanBeSpelled, HasSpelling, IsTail}
use Rattle.ql_forms.specs.Numbered.{spelled_atom, spelled_tail, spelled_form, spelled_forms}

named_below : (names : List (List ℕ)) (n : ℕ) → 0 < length (slice_index_or names n []) → n < length names
named_below [] n h = absurd (omega (arith, h))
named_below (x ∷ names) zero h = omega arith
named_below (x ∷ names) (suc n) h = let i : n < length names = named_below names n h in omega (arith, i)

is_below : (m n : ℕ) → m < n → nat_lt m n ≡ true
is_below m n h = lt-ltb m n h

atom_has : (names : List (List ℕ)) (a : Atom) → HasSpelling (spelled_atom names a) → atom_below (length names) a ≡ true
atom_has names (integer z) h = refl
atom_has names (symbol n) h = is_below n (length names) (named_below names n h.0)

tail_has : (names : List (List ℕ)) (t : Tail) → IsTail (spelled_tail names t) → tail_below (length names) t ≡ true
tail_has names proper h = refl
tail_has names (dotted a) h = atom_has names a h.0

mutual
  form_has : (names : List (List ℕ)) (d : ℕ) (f : Form) → CanBeSpelled d (spelled_form names f) → form_below (length names) f ≡ true
  form_has names d (atom at a) h = atom_has names a h
  form_has names d (list at fs t) h = rw (forms_have names (d + 1) fs h.2, tail_has names t h.3) refl

  pub forms_have : (names : List (List ℕ)) (d : ℕ) (fs : Forms) → AllCanBeSpelled d (spelled_forms names fs) → forms_below (length names) fs ≡ true
  forms_have names d none h = refl
  forms_have names d (more f fs) h = rw (form_has names d f h.0, forms_have names d fs h.1) refl
