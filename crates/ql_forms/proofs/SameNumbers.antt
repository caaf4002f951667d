-- Where no name repeats, the letters of forms tell their numbers.
use Rattle.std.proofs.Common.{◌≡◌, ℕ, zero, suc, ◌<◌, nat_lt, true, List, [], ◌∷◌, length, Some, slice_get, arith, refl, ap, sym, ◌∙◌}
use Rattle.std.proofs.lemmas.Bool.{ltb-true, and_parts}
use Rattle.ql_base.specs.Names.{AreDistinct}
use Rattle.ql_forms.specs.Form.{Atom, integer, symbol, Tail, proper, dotted, Form, atom, list, Forms, none, more, atom_below, tail_below, form_below, forms_below}
use Rattle.ql_forms.specs.Numbered.{Numbered, letters, spelled_atom, spelled_tail, spelled_form, spelled_forms}
use Rattle.ql_forms.specs.Spelled as spelled

named : (names : List (List ℕ)) (n : ℕ) → n < length names → slice_get names n ≡ Some (letters names n)
named [] n h = absurd (omega (arith, h))
named (x ∷ names) zero h = refl
named (x ∷ names) (suc n) h = named names n (omega (arith, h))

module _ (names : List (List ℕ)) (distinct : AreDistinct names) where
  same_number : (m n : ℕ) → nat_lt m (length names) ≡ true → nat_lt n (length names) ≡ true → letters names m ≡ letters names n → m ≡ n
  same_number m n h i p =
      let k = distinct m (letters names m) (named names m (ltb-true m (length names) h)) in
      let l = distinct n (letters names n) (named names n (ltb-true n (length names) i)) in
      cc

  same_atom : (a b : Atom) → atom_below (length names) a ≡ true → atom_below (length names) b ≡ true → spelled_atom names a ≡ spelled_atom names b → a ≡ b
  same_atom (integer y) (integer z) h i p = cc
  same_atom (symbol m) (symbol n) h i p = ap symbol (same_number m n h i cc)
  same_atom _ _ h i p = cc

  same_tail : (t u : Tail) → tail_below (length names) t ≡ true → tail_below (length names) u ≡ true → spelled_tail names t ≡ spelled_tail names u → t ≡ u
  same_tail proper proper h i p = refl
  same_tail (dotted a) (dotted b) h i p = ap dotted (same_atom a b h i cc)
  same_tail _ _ h i p = cc

  mutual
    same_form : (f g : Form) → form_below (length names) f ≡ true → form_below (length names) g ≡ true → spelled_form names f ≡ spelled_form names g → f ≡ g
    same_form (atom at a) (atom o b) h i p = cc (same_atom a b h i cc)
    same_form (list at fs t) (list o gs u) h i p =
        let x = and_parts _ _ h in let y = and_parts _ _ i in cc (same_forms fs gs x.0 y.0 cc, same_tail t u x.1 y.1 cc)
    same_form _ _ h i p = cc

    same_forms : (fs gs : Forms) → forms_below (length names) fs ≡ true → forms_below (length names) gs ≡ true → spelled_forms names fs ≡ spelled_forms names gs → fs ≡ gs
    same_forms none none h i p = refl
    same_forms (more f fs) (more g gs) h i p =
        let x = and_parts _ _ h in let y = and_parts _ _ i in cc (same_form f g x.0 y.0 cc, same_forms fs gs x.1 y.1 cc)
    same_forms _ _ h i p = cc

pub same_numbering : (s : spelled.Forms) (names : List (List ℕ)) (fs gs : Forms) → AreDistinct names → Numbered s names fs → Numbered s names gs → fs ≡ gs
same_numbering s names fs gs d n m = same_forms names d fs gs n.below m.below (n.letters_are ∙ sym m.letters_are)
