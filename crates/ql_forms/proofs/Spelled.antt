-- What a text spells can be spelled: by induction on how the text spells it.
use Rattle.std.proofs.Common.{◌≡◌, ℕ, ◌+◌, ◌<◌, ◌≤◌, Bool, true, false, List, [], ◌∷◌, length, arith, refl, FitsSigned, zero, suc}
use Rattle.std.proofs.lemmas.Int.{ints}
use Rattle.std.specs.Int.{w64}
use Rattle.ql_forms.specs.Spelled.{Atom, symbol, Form, atom, list, Forms, none, more, nil, is_nil, joined, Ending, plain, with_tail, tail_of, with_last, list_form, quote_form}
use Rattle.ql_forms.specs.FormText.{AreAtomBytes, HasSpelling, IsTail, CanBeSpelled, AllCanBeSpelled}
use Rattle.ql_forms.specs.Spells.{most, signed, IsAtom, a_symbol, an_integer, Run, ends, goes_on, IsForm, an_atom, a_list, a_quote, AreItems, closed, an_item, a_tail, AreForms, ended, a_form}

-- What fits with one more level open around it fits with one less.
mutual
  shallower : (d : ℕ) (f : Form) → CanBeSpelled (d + 1) f → CanBeSpelled d f
  shallower d (atom at a) h = h
  shallower d (list at fs t) h = (omega (arith, h.0), h.1, all_shallower (d + 1) fs h.2, h.3)

  all_shallower : (d : ℕ) (fs : Forms) → AllCanBeSpelled (d + 1) fs → AllCanBeSpelled d fs
  all_shallower d none h = tt
  all_shallower d (more f fs) h = (shallower d f h.0, all_shallower d fs h.1)

run_atoms : {o p : ℕ} {t u w : List ℕ} → Run o t w p u → AreAtomBytes w
run_atoms (ends e) = tt
run_atoms (goes_on a r) = (a, run_atoms r)

integer_fits : (negative : Bool) (v : ℕ) → v ≤ most negative → FitsSigned w64 (signed negative v)
integer_fits false v h = omega (arith, ints, h)
integer_fits true zero h = omega (arith, ints)
integer_fits true (suc n) h = omega (arith, ints, h)

atom_fits : {w : List ℕ} {a : Atom} → IsAtom w a → 0 < length w → AreAtomBytes w → HasSpelling a
atom_fits (a_symbol n l) some bytes = (some, l, bytes, n)
atom_fits (an_integer {negative = negative} s ds le) some bytes = integer_fits negative _ le

nil_fits : HasSpelling nil
nil_fits = (omega arith, omega arith, (refl, (refl, (refl, tt))), refl)

quote_fits : HasSpelling (symbol (113 ∷ 117 ∷ 111 ∷ 116 ∷ 101 ∷ []))
quote_fits = (omega arith, omega arith, (refl, (refl, (refl, (refl, (refl, tt))))), refl)

all_joined : (d : ℕ) (fs gs : Forms) → AllCanBeSpelled d fs → AllCanBeSpelled d gs → AllCanBeSpelled d (joined fs gs)
all_joined d none gs h i = i
all_joined d (more f fs) gs h i = (h.0, all_joined d fs gs h.1 i)

tail_fits : (a : Atom) (b : Bool) → is_nil a ≡ b → HasSpelling a → IsTail (tail_of a)
tail_fits a true e h = rw e tt
tail_fits a false e h = rw e (h, e)

with_last_fits : (d at : ℕ) (f : Form) (fs : Forms) (g : Form) → d < 200 → AllCanBeSpelled (d + 1) (more f fs) → CanBeSpelled (d + 1) g
    → CanBeSpelled d (with_last at (more f fs) g)
with_last_fits d at f fs (atom o a) lt h i = (lt, tt, h, tail_fits a (is_nil a) refl i)
with_last_fits d at f fs (list o gs t) lt h i = (lt, tt, all_joined (d + 1) (more f fs) gs h (all_shallower (d + 1) gs i.2), i.3)

abbrev EndingFits : ℕ → Ending → Type 0
EndingFits d plain = Prim.Unit {0}
EndingFits d (with_tail g) = CanBeSpelled d g

list_form_fits : (d at : ℕ) (fs : Forms) (e : Ending) → d < 200 → AllCanBeSpelled (d + 1) fs → EndingFits (d + 1) e → CanBeSpelled d (list_form at fs e)
list_form_fits d at none e lt h i = nil_fits
list_form_fits d at (more f fs) plain lt h i = (lt, tt, h, tt)
list_form_fits d at (more f fs) (with_tail g) lt h i = with_last_fits d at f fs g lt h i

quote_form_fits : (d at : ℕ) (f : Form) → d < 200 → CanBeSpelled (d + 1) f → CanBeSpelled d (quote_form at f)
quote_form_fits d at f lt h = (lt, tt, (quote_fits, (h, tt)), tt)

mutual
  form_fits : {d o p : ℕ} {t u : List ℕ} {f : Form} → IsForm d o t f p u → CanBeSpelled d f
  form_fits (an_atom g a r is) = atom_fits is (omega arith) (a, run_atoms r)
  form_fits (a_list {d = d} {q = q} {fs = fs} {e = e} g c lt items) = let h = items_fit items in list_form_fits d q fs e lt h.0 h.1
  form_fits (a_quote {d = d} {q = q} {f = f} g c lt is) = quote_form_fits d q f lt (form_fits is)

  items_fit : {d o p : ℕ} {some : Bool} {t u : List ℕ} {fs : Forms} {e : Ending} → AreItems d some o t fs e p u → AllCanBeSpelled d fs × EndingFits d e
  items_fit (closed g c) = (tt, tt)
  items_fit (an_item is items) = let h = items_fit items in ((form_fits is, h.0), h.1)
  items_fit (a_tail g c after is h closing) = (tt, form_fits is)

pub all_fit : {o : ℕ} {t : List ℕ} {fs : Forms} → AreForms o t fs → AllCanBeSpelled 0 fs
all_fit (ended g) = tt
all_fit (a_form is others) = (form_fits is, all_fit others)
