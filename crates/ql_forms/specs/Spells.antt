-- Which forms a text spells. A relation by cases on whole texts, which computes nothing.
use Rattle.std.specs.Prelude.{◌≡◌, ◌≤◌, ◌<◌, ℕ, ◌+◌, ◌-◌, ◌*◌, ◌==◌, Bool, true, false, if◌then◌else◌, List, [], ◌∷◌, length, ℤ, pos, neg_ℤ}
use Rattle.ql_forms.specs.Bytes.{Class, blank, digit, plus, minus, opening, closing, mark, semicolon, dot, class, is_digit, is_atom, ends_atom, begins_tail}
use Rattle.ql_forms.specs.Spelled.{Atom, integer, symbol, Form, atom, Forms, none, more, Ending, plain, with_tail, list_form, quote_form}

abbrev pub starts_digit : List ℕ → Bool
starts_digit [] = false
starts_digit (b ∷ w) = is_digit (class b)

abbrev pub numeric_from : Class → List ℕ → Bool
numeric_from digit w = true
numeric_from plus w = starts_digit w
numeric_from minus w = starts_digit w
numeric_from _ w = false

-- it begins with a digit, or with a sign and a digit
abbrev pub is_numeric : List ℕ → Bool
is_numeric [] = false
is_numeric (b ∷ w) = numeric_from (class b) w

abbrev pub AreDigits : List ℕ → Type 0
AreDigits [] = Prim.Unit {0}
AreDigits (b ∷ ds) = (class b ≡ digit) × AreDigits ds

abbrev pub value_from : ℕ → List ℕ → ℕ
value_from v [] = v
value_from v (b ∷ ds) = value_from (10 * v + (b - 48)) ds

-- the greatest magnitude of an integer
abbrev pub most : Bool → ℕ
most negative = if negative then 9223372036854775808 else 9223372036854775807

abbrev pub signed : Bool → ℕ → ℤ
signed negative v = if negative then neg_ℤ (pos v) else pos v

-- a sign and what follows it, or all where there is none
pub data HasSign : List ℕ → Bool → List ℕ → Type 0 where
  no_sign : {ds : List ℕ} → HasSign ds false ds
  a_plus : {b : ℕ} {ds : List ℕ} → class b ≡ plus → HasSign (b ∷ ds) false ds
  a_minus : {b : ℕ} {ds : List ℕ} → class b ≡ minus → HasSign (b ∷ ds) true ds

-- a whole atom is an integer in range, or a symbol of at most 64 bytes
pub data IsAtom : List ℕ → Atom → Type 0 where
  a_symbol : {w : List ℕ} → is_numeric w ≡ false → length w ≤ 64 → IsAtom w (symbol w)
  an_integer : {b : ℕ} {w ds : List ℕ} {negative : Bool} → HasSign w negative (b ∷ ds) → AreDigits (b ∷ ds)
      → value_from 0 (b ∷ ds) ≤ most negative → IsAtom w (integer (signed negative (value_from 0 (b ∷ ds))))

-- In all that follows t is what is left of a text from the offset o on, and u what is left from p on, once
-- the front of t is read.

-- the rest of a comment runs to the next line feed or the end
pub data Comment : ℕ → List ℕ → ℕ → List ℕ → Type 0 where
  at_end : {o : ℕ} → Comment o [] o []
  at_line_feed : {o b : ℕ} {t : List ℕ} → (b == 10) ≡ true → Comment o (b ∷ t) (o + 1) t
  beyond : {o b p : ℕ} {t u : List ℕ} → (b == 10) ≡ false → Comment (o + 1) t p u → Comment o (b ∷ t) p u

-- blanks and comments
pub data Gap : ℕ → List ℕ → ℕ → List ℕ → Type 0 where
  nothing : {o : ℕ} {t : List ℕ} → Gap o t o t
  a_blank : {o b p : ℕ} {t u : List ℕ} → class b ≡ blank → Gap (o + 1) t p u → Gap o (b ∷ t) p u
  a_comment : {o b p q : ℕ} {t u v : List ℕ} → class b ≡ semicolon → Comment (o + 1) t q v → Gap q v p u → Gap o (b ∷ t) p u

-- directly after an atom stand no atom byte and no dot
abbrev pub AfterAtom : List ℕ → Type 0
AfterAtom [] = Prim.Unit {0}
AfterAtom (b ∷ t) = ends_atom (class b) ≡ true

-- a longest run of atom bytes
pub data Run : ℕ → List ℕ → List ℕ → ℕ → List ℕ → Type 0 where
  ends : {o : ℕ} {t : List ℕ} → AfterAtom t → Run o t [] o t
  goes_on : {o b p : ℕ} {t u w : List ℕ} → is_atom (class b) ≡ true → Run (o + 1) t w p u → Run o (b ∷ t) (b ∷ w) p u

-- directly after a dot stands a byte that may
abbrev pub AfterDot : List ℕ → Type 0
AfterDot [] = Prim.⊥
AfterDot (b ∷ t) = begins_tail (class b) ≡ true

mutual
  -- a form, after a gap, with d levels open around it
  pub data IsForm : ℕ → ℕ → List ℕ → Form → ℕ → List ℕ → Type 0 where
    an_atom : {d o b q p : ℕ} {t v w u : List ℕ} {a : Atom} → Gap o t q (b ∷ v) → is_atom (class b) ≡ true → Run (q + 1) v w p u
        → IsAtom (b ∷ w) a → IsForm d o t (atom q a) p u
    a_list : {d o b q p : ℕ} {t v u : List ℕ} {fs : Forms} {e : Ending} → Gap o t q (b ∷ v) → class b ≡ opening → d < 200
        → AreItems (d + 1) false (q + 1) v fs e p u → IsForm d o t (list_form q fs e) p u
    a_quote : {d o b q p : ℕ} {t v u : List ℕ} {f : Form} → Gap o t q (b ∷ v) → class b ≡ mark → d < 200
        → IsForm (d + 1) (q + 1) v f p u → IsForm d o t (quote_form q f) p u

  -- the items of a list, its ending and its closing parenthesis; the truth value says whether an item stands before
  pub data AreItems : ℕ → Bool → ℕ → List ℕ → Forms → Ending → ℕ → List ℕ → Type 0 where
    closed : {d o b q : ℕ} {some : Bool} {t v : List ℕ} → Gap o t q (b ∷ v) → class b ≡ closing → AreItems d some o t none plain (q + 1) v
    an_item : {d o p q : ℕ} {some : Bool} {t u v : List ℕ} {f : Form} {fs : Forms} {e : Ending} → IsForm d o t f q v
        → AreItems d true q v fs e p u → AreItems d some o t (more f fs) e p u
    a_tail : {d o q r s b c : ℕ} {t u v x : List ℕ} {f : Form} → Gap o t q (b ∷ v) → class b ≡ dot → AfterDot v
        → IsForm d (q + 1) v f r x → Gap r x s (c ∷ u) → class c ≡ closing → AreItems d true o t none (with_tail f) (s + 1) u

-- any number of forms, to the end
pub data AreForms : ℕ → List ℕ → Forms → Type 0 where
  ended : {o q : ℕ} {t : List ℕ} → Gap o t q [] → AreForms o t none
  a_form : {o q : ℕ} {t v : List ℕ} {f : Form} {fs : Forms} → IsForm 0 o t f q v → AreForms q v fs → AreForms o t (more f fs)

-- the text spells these forms
abbrev pub Spells : List ℕ → Forms → Type 0
Spells b fs = AreForms 0 b fs
