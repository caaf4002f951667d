-- The names of a text can be printed.
use Rattle.std.proofs.Common.{◌≡◌, ◌≤◌, ℕ, ◌+◌, ◌==◌, Bool, true, false, List, [], ◌∷◌, ◌++◌, length, refl, sym, subst, arith}
use Rattle.std.proofs.lemmas.Bool.{leb-true}
use Rattle.std.proofs.lemmas.Bool.Decides.{nat_tests}
use Rattle.std.specs.Prelude.{is_some, ◌&&◌, leb, if◌then◌else◌}
use Rattle.ql_base.specs.Names.{place_of, with_name, with_names, reserved}
use Rattle.ql_forms.specs.Bytes.{digit, plus, minus, opening, closing, mark, semicolon, dot, other, class, is_atom, is_blank, is_letter}
use Rattle.ql_forms.specs.Form as numbered
use Rattle.ql_forms.specs.FormText.{AreAtomBytes, HasSpelling, IsTail, CanBeSpelled, AllCanBeSpelled}
use Rattle.ql_forms.specs.Spelled.{Atom, integer, symbol, Tail, proper, dotted, Form, atom, list, Forms, none, more, letters_of, letters_in_tail, symbols_of, symbols_in}
use Rattle.ql_forms.specs.Spells.{Spells}
use Rattle.ql_world.specs.Short.{ArePrinted}
use Rattle.ql_host.specs.Host.{AreNames}
use Rattle.ql_top.specs.Top.{IsText}
use Rattle.ql_top.proofs.Counted.{by}

printed_letter : (b : ℕ) → is_letter b ≡ true → (32 ≤ b) × (b ≤ 126)
printed_letter b h = grind (arith, nat_tests)

-- what else is an atom byte
printed_other : (b : ℕ)
    → is_atom (if leb 48 b && leb b 57 then digit
    else (if b == 43 then plus
    else (if b == 45 then minus
    else (if b == 40 then opening
    else (if b == 41 then closing
    else (if b == 39 then mark
    else (if b == 59 then semicolon
    else (if b == 46 then dot
    else other)))))))) ≡ true
    → (32 ≤ b) × (b ≤ 126)
printed_other b h = grind (arith, nat_tests)

-- an atom byte can be printed
printed_class : (b : ℕ) → is_atom (class b) ≡ true → (32 ≤ b) × (b ≤ 126)
printed_class b h =
    by (is_blank b)
    (λ t. let bad : false ≡ true = rw t at h in absurd cc)
    (λ t. by (is_letter b) (printed_letter b) (λ u. printed_other b (rw (t, u) at h)))

printed_word : (w : List ℕ) → AreAtomBytes w → ArePrinted w
printed_word [] h = tt
printed_word (b ∷ w) h = let p = printed_class b h.0 in (p.0, p.1, printed_word w h.1)

names_and : (ms ns : List (List ℕ)) → AreNames ms → AreNames ns → AreNames (ms ++ ns)
names_and [] ns h k = k
names_and (m ∷ ms) ns h k = (h.0, h.1, names_and ms ns h.2 k)

names_with : (ns : List (List ℕ)) (w : List ℕ) → AreNames ns → AreNames (w ∷ []) → AreNames (with_name ns w)
names_with ns w h k = by (is_some (place_of ns w)) (λ t. rw t h) (λ t. rw t (names_and ns (w ∷ []) h k))

names_with_all : (ns ws : List (List ℕ)) → AreNames ns → AreNames ws → AreNames (with_names ns ws)
names_with_all ns [] h k = h
names_with_all ns (w ∷ ws) h k = names_with_all (with_name ns w) ws (names_with ns w h (k.0, k.1, tt)) k.2

names_in_atom : (a : Atom) → HasSpelling a → AreNames (letters_of a)
names_in_atom (integer z) h = tt
names_in_atom (symbol w) h = let some : 1 ≤ length w = h.0 in (some, printed_word w h.2, tt)

names_in_tail : (t : Tail) → IsTail t → AreNames (letters_in_tail t)
names_in_tail proper h = tt
names_in_tail (dotted a) h = names_in_atom a h.0

mutual
  names_in_form : (d : ℕ) (f : Form) → CanBeSpelled d f → AreNames (symbols_of f)
  names_in_form d (atom at a) h = names_in_atom a h
  names_in_form d (list at fs t) h = names_and (symbols_in fs) (letters_in_tail t) (names_in_forms (d + 1) fs h.2) (names_in_tail t h.3)

  names_in_forms : (d : ℕ) (fs : Forms) → AllCanBeSpelled d fs → AreNames (symbols_in fs)
  names_in_forms d none h = tt
  names_in_forms d (more f fs) h = names_and (symbols_of f) (symbols_in fs) (names_in_form d f h.0) (names_in_forms d fs h.1)

both_true : (a b : Bool) → (a && b) ≡ true → (a ≡ true) × (b ≡ true)
both_true true b h = (refl, h)
both_true false b h = absurd cc

-- the same, computed
is_printed : List ℕ → Bool
is_printed [] = true
is_printed (b ∷ w) = (leb 32 b && leb b 126) && is_printed w

are_names : List (List ℕ) → Bool
are_names [] = true
are_names (n ∷ ns) = leb 1 (length n) && (is_printed n && are_names ns)

printed : (w : List ℕ) → is_printed w ≡ true → ArePrinted w
unfolding is_printed
printed [] h = tt
printed (b ∷ w) h =
    let p = both_true (leb 32 b && leb b 126) (is_printed w) h in
    let q = both_true (leb 32 b) (leb b 126) p.0 in
    (leb-true 32 b q.0, leb-true b 126 q.1, printed w p.1)

names : (ns : List (List ℕ)) → are_names ns ≡ true → AreNames ns
unfolding are_names
names [] h = tt
names (n ∷ ns) h =
    let p = both_true (leb 1 (length n)) (is_printed n && are_names ns) h in
    let q = both_true (is_printed n) (are_names ns) p.1 in
    (leb-true 1 (length n) p.0, printed n q.0, names ns q.1)

reserved_names : AreNames reserved
unfolding are_names is_printed
reserved_names = names reserved refl

pub names_are_printed : ((b : List ℕ) (fs : Forms) → Spells b fs → AllCanBeSpelled 0 fs)
    → (b : List ℕ) (names : List (List ℕ)) (forms : numbered.Forms) → IsText b names forms → AreNames names
names_are_printed can b ns forms t =
    subst AreNames (sym t.numbered.in_order) (names_with_all reserved (symbols_in t.spelling) reserved_names (names_in_forms 0 t.spelling (can b t.spelling t.spells)))
