-- The words of quoted data by their offsets, and the order of their pairs.
use Rattle.std.proofs.Common.{◌≡◌, ◌⊎◌, inl, inr, ℕ, ◌+◌, ◌≤◌, Bool, true, false, cond, nat_eq, List, [], ◌∷◌, ◌++◌, length, Option, Some, None, is_some, refl, sym, ap, ◌∙◌, arith, subst, zero, suc, append_assoc, length-append, slice_get, true≢false}
use Rattle.std.specs.Map.{lookup}
use Rattle.std.specs.HashMap.{HashMap, get}
use Rattle.indexmap.proofs.CallerLemmas.{insert_entry-new}
use Rattle.indexmap.specs.IndexMap.{insert_entry}
use Rattle.std.proofs.lemmas.Bool.Decides.{nat_tests}
use Rattle.ql_forms.specs.Form.{Form, atom, list, Forms, none, more, Tail, proper, dotted, Atom, integer, symbol}
use Rattle.ql_meaning.specs.Context.{Pairs, Datum, atom_word, quoted, quoted_items, quotes_after, tail_word, with_pair, word_at}
use Rattle.ql_world.specs.Text.{AreOrdered, IsBefore}
use Rattle.ql_world.specs.Word.{nil}
use Rattle.ql_world.specs.declared.word.Word.TheVariants.{Pair as pair}
use Rattle.ql_world.specs.declared.word.Word.{Word}
use Rattle.ql_compile.specs.Quoting.{AddsWord}

abbrev pub or_nil : Option Word → Word
or_nil None = nil
or_nil (Some w) = w

alike : (m n : ℕ) → nat_eq m n ≡ nat_eq n m
alike m n = grind (arith, nat_tests)

-- a look-up finds the first word of an offset
pub word_found : (es : List (ℕ × Word)) (at : ℕ) → word_at es at ≡ or_nil (lookup (nat_eq at) es)
word_found [] at = refl
word_found (e ∷ es) at = rw (alike e.0 at, word_found es at) (elim (nat_eq at e.0) as (λ b. cond b e.1 (or_nil (lookup (nat_eq at) es)) ≡ or_nil (cond b (Some e.1) (lookup (nat_eq at) es))) [ true ↦ refl | false ↦ refl ])

-- a word at another offset isn't found
passed : (es rest : List (ℕ × Word)) (at : ℕ) (w : Word) (q : ℕ) → nat_eq at q ≡ false → word_at (es ++ rest) q ≡ word_at (es ++ (at, w) ∷ rest) q
passed [] rest at w q h = rw h refl
passed (e ∷ es) rest at w q h = ap (cond (nat_eq e.0 q) e.1) (passed es rest at w q h)

-- a word counts only where its offset is new
pub known_stays : (es : List (ℕ × Word)) (at : ℕ) (w : Word) → is_some (lookup (nat_eq at) es) ≡ true → AddsWord es es at w
known_stays [] at w h rest q = absurd (true≢false (sym h))
known_stays (e ∷ es) at w h rest q = by (nat_eq at e.0) refl (λ k. known_stays es at w k rest q)
  where
    here : (b : Bool) → nat_eq at e.0 ≡ true → nat_eq e.0 q ≡ b → cond b e.1 (word_at (es ++ rest) q) ≡ cond b e.1 (word_at (es ++ (at, w) ∷ rest) q)
    here true same e = refl
    here false same e = passed es rest at w q (grind (arith, nat_tests))

    by : (b : Bool) → nat_eq at e.0 ≡ b → (is_some (lookup (nat_eq at) es) ≡ true → word_at (es ++ rest) q ≡ word_at (es ++ (at, w) ∷ rest) q)
        → word_at ((e ∷ es) ++ rest) q ≡ word_at ((e ∷ es) ++ (at, w) ∷ rest) q
    by true same later = here (nat_eq e.0 q) same refl
    by false other later = ap (cond (nat_eq e.0 q) e.1) (later (rw other at h))

pub new_is_last : (es fs : List (ℕ × Word)) (at : ℕ) (w : Word) → fs ≡ es ++ (at, w) ∷ [] → AddsWord es fs at w
new_is_last es fs at w h rest q = ap (λ gs. word_at (gs ++ rest) q) h ∙ ap (λ gs. word_at gs q) (append_assoc es ((at, w) ∷ []) rest)

none_there : (found : Option Word) → is_some found ≡ false → found ≡ None
none_there None h = refl
none_there (Some w) h = absurd (true≢false h)

pub new_counts : {S : Type 0} (m : HashMap ℕ Word S) (fs : List (ℕ × Word)) (at : ℕ) (w : Word)
    → is_some (get nat_eq m at) ≡ false → fs ≡ insert_entry nat_eq m.entries at w → AddsWord m.entries fs at w
new_counts m fs at w h e = new_is_last m.entries fs at w (e ∙ insert_entry-new nat_eq m at w (none_there (get nat_eq m at) h))

-- a word that names a pair before this one names one before any later one
before_later : (m n : ℕ) (w : Word) → m ≤ n → IsBefore m w → IsBefore n w
before_later m n (pair i) h b = omega arith
before_later m n w h b = tt

atom_before : (n : ℕ) (a : Atom) → IsBefore n (atom_word a)
atom_before n (integer z) = tt
atom_before n (symbol s) = tt

tail_before : (n : ℕ) (t : Tail) → IsBefore n (tail_word t)
tail_before n proper = tt
tail_before n (dotted a) = atom_before n a

-- the pairs so far are ordered, no fewer than before, and all before what a word names
record Follows (n : ℕ) (r : Pairs × Word) : Type 0 where
  more_pairs : n ≤ length r.0
  ordered : AreOrdered r.0
  before : IsBefore (length r.0) r.1

pushed : {X : Type 0} (xs : List X) (y : X) (i : ℕ) (x : X) → slice_get (xs ++ y ∷ []) i ≡ Some x → (slice_get xs i ≡ Some x) ⊎ ((i ≡ length xs) × (x ≡ y))
pushed [] y zero x h = inr (refl, cc)
pushed [] y (suc i) x h = inl h
pushed (z ∷ xs) y zero x h = inl h
pushed (z ∷ xs) y (suc i) x h = elim (pushed xs y i x h) [ inl e ↦ inl e | inr e ↦ inr (omega (arith, e.0), e.1) ]

ordered_more : (ps : Pairs) (a b : Word) → AreOrdered ps → IsBefore (length ps) a → IsBefore (length ps) b → AreOrdered (ps ++ (a, b) ∷ [])
ordered_more ps a b o x y i p at = elim (pushed ps (a, b) i p at) [
  | inl e ↦ o i p e
  | inr e ↦ subst (λ j. IsBefore j p.0 × IsBefore j p.1) (sym e.0) (subst (λ q. IsBefore (length ps) q.0 × IsBefore (length ps) q.1) (sym e.1) (x, y))
]

pair_follows : (m n : ℕ) (a : Word) (d : Pairs × Word) → m ≤ n → IsBefore n a → Follows n d → Follows m (with_pair a d)
pair_follows m n a d h x f =
    let long : length (d.0 ++ (a, d.1) ∷ []) ≡ length d.0 + 1 = length-append d.0 ((a, d.1) ∷ []) in
    let many : n ≤ length d.0 = f.more_pairs in
    record {
      more_pairs = omega arith;
      ordered = ordered_more d.0 a d.1 f.ordered (before_later n (length d.0) a many x) f.before;
      before = omega arith;
    }

mutual
  quoted_follows : (f : Form) (ps : Pairs) → AreOrdered ps → Follows (length ps) (quoted f ps)
  quoted_follows (atom at a) ps o = record { more_pairs = omega arith; ordered = o; before = atom_before (length ps) a }
  quoted_follows (list at fs t) ps o = items_follow fs t ps o

  items_follow : (fs : Forms) (t : Tail) (ps : Pairs) → AreOrdered ps → Follows (length ps) (quoted_items fs t ps)
  items_follow none t ps o = record { more_pairs = omega arith; ordered = o; before = tail_before (length ps) t }
  items_follow (more f fs) t ps o =
      let x = quoted_follows f ps o in
      pair_follows (length ps) (length (quoted f ps).0) (quoted f ps).1 (quoted_items fs t (quoted f ps).0) x.more_pairs x.before (items_follow fs t (quoted f ps).0 x.ordered)

-- Each pair names only pairs before it.
after_ordered : (ds : List Datum) (ps : Pairs) → AreOrdered ps → AreOrdered (quotes_after ds ps).0
after_ordered [] ps o = o
after_ordered (d ∷ ds) ps o = after_ordered ds (quoted d.1 ps).0 (quoted_follows d.1 ps o).ordered

-- where no datum is left
pub all_ordered : (ds rest : List Datum) (ps : Pairs) → rest ≡ [] → (quotes_after rest ps).0 ≡ (quotes_after ds []).0 → AreOrdered ps
all_ordered ds rest ps empty same =
    let all : ps ≡ (quotes_after ds []).0 = sym (ap (λ left. (quotes_after left ps).0) empty) ∙ same in
    subst AreOrdered (sym all) (after_ordered ds [] (λ i x h. cc))
