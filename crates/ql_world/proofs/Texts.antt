-- The text of a value, written part by part.
use Rattle.std.proofs.Common.{◌≡◌, ℕ, zero, suc, ◌+◌, ◌<◌, ◌≤◌, List, [], ◌∷◌, ◌++◌, length, Option, Some, None, refl, sym, subst, ap, ap₂, ◌∙◌, arith, slice_get, nat_lt, true, false, leb, length-append, append_assoc, append-nil}
use Rattle.std.proofs.lemmas.Option.{slice_get_within}
use Rattle.std.proofs.lemmas.Bool.{ltb-true, lt-leb}
use Rattle.std.specs.Prelude.{codes}
use Rattle.ql_world.specs.Word.{Word, pair_in, integer, symbol, pair, closure, process_closure, future}
use Rattle.ql_world.specs.Text.{plain_text, end_text, text_within, tail_within, pair_text, IsBefore, AreOrdered, text_up_to}
use Rattle.ql_world.specs.Parts.{part_text, parts_text, IsPartBefore, ArePartsBefore}
use Rattle.ql_world.specs.declared.text.Part.{Part}
use Rattle.ql_world.specs.declared.text.Part.TheVariants.{Item, Rest}

pub is_there : (n : ℕ) (w : Word) (i : ℕ) → IsBefore n w → pair_in w ≡ Some i → i < n
is_there n (pair j) i h e = let k : j ≡ i = cc in subst (λ m. m < n) k h
is_there n (integer z) i h e = absurd cc
is_there n (symbol z) i h e = absurd cc
is_there n (closure z) i h e = absurd cc
is_there n (process_closure z) i h e = absurd cc
is_there n (future z) i h e = absurd cc

is_pair : (w : Word) (i : ℕ) → pair_in w ≡ Some i → w ≡ pair i
is_pair (pair j) i e = let k : j ≡ i = cc in ap pair k
is_pair (integer z) i e = absurd cc
is_pair (symbol z) i e = absurd cc
is_pair (closure z) i e = absurd cc
is_pair (process_closure z) i e = absurd cc
is_pair (future z) i e = absurd cc

opened : (a i r t : List ℕ) (b : ℕ) → (a ++ b ∷ []) ++ (i ++ (r ++ t)) ≡ a ++ ((b ∷ (i ++ r)) ++ t)
opened a i r t b = append_assoc a (b ∷ []) (i ++ (r ++ t)) ∙ ap (λ z. a ++ b ∷ z) (sym (append_assoc i r t))

pub before_more : (n m : ℕ) (w : Word) → n ≤ m → IsBefore n w → IsBefore m w
before_more n m (pair i) l h = omega (arith, l, h)
before_more n m (integer z) l h = tt
before_more n m (symbol s) l h = tt
before_more n m (closure s) l h = tt
before_more n m (process_closure s) l h = tt
before_more n m (future s) l h = tt

module _ (names : List (List ℕ)) (pairs : List (Word × Word)) (ordered : AreOrdered pairs) where
  pair_same : (before : List ℕ) (f g h k : Word → List ℕ) (o : Option (Word × Word)) → ((x : Word × Word) → o ≡ Some x → (f x.0 ≡ h x.0) × (g x.1 ≡ k x.1)) → pair_text names before f g o ≡ pair_text names before h k o
  pair_same before f g h k None e = refl
  pair_same before f g h k (Some x) e = let s = e x refl in ap₂ (λ a b. before ++ a ++ b) s.0 s.1

  mutual
    -- as many steps inwards as there are pairs before are enough
    pub enough : (n m : ℕ) (w : Word) → IsBefore n w → IsBefore m w → text_within names pairs n w ≡ text_within names pairs m w
    enough (suc n) (suc m) (pair i) h k = pair_same (codes "(") _ _ _ _ (slice_get pairs i) (λ x e. let o = ordered i x e in (
      enough n m x.0 (before_more i n x.0 (omega (arith, h)) o.0) (before_more i m x.0 (omega (arith, k)) o.0),
      enough_tail n m x.1 (before_more i n x.1 (omega (arith, h)) o.1) (before_more i m x.1 (omega (arith, k)) o.1),
    ))
    enough zero m (pair i) h k = absurd (omega (arith, h))
    enough (suc n) zero (pair i) h k = absurd (omega (arith, k))
    enough zero zero (integer z) h k = refl
    enough zero (suc m) (integer z) h k = refl
    enough (suc n) zero (integer z) h k = refl
    enough (suc n) (suc m) (integer z) h k = refl
    enough zero zero (symbol z) h k = refl
    enough zero (suc m) (symbol z) h k = refl
    enough (suc n) zero (symbol z) h k = refl
    enough (suc n) (suc m) (symbol z) h k = refl
    enough zero zero (closure z) h k = refl
    enough zero (suc m) (closure z) h k = refl
    enough (suc n) zero (closure z) h k = refl
    enough (suc n) (suc m) (closure z) h k = refl
    enough zero zero (process_closure z) h k = refl
    enough zero (suc m) (process_closure z) h k = refl
    enough (suc n) zero (process_closure z) h k = refl
    enough (suc n) (suc m) (process_closure z) h k = refl
    enough zero zero (future z) h k = refl
    enough zero (suc m) (future z) h k = refl
    enough (suc n) zero (future z) h k = refl
    enough (suc n) (suc m) (future z) h k = refl

    pub enough_tail : (n m : ℕ) (w : Word) → IsBefore n w → IsBefore m w → tail_within names pairs n w ≡ tail_within names pairs m w
    enough_tail (suc n) (suc m) (pair i) h k = pair_same (codes " ") _ _ _ _ (slice_get pairs i) (λ x e. let o = ordered i x e in (
      enough n m x.0 (before_more i n x.0 (omega (arith, h)) o.0) (before_more i m x.0 (omega (arith, k)) o.0),
      enough_tail n m x.1 (before_more i n x.1 (omega (arith, h)) o.1) (before_more i m x.1 (omega (arith, k)) o.1),
    ))
    enough_tail zero m (pair i) h k = absurd (omega (arith, h))
    enough_tail (suc n) zero (pair i) h k = absurd (omega (arith, k))
    enough_tail zero zero (integer z) h k = refl
    enough_tail zero (suc m) (integer z) h k = refl
    enough_tail (suc n) zero (integer z) h k = refl
    enough_tail (suc n) (suc m) (integer z) h k = refl
    enough_tail zero zero (symbol z) h k = refl
    enough_tail zero (suc m) (symbol z) h k = refl
    enough_tail (suc n) zero (symbol z) h k = refl
    enough_tail (suc n) (suc m) (symbol z) h k = refl
    enough_tail zero zero (closure z) h k = refl
    enough_tail zero (suc m) (closure z) h k = refl
    enough_tail (suc n) zero (closure z) h k = refl
    enough_tail (suc n) (suc m) (closure z) h k = refl
    enough_tail zero zero (process_closure z) h k = refl
    enough_tail zero (suc m) (process_closure z) h k = refl
    enough_tail (suc n) zero (process_closure z) h k = refl
    enough_tail (suc n) (suc m) (process_closure z) h k = refl
    enough_tail zero zero (future z) h k = refl
    enough_tail zero (suc m) (future z) h k = refl
    enough_tail (suc n) zero (future z) h k = refl
    enough_tail (suc n) (suc m) (future z) h k = refl

  -- a pair's text is that of its words
  pub item_parts : (i : ℕ) (x : Word × Word) → slice_get pairs i ≡ Some x → i < length pairs → text_within names pairs (length pairs) (pair i) ≡ codes "(" ++ text_within names pairs (length pairs) x.0 ++ tail_within names pairs (length pairs) x.1
  item_parts i x e l = enough (length pairs) (suc (length pairs)) (pair i) l (omega (arith, l)) ∙ ap (pair_text names (codes "(") (text_within names pairs (length pairs)) (tail_within names pairs (length pairs))) e

  pub rest_parts : (i : ℕ) (x : Word × Word) → slice_get pairs i ≡ Some x → i < length pairs → tail_within names pairs (length pairs) (pair i) ≡ codes " " ++ text_within names pairs (length pairs) x.0 ++ tail_within names pairs (length pairs) x.1
  rest_parts i x e l = enough_tail (length pairs) (suc (length pairs)) (pair i) l (omega (arith, l)) ∙ ap (pair_text names (codes " ") (text_within names pairs (length pairs)) (tail_within names pairs (length pairs))) e

module _ (names : List (List ℕ)) (pairs : List (Word × Word)) where
  pub parts_pushed : (ps : List Part) (p : Part) → parts_text names pairs (ps ++ p ∷ []) ≡ part_text names pairs p ++ parts_text names pairs ps
  parts_pushed [] p = sym (append-nil (part_text names pairs p))
  parts_pushed (q ∷ ps) p = ap (λ t. t ++ part_text names pairs q) (parts_pushed ps p) ∙ append_assoc (part_text names pairs p) (parts_text names pairs ps) (part_text names pairs q)

  pub item_plain : (n : ℕ) (w : Word) → pair_in w ≡ None → text_within names pairs n w ≡ plain_text names w
  item_plain n (pair i) e = absurd cc
  item_plain zero (integer z) e = refl
  item_plain (suc n) (integer z) e = refl
  item_plain zero (symbol z) e = refl
  item_plain (suc n) (symbol z) e = refl
  item_plain zero (closure z) e = refl
  item_plain (suc n) (closure z) e = refl
  item_plain zero (process_closure z) e = refl
  item_plain (suc n) (process_closure z) e = refl
  item_plain zero (future z) e = refl
  item_plain (suc n) (future z) e = refl

  pub rest_plain : (n : ℕ) (w : Word) → pair_in w ≡ None → tail_within names pairs n w ≡ end_text names w
  rest_plain n (pair i) e = absurd cc
  rest_plain zero (integer z) e = refl
  rest_plain (suc n) (integer z) e = refl
  rest_plain zero (symbol z) e = refl
  rest_plain (suc n) (symbol z) e = refl
  rest_plain zero (closure z) e = refl
  rest_plain (suc n) (closure z) e = refl
  rest_plain zero (process_closure z) e = refl
  rest_plain (suc n) (process_closure z) e = refl
  rest_plain zero (future z) e = refl
  rest_plain (suc n) (future z) e = refl

pub parts_before_pushed : (n : ℕ) (ps : List Part) (p : Part) → ArePartsBefore n ps → IsPartBefore n p → ArePartsBefore n (ps ++ p ∷ [])
parts_before_pushed n [] p h k = (k, tt)
parts_before_pushed n (q ∷ ps) p h k = (h.0, parts_before_pushed n ps p h.1 k)

pub parts_before_popped : (n : ℕ) (ps : List Part) (p : Part) → ArePartsBefore n (ps ++ p ∷ []) → ArePartsBefore n ps × IsPartBefore n p
parts_before_popped n [] p h = (tt, h.0)
parts_before_popped n (q ∷ ps) p h = let r = parts_before_popped n ps p h.1 in ((h.0, r.0), r.1)

module _ (names : List (List ℕ)) (pairs : List (Word × Word)) where
  -- the text and what is still to be written stay the same together
  pub still_all : (a b all : List ℕ) (todo popped later : List Part) (p : Part) → a ++ parts_text names pairs todo ≡ all → todo ≡ popped ++ p ∷ []
      → b ++ parts_text names pairs later ≡ a ++ (part_text names pairs p ++ parts_text names pairs popped) → b ++ parts_text names pairs later ≡ all
  still_all a b all todo popped later p h e s =
      s ∙ ap (λ t. a ++ t) (sym (parts_pushed names pairs popped p)) ∙ ap (λ t. a ++ parts_text names pairs t) (sym e) ∙ h

pub too_long : (cap : ℕ) (b t all : List ℕ) → b ++ t ≡ all → nat_lt cap (length b) ≡ true → None ≡ text_up_to cap all
too_long cap b t all e h =
    let l : cap < length b = ltb-true cap (length b) h in
    let k : length all ≡ length b + length t = ap length (sym e) ∙ length-append b t in
    let g : leb (length all) cap ≡ false = lt-leb (length all) cap (omega (arith, l, k)) in
    rw g refl

module _ (names : List (List ℕ)) (pairs : List (Word × Word)) (ordered : AreOrdered pairs) where
  all_later : (todo : List Part) (x : Word × Word) → parts_text names pairs ((todo ++ Rest x.1 ∷ []) ++ Item x.0 ∷ []) ≡ text_within names pairs (length pairs) x.0 ++ (tail_within names pairs (length pairs) x.1 ++ parts_text names pairs todo)
  all_later todo x = parts_pushed names pairs (todo ++ Rest x.1 ∷ []) (Item x.0) ∙ ap (λ t. text_within names pairs (length pairs) x.0 ++ t) (parts_pushed names pairs todo (Rest x.1))

  -- a pair is its opening and, later, its words
  pub item_put : (a : List ℕ) (todo : List Part) (w : Word) (i : ℕ) (x : Word × Word) → pair_in w ≡ Some i → slice_get pairs i ≡ Some x → i < length pairs
      → (a ++ 40 ∷ []) ++ parts_text names pairs ((todo ++ Rest x.1 ∷ []) ++ Item x.0 ∷ []) ≡ a ++ (text_within names pairs (length pairs) w ++ parts_text names pairs todo)
  item_put a todo w i x p e l = rw (is_pair w i p, item_parts names pairs ordered i x e l, all_later todo x) (opened a (text_within names pairs (length pairs) x.0) (tail_within names pairs (length pairs) x.1) (parts_text names pairs todo) 40)

  pub rest_put : (a : List ℕ) (todo : List Part) (w : Word) (i : ℕ) (x : Word × Word) → pair_in w ≡ Some i → slice_get pairs i ≡ Some x → i < length pairs
      → (a ++ 32 ∷ []) ++ parts_text names pairs ((todo ++ Rest x.1 ∷ []) ++ Item x.0 ∷ []) ≡ a ++ (tail_within names pairs (length pairs) w ++ parts_text names pairs todo)
  rest_put a todo w i x p e l = rw (is_pair w i p, rest_parts names pairs ordered i x e l, all_later todo x) (opened a (text_within names pairs (length pairs) x.0) (tail_within names pairs (length pairs) x.1) (parts_text names pairs todo) 32)

  pub later_before : (todo : List Part) (i : ℕ) (x : Word × Word) → slice_get pairs i ≡ Some x → i < length pairs → ArePartsBefore (length pairs) todo → ArePartsBefore (length pairs) ((todo ++ Rest x.1 ∷ []) ++ Item x.0 ∷ [])
  later_before todo i x e l h =
      let o = ordered i x e in
      parts_before_pushed (length pairs) _ (Item x.0) (parts_before_pushed (length pairs) todo (Rest x.1) h (before_more i (length pairs) x.1 (omega (arith, l)) o.1)) (before_more i (length pairs) x.0 (omega (arith, l)) o.0)

  pub item_done : (a new : List ℕ) (todo later : List Part) (p : Part) (w : Word) (i : ℕ) (x : Word × Word) → p ≡ Item w → IsPartBefore (length pairs) p → pair_in w ≡ Some i → slice_get pairs i ≡ Some x
      → new ≡ a ++ 40 ∷ [] → later ≡ (todo ++ Rest x.1 ∷ []) ++ Item x.0 ∷ [] → new ++ parts_text names pairs later ≡ a ++ (part_text names pairs p ++ parts_text names pairs todo)
  item_done a new todo later p w i x is h k e n l = rw (n, l, is) (item_put a todo w i x k e (is_there (length pairs) w i (subst (IsPartBefore (length pairs)) is h) k))

  pub rest_done : (a new : List ℕ) (todo later : List Part) (p : Part) (w : Word) (i : ℕ) (x : Word × Word) → p ≡ Rest w → IsPartBefore (length pairs) p → pair_in w ≡ Some i → slice_get pairs i ≡ Some x
      → new ≡ a ++ 32 ∷ [] → later ≡ (todo ++ Rest x.1 ∷ []) ++ Item x.0 ∷ [] → new ++ parts_text names pairs later ≡ a ++ (part_text names pairs p ++ parts_text names pairs todo)
  rest_done a new todo later p w i x is h k e n l = rw (n, l, is) (rest_put a todo w i x k e (is_there (length pairs) w i (subst (IsPartBefore (length pairs)) is h) k))

  pub later_done : (todo later : List Part) (i : ℕ) (x : Word × Word) → slice_get pairs i ≡ Some x → ArePartsBefore (length pairs) todo → later ≡ (todo ++ Rest x.1 ∷ []) ++ Item x.0 ∷ [] → ArePartsBefore (length pairs) later
  later_done todo later i x e h k = rw k (later_before todo i x e (slice_get_within pairs i x e) h)

  pub plain_done : (a new t : List ℕ) (p : Part) (w : Word) → p ≡ Item w → pair_in w ≡ None → new ≡ a ++ plain_text names w → new ++ t ≡ a ++ (part_text names pairs p ++ t)
  plain_done a new t p w is k n = rw (n, is, item_plain names pairs (length pairs) w k) (append_assoc a (plain_text names w) t)

  pub end_done : (a new t : List ℕ) (p : Part) (w : Word) → p ≡ Rest w → pair_in w ≡ None → new ≡ a ++ end_text names w → new ++ t ≡ a ++ (part_text names pairs p ++ t)
  end_done a new t p w is k n = rw (n, is, rest_plain names pairs (length pairs) w k) (append_assoc a (end_text names w) t)
