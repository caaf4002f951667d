-- Variables made of words in place.
use Rattle.std.proofs.Common.{◌≡◌, refl, sym, ap, ◌∙◌, ℕ, suc, ◌+◌, ◌-◌, ◌/◌, ◌%◌, ◌==◌, ◌<◌, ◌≤◌, Bool, true, false, List, [], ◌∷◌, ◌++◌, length, map, take, drop, reverse, arith, is_some, slice_get, set, append_assoc}
use Rattle.std.specs.Prelude.{option_and_then}
use Rattle.std.specs.List.{list_all}
use Rattle.std.proofs.lemmas.Bool.Decides.{nat_tests}
use Rattle.std.proofs.lemmas.List.{take_more_set, drop-set-lt, length-set, reverse-append, reverse-reverse}
use Rattle.ql_world.specs.declared.word.Word.{Word}
use Rattle.ql_world.specs.declared.word.Word.TheVariants.{Int, Sym, Pair, Fun, Proc, Fut}
use Rattle.ql_world.specs.declared.word.Slot.{Slot}
use Rattle.ql_world.specs.declared.word.Slot.TheVariants.{Val, Cell}
use Rattle.ql_world.specs.Word.{with_value}
use Rattle.ql_world.specs.Tick.{slots_of, words_boxed}
use Rattle.ql_code.specs.Code.{unmasked}
use Rattle.ql_proc.specs.Slots.{is_plain, word_of, words_of, future_in_slot}
use Rattle.ql_proc.specs.Binding.{bound_from, boxes_from}
use Rattle.ql_proc.proofs.Lists.{At, at-of, set-parts}
use Rattle.ql_proc.proofs.Stacks.{minus-minus, reverse-take, reverse-drop, list_all-reverse}

plain-word : (s : Slot) (ss : List Slot) → list_all is_plain (s ∷ ss) ≡ true → (s ≡ Val (word_of s)) × (list_all is_plain ss ≡ true)
plain-word (Val w) ss h = (refl, h)
plain-word (Cell n) ss h = absurd cc

module _ (at : ℕ) (ss : List Slot) (h : at < length ss) where
  abbrev pub here : At ss at
  here = at-of ss at h

  left-is : length ss - at ≡ suc (length ss - (at + 1))
  left-is = omega (arith, h)

  next-is : at + 1 ≡ suc at
  next-is = omega arith

  -- what is to come, of the first of it
  first-word : words_of (drop at ss) ≡ word_of here.item ∷ words_of (drop (suc at) ss)
  first-word = ap words_of here.dropped

  pub still-plain : list_all is_plain (drop at ss) ≡ true → (here.item ≡ Val (word_of here.item)) × (list_all is_plain (drop (at + 1) ss) ≡ true)
  still-plain p = rw next-is (plain-word here.item (drop (suc at) ss) (rw here.dropped at p))

  pub plain-after : (first : ℕ) → list_all is_plain (drop (at + 1) ss) ≡ true → list_all is_plain (drop (at + 1) (set ss at (Cell first))) ≡ true
  plain-after first p = rw (drop-set-lt (at + 1) ss at (Cell first) (omega arith)) p

  module _ (mask first : ℕ) where
    one-bit : (mask % 2 == 1) ≡ true → unmasked (length ss - at) mask ≡ true ∷ unmasked (length ss - (at + 1)) (mask / 2)
    one-bit b = ap (λ (n : ℕ). unmasked n mask) left-is ∙ ap (λ (x : Bool). x ∷ unmasked (length ss - (at + 1)) (mask / 2)) b

    no-bit : (mask % 2 == 1) ≡ false → unmasked (length ss - at) mask ≡ false ∷ unmasked (length ss - (at + 1)) (mask / 2)
    no-bit b = ap (λ (n : ℕ). unmasked n mask) left-is ∙ ap (λ (x : Bool). x ∷ unmasked (length ss - (at + 1)) (mask / 2)) b

    pub bound-stored : mask % 2 ≡ 1 → bound_from (at + 1) (mask / 2) (first + 1) (set ss at (Cell first)) ≡ bound_from at mask first ss
    bound-stored b =
        let t : (mask % 2 == 1) ≡ true = rw b refl in
        rw (take_more_set ss at (Cell first) h, length-set ss at (Cell first), drop-set-lt (at + 1) ss at (Cell first) (omega arith), one-bit t, first-word)
        (append_assoc (take at ss) (Cell first ∷ []) _ ∙ rw next-is refl)

    pub bound-held : (mask % 2 ≡ 1 → ⊥) → list_all is_plain (drop at ss) ≡ true → bound_from (at + 1) (mask / 2) first ss ≡ bound_from at mask first ss
    bound-held b p =
        let t : (mask % 2 == 1) ≡ false = grind (arith, nat_tests, b) in
        let w : here.item ≡ Val (word_of here.item) = (still-plain p).0 in
        rw (no-bit t, first-word, next-is, here.taken) (append_assoc (take at ss) (here.item ∷ []) _ ∙ rw w refl)

    pub boxes-stored : mask % 2 ≡ 1 → boxes_from (at + 1) (mask / 2) (first + 1) (set ss at (Cell first)) ≡ boxes_from at mask first ss
    boxes-stored b =
        let t : (mask % 2 == 1) ≡ true = rw b refl in
        rw (length-set ss at (Cell first), drop-set-lt (at + 1) ss at (Cell first) (omega arith), one-bit t, first-word, next-is) (omega arith)

    pub boxes-held : (mask % 2 ≡ 1 → ⊥) → boxes_from (at + 1) (mask / 2) first ss ≡ boxes_from at mask first ss
    boxes-held b =
        let t : (mask % 2 == 1) ≡ false = grind (arith, nat_tests, b) in
        rw (no-bit t, first-word, next-is) refl

    pub room-left : mask % 2 ≡ 1 → first + 1 ≤ boxes_from at mask first ss
    room-left b =
        let t : (mask % 2 == 1) ≡ true = rw b refl in
        rw (one-bit t, first-word) (omega arith)

  -- a word in place of the first future

  future-is : (s : Slot) → is_some (future_in_slot s) ≡ true → (f : ℕ) × (s ≡ Val (Fut f))
  future-is (Val (Int z)) h = absurd cc
  future-is (Val (Sym n)) h = absurd cc
  future-is (Val (Pair n)) h = absurd cc
  future-is (Val (Fun n)) h = absurd cc
  future-is (Val (Proc n)) h = absurd cc
  future-is (Val (Fut f)) h = (f, refl)
  future-is (Cell n) h = absurd cc

  passed : (v : Word) (s : Slot) (ws : List Word) → is_some (future_in_slot s) ≡ false → s ≡ Val (word_of s) → map Val (with_value v (word_of s ∷ ws)) ≡ s ∷ map Val (with_value v ws)
  passed v (Val (Int z)) ws h p = refl
  passed v (Val (Sym n)) ws h p = refl
  passed v (Val (Pair n)) ws h p = refl
  passed v (Val (Fun n)) ws h p = refl
  passed v (Val (Proc n)) ws h p = refl
  passed v (Val (Fut f)) ws h p = absurd cc
  passed v (Cell n) ws h p = absurd cc

  futures-later : (ss : List Slot) → list_all is_plain ss ≡ true → map Val (words_of ss) ≡ ss
  futures-later [] h = refl
  futures-later (s ∷ ss) h = let p = plain-word s ss h in rw (futures-later ss p.1) (ap (λ (x : Slot). x ∷ ss) (sym p.0))

  pub value-found : (v : Word) → list_all is_plain (drop at ss) ≡ true → is_some (option_and_then future_in_slot (slice_get ss at)) ≡ true
      → set ss at (Val v) ≡ take at ss ++ map Val (with_value v (words_of (drop at ss)))
  value-found v p e =
      let f = future-is here.item (rw here.got at e) in
      let q : list_all is_plain (drop (suc at) ss) ≡ true = (plain-word here.item (drop (suc at) ss) (rw here.dropped at p)).1 in
      rw (set-parts ss at (Val v) h, first-word, f.1, futures-later (drop (suc at) ss) q) refl

  pub value-later : (v : Word) → list_all is_plain (drop at ss) ≡ true → is_some (option_and_then future_in_slot (slice_get ss at)) ≡ false
      → take (at + 1) ss ++ map Val (with_value v (words_of (drop (at + 1) ss))) ≡ take at ss ++ map Val (with_value v (words_of (drop at ss)))
  value-later v p e =
      let n : is_some (future_in_slot here.item) ≡ false = rw here.got at e in
      let w : here.item ≡ Val (word_of here.item) = (still-plain p).0 in
      rw (first-word, next-is, here.taken, passed v here.item (words_of (drop (suc at) ss)) n w) (append_assoc (take at ss) (here.item ∷ []) _)

-- by slots with the topmost first

module _ (count : ℕ) (xs : List Slot) (h : count ≤ length xs) where
  pub last-is : drop (length xs - count) xs ≡ reverse (take count (reverse xs))
  last-is = sym (reverse-reverse (drop (length xs - count) xs)) ∙ ap reverse (reverse-drop count xs h)

  first-is : reverse (take (length xs - count) xs) ≡ drop count (reverse xs)
  first-is = reverse-take (length xs - count) xs (omega arith) ∙ ap (λ (n : ℕ). drop n (reverse xs)) (minus-minus (length xs) count h)

  pub plain-last : list_all is_plain (take count (reverse xs)) ≡ true → list_all is_plain (drop (length xs - count) xs) ≡ true
  plain-last p = rw last-is (list_all-reverse is_plain (take count (reverse xs)) ∙ p)

  -- the last so many give way to these
  pub last-by : (ys : List Slot) → reverse (take (length xs - count) xs ++ ys) ≡ reverse ys ++ drop count (reverse xs)
  last-by ys = reverse-append (take (length xs - count) xs) ys ∙ ap (λ (zs : List Slot). reverse ys ++ zs) first-is

  pub boxes-last : (mask first : ℕ) → boxes_from (length xs - count) mask first xs ≡ first + length (words_boxed (unmasked count mask) (words_of (reverse (take count (reverse xs)))))
  boxes-last mask first = rw (minus-minus (length xs) count h, last-is) refl

  pub bound-last : (mask first : ℕ) → reverse (bound_from (length xs - count) mask first xs) ≡ reverse (slots_of (unmasked count mask) (words_of (reverse (take count (reverse xs)))) first) ++ drop count (reverse xs)
  bound-last mask first = last-by (slots_of (unmasked (length xs - (length xs - count)) mask) (words_of (drop (length xs - count) xs)) first) ∙ rw (minus-minus (length xs) count h, last-is) refl

  pub value-last : (v : Word) → reverse (take (length xs - count) xs ++ map Val (with_value v (words_of (drop (length xs - count) xs)))) ≡ reverse (map Val (with_value v (words_of (reverse (take count (reverse xs)))))) ++ drop count (reverse xs)
  value-last v = last-by (map Val (with_value v (words_of (drop (length xs - count) xs)))) ∙ rw last-is refl
