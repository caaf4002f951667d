-- The topmost words of a stack.
use Rattle.std.proofs.Common.{◌≡◌, refl, sym, ap, ◌∙◌, ℕ, zero, suc, ◌+◌, ◌-◌, ◌<◌, ◌≤◌, Bool, true, false, List, [], ◌∷◌, ◌++◌, length, map, replicate, take, drop, reverse, arith, length-append, append_assoc, Some, ◌==◌, slice_get, ⊎_elim, ◌⊎◌, inl, inr}
use Rattle.std.proofs.lemmas.Bool.Decides.{nat_tests}
use Rattle.std.proofs.lemmas.List.{reverse-append, reverse-reverse, length-reverse, take-append-drop, map-append}
use Rattle.ql_world.specs.declared.word.Word.{Word}
use Rattle.ql_world.specs.declared.word.Slot.{Slot}
use Rattle.ql_world.specs.declared.word.Slot.TheVariants.{Val as Plain, Cell as Boxed}
use Rattle.ql_world.specs.declared.word.Word.TheVariants.{Fut}
use Rattle.ql_world.specs.World.{numbers}
use Rattle.ql_world.specs.Tick.{slots_of}
use Rattle.ql_code.specs.Machine.{Item, slot, mark, word, words, push_slots, push}
use Rattle.ql_proc.specs.Slots.{words_of, word_of, are_words, slots_on, HasWords}
use Rattle.ql_code.specs.Code.{unmasked}
use Rattle.ql_code.specs.declared.mark.Mark.{Mark}

pub words-within : (n : ℕ) (st : List Item) → are_words n st ≡ true → n ≤ length (slots_on st)
words-within zero st h = omega arith
words-within (suc n) [] h = absurd cc
words-within (suc n) (slot (Plain w) ∷ st) h = let r : n ≤ length (slots_on st) = words-within n st h in omega arith
words-within (suc n) (slot (Boxed b) ∷ st) h = absurd cc
words-within (suc n) (mark k ∷ st) h = absurd cc

pub cases : (b : Bool) → (b ≡ true) ⊎ (b ≡ false)
cases true = inl refl
cases false = inr refl

-- so many words, told by how many there are

same : (n : ℕ) → (n == n) ≡ true
same n = grind (arith, nat_tests)

not-same : (m n : ℕ) → (m ≡ n → ⊥) → (m == n) ≡ false
not-same m n h = grind (arith, nat_tests)

pub there : (n : ℕ) (st : List Item) → HasWords n st → are_words n st ≡ true
there zero st h = refl
there (suc n) [] h = absurd (omega arith)
there (suc n) (slot (Plain w) ∷ st) h = there n st (let r : length (words n st ++ w ∷ []) ≡ suc n = h in omega (arith, r, length-append (words n st) (w ∷ [])))
there (suc n) (slot (Boxed b) ∷ st) h = absurd (omega arith)
there (suc n) (mark k ∷ st) h = absurd (omega arith)

pub length-words : (n : ℕ) (st : List Item) → are_words n st ≡ true → length (words n st) ≡ n
length-words zero st h = refl
length-words (suc n) [] h = absurd cc
length-words (suc n) (slot (Plain w) ∷ st) h = let r : length (words n st) ≡ n = length-words n st h in omega (arith, length-append (words n st) (w ∷ []))
length-words (suc n) (slot (Boxed b) ∷ st) h = absurd cc
length-words (suc n) (mark k ∷ st) h = absurd cc

-- none of these is stored
pub plain-slots : (xs : List Word) (first : ℕ) → slots_of (unmasked (length xs) 0) xs first ≡ map Plain xs
plain-slots [] first = refl
plain-slots (x ∷ xs) first = ap (λ (ss : List Slot). Plain x ∷ ss) (plain-slots xs first)

pub words-plain : (n : ℕ) (st : List Item) (first : ℕ) → are_words n st ≡ true → slots_of (unmasked n 0) (words n st) first ≡ map Plain (words n st)
words-plain n st first h = rw (length-words n st h) at (plain-slots (words n st) first)

push-last : (ss : List Slot) (s : Slot) (st : List Item) → push_slots (ss ++ s ∷ []) st ≡ slot s ∷ push_slots ss st
push-last [] s st = refl
push-last (t ∷ ss) s st = push-last ss s (slot t ∷ st)

map-last : (xs : List Word) (x : Word) → map Plain (xs ++ x ∷ []) ≡ map Plain xs ++ Plain x ∷ []
map-last [] x = refl
map-last (y ∷ xs) x = ap (λ (ys : List Slot). Plain y ∷ ys) (map-last xs x)

pub push-words : (n : ℕ) (st under : List Item) → are_words n st ≡ true → push_slots (map Plain (words n st)) under ≡ take n st ++ under
push-words zero st under h = refl
push-words (suc n) [] under h = absurd cc
push-words (suc n) (slot (Plain w) ∷ st) under h =
    rw (map-last (words n st) w, push-last (map Plain (words n st)) (Plain w) under) (ap (λ (x : List Item). slot (Plain w) ∷ x) (push-words n st under h))
push-words (suc n) (slot (Boxed b) ∷ st) under h = absurd cc
push-words (suc n) (mark k ∷ st) under h = absurd cc

pub push-back : (n : ℕ) (st : List Item) → are_words n st ≡ true → push_slots (map Plain (words n st)) (drop n st) ≡ st
push-back n st h = push-words n st (drop n st) h ∙ take-append-drop n st

pub push-plain : (ws : List Word) (st : List Item) → push_slots (map Plain ws) st ≡ push ws st
push-plain [] st = refl
push-plain (w ∷ ws) st = push-plain ws (slot (Plain w) ∷ st)

pub push-reverse : (ss : List Slot) (st : List Item) → push_slots ss st ≡ map slot (reverse ss) ++ st
push-reverse [] st = refl
push-reverse (s ∷ ss) st =
    push-reverse ss (slot s ∷ st)
    ∙ rw (reverse-append (s ∷ []) ss, map-append slot (reverse ss) (s ∷ [])) (sym (append_assoc (map slot (reverse ss)) (slot s ∷ []) st))

words_of-last : (ss : List Slot) (s : Slot) → words_of (ss ++ s ∷ []) ≡ words_of ss ++ word_of s ∷ []
words_of-last [] s = refl
words_of-last (t ∷ ss) s = ap (λ (x : List Word). word_of t ∷ x) (words_of-last ss s)

-- the words by the slots above the marks
pub words-slots : (n : ℕ) (st : List Item) → are_words n st ≡ true → words n st ≡ words_of (reverse (take n (slots_on st)))
words-slots zero st h = refl
words-slots (suc n) [] h = absurd cc
words-slots (suc n) (slot (Plain w) ∷ st) h =
    rw (reverse-append (Plain w ∷ []) (take n (slots_on st)), words-slots n st h) (sym (words_of-last (reverse (take n (slots_on st))) (Plain w)))
words-slots (suc n) (slot (Boxed b) ∷ st) h = absurd cc
words-slots (suc n) (mark k ∷ st) h = absurd cc

-- words stand above the topmost mark
pub words-above : (n : ℕ) (ss : List Slot) (k : Mark) (st : List Item) → words n (map slot ss ++ (mark k ∷ st)) ≡ words n (map slot ss)
words-above zero ss k st = refl
words-above (suc n) [] k st = refl
words-above (suc n) (Plain w ∷ ss) k st = ap (λ (ws : List Word). ws ++ w ∷ []) (words-above n ss k st)
words-above (suc n) (Boxed b ∷ ss) k st = refl

-- the word under so many words

pub words-under : (n : ℕ) (st : List Item) (w : Word) → are_words n st ≡ true → slice_get (slots_on st) n ≡ Some (Plain w) → words (suc n) st ≡ w ∷ words n st
words-under n [] w h g = absurd cc
words-under zero (slot (Plain v) ∷ st) w h g = let e : v ≡ w = cc in ap (λ (x : Word). x ∷ []) e
words-under zero (slot (Boxed b) ∷ st) w h g = absurd cc
words-under (suc n) (slot (Plain v) ∷ st) w h g = ap (λ (x : List Word). x ++ v ∷ []) (words-under n st w h g)
words-under (suc n) (slot (Boxed b) ∷ st) w h g = absurd cc
words-under n (mark k ∷ st) w h g = absurd cc

pub box-under : (n b : ℕ) (st : List Item) → are_words n st ≡ true → slice_get (slots_on st) n ≡ Some (Boxed b) → words (suc n) st ≡ words n st
box-under n b [] h g = absurd cc
box-under zero b (slot (Plain v) ∷ st) h g = absurd cc
box-under zero b (slot (Boxed d) ∷ st) h g = refl
box-under (suc n) b (slot (Plain v) ∷ st) h g = ap (λ (x : List Word). x ++ v ∷ []) (box-under n b st h g)
box-under (suc n) b (slot (Boxed d) ∷ st) h g = absurd cc
box-under n b (mark k ∷ st) h g = absurd cc

pub none-under : (n : ℕ) (st : List Item) → are_words n st ≡ true → length (slots_on st) ≤ n → words (suc n) st ≡ words n st
none-under zero [] h g = refl
none-under zero (slot s ∷ st) h g = absurd (omega arith)
none-under zero (mark k ∷ st) h g = refl
none-under (suc n) [] h g = absurd cc
none-under (suc n) (slot (Plain v) ∷ st) h g = ap (λ (x : List Word). x ++ v ∷ []) (none-under n st h (omega arith))
none-under (suc n) (slot (Boxed d) ∷ st) h g = absurd cc
none-under (suc n) (mark k ∷ st) h g = absurd cc

pub push-append : (xs ys : List Slot) (st : List Item) → push_slots (xs ++ ys) st ≡ push_slots ys (push_slots xs st)
push-append [] ys st = refl
push-append (x ∷ xs) ys st = push-append xs ys (slot x ∷ st)

-- one more of so many futures
pub push-more : (first count n : ℕ) (st : List Item) → n < count
    → push (map Fut (numbers (first + (n + 1)) (count - (n + 1)))) (slot (Plain (Fut (first + n))) ∷ st) ≡ push (map Fut (numbers (first + n) (count - n))) st
push-more first count n st h =
    let e : count - n ≡ suc (count - (n + 1)) = omega (arith, h) in
    let f : first + (n + 1) ≡ first + n + 1 = omega arith in
    rw (e, f) refl

pub within : (n : ℕ) (st : List Item) → HasWords n st → n ≤ length (slots_on st)
within n st h = words-within n st (there n st h)

pub told : (n : ℕ) (st : List Item) → are_words n st ≡ (length (words n st) == n)
told n st =
    ⊎_elim
    (λ (a : are_words n st ≡ true). let l : length (words n st) ≡ n = length-words n st a in rw (a, l) (sym (same n)))
    (λ (a : are_words n st ≡ false). rw a (sym (not-same (length (words n st)) n (λ (h : length (words n st) ≡ n). absurd (let t = there n st h in cc)))))
    (cases (are_words n st))

-- under a mark that was put under them
pub words-entered : (n : ℕ) (st under : List Item) → are_words n st ≡ true → words n (take n st ++ under) ≡ words n st
words-entered zero st under h = refl
words-entered (suc n) [] under h = absurd cc
words-entered (suc n) (slot (Plain w) ∷ st) under h = ap (λ (ws : List Word). ws ++ w ∷ []) (words-entered n st under h)
words-entered (suc n) (slot (Boxed b) ∷ st) under h = absurd cc
words-entered (suc n) (mark k ∷ st) under h = absurd cc

pub drop-entered : (n : ℕ) (st under : List Item) → are_words n st ≡ true → drop n (take n st ++ under) ≡ under
drop-entered zero st under h = refl
drop-entered (suc n) [] under h = absurd cc
drop-entered (suc n) (slot (Plain w) ∷ st) under h = drop-entered n st under h
drop-entered (suc n) (slot (Boxed b) ∷ st) under h = absurd cc
drop-entered (suc n) (mark k ∷ st) under h = absurd cc

pub take-entered : (n : ℕ) (st under : List Item) → are_words n st ≡ true → take n (take n st ++ under) ≡ take n st
take-entered zero st under h = refl
take-entered (suc n) [] under h = absurd cc
take-entered (suc n) (slot (Plain w) ∷ st) under h = ap (λ (x : List Item). slot (Plain w) ∷ x) (take-entered n st under h)
take-entered (suc n) (slot (Boxed b) ∷ st) under h = absurd cc
take-entered (suc n) (mark k ∷ st) under h = absurd cc

pub fewer : (n : ℕ) (st : List Item) → are_words (suc n) st ≡ true → are_words n st ≡ true
fewer zero st h = refl
fewer (suc n) [] h = absurd cc
fewer (suc n) (slot (Plain w) ∷ st) h = fewer n st h
fewer (suc n) (slot (Boxed b) ∷ st) h = absurd cc
fewer (suc n) (mark k ∷ st) h = absurd cc

-- words that were pushed

pushed-words : (ws : List Word) (st : List Item) → push ws st ≡ map word (reverse ws) ++ st
pushed-words [] st = refl
pushed-words (w ∷ ws) st =
    pushed-words ws (word w ∷ st)
    ∙ rw (reverse-append (w ∷ []) ws, map-append word (reverse ws) (w ∷ [])) (sym (append_assoc (map word (reverse ws)) (word w ∷ []) st))

words-first : (ws : List Word) (st : List Item) → words (length ws) (map word ws ++ st) ≡ reverse ws
words-first [] st = refl
words-first (w ∷ ws) st = rw (words-first ws st) (sym (reverse-append (w ∷ []) ws))

past-first : (ws : List Word) (st : List Item) → drop (length ws) (map word ws ++ st) ≡ st
past-first [] st = refl
past-first (w ∷ ws) st = past-first ws st

pub words-pushed : (ws : List Word) (st : List Item) → words (length ws) (push ws st) ≡ ws
words-pushed ws st =
    rw (pushed-words ws st, ← length-reverse ws) (words-first (reverse ws) st ∙ reverse-reverse ws)

pub drop-pushed : (ws : List Word) (st : List Item) → drop (length ws) (push ws st) ≡ st
drop-pushed ws st = rw (pushed-words ws st, ← length-reverse ws) (past-first (reverse ws) st)

pub replicate-more : {A : Type 0} (n : ℕ) (x : A) (st : List A) → replicate n x ++ (x ∷ st) ≡ replicate (suc n) x ++ st
replicate-more zero x st = refl
replicate-more {A = A} (suc n) x st = ap (λ (ys : List A). x ∷ ys) (replicate-more n x st)

-- one more of so many
pub replicate-on : {A : Type 0} (count n : ℕ) (x : A) (st : List A) → n < count → replicate (count - (n + 1)) x ++ (x ∷ st) ≡ replicate (count - n) x ++ st
replicate-on count n x st h =
    let e : count - n ≡ suc (count - (n + 1)) = omega (arith, h) in
    rw e (replicate-more (count - (n + 1)) x st)
