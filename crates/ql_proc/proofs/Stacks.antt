-- What slots and marks say of the items of a stack.
use Rattle.std.proofs.Common.{◌≡◌, refl, sym, ap, ◌∙◌, ℕ, zero, suc, ◌+◌, ◌-◌, ◌==◌, ◌<◌, ◌≤◌, Bool, true, false, ◌&&◌, if◌then◌else◌, List, [], ◌∷◌, ◌++◌, length, map, take, drop, reverse, arith, length-append, length-drop, Some, None, is_some, slice_get, set}
use Rattle.std.proofs.lemmas.List.{reverse-append, reverse-reverse, length-reverse, take-append-drop, length-take-le, append-nil}
use Rattle.std.proofs.Math.Seq.{drop-append_seam, take-suc-set, take-length}
use Rattle.std.proofs.Math.Dec.{eqb-suc-suc}
use Rattle.std.specs.List.{list_all}
use Rattle.std.proofs.lemmas.List.Folds.{list_all-append}
use Rattle.ql_world.specs.declared.word.Slot.{Slot}
use Rattle.ql_code.specs.declared.mark.Mark.{Mark}
use Rattle.ql_code.specs.declared.mark.Mark.TheVariants.{Returning, Catching, Protecting, Cleaning, Base}
use Rattle.ql_world.specs.declared.word.Slot.TheVariants.{Val as Plain, Cell as Boxed}
use Rattle.ql_proc.specs.declared.stack.Marker.{Marker}
use Rattle.ql_code.specs.Machine.{Item, slot, mark, words, push_slots, frame_of, slot_at, top_mark, below_mark, slid}
use Rattle.ql_proc.specs.Slots.{is_frame, slots_on, are_words, is_plain, without_mark, words_of}
use Rattle.ql_proc.proofs.Words.{push-reverse, words-within, words-slots}
use Rattle.ql_proc.specs.Stacked.{items_of, floor_of, base_of, mark_of, Rises, IsStack, marker_on}

pub suc-minus : (n h : ℕ) → h ≤ n → suc n - h ≡ suc (n - h)
suc-minus n h p = omega arith

pub minus-minus : (n k : ℕ) → k ≤ n → n - (n - k) ≡ k
minus-minus n k p = omega arith

pub minus-zero : (n : ℕ) → n - 0 ≡ n
minus-zero n = omega arith

module _ {A : Type 0} where
  pub reverse-last : (xs : List A) (x : A) → reverse (xs ++ x ∷ []) ≡ x ∷ reverse xs
  reverse-last xs x = reverse-append xs (x ∷ [])

  pub reverse-take : (n : ℕ) (xs : List A) → n ≤ length xs → reverse (take n xs) ≡ drop (length xs - n) (reverse xs)
  reverse-take n xs h =
      let e : reverse xs ≡ reverse (drop n xs) ++ reverse (take n xs) = ap reverse (sym (take-append-drop n xs)) ∙ reverse-append (take n xs) (drop n xs) in
      let l : length (reverse (drop n xs)) ≡ length xs - n = length-reverse (drop n xs) ∙ length-drop n xs in
      rw (e, ← l) (sym (drop-append_seam (reverse (drop n xs)) (reverse (take n xs))))

pub items-push : (s : Slot) (ss : List Slot) (ms : List Marker) → floor_of ms ≤ length ss → items_of (s ∷ ss) ms ≡ slot s ∷ items_of ss ms
items-push s ss [] p = refl
items-push s ss (m ∷ ms) p = rw (suc-minus (length ss) m.height p) refl

pub items-drop : (n : ℕ) (ss : List Slot) (ms : List Marker) → floor_of ms + n ≤ length ss → items_of (drop n ss) ms ≡ drop n (items_of ss ms)
items-drop zero ss ms p = refl
items-drop (suc n) [] ms p = absurd (omega arith)
items-drop (suc n) (s ∷ ss) ms p = rw (items-push s ss ms (omega arith)) (items-drop n ss ms (omega arith))

pub slots_on-mark : (ss : List Slot) (k : Mark) (st : List Item) → slots_on (map slot ss ++ (mark k ∷ st)) ≡ ss
slots_on-mark [] k st = refl
slots_on-mark (s ∷ ss) k st = ap (λ (x : List Slot). s ∷ x) (slots_on-mark ss k st)

pub slots_on-slots : (ss : List Slot) → slots_on (map slot ss) ≡ ss
slots_on-slots [] = refl
slots_on-slots (s ∷ ss) = ap (λ (x : List Slot). s ∷ x) (slots_on-slots ss)

pub length-slots_on : (ss : List Slot) (ms : List Marker) → floor_of ms ≤ length ss → length (slots_on (items_of ss ms)) ≡ length ss - floor_of ms
length-slots_on ss [] p = rw (slots_on-slots ss, minus-zero (length ss)) refl
length-slots_on ss (m ∷ ms) p =
    rw (slots_on-mark (take (length ss - m.height) ss) m.mark (items_of (drop (length ss - m.height) ss) ms)) (length-take-le (length ss - m.height) ss (omega arith))

pub top_mark-mark : (ss : List Slot) (k : Mark) (st : List Item) → top_mark (map slot ss ++ (mark k ∷ st)) ≡ Some k
top_mark-mark [] k st = refl
top_mark-mark (s ∷ ss) k st = top_mark-mark ss k st

pub top_mark-slots : (ss : List Slot) → top_mark (map slot ss) ≡ None
top_mark-slots [] = refl
top_mark-slots (s ∷ ss) = top_mark-slots ss

pub below_mark-mark : (ss : List Slot) (k : Mark) (st : List Item) → below_mark (map slot ss ++ (mark k ∷ st)) ≡ st
below_mark-mark [] k st = refl
below_mark-mark (s ∷ ss) k st = below_mark-mark ss k st

pub frame_of-slots : (ss : List Slot) → frame_of (map slot ss) ≡ ss
frame_of-slots [] = refl
frame_of-slots (s ∷ ss) = ap (λ (x : List Slot). s ∷ x) (frame_of-slots ss)

-- what a mark lets through of the frame under it
abbrev pub through : Mark → List Slot → List Slot
through k ss = if is_frame k then [] else ss

pub frame_of-through : (k : Mark) (st : List Item) → frame_of (mark k ∷ st) ≡ through k (frame_of st)
frame_of-through (Returning pc) st = refl
frame_of-through (Catching c pc) st = refl
frame_of-through (Protecting u pc) st = refl
frame_of-through (Cleaning u c) st = refl
frame_of-through (Base j) st = refl

pub frame_of-mark : (ss : List Slot) (k : Mark) (st : List Item) → frame_of (map slot ss ++ (mark k ∷ st)) ≡ ss ++ through k (frame_of st)
frame_of-mark [] k st = frame_of-through k st
frame_of-mark (s ∷ ss) k st = ap (λ (x : List Slot). s ∷ x) (frame_of-mark ss k st)

take-then : {A : Type 0} (n k : ℕ) (xs : List A) → take n xs ++ take k (drop n xs) ≡ take (n + k) xs
take-then zero k xs = let e : 0 + k ≡ k = omega arith in rw e (refl)
take-then (suc n) zero [] = let e : suc n + 0 ≡ suc n = omega arith in rw e refl
take-then (suc n) (suc k) [] = let e : suc n + suc k ≡ suc (n + suc k) = omega arith in rw e (refl)
take-then {A = A} (suc n) k (x ∷ xs) = let e : suc n + k ≡ suc (n + k) = omega arith in rw e ((ap (λ (ys : List A). x ∷ ys) (take-then n k xs)))

-- the part down to b in two
take-two : {A : Type 0} (h b : ℕ) (ss : List A) → b ≤ h → h ≤ length ss
    → take (length ss - h) ss ++ take (h - b) (drop (length ss - h) ss) ≡ take (length ss - b) ss
take-two h b ss p q = take-then (length ss - h) (h - b) ss ∙ (let e : length ss - h + (h - b) ≡ length ss - b = omega arith in ap (λ (n : ℕ). take n ss) e)

pub base-if : (b : Bool) (h x n : ℕ) → h ≤ n → x ≤ h → (if b then h else x) ≤ n
base-if true h x n p q = p
base-if false h x n p q = omega arith

pub base-within : (n : ℕ) (ms : List Marker) → Rises n ms → base_of ms ≤ n
base-within n [] r = omega arith
base-within n (m ∷ ms) r = base-if (is_frame m.mark) m.height (base_of ms) n r.0 (base-within m.height ms r.1.1)

through-take : {A : Type 0} (b : Bool) (h x : ℕ) (ss : List A) → x ≤ h → h ≤ length ss
    → take (length ss - h) ss ++ (if b then [] else take (h - x) (drop (length ss - h) ss)) ≡ take (length ss - (if b then h else x)) ss
through-take true h x ss p q = append-nil (take (length ss - h) ss)
through-take false h x ss p q = take-two h x ss p q

pub length-under : {A : Type 0} (h : ℕ) (ss : List A) → h ≤ length ss → length (drop (length ss - h) ss) ≡ h
length-under h ss p = length-drop (length ss - h) ss ∙ minus-minus (length ss) h p

pub frame_of-items : (ss : List Slot) (ms : List Marker) → Rises (length ss) ms → frame_of (items_of ss ms) ≡ take (length ss - base_of ms) ss
frame_of-items ss [] r = rw (frame_of-slots ss, minus-zero (length ss)) (sym (take-length ss))
frame_of-items ss (m ∷ ms) r =
    let under = drop (length ss - m.height) ss in
    let l : length under ≡ m.height = length-under m.height ss r.0 in
    let ih : frame_of (items_of under ms) ≡ take (m.height - base_of ms) under = rw l at (frame_of-items under ms (rw l r.1.1)) in
    frame_of-mark (take (length ss - m.height) ss) m.mark (items_of under ms)
    ∙ (ap (λ (x : List Slot). take (length ss - m.height) ss ++ through m.mark x) ih
    ∙ through-take (is_frame m.mark) m.height (base_of ms) ss (base-within m.height ms r.1.1) r.0)

same-suc : (i n : ℕ) → (suc i == suc n) ≡ (i == n)
same-suc i n = eqb-suc-suc i n

slice_get-last : {A : Type 0} (xs : List A) (x : A) (i : ℕ) → slice_get (xs ++ x ∷ []) i ≡ (if i == length xs then Some x else slice_get xs i)
slice_get-last [] x zero = refl
slice_get-last [] x (suc i) = grind arith
slice_get-last (y ∷ xs) x zero = grind arith
slice_get-last {A = A} (y ∷ xs) x (suc i) = rw (same-suc i (length xs)) (slice_get-last xs x i)

pub slot_at-reverse : (ss : List Slot) (i : ℕ) → slot_at ss i ≡ slice_get (reverse ss) i
slot_at-reverse [] i = refl
slot_at-reverse (s ∷ ss) i =
    let e : slice_get (reverse ss ++ s ∷ []) i ≡ (if i == length ss then Some s else slice_get (reverse ss) i) = rw (length-reverse ss) at (slice_get-last (reverse ss) s i) in
    rw (slot_at-reverse ss i) (sym e ∙ ap (λ (x : List Slot). slice_get x i) (sym (reverse-append (s ∷ []) ss)))

pub slice_get-drop : {A : Type 0} (n i : ℕ) (xs : List A) → slice_get (drop n xs) i ≡ slice_get xs (n + i)
slice_get-drop zero i xs = let e : 0 + i ≡ i = omega arith in rw e (refl)
slice_get-drop (suc n) i [] = refl
slice_get-drop (suc n) i (x ∷ xs) = let e : suc n + i ≡ suc (n + i) = omega arith in rw e ((slice_get-drop n i xs))

-- a slot of the topmost frame, by slots of which the last one is the topmost
pub local-slot : (slots : List Slot) (ms : List Marker) (i : ℕ) → Rises (length (reverse slots)) ms
    → slot_at (frame_of (items_of (reverse slots) ms)) i ≡ slice_get slots (base_of ms + i)
local-slot slots ms i r =
    let b = base_of ms in
    let within : b ≤ length slots = rw (length-reverse slots) at (base-within (length (reverse slots)) ms r) in
    let e : reverse (take (length slots - b) (reverse slots)) ≡ drop b slots =
    reverse-take (length slots - b) (reverse slots) (rw (length-reverse slots) (omega arith))
    ∙ rw (reverse-reverse slots, length-reverse slots, minus-minus (length slots) b within) refl in
    rw (frame_of-items (reverse slots) ms r, length-reverse slots)
    (slot_at-reverse (take (length slots - b) (reverse slots)) i ∙ (ap (λ (x : List Slot). slice_get x i) e ∙ slice_get-drop b i slots))

pub items-enter : (k : Mark) (n b : ℕ) (ss : List Slot) (ms : List Marker) → n ≤ length ss
    → items_of ss (marker_on ms k (length ss - n) b ∷ ms) ≡ map slot (take n ss) ++ (mark k ∷ items_of (drop n ss) ms)
items-enter k n b ss ms p = rw (minus-minus (length ss) n p) refl

pub top_mark-items : (ss : List Slot) (m : Marker) (ms : List Marker) → top_mark (items_of ss (m ∷ ms)) ≡ Some m.mark
top_mark-items ss m ms = top_mark-mark (take (length ss - m.height) ss) m.mark (items_of (drop (length ss - m.height) ss) ms)

pub below_mark-items : (ss : List Slot) (m : Marker) (ms : List Marker) → below_mark (items_of ss (m ∷ ms)) ≡ items_of (drop (length ss - m.height) ss) ms
below_mark-items ss m ms = below_mark-mark (take (length ss - m.height) ss) m.mark (items_of (drop (length ss - m.height) ss) ms)

-- a slot put at a height, as the topmost
pub reverse-put : {A : Type 0} (xs : List A) (h : ℕ) (x : A) → h < length xs → reverse (take (suc h) (set xs h x)) ≡ x ∷ drop (length xs - h) (reverse xs)
reverse-put {A = A} xs h x p = rw (take-suc-set xs h x p) (reverse-last (take h xs) x ∙ ap (λ (ys : List A). x ∷ ys) (reverse-take h xs (omega arith)))

pub floor-within : (n : ℕ) (ms : List Marker) → Rises n ms → floor_of ms ≤ n
floor-within n [] r = omega arith
floor-within n (m ∷ ms) r = r.0

pub rises-to : (n k : ℕ) (ms : List Marker) → floor_of ms ≤ k → Rises n ms → Rises k ms
rises-to n k [] h r = tt
rises-to n k (m ∷ ms) h r = (h, r.1)

pub items-slide : (ss : List Slot) (ms : List Marker) (count : ℕ) (top : Slot) → Rises (length ss) ms → count < length (slots_on (items_of ss ms)) → slice_get ss 0 ≡ Some top
    → items_of (top ∷ drop (length ss - (length ss - 1 - count)) ss) ms ≡ slid count (items_of ss ms)
items-slide [] ms count top r c g = absurd cc
items-slide (t ∷ ss) ms count top r c g =
    let n = length (t ∷ ss) in
    let l : length (slots_on (items_of (t ∷ ss) ms)) ≡ n - floor_of ms = length-slots_on (t ∷ ss) ms (floor-within n ms r) in
    let h : floor_of ms + count < n = omega (arith, l, c) in
    let z : n - (n - 1 - count) ≡ suc count = omega (arith, h) in
    let same : t ≡ top = cc in
    let d : length (drop count ss) ≡ length ss - count = length-drop count ss in
    rw (z, ← same, items-push t ss ms (omega (arith, h)), items-push t (drop count ss) ms (omega (arith, h, d)))
    (ap (λ (x : List Item). slot t ∷ x) (items-drop count ss ms (omega (arith, h))))

pub items-give : (w : Slot) (ss : List Slot) (m : Marker) (ms : List Marker) → Rises (length ss) (m ∷ ms) → m.height < length ss
    → items_of (w ∷ drop (length ss - m.height) ss) ms ≡ slot w ∷ below_mark (items_of ss (m ∷ ms))
items-give w ss m ms r h =
    let l : length (drop (length ss - m.height) ss) ≡ m.height = length-under m.height ss r.0 in
    let f : floor_of ms ≤ m.height = floor-within m.height ms r.1.1 in
    rw (below_mark-items ss m ms) (items-push w (drop (length ss - m.height) ss) ms (omega (arith, l, f)))

pub top_mark-of : (ss : List Slot) (ms : List Marker) → top_mark (items_of ss ms) ≡ mark_of ms
top_mark-of ss [] = top_mark-slots ss
top_mark-of ss (m ∷ ms) = top_mark-items ss m ms

words-suc : (n : ℕ) (s : Slot) (ss : List Slot) (st : List Item) → are_words (suc n) (slot s ∷ st) ≡ (is_plain s && are_words n st)
words-suc n (Plain w) ss st = refl
words-suc n (Boxed b) ss st = refl

pub words-are : (n : ℕ) (ss : List Slot) (ms : List Marker) → floor_of ms + n ≤ length ss → are_words n (items_of ss ms) ≡ list_all is_plain (take n ss)
words-are zero ss ms h = refl
words-are (suc n) [] ms h = absurd (omega arith)
words-are (suc n) (s ∷ ss) ms h = rw (items-push s ss ms (omega arith), words-suc n s ss (items_of ss ms), words-are n ss ms (omega arith)) refl

both : (a b : Bool) → (a && (b && true)) ≡ (b && a)
both true true = refl
both true false = refl
both false true = refl
both false false = refl

pub list_all-reverse : {A : Type 0} (f : A → Bool) (xs : List A) → list_all f (reverse xs) ≡ list_all f xs
list_all-reverse f [] = refl
list_all-reverse f (x ∷ xs) =
    ap (list_all f) (reverse-append (x ∷ []) xs) ∙ (list_all-append f (reverse xs) (x ∷ []) ∙ rw (list_all-reverse f xs) (both (list_all f xs) (f x)))

-- too few slots above the marks
pub words-short : (n : ℕ) (st : List Item) → length (slots_on st) < n → are_words n st ≡ false
words-short zero st h = absurd (omega arith)
words-short (suc n) [] h = refl
words-short (suc n) (slot (Plain w) ∷ st) h = words-short n st (omega arith)
words-short (suc n) (slot (Boxed b) ∷ st) h = refl
words-short (suc n) (mark k ∷ st) h = refl

-- the part from a height on, with the topmost first
pub reverse-drop : {A : Type 0} (n : ℕ) (xs : List A) → n ≤ length xs → reverse (drop (length xs - n) xs) ≡ take n (reverse xs)
reverse-drop {A = A} n xs h =
    let e : reverse (take n (reverse xs)) ≡ drop (length xs - n) xs =
    reverse-take n (reverse xs) (rw (length-reverse xs) h) ∙ rw (reverse-reverse xs, length-reverse xs) refl in
    ap reverse (sym e) ∙ reverse-reverse (take n (reverse xs))

pub still-stack : (ss under : List Slot) (ms : List Marker) (f b : ℕ) → floor_of ms ≤ length under → IsStack ss ms f b → IsStack under ms f b
still-stack ss under ms f b h i = record { rises = rises-to (length ss) (length under) ms h i.rises; links = i.links; floor = i.floor; base = i.base }

pub entered-stack : (k : Mark) (n f b g : ℕ) (ss : List Slot) (ms : List Marker) → IsStack ss ms f b → floor_of ms + n ≤ length ss → g ≡ (if is_frame k then length ss - n else b)
    → IsStack ss (marker_on ms k (length ss - n) b ∷ ms) (length ss - n) g
entered-stack k n f b g ss ms i h e = record {
  rises = (omega arith, (i.base, rises-to (length ss) (length ss - n) ms (omega arith) i.rises));
  links = (refl, (refl, i.links));
  floor = refl;
  base = e ∙ rw i.base refl;
}

-- so many slots stand above the marks
pub above-floor : (ss : List Slot) (ms : List Marker) (f b n : ℕ) → IsStack ss ms f b → n ≤ length (slots_on (items_of ss ms)) → floor_of ms + n ≤ length ss
above-floor ss ms f b n i h =
    let l : length (slots_on (items_of ss ms)) ≡ length ss - floor_of ms = length-slots_on ss ms (floor-within (length ss) ms i.rises) in
    let g : floor_of ms ≤ length ss = floor-within (length ss) ms i.rises in
    omega (arith, l, g, h)

-- the slots above the marks, and what is under so many of them
pub slots_on-items : (ss : List Slot) (ms : List Marker) → floor_of ms ≤ length ss → slots_on (items_of ss ms) ≡ take (length ss - floor_of ms) ss
slots_on-items ss [] p = rw (slots_on-slots ss, minus-zero (length ss)) (sym (take-length ss))
slots_on-items ss (m ∷ ms) p = slots_on-mark (take (length ss - m.height) ss) m.mark (items_of (drop (length ss - m.height) ss) ms)

take-take : {A : Type 0} (n k : ℕ) (xs : List A) → n ≤ k → take n (take k xs) ≡ take n xs
take-take zero k xs h = refl
take-take (suc n) zero xs h = absurd (omega arith)
take-take (suc n) (suc k) [] h = refl
take-take {A = A} (suc n) (suc k) (x ∷ xs) h = ap (λ (ys : List A). x ∷ ys) (take-take n k xs (omega arith))

pub height-above : (ss : List Slot) (ms : List Marker) (f b n : ℕ) (st : List Item) → IsStack ss ms f b → items_of ss ms ≡ st → n ≤ length (slots_on st) → floor_of ms + n ≤ length ss
height-above ss ms f b n st i v h = above-floor ss ms f b n i (rw (← v) at h)

pub last-plain : {A : Type 0} (f : A → Bool) (n : ℕ) (xs : List A) → n ≤ length xs → list_all f (take (length xs - (length xs - n)) (drop (length xs - n) xs)) ≡ list_all f (take n (reverse xs))
last-plain f n xs h =
    let l : length (drop (length xs - n) xs) ≡ length xs - (length xs - n) = length-drop (length xs - n) xs in
    rw (← l, take-length (drop (length xs - n) xs), ← reverse-drop n xs h) (sym (list_all-reverse f (drop (length xs - n) xs)))

pub last-part : {A : Type 0} (n : ℕ) (xs : List A) → n ≤ length xs → take (length xs - (length xs - n)) (drop (length xs - n) xs) ≡ reverse (take n (reverse xs))
last-part n xs h =
    let l : length (drop (length xs - n) xs) ≡ length xs - (length xs - n) = length-drop (length xs - n) xs in
    rw (← l, take-length (drop (length xs - n) xs), ← reverse-drop n xs h) (sym (reverse-reverse (drop (length xs - n) xs)))

pub take-slots_on : (n : ℕ) (ss : List Slot) (ms : List Marker) → floor_of ms + n ≤ length ss → take n (slots_on (items_of ss ms)) ≡ take n ss
take-slots_on n ss ms h = rw (slots_on-items ss ms (omega arith)) (take-take n (length ss - floor_of ms) ss (omega arith))

pub reverse-out : {A : Type 0} (n : ℕ) (xs : List A) → n < length xs → reverse (take (length xs - 1 - n) xs ++ drop (suc (length xs - 1 - n)) xs) ≡ take n (reverse xs) ++ drop (suc n) (reverse xs)
reverse-out n xs h =
    let k : suc (length xs - 1 - n) ≡ length xs - n = omega arith in
    let l : length xs - (length xs - 1 - n) ≡ suc n = omega arith in
    rw (reverse-append (take (length xs - 1 - n) xs) (drop (suc (length xs - 1 - n)) xs), k, reverse-drop n xs (omega arith), reverse-take (length xs - 1 - n) xs (omega arith), l) refl

pub items-out : (n : ℕ) (ss : List Slot) (ms : List Marker) → floor_of ms + suc n ≤ length ss → items_of (take n ss ++ drop (suc n) ss) ms ≡ take n (items_of ss ms) ++ drop (suc n) (items_of ss ms)
items-out zero [] ms h = absurd (omega arith)
items-out zero (s ∷ ss) ms h = rw (items-push s ss ms (omega arith)) refl
items-out (suc n) [] ms h = absurd (omega arith)
items-out (suc n) (s ∷ ss) ms h =
    let a : length (take n ss) ≡ n = length-take-le n ss (omega arith) in
    let b : length (drop (suc n) ss) ≡ length ss - suc n = length-drop (suc n) ss in
    let l : length (take n ss ++ drop (suc n) ss) ≡ length (take n ss) + length (drop (suc n) ss) = length-append (take n ss) (drop (suc n) ss) in
    rw (items-push s (take n ss ++ drop (suc n) ss) ms (omega (arith, a, b, l)), items-push s ss ms (omega arith)) (ap (λ (x : List Item). slot s ∷ x) (items-out n ss ms (omega arith)))

pub length-out : {A : Type 0} (n : ℕ) (ss : List A) → n < length ss → length (take n ss ++ drop (suc n) ss) ≡ length ss - 1
length-out n ss h =
    let a : length (take n ss) ≡ n = length-take-le n ss (omega arith) in
    let b : length (drop (suc n) ss) ≡ length ss - suc n = length-drop (suc n) ss in
    omega (arith, a, b, length-append (take n ss) (drop (suc n) ss))

take-within : {A : Type 0} (k n : ℕ) (xs : List A) → n < k → slice_get (take k xs) n ≡ slice_get xs n
take-within zero n xs h = absurd (omega arith)
take-within (suc k) n [] h = refl
take-within (suc k) zero (x ∷ xs) h = refl
take-within (suc k) (suc n) (x ∷ xs) h = take-within k n xs (omega arith)

pub slot-under : (n : ℕ) (ss : List Slot) (ms : List Marker) → floor_of ms + suc n ≤ length ss → slice_get (slots_on (items_of ss ms)) n ≡ slice_get ss n
slot-under n ss ms h = rw (slots_on-items ss ms (omega arith)) (take-within (length ss - floor_of ms) n ss (omega arith))

-- The changes as the calls of a stack need them: slots and marks with the topmost first, of a stack with these items.

take-items : (n : ℕ) (ss : List Slot) (ms : List Marker) → floor_of ms + n ≤ length ss → map slot (take n ss) ≡ take n (items_of ss ms)
take-items zero ss ms h = refl
take-items (suc n) [] ms h = absurd (omega arith)
take-items (suc n) (s ∷ ss) ms h = rw (items-push s ss ms (omega arith)) (ap (λ (x : List Item). slot s ∷ x) (take-items n ss ms (omega arith)))

pub entered : (k : Mark) (n f b : ℕ) (ss : List Slot) (ms : List Marker) (st : List Item) → IsStack ss ms f b → items_of ss ms ≡ st → n ≤ length (slots_on st)
    → items_of ss (marker_on ms k (length ss - n) b ∷ ms) ≡ take n st ++ (mark k ∷ drop n st)
entered k n f b ss ms st i v h =
    let a : floor_of ms + n ≤ length ss = height-above ss ms f b n st i v h in
    rw (items-enter k n b ss ms (omega arith), take-items n ss ms a, items-drop n ss ms a, v) refl

pub stays-entered : (k : Mark) (n f b g : ℕ) (ss : List Slot) (ms : List Marker) (st : List Item) → IsStack ss ms f b → items_of ss ms ≡ st → n ≤ length (slots_on st)
    → g ≡ (if is_frame k then length ss - n else b) → IsStack ss (marker_on ms k (length ss - n) b ∷ ms) (length ss - n) g
stays-entered k n f b g ss ms st i v h e = entered-stack k n f b g ss ms i (height-above ss ms f b n st i v h) e

pub replaced : (s : Slot) (n f b : ℕ) (ss : List Slot) (ms : List Marker) (st : List Item) → IsStack ss ms f b → items_of ss ms ≡ st → 0 < n → n ≤ length (slots_on st)
    → items_of (s ∷ drop (length ss - (length ss - n)) ss) ms ≡ slot s ∷ drop n st
replaced s n f b ss ms st i v p h =
    let a : floor_of ms + n ≤ length ss = height-above ss ms f b n st i v h in
    let l : length (drop n ss) ≡ length ss - n = length-drop n ss in
    rw (minus-minus (length ss) n (omega (arith, a)), items-push s (drop n ss) ms (omega (arith, a, l)), items-drop n ss ms a, v) refl

pub stays-replaced : (s : Slot) (n f b : ℕ) (ss : List Slot) (ms : List Marker) (st : List Item) → IsStack ss ms f b → items_of ss ms ≡ st → n ≤ length (slots_on st)
    → IsStack (s ∷ drop (length ss - (length ss - n)) ss) ms f b
stays-replaced s n f b ss ms st i v h =
    let a : floor_of ms + n ≤ length ss = height-above ss ms f b n st i v h in
    let l : length (drop n ss) ≡ length ss - n = length-drop n ss in
    rw (minus-minus (length ss) n (omega (arith, a))) (still-stack ss (s ∷ drop n ss) ms f b (omega (arith, a, l)) i)

pub taken-out : (n f b : ℕ) (ss : List Slot) (ms : List Marker) (st : List Item) → IsStack ss ms f b → items_of ss ms ≡ st → n < length (slots_on st)
    → items_of (take n ss ++ drop (suc n) ss) ms ≡ take n st ++ drop (suc n) st
taken-out n f b ss ms st i v h = rw (items-out n ss ms (height-above ss ms f b (suc n) st i v h), v) refl

pub stays-taken-out : (n f b : ℕ) (ss : List Slot) (ms : List Marker) (st : List Item) → IsStack ss ms f b → items_of ss ms ≡ st → n < length (slots_on st)
    → IsStack (take n ss ++ drop (suc n) ss) ms f b
stays-taken-out n f b ss ms st i v h =
    let a : floor_of ms + suc n ≤ length ss = height-above ss ms f b (suc n) st i v h in
    let l : length (take n ss ++ drop (suc n) ss) ≡ length ss - 1 = length-out n ss (omega (arith, a)) in
    still-stack ss _ ms f b (omega (arith, a, l)) i

-- the topmost so many slots and what stands under them
pub items-split : (n : ℕ) (ss : List Slot) (ms : List Marker) → floor_of ms + n ≤ length ss → items_of ss ms ≡ map slot (take n ss) ++ items_of (drop n ss) ms
items-split zero ss ms h = refl
items-split (suc n) [] ms h = absurd (omega arith)
items-split (suc n) (s ∷ ss) ms h = rw (items-push s ss ms (omega arith)) (ap (λ (x : List Item). slot s ∷ x) (items-split n ss ms (omega arith)))

without-mark : (ss : List Slot) (k : Mark) (st : List Item) → without_mark (map slot ss ++ (mark k ∷ st)) ≡ map slot ss ++ st
without-mark [] k st = refl
without-mark (s ∷ ss) k st = ap (λ (x : List Item). slot s ∷ x) (without-mark ss k st)

without-none : (ss : List Slot) → without_mark (map slot ss) ≡ map slot ss
without-none [] = refl
without-none (s ∷ ss) = ap (λ (x : List Item). slot s ∷ x) (without-none ss)

pub left-mark : (ss : List Slot) (m : Marker) (ms : List Marker) → Rises (length ss) (m ∷ ms) → items_of ss ms ≡ without_mark (items_of ss (m ∷ ms))
left-mark ss m ms r =
    let f : floor_of ms ≤ m.height = floor-within m.height ms r.1.1 in
    rw (without-mark (take (length ss - m.height) ss) m.mark (items_of (drop (length ss - m.height) ss) ms))
    (items-split (length ss - m.height) ss ms (let h : m.height ≤ length ss = r.0 in omega (arith, f, h)))

pub left-none : (ss : List Slot) → items_of ss [] ≡ without_mark (items_of ss [])
left-none ss = sym (without-none ss)

pub stays-left : (ss : List Slot) (m : Marker) (ms : List Marker) (f b : ℕ) → IsStack ss (m ∷ ms) f b → IsStack ss ms (floor_of ms) m.base
stays-left ss m ms f b i =
    let g : floor_of ms ≤ length ss = (let x : floor_of ms ≤ m.height = floor-within m.height ms i.rises.1.1 in let y : m.height ≤ length ss = i.rises.0 in omega (arith, x, y)) in
    record { rises = rises-to m.height (length ss) ms g i.rises.1.1; links = i.links.1.1; floor = refl; base = i.rises.1.0 }

pub slides : (s : Slot) (n f b : ℕ) (ss : List Slot) (ms : List Marker) (st : List Item) → IsStack ss ms f b → items_of ss ms ≡ st → n < length (slots_on st) → slice_get ss 0 ≡ Some s
    → items_of (s ∷ drop (length ss - (length ss - 1 - n)) ss) ms ≡ slid n st
slides s n f b ss ms st i v h g = rw (← v) (items-slide ss ms n s i.rises (rw (← v) at h) g)

-- where there is no slot on top of the mark
pub no-slots : (ss : List Slot) (m : Marker) (ms : List Marker) → m.height ≤ length ss → length (slots_on (items_of ss (m ∷ ms))) ≡ 0 → m.height ≡ length ss
no-slots ss m ms h e =
    let l : length (slots_on (items_of ss (m ∷ ms))) ≡ length ss - m.height = length-slots_on ss (m ∷ ms) h in
    omega (arith, l, e, h)

pub prepended : (zs ss : List Slot) (ms : List Marker) → floor_of ms ≤ length ss → items_of (zs ++ ss) ms ≡ map slot zs ++ items_of ss ms
prepended [] ss ms h = refl
prepended (z ∷ zs) ss ms h = rw (items-push z (zs ++ ss) ms (let l : length (zs ++ ss) ≡ length zs + length ss = length-append zs ss in omega (arith, h, l))) (ap (λ (x : List Item). slot z ∷ x) (prepended zs ss ms h))

-- the topmost so many slots give way to as many others
pub changed : (n f b : ℕ) (ys ss : List Slot) (ms : List Marker) (st : List Item) → IsStack ss ms f b → items_of ss ms ≡ st → n ≤ length (slots_on st)
    → items_of (reverse ys ++ drop n ss) ms ≡ push_slots ys (drop n st)
changed n f b ys ss ms st i v h =
    let a : floor_of ms + n ≤ length ss = height-above ss ms f b n st i v h in
    let l : length (drop n ss) ≡ length ss - n = length-drop n ss in
    rw (push-reverse ys (drop n st), prepended (reverse ys) (drop n ss) ms (omega (arith, a, l)), items-drop n ss ms a, v) refl

pub stays-changed : (n f b : ℕ) (ys ss : List Slot) (ms : List Marker) (st : List Item) → IsStack ss ms f b → items_of ss ms ≡ st → n ≤ length (slots_on st)
    → IsStack (reverse ys ++ drop n ss) ms f b
stays-changed n f b ys ss ms st i v h =
    let a : floor_of ms + n ≤ length ss = height-above ss ms f b n st i v h in
    let l : length (drop n ss) ≡ length ss - n = length-drop n ss in
    still-stack ss (reverse ys ++ drop n ss) ms f b (omega (arith, a, l, length-append (reverse ys) (drop n ss))) i

pub words-last : (n f b : ℕ) (ss : List Slot) (ms : List Marker) (st : List Item) → IsStack ss ms f b → items_of ss ms ≡ st → are_words n st ≡ true → words_of (reverse (take n ss)) ≡ words n st
words-last n f b ss ms st i v w =
    let a : floor_of ms + n ≤ length ss = height-above ss ms f b n st i v (words-within n st w) in
    let e : take n (slots_on st) ≡ take n ss = rw (← v) (take-slots_on n ss ms a) in
    sym (words-slots n st w ∙ ap (λ (x : List Slot). words_of (reverse x)) e)

pub plain-last : (n f b : ℕ) (ss : List Slot) (ms : List Marker) (st : List Item) → IsStack ss ms f b → items_of ss ms ≡ st → are_words n st ≡ true → list_all is_plain (take n ss) ≡ true
plain-last n f b ss ms st i v w =
    let a : floor_of ms + n ≤ length ss = height-above ss ms f b n st i v (words-within n st w) in
    sym (words-are n ss ms a) ∙ rw v w

pub within-last : (n f b : ℕ) (ss : List Slot) (ms : List Marker) (st : List Item) → IsStack ss ms f b → items_of ss ms ≡ st → n ≤ length (slots_on st) → n ≤ length ss
within-last n f b ss ms st i v h = let a : floor_of ms + n ≤ length ss = height-above ss ms f b n st i v h in omega (arith, a)

-- an item that is taken away
pub dropped-slot : (f b : ℕ) (ss : List Slot) (ms : List Marker) → floor_of ms < length ss → IsStack ss ms f b → (items_of (drop 1 ss) ms ≡ drop 1 (items_of ss ms)) × IsStack (drop 1 ss) ms f b
dropped-slot f b ss ms h i =
    let l : length (drop 1 ss) ≡ length ss - 1 = length-drop 1 ss in
    (items-drop 1 ss ms (omega (arith, h)), still-stack ss (drop 1 ss) ms f b (omega (arith, h, l)) i)

pub at-mark-items : (ss : List Slot) (k : Mark) (b : ℕ) (ms : List Marker) → items_of ss (marker_on ms k (length ss) b ∷ ms) ≡ mark k ∷ items_of ss ms
at-mark-items ss k b ms = let z : length ss - length ss ≡ 0 = omega arith in rw z refl

-- a mark on top
pub marked : (k : Mark) (b g : ℕ) (ss : List Slot) (ms : List Marker) → IsStack ss ms (floor_of ms) b → g ≡ (if is_frame k then length ss else b)
    → IsStack ss (marker_on ms k (length ss) b ∷ ms) (length ss) g
marked k b g ss ms i e = record {
  rises = (omega arith, (i.base, i.rises));
  links = (refl, (refl, i.links));
  floor = refl;
  base = e ∙ rw i.base refl;
}

-- down to the topmost mark
pub below-is : (ss : List Slot) (m : Marker) (ms : List Marker) (f b : ℕ) → IsStack ss (m ∷ ms) f b
    → (items_of (drop (length ss - m.height) ss) ms ≡ below_mark (items_of ss (m ∷ ms))) × IsStack (drop (length ss - m.height) ss) ms (floor_of ms) m.base
below-is ss m ms f b i =
    let l : length (drop (length ss - m.height) ss) ≡ m.height = length-under m.height ss i.rises.0 in
    (sym (below_mark-items ss m ms), record { rises = rw l i.rises.1.1; links = i.links.1.1; floor = refl; base = i.rises.1.0 })

pub without-marks : (ss : List Slot) (ms : List Marker) (st : List Item) {A : Type 0} → items_of ss ms ≡ st → is_some (top_mark st) ≡ true → ms ≡ [] → A
without-marks ss ms st v t e =
    let n : top_mark st ≡ None = rw (← v, e) (top_mark-slots ss) in
    absurd cc

pub no-items : (ss : List Slot) → length (slots_on (items_of ss [])) ≡ 0 → items_of ss [] ≡ slid 1 (items_of ss [])
no-items [] h = refl
no-items (s ∷ ss) h = absurd (omega arith)

pub slid-mark : (ss : List Slot) (m : Marker) (ms : List Marker) → m.height ≡ length ss → slid 1 (items_of ss (m ∷ ms)) ≡ mark m.mark ∷ drop 1 (items_of ss ms)
slid-mark ss m ms h = let z : length ss - m.height ≡ 0 = omega (arith, h) in rw z refl
