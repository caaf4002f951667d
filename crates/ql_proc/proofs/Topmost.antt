-- What stands near the top of a stack, by its slots and marks.
use Rattle.std.proofs.Common.{◌≡◌, refl, ap, ◌∙◌, ℕ, zero, suc, ◌-◌, ◌≤◌, Bool, true, false, ◌||◌, List, [], ◌∷◌, ◌++◌, length, map, take, drop, reverse, arith, Option, Some, None, is_some}
use Rattle.std.specs.Prelude.{option_map}
use Rattle.std.proofs.lemmas.List.{reverse-append, reverse-reverse}
use Rattle.std.proofs.Math.Seq.{drop-length}
use Rattle.ql_world.specs.declared.word.Slot.{Slot}
use Rattle.ql_code.specs.declared.mark.Mark.{Mark}
use Rattle.ql_code.specs.declared.mark.Mark.TheVariants.{Returning, Catching, Protecting, Cleaning, Base}
use Rattle.ql_code.specs.Machine.{Item, slot, mark, top_mark, below_mark}
use Rattle.ql_code.specs.LocalPath.{topmost, whole_frame}
use Rattle.ql_proc.specs.declared.stack.Marker.{Marker}
use Rattle.ql_proc.specs.Slots.{is_frame, slots_on}
use Rattle.ql_proc.specs.Stacked.{items_of, floor_of, mark_of, Rises, frame_among}
use Rattle.ql_proc.proofs.Stacks.{slots_on-items, below_mark-items, top_mark-of, length-under, floor-within, minus-zero, last-part}

pub last-of : {A : Type 0} (n : ℕ) (xs : List A) → n ≤ length xs → reverse (take (length xs - (length xs - n)) (drop (length xs - n) xs)) ≡ take n (reverse xs)
last-of {A = A} n xs h = ap reverse (last-part n xs h) ∙ reverse-reverse (take n (reverse xs))

-- under the topmost mark

below-slots : (ss : List Slot) → below_mark (map slot ss) ≡ []
below-slots [] = refl
below-slots (s ∷ ss) = below-slots ss

pub slots-below : (ss : List Slot) (ms : List Marker) → Rises (length ss) ms
    → slots_on (below_mark (items_of ss ms)) ≡ take (length (drop (length ss - floor_of ms) ss) - floor_of (drop 1 ms)) (drop (length ss - floor_of ms) ss)
slots-below ss [] r = rw (below-slots ss, minus-zero (length ss), drop-length ss) refl
slots-below ss (m ∷ ms) r =
    let l : length (drop (length ss - m.height) ss) ≡ m.height = length-under m.height ss r.0 in
    let f : floor_of ms ≤ m.height = floor-within m.height ms r.1.1 in
    rw (below_mark-items ss m ms) (slots_on-items (drop (length ss - m.height) ss) ms (omega (arith, l, f)))

pub mark-below : (ss : List Slot) (ms : List Marker) → top_mark (below_mark (items_of ss ms)) ≡ mark_of (drop 1 ms)
mark-below ss [] = rw (below-slots ss) refl
mark-below ss (m ∷ ms) = rw (below_mark-items ss m ms) (top_mark-of (drop (length ss - m.height) ss) ms)

-- the bottom of the topmost frame

either : (a b c : Bool) → (a || (b || c)) ≡ ((a || b) || c)
either true b c = refl
either false b c = refl

turned : (a b : Bool) → (a || (b || false)) ≡ (b || a)
turned true true = refl
turned true false = refl
turned false true = refl
turned false false = refl

pub frame_among-append : (xs ys : List Marker) → frame_among (xs ++ ys) ≡ (frame_among xs || frame_among ys)
frame_among-append [] ys = refl
frame_among-append (x ∷ xs) ys = rw (frame_among-append xs ys) (either (is_frame x.mark) (frame_among xs) (frame_among ys))

pub frame_among-reverse : (ms : List Marker) → frame_among (reverse ms) ≡ frame_among ms
frame_among-reverse [] = refl
frame_among-reverse (m ∷ ms) =
    ap frame_among (reverse-append (m ∷ []) ms) ∙ (frame_among-append (reverse ms) (m ∷ []) ∙ rw (frame_among-reverse ms) (turned (frame_among ms) (is_frame m.mark)))

some-mapped : {A B : Type 0} (f : A → B) (x : Option A) → is_some (option_map f x) ≡ is_some x
some-mapped f None = refl
some-mapped f (Some x) = refl

whole-slots : (ss : List Slot) (st : List Item) → is_some (whole_frame (map slot ss ++ st)) ≡ is_some (whole_frame st)
whole-slots [] st = refl
whole-slots (s ∷ ss) st = some-mapped (λ (xs : List Slot). s ∷ xs) (whole_frame (map slot ss ++ st)) ∙ whole-slots ss st

whole-none : (ss : List Slot) → is_some (whole_frame (map slot ss)) ≡ false
whole-none [] = refl
whole-none (s ∷ ss) = some-mapped (λ (xs : List Slot). s ∷ xs) (whole_frame (map slot ss)) ∙ whole-none ss

whole-mark : (k : Mark) (st : List Item) → is_some (whole_frame (mark k ∷ st)) ≡ (is_frame k || is_some (whole_frame st))
whole-mark (Returning pc) st = refl
whole-mark (Catching c pc) st = refl
whole-mark (Protecting u pc) st = refl
whole-mark (Cleaning u c) st = refl
whole-mark (Base j) st = refl

pub whole-items : (ss : List Slot) (ms : List Marker) → is_some (whole_frame (items_of ss ms)) ≡ frame_among ms
whole-items ss [] = whole-none ss
whole-items ss (m ∷ ms) =
    let under = drop (length ss - m.height) ss in
    whole-slots (take (length ss - m.height) ss) (mark m.mark ∷ items_of under ms)
    ∙ (whole-mark m.mark (items_of under ms) ∙ ap (λ (b : Bool). is_frame m.mark || b) (whole-items under ms))

pub topmost-slots : (n : ℕ) (ss : List Slot) (st : List Item) → topmost (suc n) (map slot ss ++ st) ≡ map slot ss ++ topmost (suc n) st
topmost-slots n [] st = refl
topmost-slots n (s ∷ ss) st = ap (λ (x : List Item). slot s ∷ x) (topmost-slots n ss st)

pub topmost-all : (n : ℕ) (ss : List Slot) → topmost (suc n) (map slot ss) ≡ map slot ss
topmost-all n [] = refl
topmost-all n (s ∷ ss) = ap (λ (x : List Item). slot s ∷ x) (topmost-all n ss)

pub whole-topmost : (n : ℕ) (ss : List Slot) (ms : List Marker) → is_some (whole_frame (topmost n (items_of ss ms))) ≡ frame_among (take n ms)
whole-topmost zero ss ms = refl
whole-topmost (suc n) ss [] = rw (topmost-all n ss) (whole-none ss)
whole-topmost (suc n) ss (m ∷ ms) =
    let under = drop (length ss - m.height) ss in
    rw (topmost-slots n (take (length ss - m.height) ss) (mark m.mark ∷ items_of under ms))
    (whole-slots (take (length ss - m.height) ss) (mark m.mark ∷ topmost n (items_of under ms))
    ∙ (whole-mark m.mark (topmost n (items_of under ms)) ∙ ap (λ (b : Bool). is_frame m.mark || b) (whole-topmost n under ms)))
