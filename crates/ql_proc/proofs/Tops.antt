-- What marks say of cleanups and catches on a stack.
use Rattle.std.proofs.Common.{◌≡◌, refl, sym, ap, ◌∙◌, ℕ, ◌+◌, ◌-◌, ◌<◌, ◌≤◌, Bool, true, false, if◌then◌else◌, ⊎_elim, List, [], ◌∷◌, ◌++◌, length, map, take, drop, reverse, length-drop, arith, None, slice_get}
use Rattle.std.specs.Prelude.{MatchOption}
use Rattle.std.proofs.Math.Seq.{take-length}
use Rattle.std.proofs.lemmas.List.{length-reverse, length-take-le, drop-take}
use Rattle.ql_world.specs.declared.word.Slot.{Slot}
use Rattle.ql_world.specs.declared.world.Aim.{Aim}
use Rattle.ql_code.specs.declared.mark.Mark.{Mark}
use Rattle.ql_code.specs.declared.mark.Mark.TheVariants.{Returning, Catching, Protecting, Cleaning, Base}
use Rattle.ql_code.specs.Machine.{Item, slot, mark, words, frame_of, top_mark, cleanups_on, innermost_on, aim_cleanup}
use Rattle.ql_proc.specs.declared.stack.Marker.{Marker}
use Rattle.ql_proc.specs.Slots.{is_frame, slots_on, HasWords}
use Rattle.ql_proc.specs.Looks.{mark_on, mark_under, IsFirst}
use Rattle.ql_proc.specs.Stacked.{items_of, floor_of, base_of, Rises, IsStack, cleanups_in, cleanup_then, catch_in, catch_or, aimed, is_cleaning, is_catching, with_aim, up_to, AreLinked}
use Rattle.ql_proc.proofs.Stacks.{minus-zero, minus-minus, reverse-drop, reverse-take, base-if, base-within, height-above, still-stack, items-drop, frame_of-items}
use Rattle.ql_proc.proofs.Words.{words-above, within, cases}

cleanups-slots : (ss : List Slot) (st : List Item) → cleanups_on (map slot ss ++ st) ≡ cleanups_on st
cleanups-slots [] st = refl
cleanups-slots (s ∷ ss) st = cleanups-slots ss st

cleanups-none : (ss : List Slot) → cleanups_on (map slot ss) ≡ []
cleanups-none [] = refl
cleanups-none (s ∷ ss) = cleanups-none ss

cleanups-mark : (k : Mark) (st : List Item) → cleanups_on (mark k ∷ st) ≡ cleanup_then k (cleanups_on st)
cleanups-mark (Returning pc) st = refl
cleanups-mark (Catching c pc) st = refl
cleanups-mark (Protecting u pc) st = refl
cleanups-mark (Cleaning u c) st = refl
cleanups-mark (Base j) st = refl

pub cleanups-items : (ss : List Slot) (ms : List Marker) → cleanups_on (items_of ss ms) ≡ cleanups_in ms
cleanups-items ss [] = cleanups-none ss
cleanups-items ss (m ∷ ms) =
    let under = items_of (drop (length ss - m.height) ss) ms in
    cleanups-slots (take (length ss - m.height) ss) (mark m.mark ∷ under) ∙ (cleanups-mark m.mark under ∙ ap (cleanup_then m.mark) (cleanups-items (drop (length ss - m.height) ss) ms))

catch-slots : (ss : List Slot) (st : List Item) → innermost_on (map slot ss ++ st) ≡ innermost_on st
catch-slots [] st = refl
catch-slots (s ∷ ss) st = catch-slots ss st

catch-none : (ss : List Slot) → innermost_on (map slot ss) ≡ None
catch-none [] = refl
catch-none (s ∷ ss) = catch-none ss

catch-mark : (k : Mark) (st : List Item) → innermost_on (mark k ∷ st) ≡ catch_or k (innermost_on st)
catch-mark (Returning pc) st = refl
catch-mark (Catching c pc) st = refl
catch-mark (Protecting u pc) st = refl
catch-mark (Cleaning u c) st = refl
catch-mark (Base j) st = refl

pub catch-items : (ss : List Slot) (ms : List Marker) → innermost_on (items_of ss ms) ≡ catch_in ms
catch-items ss [] = catch-none ss
catch-items ss (m ∷ ms) =
    let under = items_of (drop (length ss - m.height) ss) ms in
    catch-slots (take (length ss - m.height) ss) (mark m.mark ∷ under) ∙ (catch-mark m.mark under ∙ ap (catch_or m.mark) (catch-items (drop (length ss - m.height) ss) ms))

aim-slots : (a : Aim) (ss : List Slot) (st : List Item) → aim_cleanup a (map slot ss ++ st) ≡ map slot ss ++ aim_cleanup a st
aim-slots a [] st = refl
aim-slots a (s ∷ ss) st = ap (λ (x : List Item). slot s ∷ x) (aim-slots a ss st)

aim-none : (a : Aim) (ss : List Slot) → aim_cleanup a (map slot ss) ≡ map slot ss
aim-none a [] = refl
aim-none a (s ∷ ss) = ap (λ (x : List Item). slot s ∷ x) (aim-none a ss)

aim-mark : (a : Aim) (k : Mark) (st : List Item) → aim_cleanup a (mark k ∷ st) ≡ (if is_cleaning k then mark (with_aim a k) ∷ st else mark k ∷ aim_cleanup a st)
aim-mark a (Returning pc) st = refl
aim-mark a (Catching c pc) st = refl
aim-mark a (Protecting u pc) st = refl
aim-mark a (Cleaning u c) st = refl
aim-mark a (Base j) st = refl

pub aim-items : (a : Aim) (ss : List Slot) (ms : List Marker) → items_of ss (aimed a ms) ≡ aim_cleanup a (items_of ss ms)
aim-items a ss [] = sym (aim-none a ss)
aim-items a ss (m ∷ ms) =
    let over = take (length ss - m.height) ss in
    let under = items_of (drop (length ss - m.height) ss) ms in
    ⊎_elim
    (λ (b : is_cleaning m.mark ≡ true). rw (aim-slots a over (mark m.mark ∷ under), aim-mark a m.mark under, b) refl)
    (λ (b : is_cleaning m.mark ≡ false). rw (aim-slots a over (mark m.mark ∷ under), aim-mark a m.mark under, b) (ap (λ (x : List Item). map slot over ++ (mark m.mark ∷ x)) (aim-items a (drop (length ss - m.height) ss) ms)))
    (cases (is_cleaning m.mark))

frame-aim : (a : Aim) (k : Mark) → is_frame (with_aim a k) ≡ is_frame k
frame-aim a (Returning pc) = refl
frame-aim a (Catching c pc) = refl
frame-aim a (Protecting u pc) = refl
frame-aim a (Cleaning u c) = refl
frame-aim a (Base j) = refl

floor-aim : (a : Aim) (ms : List Marker) → floor_of (aimed a ms) ≡ floor_of ms
floor-aim a [] = refl
floor-aim a (m ∷ ms) = ⊎_elim (λ (b : is_cleaning m.mark ≡ true). rw b refl) (λ (b : is_cleaning m.mark ≡ false). rw b refl) (cases (is_cleaning m.mark))

base-aim : (a : Aim) (ms : List Marker) → base_of (aimed a ms) ≡ base_of ms
base-aim a [] = refl
base-aim a (m ∷ ms) =
    ⊎_elim
    (λ (b : is_cleaning m.mark ≡ true). rw (b, frame-aim a m.mark) refl)
    (λ (b : is_cleaning m.mark ≡ false). rw (b, base-aim a ms) refl)
    (cases (is_cleaning m.mark))

rises-aim : (a : Aim) (n : ℕ) (ms : List Marker) → Rises n ms → Rises n (aimed a ms)
rises-aim a n [] r = tt
rises-aim a n (m ∷ ms) r =
    ⊎_elim
    (λ (b : is_cleaning m.mark ≡ true). rw b r)
    (λ (b : is_cleaning m.mark ≡ false). rw b (r.0, (r.1.0 ∙ sym (base-aim a ms), rises-aim a m.height ms r.1.1)))
    (cases (is_cleaning m.mark))

length-aim : (a : Aim) (ms : List Marker) → length (aimed a ms) ≡ length ms
length-aim a [] = refl
length-aim a (m ∷ ms) = ⊎_elim (λ (b : is_cleaning m.mark ≡ true). rw b refl) (λ (b : is_cleaning m.mark ≡ false). rw (b, length-aim a ms) refl) (cases (is_cleaning m.mark))

-- an aim changes no mark's kind
cleaning-aim : (a : Aim) (k : Mark) → is_cleaning (with_aim a k) ≡ is_cleaning k
cleaning-aim a (Returning pc) = refl
cleaning-aim a (Catching c pc) = refl
cleaning-aim a (Protecting u pc) = refl
cleaning-aim a (Cleaning u c) = refl
cleaning-aim a (Base j) = refl

catching-aim : (a : Aim) (k : Mark) → is_catching (with_aim a k) ≡ is_catching k
catching-aim a (Returning pc) = refl
catching-aim a (Catching c pc) = refl
catching-aim a (Protecting u pc) = refl
catching-aim a (Cleaning u c) = refl
catching-aim a (Base j) = refl

up-to-aim : (a : Aim) (f : Mark → Bool) (ms : List Marker) → ((k : Mark) → f (with_aim a k) ≡ f k) → up_to f (aimed a ms) ≡ up_to f ms
up-to-aim a f [] h = refl
up-to-aim a f (m ∷ ms) h =
    ⊎_elim
    (λ (b : is_cleaning m.mark ≡ true). rw (b, h m.mark) refl)
    (λ (b : is_cleaning m.mark ≡ false). rw (b, length-aim a ms, up-to-aim a f ms h) refl)
    (cases (is_cleaning m.mark))

links-aim : (a : Aim) (ms : List Marker) → AreLinked ms → AreLinked (aimed a ms)
links-aim a [] l = tt
links-aim a (m ∷ ms) l =
    ⊎_elim
    (λ (b : is_cleaning m.mark ≡ true). rw (b, cleaning-aim a m.mark, catching-aim a m.mark) l)
    (λ (b : is_cleaning m.mark ≡ false).
    rw (b, length-aim a ms, up-to-aim a is_cleaning ms (cleaning-aim a), up-to-aim a is_catching ms (catching-aim a)) (l.0, (l.1.0, links-aim a ms l.1.1)))
    (cases (is_cleaning m.mark))

pub stays-aimed : (a : Aim) (ss : List Slot) (ms : List Marker) (f b : ℕ) → IsStack ss ms f b → IsStack ss (aimed a ms) f b
stays-aimed a ss ms f b i = record { rises = rises-aim a (length ss) ms i.rises; links = links-aim a ms i.links; floor = i.floor ∙ sym (floor-aim a ms); base = i.base ∙ sym (base-aim a ms) }

-- words stand above the topmost mark
pub words-items : (n : ℕ) (ss : List Slot) (ms : List Marker) → words n (items_of ss ms) ≡ words n (map slot (take (length ss - floor_of ms) ss))
words-items n ss [] = rw (minus-zero (length ss), take-length ss) refl
words-items n ss (m ∷ ms) = words-above n (take (length ss - m.height) ss) m.mark (items_of (drop (length ss - m.height) ss) ms)

pub slots-above : (floor : ℕ) (xs : List Slot) → floor ≤ length xs → reverse (drop floor xs) ≡ take (length (reverse xs) - floor) (reverse xs)
slots-above floor xs h =
    rw (length-reverse xs)
    (ap (λ (n : ℕ). reverse (drop n xs)) (sym (minus-minus (length xs) floor h)) ∙ reverse-drop (length xs - floor) xs (omega arith))

pub first-is : {A : Type 0} (xs : List A) → IsFirst (slice_get xs 0) xs
first-is [] = refl
first-is (x ∷ xs) = (xs, refl)

pub second-is : {A : Type 0} (xs : List A) → IsFirst (slice_get xs 1) (drop 1 xs)
second-is [] = refl
second-is (x ∷ []) = refl
second-is (x ∷ (y ∷ xs)) = (xs, refl)

pub mark-first : (st : List Item) → length (slots_on st) ≡ 0 → top_mark st ≡ mark_on st
mark-first [] h = refl
mark-first (slot s ∷ st) h = absurd (omega arith)
mark-first (mark k ∷ st) h = refl

pub mark-second : (st : List Item) → length (slots_on st) ≡ 1 → top_mark st ≡ mark_under st
mark-second [] h = absurd (omega arith)
mark-second (slot s ∷ st) h = mark-first st (omega arith)
mark-second (mark k ∷ st) h = absurd (omega arith)

pub mark-shape : (st : List Item) → MatchOption (mark_on st) (Unit {0}) (λ k. (rest : List Item) × (st ≡ mark k ∷ rest))
mark-shape [] = tt
mark-shape (slot s ∷ st) = tt
mark-shape (mark k ∷ st) = (st, refl)

pub under-shape : (st : List Item) → MatchOption (mark_under st) (Unit {0}) (λ k. (s : Slot) × (rest : List Item) × (st ≡ slot s ∷ (mark k ∷ rest)))
under-shape [] = tt
under-shape (slot s ∷ []) = tt
under-shape (slot s ∷ (slot t ∷ st)) = tt
under-shape (slot s ∷ (mark k ∷ st)) = (s, st, refl)
under-shape (mark k ∷ st) = tt

-- the frame under the word on top

base-floor : (n : ℕ) (ms : List Marker) → Rises n ms → base_of ms ≤ floor_of ms
base-floor n [] r = omega arith
base-floor n (m ∷ ms) r = base-if (is_frame m.mark) m.height (base_of ms) m.height (omega arith) (base-within m.height ms r.1.1)

module _ (f b : ℕ) (xs : List Slot) (ms : List Marker) (st : List Item) (i : IsStack (reverse xs) ms f b) (v : items_of (reverse xs) ms ≡ st) (w : HasWords 1 st) where
  high : floor_of ms + 1 ≤ length (reverse xs)
  high = height-above (reverse xs) ms f b 1 st i v (within 1 st w)

  pub base-low : b < length xs
  base-low =
      let h : floor_of ms + 1 ≤ length (reverse xs) = high in
      let g : base_of ms ≤ floor_of ms = base-floor (length (reverse xs)) ms i.rises in
      omega (arith, h, g, i.base, length-reverse xs)

  lower-frame : (base : ℕ) → base < length xs → reverse (take (length xs - 1 - base) (drop base xs)) ≡ take (length (drop 1 (reverse xs)) - base) (drop 1 (reverse xs))
  lower-frame base h =
      let zs = take (length xs - 1) xs in
      let l : length zs ≡ length xs - 1 = length-take-le (length xs - 1) xs (omega arith) in
      let e : base + (length xs - 1 - base) ≡ length xs - 1 = omega (arith, h) in
      let k : base ≤ length zs = omega (arith, l, h) in
      let r : reverse zs ≡ drop 1 (reverse xs) = reverse-take (length xs - 1) xs (omega arith) ∙ (let o : length xs - (length xs - 1) ≡ 1 = omega (arith, h) in rw o refl) in
      ap reverse (sym (drop-take base (length xs - 1 - base) xs) ∙ ap (λ (n : ℕ). drop base (take n xs)) e) ∙ (slots-above base zs k ∙ rw r refl)

  pub frame-lower : reverse (take (length xs - 1 - b) (drop b xs)) ≡ frame_of (drop 1 st)
  frame-lower =
      let h : floor_of ms + 1 ≤ length (reverse xs) = high in
      let l : length (drop 1 (reverse xs)) ≡ length (reverse xs) - 1 = length-drop 1 (reverse xs) in
      let j = still-stack (reverse xs) (drop 1 (reverse xs)) ms f b (omega (arith, h, l)) i in
      let e : frame_of (drop 1 st) ≡ take (length (drop 1 (reverse xs)) - base_of ms) (drop 1 (reverse xs)) =
      rw (← v, ← items-drop 1 (reverse xs) ms h) (frame_of-items (drop 1 (reverse xs)) ms j.rises) in
      lower-frame b base-low ∙ (rw i.base refl ∙ sym e)
