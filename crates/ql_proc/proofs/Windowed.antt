-- Windows of slots and marks.
use Rattle.std.proofs.Common.{◌≡◌, refl, sym, ap, ◌∙◌, ⊎_elim, ℕ, zero, suc, ◌+◌, ◌-◌, ◌<◌, ◌≤◌, List, [], ◌∷◌, ◌++◌, length, map, take, drop, reverse, arith, length-append, append_assoc, get_or}
use Rattle.std.proofs.lemmas.List.{append-nil, reverse-append, reverse-reverse, length-reverse, length-take-le, take-append-drop, take-append-le, drop-append-le, take_all, drop_all, map-append, take-take, drop-take, drop-drop}
use Rattle.std.proofs.lemmas.Bool.{cases_lt}
use Rattle.std.proofs.Math.Seq.{take-length, drop-length}
use Rattle.ql_world.specs.declared.word.Slot.{Slot}
use Rattle.ql_code.specs.declared.mark.Mark.{Mark}
use Rattle.ql_code.specs.Machine.{Item, slot, mark}
use Rattle.ql_code.specs.LocalPath.{topmost, beneath}
use Rattle.ql_proc.specs.declared.stack.Marker.{Marker}
use Rattle.ql_proc.specs.Stacked.{items_of, floor_of, base_of, Rises, AreLinked, IsStack}
use Rattle.ql_proc.specs.Windowed.{top_over, shifted, put_on, put_all}
use Rattle.ql_proc.proofs.Lists.{at-of, reverse-taken}
use Rattle.ql_proc.proofs.Stacks.{reverse-drop, reverse-take, minus-minus, minus-zero, rises-to, floor-within, length-under, prepended}

module _ {A : Type 0} where
  -- the upper so many and the others, of a list with the topmost last
  pub reverse-upper : (n : ℕ) (xs : List A) → reverse (drop (length xs - n) xs) ≡ take n (reverse xs)
  reverse-upper n xs =
      ⊎_elim
      (λ (h : length xs < n). let z : length xs - n ≡ 0 = omega (arith, h) in rw z (sym (take_all n (reverse xs) (let l : length (reverse xs) ≡ length xs = length-reverse xs in omega (arith, h, l)))))
      (λ (h : n ≤ length xs). reverse-drop n xs h)
      (cases_lt (length xs) n)

  pub reverse-lower : (n : ℕ) (xs : List A) → reverse (take (length xs - n) xs) ≡ drop n (reverse xs)
  reverse-lower n xs =
      ⊎_elim
      (λ (h : length xs < n). let z : length xs - n ≡ 0 = omega (arith, h) in rw z (sym (drop_all n (reverse xs) (let l : length (reverse xs) ≡ length xs = length-reverse xs in omega (arith, h, l)))))
      (λ (h : n ≤ length xs). rw (reverse-take (length xs - n) xs (omega arith), minus-minus (length xs) n h) refl)
      (cases_lt (length xs) n)

  pub upper-at : (n : ℕ) (xs : List A) (d : A) → suc n ≤ length xs → drop n (reverse xs) ≡ get_or xs (length xs - suc n) d ∷ drop (suc n) (reverse xs)
  upper-at n xs d h =
      let k = length xs - suc n in
      let e : length xs - n ≡ suc k = omega (arith, h) in
      let a = at-of xs k (omega (arith, h)) in
      sym (reverse-lower n xs) ∙ rw e (reverse-taken k xs a ∙ rw (a.read d, reverse-lower (suc n) xs) refl)

  pub none-upper : (n : ℕ) (xs : List A) → length xs ≤ n → drop n (reverse xs) ≡ []
  none-upper n xs h = drop_all n (reverse xs) (let l : length (reverse xs) ≡ length xs = length-reverse xs in omega (arith, h, l))

  pub reverse-replaced : (n : ℕ) (xs ys : List A) → n ≤ length xs → reverse (take n xs ++ ys) ≡ reverse ys ++ drop (length (reverse xs) - n) (reverse xs)
  reverse-replaced n xs ys h = rw (reverse-append (take n xs) ys, reverse-take n xs h, length-reverse xs) refl

  -- the lower slots in two
  drop-two : (h b : ℕ) (ss : List A) → b ≤ h → h ≤ length ss → drop (h - b) (drop (length ss - h) ss) ≡ drop (length ss - b) ss
  drop-two h b ss p q = drop-drop (h - b) (length ss - h) ss ∙ (let e : length ss - h + (h - b) ≡ length ss - b = omega (arith, p, q) in rw e refl)

  take-two : (h b : ℕ) (ss : List A) → b ≤ h → h ≤ length ss → drop (length ss - h) (take (length ss - b) ss) ≡ take (h - b) (drop (length ss - h) ss)
  take-two h b ss p q = let e : length ss - b ≡ length ss - h + (h - b) = omega (arith, p, q) in rw e (drop-take (length ss - h) (h - b) ss)

-- where heights stand, without what else the marks know
abbrev pub Falls : ℕ → List Marker → Type 0
Falls n [] = Unit {0}
Falls n (m ∷ ms) = (m.height ≤ n) × Falls m.height ms

pub falls : (n : ℕ) (ms : List Marker) → Rises n ms → Falls n ms
falls n [] r = tt
falls n (m ∷ ms) r = (r.0, falls m.height ms r.1.1)

falls-take : (k n : ℕ) (ms : List Marker) → Falls n ms → Falls n (take k ms)
falls-take zero n ms r = tt
falls-take (suc k) n [] r = tt
falls-take (suc k) n (m ∷ ms) r = (r.0, falls-take k m.height ms r.1)

floor-drop : (k n : ℕ) (ms : List Marker) → Falls n ms → floor_of (drop k ms) ≤ n
floor-drop zero n [] r = omega arith
floor-drop zero n (m ∷ ms) r = r.0
floor-drop (suc k) n [] r = omega arith
floor-drop (suc k) n (m ∷ ms) r = let h : floor_of (drop k ms) ≤ m.height = floor-drop k m.height ms r.1 in let g : m.height ≤ n = r.0 in omega (arith, h, g)

pub rises-drop : (k n : ℕ) (ms : List Marker) → Rises n ms → Rises (floor_of (drop k ms)) (drop k ms)
rises-drop zero n ms r = rises-to n (floor_of ms) ms (omega arith) r
rises-drop (suc k) n [] r = tt
rises-drop (suc k) n (m ∷ ms) r = rises-drop k m.height ms r.1.1

pub links-drop : (k : ℕ) (ms : List Marker) → AreLinked ms → AreLinked (drop k ms)
links-drop zero ms l = l
links-drop (suc k) [] l = tt
links-drop (suc k) (m ∷ ms) l = links-drop k ms l.1.1

-- marks with the topmost first, put on others
abbrev pub puts : (ℕ → ℕ) → List Marker → List Marker → List Marker
puts f bs [] = bs
puts f bs (m ∷ ms) = put_on f (puts f bs ms) m

puts-last : (f : ℕ → ℕ) (bs ms : List Marker) (m : Marker) → puts f bs (ms ++ m ∷ []) ≡ puts f (put_on f bs m) ms
puts-last f bs [] m = refl
puts-last f bs (x ∷ ms) m = ap (λ (y : List Marker). put_on f y x) (puts-last f bs ms m)

pub puts-of : (f : ℕ → ℕ) (bs ms : List Marker) → put_all f bs ms ≡ puts f bs (reverse ms)
puts-of f bs [] = refl
puts-of f bs (m ∷ ms) = puts-of f (put_on f bs m) ms ∙ (sym (puts-last f bs (reverse ms) m) ∙ ap (puts f bs) (sym (reverse-append (m ∷ []) ms)))

links-puts : (f : ℕ → ℕ) (bs ms : List Marker) → AreLinked bs → AreLinked (puts f bs ms)
links-puts f bs [] l = l
links-puts f bs (m ∷ ms) l = (refl, (refl, links-puts f bs ms l))

rises-puts : (f : ℕ → ℕ) (n k : ℕ) (bs ms : List Marker) → ((i j : ℕ) → i ≤ j → j ≤ n → f i ≤ f j) → ((i : ℕ) → i ≤ n → floor_of bs ≤ f i) → Rises k bs → Falls n ms → Rises (f n) (puts f bs ms)
rises-puts f n k bs [] mono low r h = rises-to k (f n) bs (low n (omega arith)) r
rises-puts f n k bs (m ∷ ms) mono low r h =
    let g : m.height ≤ n = h.0 in (
      mono m.height n g (omega arith),
      (refl, rises-puts f m.height k bs ms (λ i j p q. mono i j p (omega (arith, q, g))) (λ i p. low i (omega (arith, p, g))) r h.1),
    )

-- the window of items

topmost-slots : (n : ℕ) (ss : List Slot) → topmost (suc n) (map slot ss) ≡ map slot ss
topmost-slots n [] = refl
topmost-slots n (s ∷ ss) = ap (λ (x : List Item). slot s ∷ x) (topmost-slots n ss)

topmost-mark : (n : ℕ) (ss : List Slot) (k : Mark) (st : List Item) → topmost (suc n) (map slot ss ++ (mark k ∷ st)) ≡ map slot ss ++ (mark k ∷ topmost n st)
topmost-mark n [] k st = refl
topmost-mark n (s ∷ ss) k st = ap (λ (x : List Item). slot s ∷ x) (topmost-mark n ss k st)

beneath-slots : (n : ℕ) (ss : List Slot) → beneath (suc n) (map slot ss) ≡ []
beneath-slots n [] = refl
beneath-slots n (s ∷ ss) = beneath-slots n ss

beneath-mark : (n : ℕ) (ss : List Slot) (k : Mark) (st : List Item) → beneath (suc n) (map slot ss ++ (mark k ∷ st)) ≡ beneath n st
beneath-mark n [] k st = refl
beneath-mark n (s ∷ ss) k st = beneath-mark n ss k st

-- where there are fewer marks
pub topmost-few : (n : ℕ) (ss : List Slot) (ms : List Marker) → length ms < n → topmost n (items_of ss ms) ≡ items_of ss ms
topmost-few zero ss ms h = absurd (omega arith)
topmost-few (suc n) ss [] h = topmost-slots n ss
topmost-few (suc n) ss (m ∷ ms) h =
    topmost-mark n (take (length ss - m.height) ss) m.mark (items_of (drop (length ss - m.height) ss) ms)
    ∙ ap (λ (x : List Item). map slot (take (length ss - m.height) ss) ++ (mark m.mark ∷ x)) (topmost-few n (drop (length ss - m.height) ss) ms (omega arith))

pub beneath-few : (n : ℕ) (ss : List Slot) (ms : List Marker) → length ms < n → beneath n (items_of ss ms) ≡ []
beneath-few zero ss ms h = absurd (omega arith)
beneath-few (suc n) ss [] h = beneath-slots n ss
beneath-few (suc n) ss (m ∷ ms) h =
    beneath-mark n (take (length ss - m.height) ss) m.mark (items_of (drop (length ss - m.height) ss) ms)
    ∙ beneath-few n (drop (length ss - m.height) ss) ms (omega arith)

pub topmost-items : (f : ℕ → ℕ) (n : ℕ) (ss : List Slot) (ms : List Marker) → ((k : ℕ) → k ≤ length ss → f k ≡ k - floor_of (drop n ms)) → Falls (length ss) ms
    → topmost (suc n) (items_of ss ms) ≡ items_of (take (length ss - floor_of (drop n ms)) ss) (puts f [] (take (suc n) ms))
topmost-items f zero ss [] is r = rw (minus-zero (length ss), take-length ss) (topmost-slots zero ss)
topmost-items f (suc n) ss [] is r = rw (minus-zero (length ss), take-length ss) (topmost-slots (suc n) ss)
topmost-items f zero ss (m ∷ ms) is r =
    let over = take (length ss - m.height) ss in
    let z : f m.height ≡ 0 = is m.height r.0 ∙ omega arith in
    topmost-mark zero over m.mark (items_of (drop (length ss - m.height) ss) ms)
    ∙ rw (z, minus-zero (length over), take-length over, drop-length over) refl
topmost-items f (suc n) ss (m ∷ ms) is r =
    let b = floor_of (drop n ms) in
    let p : m.height ≤ length ss = r.0 in
    let q : b ≤ m.height = floor-drop n m.height ms r.1 in
    let under = drop (length ss - m.height) ss in
    let l : length under ≡ m.height = length-under m.height ss p in
    let w : length (take (length ss - b) ss) ≡ length ss - b = length-take-le (length ss - b) ss (omega arith) in
    let e : length ss - b - (m.height - b) ≡ length ss - m.height = omega (arith, p, q) in
    let g : f m.height ≡ m.height - b = is m.height p in
    let ih : topmost (suc n) (items_of under ms) ≡ items_of (take (m.height - b) under) (puts f [] (take (suc n) ms)) =
    rw l at (topmost-items f n under ms (λ k i. is k (let i2 : k ≤ length under = i in omega (arith, i2, l, p))) (rw l r.1)) in
    topmost-mark (suc n) (take (length ss - m.height) ss) m.mark (items_of under ms)
    ∙ rw (ih, g, w, e, take-take (length ss - m.height) (length ss - b) ss (omega (arith, q)), take-two m.height b ss q p) refl

pub beneath-items : (n : ℕ) (ss : List Slot) (ms : List Marker) → Falls (length ss) ms → beneath (suc n) (items_of ss ms) ≡ items_of (drop (length ss - floor_of (drop n ms)) ss) (drop (suc n) ms)
beneath-items zero ss [] r = rw (minus-zero (length ss), drop-length ss) (beneath-slots zero ss)
beneath-items (suc n) ss [] r = rw (minus-zero (length ss), drop-length ss) (beneath-slots (suc n) ss)
beneath-items zero ss (m ∷ ms) r = beneath-mark zero (take (length ss - m.height) ss) m.mark (items_of (drop (length ss - m.height) ss) ms)
beneath-items (suc n) ss (m ∷ ms) r =
    let b = floor_of (drop n ms) in
    let p : m.height ≤ length ss = r.0 in
    let q : b ≤ m.height = floor-drop n m.height ms r.1 in
    let under = drop (length ss - m.height) ss in
    let l : length under ≡ m.height = length-under m.height ss p in
    let ih : beneath (suc n) (items_of under ms) ≡ items_of (drop (m.height - b) under) (drop (suc n) ms) = rw l at (beneath-items n under ms (rw l r.1)) in
    beneath-mark (suc n) (take (length ss - m.height) ss) m.mark (items_of under ms) ∙ (ih ∙ rw (drop-two m.height b ss q p) refl)

-- a window put on others
pub raised-items : (f : ℕ → ℕ) (ws under : List Slot) (bs ms : List Marker) → ((k : ℕ) → k ≤ length ws → f k ≡ k + length under) → floor_of bs ≤ length under → Falls (length ws) ms
    → items_of (ws ++ under) (puts f bs ms) ≡ items_of ws ms ++ items_of under bs
raised-items f ws under bs [] is h r = prepended ws under bs h
raised-items f ws under bs (m ∷ ms) is h r =
    let p : m.height ≤ length ws = r.0 in
    let a : length (ws ++ under) ≡ length ws + length under = length-append ws under in
    let g : f m.height ≡ m.height + length under = is m.height p in
    let e : length ws + length under - (m.height + length under) ≡ length ws - m.height = omega arith in
    let rest = drop (length ws - m.height) ws in
    let l : length rest ≡ m.height = length-under m.height ws p in
    let ih : items_of (rest ++ under) (puts f bs ms) ≡ items_of rest ms ++ items_of under bs =
    raised-items f rest under bs ms (λ k i. is k (let i2 : k ≤ length rest = i in omega (arith, i2, l, p))) h (rw l r.1) in
    rw (a, g, e, take-append-le (length ws - m.height) ws under (omega arith), drop-append-le (length ws - m.height) ws under (omega arith), ih)
    (sym (append_assoc (map slot (take (length ws - m.height) ws)) (mark m.mark ∷ items_of rest ms) (items_of under bs)))

-- what items say of slots and marks

abbrev slots_in : List Item → List Slot
slots_in [] = []
slots_in (slot s ∷ st) = s ∷ slots_in st
slots_in (mark k ∷ st) = slots_in st

abbrev marks_in : List Item → List (Mark × ℕ)
marks_in [] = []
marks_in (slot s ∷ st) = marks_in st
marks_in (mark k ∷ st) = (k, length (slots_in st)) ∷ marks_in st

slots_in-append : (ss : List Slot) (st : List Item) → slots_in (map slot ss ++ st) ≡ ss ++ slots_in st
slots_in-append [] st = refl
slots_in-append (s ∷ ss) st = ap (λ (x : List Slot). s ∷ x) (slots_in-append ss st)

slots_in-slots : (ss : List Slot) → slots_in (map slot ss) ≡ ss
slots_in-slots [] = refl
slots_in-slots (s ∷ ss) = ap (λ (x : List Slot). s ∷ x) (slots_in-slots ss)

marks_in-append : (ss : List Slot) (st : List Item) → marks_in (map slot ss ++ st) ≡ marks_in st
marks_in-append [] st = refl
marks_in-append (s ∷ ss) st = marks_in-append ss st

marks_in-slots : (ss : List Slot) → marks_in (map slot ss) ≡ []
marks_in-slots [] = refl
marks_in-slots (s ∷ ss) = marks_in-slots ss

slots-back : (ss : List Slot) (ms : List Marker) → slots_in (items_of ss ms) ≡ ss
slots-back ss [] = slots_in-slots ss
slots-back ss (m ∷ ms) =
    let n = length ss - m.height in
    slots_in-append (take n ss) (mark m.mark ∷ items_of (drop n ss) ms) ∙ rw (slots-back (drop n ss) ms) (take-append-drop n ss)

marks-back : (ss : List Slot) (ms : List Marker) → Falls (length ss) ms → marks_in (items_of ss ms) ≡ map (top_over 0) ms
marks-back ss [] r = marks_in-slots ss
marks-back ss (m ∷ ms) r =
    let n = length ss - m.height in
    let l : length (drop n ss) ≡ m.height = length-under m.height ss r.0 in
    marks_in-append (take n ss) (mark m.mark ∷ items_of (drop n ss) ms)
    ∙ rw (slots-back (drop n ss) ms, l, minus-zero m.height, marks-back (drop n ss) ms (rw l r.1)) refl

items-tops : (ss : List Slot) (ms ns : List Marker) → map (top_over 0) ms ≡ map (top_over 0) ns → items_of ss ms ≡ items_of ss ns
items-tops ss [] [] e = refl
items-tops ss [] (n ∷ ns) e = absurd cc
items-tops ss (m ∷ ms) [] e = absurd cc
items-tops ss (m ∷ ms) (n ∷ ns) e =
    let p : top_over 0 m ≡ top_over 0 n = cc in
    let t : map (top_over 0) ms ≡ map (top_over 0) ns = cc in
    let k : m.mark ≡ n.mark = ap (λ (x : Mark × ℕ). x.0) p in
    let h : m.height ≡ n.height = sym (minus-zero m.height) ∙ (ap (λ (x : Mark × ℕ). x.1) p ∙ minus-zero n.height) in
    rw (k, h, items-tops (drop (length ss - n.height) ss) ms ns t) refl

tops-puts : (f : ℕ → ℕ) (h n : ℕ) (ms : List Marker) → ((k : ℕ) → k ≤ n → f k ≡ k - h) → Falls n ms → map (top_over 0) (puts f [] ms) ≡ map (top_over h) ms
tops-puts f h n [] is r = refl
tops-puts f h n (m ∷ ms) is r =
    let p : m.height ≤ n = r.0 in
    rw (is m.height p, minus-zero (m.height - h), tops-puts f h m.height ms (λ k i. is k (let i2 : k ≤ m.height = i in omega (arith, i2, p))) r.1) refl

map-reverse : {A B : Type 0} (f : A → B) (xs : List A) → map f (reverse xs) ≡ reverse (map f xs)
map-reverse f [] = refl
map-reverse {B = B} f (x ∷ xs) =
    ap (map f) (reverse-append (x ∷ []) xs)
    ∙ (map-append f (reverse xs) (x ∷ []) ∙ (ap (λ (ys : List B). ys ++ f x ∷ []) (map-reverse f xs) ∙ sym (reverse-append (f x ∷ []) (map f xs))))

pub same-reversed : {A B : Type 0} (f g : A → B) (xs ys : List A) → map f xs ≡ map g ys → map f (reverse xs) ≡ map g (reverse ys)
same-reversed f g xs ys e = map-reverse f xs ∙ (ap reverse e ∙ sym (map-reverse g ys))

pub same-forward : {A B : Type 0} (f g : A → B) (xs ys : List A) → map f (reverse xs) ≡ map g (reverse ys) → map f xs ≡ map g ys
same-forward f g xs ys e =
    ap (map f) (sym (reverse-reverse xs)) ∙ (same-reversed f g (reverse xs) (reverse ys) e ∙ ap (map g) (reverse-reverse ys))

pub upper-base : (n k : ℕ) (xs : List Marker) (d : Marker) → suc n ≤ length xs → Rises k (reverse xs) → (get_or xs (length xs - suc n) d).base ≡ base_of (drop (suc n) (reverse xs))
upper-base n k xs d h r =
    let s : Rises (floor_of (drop n (reverse xs))) (drop n (reverse xs)) = rises-drop n k (reverse xs) r in
    let t = rw (upper-at n xs d h) at s in
    t.1.0

rises-under : (k n : ℕ) (ms : List Marker) → Rises n ms → Rises (floor_of (drop k ms)) (drop (suc k) ms)
rises-under zero n [] r = tt
rises-under zero n (m ∷ ms) r = r.1.1
rises-under (suc k) n [] r = tt
rises-under (suc k) n (m ∷ ms) r = rises-under k m.height ms r.1.1

module _ (n : ℕ) (ss : List Slot) (ms : List Marker) (r : Rises (length ss) ms) where
  pub under-within : floor_of (drop n ms) ≤ length ss
  under-within = floor-drop n (length ss) ms (falls (length ss) ms r)

  above : length (take (length ss - floor_of (drop n ms)) ss) ≡ length ss - floor_of (drop n ms)
  above = length-take-le (length ss - floor_of (drop n ms)) ss (omega arith)

  module _ (f : ℕ → ℕ) (is : (k : ℕ) → k ≤ length ss → f k ≡ k - floor_of (drop n ms)) where
    pub window-items : items_of (take (length ss - floor_of (drop n ms)) ss) (puts f [] (take (suc n) ms)) ≡ topmost (suc n) (items_of ss ms)
    window-items = sym (topmost-items f n ss ms is (falls (length ss) ms r))

    window-rises : Rises (length (take (length ss - floor_of (drop n ms)) ss)) (puts f [] (take (suc n) ms))
    window-rises =
        let e : f (length ss) ≡ length ss - floor_of (drop n ms) = is (length ss) (omega arith) in
        let mono : (i j : ℕ) → i ≤ j → j ≤ length ss → f i ≤ f j =
        λ i j p q. let a : f i ≡ i - floor_of (drop n ms) = is i (omega (arith, p, q)) in
        let b : f j ≡ j - floor_of (drop n ms) = is j q in
        omega (arith, a, b, p) in
        let low : (i : ℕ) → i ≤ length ss → 0 ≤ f i = λ i p. omega arith in
        rw (above, ← e) (rises-puts f (length ss) 0 [] (take (suc n) ms) mono low tt (falls-take (suc n) (length ss) ms (falls (length ss) ms r)))

    pub window-stack : IsStack (take (length ss - floor_of (drop n ms)) ss) (puts f [] (take (suc n) ms)) (floor_of (puts f [] (take (suc n) ms))) (base_of (puts f [] (take (suc n) ms)))
    window-stack = record { rises = window-rises; links = links-puts f [] (take (suc n) ms) tt; floor = refl; base = refl }

    window-tops : map (top_over 0) (puts f [] (take (suc n) ms)) ≡ map (top_over (floor_of (drop n ms))) (take (suc n) ms)
    window-tops = tops-puts f (floor_of (drop n ms)) (length ss) (take (suc n) ms) is (falls-take (suc n) (length ss) ms (falls (length ss) ms r))

  abbrev lower : ℕ → ℕ
  lower k = k - floor_of (drop n ms)

  -- a window is told by its slots and marks
  module _ (ts : List Slot) (ns : List Marker) where
    pub same-window : ts ≡ take (length ss - floor_of (drop n ms)) ss → map (top_over 0) ns ≡ map (top_over (floor_of (drop n ms))) (take (suc n) ms) → items_of ts ns ≡ topmost (suc n) (items_of ss ms)
    same-window e t = rw e (items-tops (take (length ss - floor_of (drop n ms)) ss) ns (puts lower [] (take (suc n) ms)) (t ∙ sym (window-tops lower (λ k i. refl))) ∙ window-items lower (λ k i. refl))

    pub window-slots : items_of ts ns ≡ topmost (suc n) (items_of ss ms) → ts ≡ take (length ss - floor_of (drop n ms)) ss
    window-slots e =
        sym (slots-back ts ns) ∙ (ap slots_in (e ∙ sym (window-items lower (λ k i. refl))) ∙ slots-back (take (length ss - floor_of (drop n ms)) ss) (puts lower [] (take (suc n) ms)))

    pub window-marks : Rises (length ts) ns → items_of ts ns ≡ topmost (suc n) (items_of ss ms) → map (top_over 0) ns ≡ map (top_over (floor_of (drop n ms))) (take (suc n) ms)
    window-marks q e =
        sym (marks-back ts ns (falls (length ts) ns q))
        ∙ (ap marks_in (e ∙ sym (window-items lower (λ k i. refl)))
        ∙ (marks-back (take (length ss - floor_of (drop n ms)) ss) (puts lower [] (take (suc n) ms)) (falls _ _ (window-rises lower (λ k i. refl)))
        ∙ window-tops lower (λ k i. refl)))

  -- a window is put in the place of the present one
  module _ (ws : List Slot) (ns : List Marker) (q : Rises (length ws) ns) (f : ℕ → ℕ) (is : (k : ℕ) → k ≤ length ws → f k ≡ k + floor_of (drop n ms)) where
    under-height : length (drop (length ss - floor_of (drop n ms)) ss) ≡ floor_of (drop n ms)
    under-height = length-under (floor_of (drop n ms)) ss under-within

    low-enough : floor_of (drop (suc n) ms) ≤ floor_of (drop n ms)
    low-enough = floor-within (floor_of (drop n ms)) (drop (suc n) ms) (rises-under n (length ss) ms r)

    pub put-items : items_of (ws ++ drop (length ss - floor_of (drop n ms)) ss) (puts f (drop (suc n) ms) ns) ≡ items_of ws ns ++ beneath (suc n) (items_of ss ms)
    put-items =
        raised-items f ws (drop (length ss - floor_of (drop n ms)) ss) (drop (suc n) ms) ns (rw under-height is) (rw under-height low-enough) (falls (length ws) ns q)
        ∙ ap (λ (x : List Item). items_of ws ns ++ x) (sym (beneath-items n ss ms (falls (length ss) ms r)))

    pub put-stack : AreLinked ms
        → IsStack (ws ++ drop (length ss - floor_of (drop n ms)) ss) (puts f (drop (suc n) ms) ns) (floor_of (puts f (drop (suc n) ms) ns)) (base_of (puts f (drop (suc n) ms) ns))
    put-stack l =
        let b = floor_of (drop n ms) in
        let a : length (ws ++ drop (length ss - b) ss) ≡ length ws + length (drop (length ss - b) ss) = length-append ws (drop (length ss - b) ss) in
        let e : f (length ws) ≡ length ws + b = is (length ws) (omega arith) in
        let mono : (i j : ℕ) → i ≤ j → j ≤ length ws → f i ≤ f j =
        λ i j p t. let x : f i ≡ i + b = is i (omega (arith, p, t)) in let y : f j ≡ j + b = is j t in omega (arith, x, y, p) in
        let low : (i : ℕ) → i ≤ length ws → floor_of (drop (suc n) ms) ≤ f i =
        λ i p. let x : f i ≡ i + b = is i p in let y : floor_of (drop (suc n) ms) ≤ b = low-enough in omega (arith, x, y) in
        record {
          rises = rw (a, under-height, ← e) (rises-puts f (length ws) b (drop (suc n) ms) ns mono low (rises-under n (length ss) ms r) (falls (length ws) ns q));
          links = links-puts f (drop (suc n) ms) ns (links-drop (suc n) ms l);
          floor = refl;
          base = refl;
        }

-- as the calls need it, which see slots and marks with the topmost last

pub shifted-down : (h b n : ℕ) → h ≡ b → n ≤ 18446744073709551615 → (k : ℕ) → k ≤ n → shifted 0 h k ≡ k - b
shifted-down h b n e l k i = omega arith

pub shifted-up : (h b n : ℕ) → h ≡ b → h + n ≤ 18446744073709551615 → (k : ℕ) → k ≤ n → shifted h 0 k ≡ k + b
shifted-up h b n e l k i = omega arith

pub stack-is : (ss ts : List Slot) (ms ns : List Marker) (f b : ℕ) → ss ≡ ts → ms ≡ ns → f ≡ floor_of ms → b ≡ base_of ms → IsStack ts ns (floor_of ns) (base_of ns) → IsStack ss ms f b
stack-is ss ts ms ns f b p q x y i = rw (x, y, p, q) i

pub upward-tops : (h b : ℕ) (xs ys ws zs : List Marker) → h ≡ b → ws ≡ xs → reverse ys ≡ zs → map (top_over 0) ws ≡ map (top_over h) ys → map (top_over 0) (reverse xs) ≡ map (top_over b) zs
upward-tops h b xs ys ws zs e f g t = rw (← e, ← f, ← g) (same-reversed (top_over 0) (top_over h) ws ys t)

pub forward-tops : (h b : ℕ) (xs ys ws zs : List Marker) → h ≡ b → ws ≡ xs → reverse ys ≡ zs → map (top_over 0) (reverse xs) ≡ map (top_over b) zs → map (top_over 0) ws ≡ map (top_over h) ys
forward-tops h b xs ys ws zs e f g t = same-forward (top_over 0) (top_over h) ws ys (rw (e, f, g) t)

pub upward-slots : (xs ys ws zs : List Slot) → ws ≡ xs → reverse ys ≡ zs → ws ≡ ys → reverse xs ≡ zs
upward-slots xs ys ws zs f g t = rw (← f) (ap reverse t ∙ g)

pub forward-slots : (xs ys ws zs : List Slot) → ws ≡ xs → reverse ys ≡ zs → reverse xs ≡ zs → ws ≡ ys
forward-slots xs ys ws zs f g t =
    let e : reverse ws ≡ reverse ys = rw (f, g) t in
    sym (reverse-reverse ws) ∙ (ap reverse e ∙ reverse-reverse ys)

pub over-nothing : {A : Type 0} (xs ys : List A) → xs ++ drop (length ys - 0) ys ≡ xs
over-nothing xs ys = rw (minus-zero (length ys), drop-length ys) (append-nil xs)
