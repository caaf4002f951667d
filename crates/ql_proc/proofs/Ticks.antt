-- What a tick leaves, before it is taken.
use Rattle.std.proofs.Common.{◌≡◌, refl, sym, ap, ◌∙◌, ℕ, zero, suc, ◌<◌, true, false, ⊎_elim, List, [], ◌∷◌, ◌++◌, length, map, take, drop, arith, Option, Some, None, is_some}
use Rattle.std.specs.Prelude.{option_map, option_and_then}
use Rattle.ql_world.specs.declared.word.Word.{Word}
use Rattle.ql_world.specs.declared.word.Slot.{Slot}
use Rattle.ql_world.specs.declared.word.Slot.TheVariants.{Val as Plain, Cell as Boxed}
use Rattle.ql_code.specs.declared.mark.Mark.{Mark}
use Rattle.ql_code.specs.declared.mark.Mark.TheVariants.{Returning, Catching, Protecting, Cleaning, Base}
use Rattle.ql_code.specs.declared.mark.State.TheVariants.{Running}
use Rattle.ql_code.specs.Code.{Instruction}
use Rattle.ql_code.specs.Machine.{Item, slot, mark, word, words, push, frame_of, slot_at, settled, Point, point, top_mark}
use Rattle.ql_code.specs.LocalPath.{whole_frame, word_in, settle_in}
use Rattle.ql_proc.specs.Slots.{is_frame, slots_on, are_words, HasWords}
use Rattle.ql_proc.specs.declared.stack.Marker.{Marker}
use Rattle.ql_proc.specs.Stacked.{base_of, frame_among}
use Rattle.ql_proc.specs.Inside.{stays}
use Rattle.ql_proc.proofs.Insides
use Rattle.ql_proc.proofs.Words.{cases, there, within, push-words, push-plain}

-- frames whose bottom is there

some-map : {A B : Type 0} (f : A → B) (o : Option A) → is_some (option_map f o) ≡ is_some o
some-map f None = refl
some-map f (Some x) = refl

pub based : (ms : List Marker) → 0 < base_of ms → frame_among ms ≡ true
based [] h = absurd (omega arith)
based (m ∷ ms) h =
    ⊎_elim
    (λ (b : is_frame m.mark ≡ true). rw b refl)
    (λ (b : is_frame m.mark ≡ false). rw b (based ms (rw b at h)))
    (cases (is_frame m.mark))

pub whole-is : (st : List Item) → is_some (whole_frame st) ≡ true → whole_frame st ≡ Some (frame_of st)
whole-is [] h = absurd cc
whole-is (slot s ∷ st) h =
    let e : whole_frame st ≡ Some (frame_of st) = whole-is st (sym (some-map (λ (x : List Slot). s ∷ x) (whole_frame st)) ∙ h) in
    ap (option_map (λ (x : List Slot). s ∷ x)) e
whole-is (mark (Returning pc) ∷ st) h = refl
whole-is (mark (Base j) ∷ st) h = refl
whole-is (mark (Catching c pc) ∷ st) h = whole-is st h
whole-is (mark (Protecting u pc) ∷ st) h = whole-is st h
whole-is (mark (Cleaning u c) ∷ st) h = whole-is st h

pub local-in : (st : List Item) (at : ℕ) → is_some (whole_frame st) ≡ true → option_and_then (λ ss. word_in (slot_at ss at)) (whole_frame st) ≡ word_in (slot_at (frame_of st) at)
local-in st at h = ap (option_and_then (λ (ss : List Slot). word_in (slot_at ss at))) (whole-is st h)

-- the stack after a tick

slots-over : (ss : List Slot) (st : List Item) → slots_on (map slot ss ++ st) ≡ ss ++ slots_on st
slots-over [] st = refl
slots-over (s ∷ ss) st = ap (λ (x : List Slot). s ∷ x) (slots-over ss st)

mark-over : (ss : List Slot) (st : List Item) → top_mark (map slot ss ++ st) ≡ top_mark st
mark-over [] st = refl
mark-over (s ∷ ss) st = mark-over ss st

taken-slots : (n : ℕ) (st : List Item) (k : Mark) (rest : List Item) → are_words n st ≡ true → slots_on (take n st ++ (mark k ∷ rest)) ≡ take n (slots_on st)
taken-slots zero st k rest h = refl
taken-slots (suc n) [] k rest h = absurd cc
taken-slots (suc n) (slot (Plain w) ∷ st) k rest h = ap (λ (x : List Slot). Plain w ∷ x) (taken-slots n st k rest h)
taken-slots (suc n) (slot (Boxed b) ∷ st) k rest h = absurd cc
taken-slots (suc n) (mark j ∷ st) k rest h = absurd cc

taken-mark : (n : ℕ) (st : List Item) (k : Mark) (rest : List Item) → are_words n st ≡ true → top_mark (take n st ++ (mark k ∷ rest)) ≡ Some k
taken-mark zero st k rest h = refl
taken-mark (suc n) [] k rest h = absurd cc
taken-mark (suc n) (slot (Plain w) ∷ st) k rest h = taken-mark n st k rest h
taken-mark (suc n) (slot (Boxed b) ∷ st) k rest h = absurd cc
taken-mark (suc n) (mark j ∷ st) k rest h = absurd cc

pub pushed : (n : ℕ) (st under : List Item) → HasWords n st → push (words n st) under ≡ take n st ++ under
pushed n st under w = sym (push-plain (words n st) under) ∙ push-words n st under (there n st w)

module _ (code : List Instruction) (left pc : ℕ) where
  pub stays-with : (ss : List Slot) (n : ℕ) (st : List Item) → HasWords n st → stays code (top_mark st) left pc (ss ++ drop n (slots_on st)) ≡ is_some (settle_in code left pc (map slot ss ++ drop n st))
  stays-with ss n st w =
      let e = Insides.settle_in-stays code left pc (map slot ss ++ drop n st) in
      let h = within n st w in
      sym (rw (mark-over ss (drop n st), slots-over ss (drop n st), Insides.top_mark-drop n st h, Insides.slots_on-drop n st h) at e)

  pub stays-called : (n : ℕ) (st rest : List Item) (k : Mark) → HasWords n st → stays code (Some k) left pc (take n (slots_on st)) ≡ is_some (settle_in code left pc (push (words n st) (mark k ∷ rest)))
  stays-called n st rest k w =
      let e = Insides.settle_in-stays code left pc (take n st ++ (mark k ∷ rest)) in
      rw (pushed n st (mark k ∷ rest) w) (sym (rw (taken-slots n st k rest (there n st w), taken-mark n st k rest (there n st w)) at e))

  pub stays-given : (w : Word) (st : List Item) → stays code (top_mark st) left pc (Plain w ∷ slots_on st) ≡ is_some (settle_in code left pc (word w ∷ st))
  stays-given w st = sym (Insides.settle_in-stays code left pc (word w ∷ st))

-- ticks that are taken, and ticks that aren't

some-of : {A : Type 0} (o : Option A) → is_some o ≡ true → (x : A) × (o ≡ Some x)
some-of None h = absurd cc
some-of (Some x) h = (x, refl)

module _ (code : List Instruction) (pc : ℕ) (st : List Item) where
  pub landed : (p : Point) → is_some (settle_in code (length code) pc st) ≡ true → p ≡ settled code pc st → (settle_in code (length code) pc st ≡ Some (p.place, p.stack)) × (p.state ≡ Running)
  landed p h e =
      let r = some-of (settle_in code (length code) pc st) h in
      let f : p ≡ point r.0.0 r.0.1 Running = e ∙ Insides.settle_in-settles code (length code) pc st r.0 r.1 in
      (r.1 ∙ ap (λ (q : Point). Some (q.place, q.stack)) (sym f), ap (λ (q : Point). q.state) f)
