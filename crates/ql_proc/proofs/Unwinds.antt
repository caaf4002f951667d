-- How unwinding leaves calls.
use Rattle.std.proofs.Common.{◌≡◌, refl, sym, ◌∙◌, ℕ, ◌-◌, ◌<◌, ◌≤◌, true, false, List, [], ◌∷◌, ◌++◌, length, map, take, drop, arith, Some, is_some}
use Rattle.std.proofs.Math.Seq.{drop-length}
use Rattle.ql_world.specs.declared.word.Slot.{Slot}
use Rattle.ql_code.specs.declared.mark.Mark.{Mark}
use Rattle.ql_code.specs.declared.mark.Mark.TheVariants.{Returning, Catching, Protecting, Cleaning, Base}
use Rattle.ql_code.specs.Machine.{Item, slot, mark, top_mark, below_mark, unwind}
use Rattle.ql_proc.specs.declared.stack.Marker.{Marker}
use Rattle.ql_proc.specs.Slots.{is_call}
use Rattle.ql_proc.specs.Stacked.{items_of, floor_of, mark_of, IsStack}
use Rattle.ql_proc.proofs.Stacks

pub unwinds-call : (st : List Item) → is_call (top_mark st) ≡ true → unwind (below_mark st) ≡ unwind st
unwinds-call [] h = absurd cc
unwinds-call (slot s ∷ st) h = unwinds-call st h
unwinds-call (mark (Returning pc) ∷ st) h = refl
unwinds-call (mark (Catching c pc) ∷ st) h = absurd cc
unwinds-call (mark (Protecting u pc) ∷ st) h = absurd cc
unwinds-call (mark (Cleaning u c) ∷ st) h = absurd cc
unwinds-call (mark (Base j) ∷ st) h = absurd cc

pub below-shorter : (st : List Item) → is_call (top_mark st) ≡ true → length (below_mark st) < length st
below-shorter [] h = absurd cc
below-shorter (slot s ∷ st) h = let r : length (below_mark st) < length st = below-shorter st h in omega (arith, r)
below-shorter (mark k ∷ st) h = omega arith

pub call-is-mark : (st : List Item) → is_call (top_mark st) ≡ true → is_some (top_mark st) ≡ true
call-is-mark [] h = absurd cc
call-is-mark (slot s ∷ st) h = call-is-mark st h
call-is-mark (mark k ∷ st) h = refl

past-slots : (ss : List Slot) (st : List Item) → unwind (map slot ss ++ st) ≡ unwind st
past-slots [] st = refl
past-slots (s ∷ ss) st = past-slots ss st

past-all : (ss : List Slot) → unwind (map slot ss) ≡ []
past-all [] = refl
past-all (s ∷ ss) = past-all ss

at-mark : (k : Mark) (st : List Item) → is_call (Some k) ≡ false → unwind (mark k ∷ st) ≡ mark k ∷ st
at-mark (Returning pc) st h = absurd cc
at-mark (Catching c pc) st h = refl
at-mark (Protecting u pc) st h = refl
at-mark (Cleaning u c) st h = refl
at-mark (Base j) st h = refl

pub unwound : (ss : List Slot) (ms : List Marker) → floor_of ms ≤ length ss → is_call (mark_of ms) ≡ false → items_of (drop (length ss - floor_of ms) ss) ms ≡ unwind (items_of ss ms)
unwound ss [] p h = rw (Stacks.minus-zero (length ss), drop-length ss) (sym (past-all ss))
unwound ss (m ∷ ms) p h =
    let over = take (length ss - m.height) ss in
    let under = drop (length ss - m.height) ss in
    let l : length under ≡ m.height = Stacks.length-under m.height ss p in
    let z : length under - m.height ≡ 0 = omega (arith, l) in
    rw z (sym (past-slots over (mark m.mark ∷ items_of under ms) ∙ at-mark m.mark (items_of under ms) h))

pub stays-unwound : (ss : List Slot) (ms : List Marker) (f b : ℕ) → IsStack ss ms f b → IsStack (drop (length ss - floor_of ms) ss) ms f b
stays-unwound ss ms f b i =
    let g : floor_of ms ≤ length ss = Stacks.floor-within (length ss) ms i.rises in
    let l : length (drop (length ss - floor_of ms) ss) ≡ floor_of ms = Stacks.length-under (floor_of ms) ss g in
    Stacks.still-stack ss (drop (length ss - floor_of ms) ss) ms f b (omega (arith, l)) i
