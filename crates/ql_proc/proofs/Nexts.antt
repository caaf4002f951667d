-- The next tick, by what its window shows.
use Rattle.std.proofs.Common.{◌≡◌, refl, sym, ap, ◌∙◌, ℕ, zero, suc, ◌+◌, ◌==◌, ◌≤◌, Bool, true, false, List, [], ◌∷◌, ◌++◌, length, map, take, drop, arith, Option, Some, None, is_some}
use Rattle.std.specs.Prelude.{option_map, option_and_then, option_to_list}
use Rattle.std.proofs.lemmas.Bool.Decides.{nat_tests}
use Rattle.ql_world.specs.declared.word.Word.{Word}
use Rattle.ql_world.specs.declared.word.Slot.{Slot}
use Rattle.ql_world.specs.declared.word.Slot.TheVariants.{Val, Cell}
use Rattle.ql_world.specs.declared.operator.Operator.{Operator}
use Rattle.ql_world.specs.Operator.{takes_apart, computed}
use Rattle.ql_code.specs.declared.code.Op.{Op}
use Rattle.ql_code.specs.declared.mark.Mark.{Mark}
use Rattle.ql_code.specs.declared.mark.Mark.TheVariants.{Returning, Catching, Protecting, Cleaning, Base}
use Rattle.ql_code.specs.declared.mark.State.TheVariants.{Running as running}
use Rattle.ql_code.specs.Code.{Instruction}
use Rattle.ql_code.specs.Machine.{Item, slot, mark, word, words, push, frame_of, top_mark, below_mark, operand_count}
use Rattle.ql_code.specs.LocalPath.{topmost, whole_frame, operands, untouched, returned, result_in, given, computed_by, local_op, local_tick, settle_in}
use Rattle.ql_proc.specs.Slots.{slots_on}
use Rattle.ql_proc.specs.Inside.{stays}
use Rattle.ql_proc.specs.Goes.{goes_on, back_in}
use Rattle.ql_proc.proofs.Words.{told, words-within, push-words, push-plain}
use Rattle.ql_proc.proofs.Insides.{settle_in-stays, slots_on-drop, top_mark-drop}

-- what a window shows of its stack

pub words-top : (n m : ℕ) (st : List Item) → words n (topmost (suc m) st) ≡ words n st
words-top zero m st = refl
words-top (suc n) m [] = refl
words-top (suc n) m (slot (Val w) ∷ st) = ap (λ (ws : List Word). ws ++ w ∷ []) (words-top n m st)
words-top (suc n) m (slot (Cell b) ∷ st) = refl
words-top (suc n) m (mark k ∷ st) = refl

pub slots-top : (m : ℕ) (st : List Item) → slots_on (topmost (suc m) st) ≡ slots_on st
slots-top m [] = refl
slots-top m (slot s ∷ st) = ap (λ (ss : List Slot). s ∷ ss) (slots-top m st)
slots-top m (mark k ∷ st) = refl

pub mark-top : (m : ℕ) (st : List Item) → top_mark (topmost (suc m) st) ≡ top_mark st
mark-top m [] = refl
mark-top m (slot s ∷ st) = mark-top m st
mark-top m (mark k ∷ st) = refl

none-on : (m : ℕ) → topmost m [] ≡ []
none-on zero = refl
none-on (suc m) = refl

pub below-top : (m : ℕ) (st : List Item) → below_mark (topmost (suc m) st) ≡ topmost m (below_mark st)
below-top m [] = sym (none-on m)
below-top m (slot s ∷ st) = below-top m st
below-top m (mark k ∷ st) = refl

pub untouched-top : (n m : ℕ) (st : List Item) → untouched n (topmost (suc m) st) ≡ untouched n st
untouched-top n m st = rw (words-top n m st) refl

pub none-is : {A : Type 0} (x : Option A) → is_some x ≡ false → x ≡ None
none-is None e = refl
none-is (Some x) e = absurd cc

frame-more : (s : Slot) (x : Option (List Slot)) (ss : List Slot) → (is_some x ≡ true → x ≡ Some ss) → is_some (option_map (λ (ss : List Slot). s ∷ ss) x) ≡ true → option_map (λ (ss : List Slot). s ∷ ss) x ≡ Some (s ∷ ss)
frame-more s None ss h e = absurd cc
frame-more s (Some x) ss h e = ap (option_map (λ (ss : List Slot). s ∷ ss)) (h refl)

-- the topmost frame is whole where its bottom is there
pub frame-top : (n : ℕ) (st : List Item) → is_some (whole_frame (topmost n st)) ≡ true → whole_frame (topmost n st) ≡ Some (frame_of st)
frame-top zero st e = absurd cc
frame-top (suc n) [] e = absurd cc
frame-top (suc n) (slot s ∷ st) e = frame-more s (whole_frame (topmost (suc n) st)) (frame_of st) (frame-top (suc n) st) e
frame-top (suc n) (mark (Returning pc) ∷ st) e = refl
frame-top (suc n) (mark (Catching c pc) ∷ st) e = frame-top n st e
frame-top (suc n) (mark (Protecting u pc) ∷ st) e = frame-top n st e
frame-top (suc n) (mark (Cleaning u c) ∷ st) e = frame-top n st e
frame-top (suc n) (mark (Base j) ∷ st) e = refl

-- where it goes on

pub settles-from : (code : List Instruction) (pc : ℕ) (x : List Item) (k : Option Mark) (ss : List Slot) → top_mark x ≡ k → slots_on x ≡ ss
    → stays code k (length code) pc ss ≡ is_some (settle_in code (length code) pc x)
settles-from code pc x k ss e f = rw (← e, ← f) (sym (settle_in-stays code (length code) pc x))

marked : (top : Option Slot) (x : List Item) → top_mark (map slot (option_to_list top) ++ x) ≡ top_mark x
marked None x = refl
marked (Some s) x = refl

slotted : (top : Option Slot) (x : List Item) → slots_on (map slot (option_to_list top) ++ x) ≡ option_to_list top ++ slots_on x
slotted None x = refl
slotted (Some s) x = refl

pub goes : (code : List Instruction) (m pc count : ℕ) (top : Option Slot) (st : List Item) (k : Option Mark) (ss : List Slot)
    → k ≡ top_mark st → ss ≡ drop count (slots_on st) → count ≤ length (slots_on st)
    → stays code k (length code) pc (option_to_list top ++ ss) ≡ is_some (settle_in code (length code) pc (map slot (option_to_list top) ++ drop count (topmost (suc m) st)))
goes code m pc count top st k ss e f h =
    let t : List Item = topmost (suc m) st in
    let g : count ≤ length (slots_on t) = rw (slots-top m st) h in
    settles-from code pc (map slot (option_to_list top) ++ drop count t) k (option_to_list top ++ ss)
    (marked top (drop count t) ∙ (top_mark-drop count t g ∙ (mark-top m st ∙ sym e)))
    (slotted top (drop count t) ∙ ap (λ (x : List Slot). option_to_list top ++ x) (slots_on-drop count t g ∙ (ap (drop count) (slots-top m st) ∙ sym f)))

-- operands

pub operands-there : (n m : ℕ) (st : List Item) → (length (words n st) == n) ≡ true → operands n (topmost (suc m) st) ≡ Some (words n st)
operands-there n m st h = rw (words-top n m st, h) refl

pub one-there : (m : ℕ) (st : List Item) (w : Word) → w ∷ [] ≡ words 1 st → operands 1 (topmost (suc m) st) ≡ Some (w ∷ [])
one-there m st w e = rw (words-top 1 m st, ← e) refl

pub operands-missing : (n m : ℕ) (st : List Item) → (length (words n st) == n) ≡ false → operands n (topmost (suc m) st) ≡ None
operands-missing n m st h = rw (words-top n m st, h) refl

pub masked : (n : ℕ) → (n ≡ 0 → ⊥) → (n == 0) ≡ false
masked n h = grind (arith, nat_tests)

pub enough : (n : ℕ) (st : List Item) → (length (words n st) == n) ≡ true → n ≤ length (slots_on st)
enough n st h = words-within n st (told n st ∙ h)

-- what a primitive gives

pub not-parts : (o : Operator) (x : Option (List Word)) → takes_apart o ≡ false → option_and_then (λ ws. given (computed [] o ws)) x ≡ option_and_then (λ ws. given (result_in None o ws)) x
not-parts o x h = rw h refl

thereby : {A B C : Type 0} (f : B → C) (g : A → Option B) (x : Option A) → option_and_then (λ (a : A). option_map f (g a)) x ≡ option_map f (option_and_then g x)
thereby f g None = refl
thereby f g (Some x) = refl

computed-top : (o : Operator) (m pc : ℕ) (st : List Item) (r : Option Word) → r ≡ option_and_then (λ ws. given (result_in None o ws)) (untouched (operand_count (Some o)) st)
    → computed_by None (Some o) pc (topmost (suc m) st) ≡ option_map (λ (w : Word). (pc + 1, word w ∷ drop (operand_count (Some o)) (topmost (suc m) st))) r
computed-top o m pc st r e =
    rw (untouched-top (operand_count (Some o)) m st, e)
    (thereby (λ (w : Word). (pc + 1, word w ∷ drop (operand_count (Some o)) (topmost (suc m) st))) (λ (ws : List Word). given (result_in None o ws)) (untouched (operand_count (Some o)) st))

module _ (code : List Instruction) (x : Option Operator) (o : Operator) (m pc : ℕ) (st : List Item) (e : Some o ≡ x) where
  pub prim-missing : None ≡ option_and_then (λ ws. given (result_in None o ws)) (untouched (operand_count (Some o)) st) → false ≡ goes_on code (computed_by None x pc (topmost (suc m) st))
  prim-missing h = rw (← e, computed-top o m pc st None h) refl

  pub prim-goes : (w : Word) (r : Bool) → Some w ≡ option_and_then (λ ws. given (result_in None o ws)) (untouched (operand_count (Some o)) st)
      → r ≡ goes_on code (Some (pc + 1, word w ∷ drop (operand_count (Some o)) (topmost (suc m) st))) → r ≡ goes_on code (computed_by None x pc (topmost (suc m) st))
  prim-goes w r h g = rw (← e, computed-top o m pc st (Some w) h) g

-- calls

entered-mark : (n : ℕ) (st rest : List Item) (k : Mark) → n ≤ length (slots_on st) → top_mark (take n st ++ (mark k ∷ rest)) ≡ Some k
entered-mark zero st rest k h = refl
entered-mark (suc n) [] rest k h = refl
entered-mark (suc n) (slot s ∷ st) rest k h = entered-mark n st rest k (omega arith)
entered-mark (suc n) (mark m ∷ st) rest k h = absurd (omega arith)

entered-slots : (n : ℕ) (st rest : List Item) (k : Mark) → n ≤ length (slots_on st) → slots_on (take n st ++ (mark k ∷ rest)) ≡ take n (slots_on st)
entered-slots zero st rest k h = refl
entered-slots (suc n) [] rest k h = refl
entered-slots (suc n) (slot s ∷ st) rest k h = ap (λ (ss : List Slot). s ∷ ss) (entered-slots n st rest k (omega arith))
entered-slots (suc n) (mark m ∷ st) rest k h = absurd (omega arith)

pub calls : (code : List Instruction) (pc n : ℕ) (k : Mark) (st rest : List Item) (ss : List Slot) → (length (words n st) == n) ≡ true → ss ≡ take n (slots_on st)
    → stays code (Some k) (length code) pc ss ≡ is_some (settle_in code (length code) pc (push (words n st) (mark k ∷ rest)))
calls code pc n k st rest ss h f =
    let g : n ≤ length (slots_on st) = enough n st h in
    let e : push (words n st) (mark k ∷ rest) ≡ take n st ++ (mark k ∷ rest) = sym (push-plain (words n st) (mark k ∷ rest)) ∙ push-words n st (mark k ∷ rest) (told n st ∙ h) in
    settles-from code pc (push (words n st) (mark k ∷ rest)) (Some k) ss (ap top_mark e ∙ entered-mark n st rest k g) (ap slots_on e ∙ (entered-slots n st rest k g ∙ sym f))

-- returns

never : {A B : Type 0} (f : A → Option B) (x : Option A) → ((a : A) → f a ≡ None) → None ≡ option_and_then f x
never f None h = refl
never f (Some a) h = sym (h a)

no-return : (k : Option Mark) (st : List Item) (ws : List Word) → None ≡ back_in k → returned k st ws ≡ None
no-return None st ws e = refl
no-return (Some (Returning l)) st ws e = absurd cc
no-return (Some (Catching c l)) st ws e = refl
no-return (Some (Protecting u l)) st ws e = refl
no-return (Some (Cleaning u c)) st ws e = refl
no-return (Some (Base j)) st ws e = refl

pub not-back : (k : Option Mark) (st : List Item) (x : Option (List Word)) → None ≡ back_in k → None ≡ option_and_then (returned k st) x
not-back k st x e = never (returned k st) x (λ ws. no-return k st ws e)

back-is : (k : Option Mark) (pc : ℕ) → Some pc ≡ back_in k → k ≡ Some (Returning pc)
back-is None pc e = absurd cc
back-is (Some (Returning l)) pc e = cc
back-is (Some (Catching c l)) pc e = absurd cc
back-is (Some (Protecting u l)) pc e = absurd cc
back-is (Some (Cleaning u c)) pc e = absurd cc
back-is (Some (Base j)) pc e = absurd cc

pub back-top : (m pc : ℕ) (st : List Item) → Some pc ≡ back_in (top_mark st) → top_mark (topmost (suc m) st) ≡ Some (Returning pc)
back-top m pc st e = mark-top m st ∙ back-is (top_mark st) pc e

pub returns-to : (code : List Instruction) (m pc : ℕ) (w : Word) (st : List Item) (k : Option Mark) (ss : List Slot) → k ≡ top_mark (below_mark st) → ss ≡ slots_on (below_mark st)
    → stays code k (length code) pc (Val w ∷ ss) ≡ is_some (settle_in code (length code) pc (word w ∷ below_mark (topmost (suc (suc m)) st)))
returns-to code m pc w st k ss e f =
    settles-from code pc (word w ∷ below_mark (topmost (suc (suc m)) st)) k (Val w ∷ ss)
    (ap top_mark (below-top (suc m) st) ∙ (mark-top m (below_mark st) ∙ sym e))
    (ap (λ (x : List Slot). Val w ∷ x) (ap slots_on (below-top (suc m) st) ∙ (slots-top m (below_mark st) ∙ sym f)))

-- the tick

pub tick-of : (code : List Instruction) (x : Option Instruction) (op : Op) (pc : ℕ) (st : List Item) → option_map (λ i. i.op) x ≡ Some op
    → goes_on code (local_op None op pc st) ≡ is_some (local_tick code None running x pc st)
tick-of code None op pc st e = absurd cc
tick-of code (Some i) op pc st e = let f : i.op ≡ op = cc in rw (← f) refl
