-- Silent instructions within a window.
use Rattle.std.proofs.Common.{◌≡◌, refl, sym, ap, ◌∙◌, ℕ, zero, suc, ◌+◌, ◌-◌, ◌==◌, ◌<◌, ◌≤◌, Bool, true, false, ◌&&◌, ◌||◌, if◌then◌else◌, leb, List, [], ◌∷◌, ◌++◌, length, map, take, drop, reverse, arith, Option, Some, None, is_some, is_none, slice_get, ⊎_elim}
use Rattle.std.specs.Prelude.{option_map}
use Rattle.std.specs.List.{list_all}
use Rattle.ql_world.specs.declared.word.Word.{Word}
use Rattle.ql_world.specs.declared.word.Word.TheVariants.{Int, Sym, Pair, Fun, Proc, Fut}
use Rattle.ql_world.specs.declared.word.Slot.{Slot}
use Rattle.ql_world.specs.declared.word.Slot.TheVariants.{Val, Cell}
use Rattle.ql_world.specs.Word.{first_future, is_future}
use Rattle.ql_code.specs.declared.code.Op.{Op}
use Rattle.ql_code.specs.declared.mark.Mark.{Mark}
use Rattle.ql_code.specs.declared.mark.State.TheVariants.{Running as running}
use Rattle.ql_code.specs.Code.{Instruction}
use Rattle.ql_code.specs.declared.code.Op.TheVariants.{Jump as jump, Drop as drop_op, Slide as slide, Touch as touch, Join as join}
use Rattle.ql_code.specs.Machine.{Item, Point, point, slot, mark, words, joins_at, silent, after_silent, settle_at, settle, top_mark}
use Rattle.ql_code.specs.LocalPath.{loose, is_within, past, settle_in_at, settle_in}
use Rattle.ql_proc.specs.Slots.{are_words, is_plain, or_found, slots_on}
use Rattle.ql_proc.specs.Inside.{stays, stays_past, stays_past_join, stays_at}
use Rattle.std.proofs.lemmas.Bool.Decides.{nat_tests}
use Rattle.ql_proc.proofs.Lists.{more}
use Rattle.ql_proc.proofs.Stacks.{reverse-take, minus-minus, words-are, words-short, slots_on-slots}
use Rattle.ql_proc.proofs.Words.{cases, told}
use Rattle.ql_proc.proofs.Futures.{futures-then}

-- the walk in code

pub without-last : {A : Type 0} (n : ℕ) (xs : List A) → n ≤ length xs → reverse (take (length xs - n) xs) ≡ drop n (reverse xs)
without-last n xs h = reverse-take (length xs - n) xs (omega arith) ∙ rw (minus-minus (length xs) n h) refl

pub plain-words : (n : ℕ) (ss : List Slot) → n ≤ length ss → are_words n (map slot ss) ≡ list_all is_plain (take n ss)
plain-words n ss h = words-are n ss [] (omega arith)

pub few-words : (n : ℕ) (ss : List Slot) → length ss < n → are_words n (map slot ss) ≡ false
few-words n ss h = words-short n (map slot ss) (rw (slots_on-slots ss) h)

pub future-alone : (w : Word) → is_future w ≡ is_some (first_future (w ∷ []))
future-alone (Int z) = refl
future-alone (Sym n) = refl
future-alone (Pair n) = refl
future-alone (Fun n) = refl
future-alone (Proc n) = refl
future-alone (Fut f) = refl

either-found : (a b : Option ℕ) → is_some (or_found a b) ≡ (is_some b || is_some a)
either-found None None = refl
either-found None (Some f) = refl
either-found (Some f) None = refl
either-found (Some f) (Some g) = refl

pub future-on : (n : ℕ) (w : Word) (ss rest : List Slot) → 0 < n → ss ≡ Val w ∷ rest
    → is_some (first_future (words n (map slot ss))) ≡ (is_future w || is_some (first_future (words (n - 1) (map slot rest))))
future-on n w ss rest h e =
    let m : n ≡ suc (n - 1) = more n h in
    rw (e, future-alone w)
    (ap (λ (k : ℕ). is_some (first_future (words k (slot (Val w) ∷ map slot rest)))) m
    ∙ (ap is_some (futures-then (words (n - 1) (map slot rest)) (w ∷ [])) ∙ either-found (first_future (words (n - 1) (map slot rest))) (first_future (w ∷ []))))

module _ (n : ℕ) (st : List Item) (x : Bool) where
  told-by : ((length (words n st) == n) && x) ≡ (are_words n st && x)
  told-by = ap (λ (b : Bool). b && x) (sym (told n st))

some-or-none : {A : Type 0} (a : Option A) → is_none a ≡ (if is_some a then false else true)
some-or-none None = refl
some-or-none (Some a) = refl

pub touch-short : (n : ℕ) (st : List Item) (x : Bool) → are_words n st ≡ false → false ≡ ((length (words n st) == n) && x)
touch-short n st x h = rw (told-by n st x, h) refl

pub touch-waits : (n : ℕ) (st : List Item) (x : Bool) → are_words n st ≡ true → is_some (first_future (words n st)) ≡ true
    → true ≡ ((length (words n st) == n) && (if is_none (first_future (words n st)) then x else true))
touch-waits n st x h f = rw (told-by n st (if is_none (first_future (words n st)) then x else true), h, some-or-none (first_future (words n st)), f) refl

pub touch-passes : (n : ℕ) (st : List Item) (x : Bool) → are_words n st ≡ true → is_some (first_future (words n st)) ≡ false
    → x ≡ ((length (words n st) == n) && (if is_none (first_future (words n st)) then x else true))
touch-passes n st x h f = rw (told-by n st (if is_none (first_future (words n st)) then x else true), h, some-or-none (first_future (words n st)), f) refl

at-op : (next : ℕ → List Slot → Bool) (k : Option Mark) (x : Option Instruction) (pc : ℕ) (ss : List Slot) (op : Op) → option_map (λ i. i.op) x ≡ Some op
    → stays_at next k x pc ss ≡ stays_past next k op pc ss
at-op next k None pc ss op e = absurd cc
at-op next k (Some i) pc ss op e = let f : i.op ≡ op = cc in rw f refl

pub stays-on : (code : List Instruction) (k : Option Mark) (left pc : ℕ) (ss : List Slot) (op : Op) → 0 < left → option_map (λ i. i.op) (slice_get code pc) ≡ Some op
    → stays code k left pc ss ≡ stays_past (stays code k (left - 1)) k op pc ss
stays-on code k left pc ss op h e =
    ap (λ (m : ℕ). stays code k m pc ss) (more left h) ∙ at-op (stays code k (left - 1)) k (slice_get code pc) pc ss op e

-- A local path goes on where they stay.

pub loose-is : (st : List Item) → loose st ≡ length (slots_on st)
loose-is [] = refl
loose-is (slot s ∷ st) = ap suc (loose-is st)
loose-is (mark k ∷ st) = refl

pub words-loose : (n : ℕ) (st : List Item) → words n (map slot (slots_on st)) ≡ words n st
words-loose zero st = refl
words-loose (suc n) [] = refl
words-loose (suc n) (slot (Val w) ∷ st) = ap (λ (ws : List Word). ws ++ w ∷ []) (words-loose n st)
words-loose (suc n) (slot (Cell b) ∷ st) = refl
words-loose (suc n) (mark k ∷ st) = refl

pub top_mark-drop : (n : ℕ) (st : List Item) → n ≤ length (slots_on st) → top_mark (drop n st) ≡ top_mark st
top_mark-drop zero st h = refl
top_mark-drop (suc n) [] h = refl
top_mark-drop (suc n) (slot s ∷ st) h = top_mark-drop n st (omega arith)
top_mark-drop (suc n) (mark k ∷ st) h = absurd (omega arith)

pub slots_on-drop : (n : ℕ) (st : List Item) → n ≤ length (slots_on st) → slots_on (drop n st) ≡ drop n (slots_on st)
slots_on-drop zero st h = refl
slots_on-drop (suc n) [] h = refl
slots_on-drop (suc n) (slot s ∷ st) h = slots_on-drop n st (omega arith)
slots_on-drop (suc n) (mark k ∷ st) h = absurd (omega arith)

leb-true : (m n : ℕ) → leb m n ≡ true → m ≤ n
leb-true m n h = grind (arith, nat_tests, h)

leb-over : (n : ℕ) → leb (n + 1) 0 ≡ false
leb-over n = grind (arith, nat_tests)

leb-one : (n : ℕ) → leb 1 (suc n) ≡ true
leb-one n = grind (arith, nat_tests)

leb-suc : (m n : ℕ) → leb (m + 1) (suc n) ≡ leb m n
leb-suc m n =
    ⊎_elim
    (λ (a : leb m n ≡ true). let h : m ≤ n = leb-true m n a in rw a (grind (arith, nat_tests, h)))
    (λ (a : leb m n ≡ false). let h : n < m = grind (arith, nat_tests, a) in rw a (grind (arith, nat_tests, h)))
    (cases (leb m n))

module _ (go : ℕ → List Item → Option (ℕ × List Item)) (next : ℕ → List Slot → Bool) where
  -- what is known of the instructions that follow
  abbrev pub Agree : Option Mark → Type 0
  Agree k = (pc : ℕ) (st : List Item) → top_mark st ≡ k → is_some (go pc st) ≡ next pc (slots_on st)

  joined : (k : Option Mark) (pc : ℕ) (st : List Item) → Agree k → top_mark st ≡ k
      → is_some (if is_some k then past go (if joins_at pc k then None else Some (pc + 1, st)) pc st else None) ≡ stays_past_join next k pc (slots_on st)
  joined None pc st h e = refl
  joined (Some k) pc st h e =
      ⊎_elim (λ (b : joins_at pc (Some k) ≡ true). rw b refl) (λ (b : joins_at pc (Some k) ≡ false). rw b (h (pc + 1) st e)) (cases (joins_at pc (Some k)))

  touched-as : (a b : Bool) (ws : List Word) (pc : ℕ) (st : List Item) → is_some (go (pc + 1) st) ≡ next (pc + 1) (slots_on st)
      → is_some (if is_some (if a then Some ws else None) then past go (if b then Some (pc + 1, st) else None) pc st else None) ≡ (a && (if b then next (pc + 1) (slots_on st) else true))
  touched-as true true ws pc st h = h
  touched-as true false ws pc st h = refl
  touched-as false b ws pc st h = refl

  pub agrees : (op : Op) (k : Option Mark) (pc : ℕ) (st : List Item) → Agree k → top_mark st ≡ k
      → is_some (if is_within op st then past go (silent op pc st) pc st else None) ≡ stays_past next k op pc (slots_on st)
  agrees (jump l) k pc st h e = h l st e
  agrees drop_op k pc [] h e = refl
  agrees drop_op k pc (slot s ∷ st) h e = rw (leb-one (loose st)) (h (pc + 1) st e)
  agrees drop_op k pc (mark m ∷ st) h e = refl
  agrees (slide n) k pc [] h e = rw (leb-over n) refl
  agrees (slide n) k pc (slot s ∷ st) h e =
      let l : loose st ≡ length (slots_on st) = loose-is st in
      ⊎_elim
      (λ (b : leb n (length (slots_on st)) ≡ true).
      let g : n ≤ length (slots_on st) = leb-true n (length (slots_on st)) b in
      rw (leb-suc n (loose st), l, b, ← slots_on-drop n st g) (h (pc + 1) (slot s ∷ drop n st) (top_mark-drop n st g ∙ e)))
      (λ (b : leb n (length (slots_on st)) ≡ false). rw (leb-suc n (loose st), l, b) refl)
      (cases (leb n (length (slots_on st))))
  agrees (slide n) k pc (mark m ∷ st) h e = rw (leb-over n) refl
  agrees join k pc st h e = rw e (joined k pc st h e)
  agrees (touch n) k pc st h e = rw (words-loose n st) (touched-as (length (words n st) == n) (is_none (first_future (words n st))) (words n st) pc st (h (pc + 1) st e))
  agrees op k pc st h e = refl

  pub agrees-at : (x : Option Instruction) (k : Option Mark) (pc : ℕ) (st : List Item) → Agree k → top_mark st ≡ k
      → is_some (settle_in_at go x pc st) ≡ stays_at next k x pc (slots_on st)
  agrees-at None k pc st h e = refl
  agrees-at (Some i) k pc st h e = agrees i.op k pc st h e

module _ (code : List Instruction) where
  stays-settled : (k : Option Mark) (n : ℕ) → Agree (settle_in code n) (stays code k n) k
  stays-settled k zero pc st e = refl
  stays-settled k (suc n) pc st e = agrees-at (settle_in code n) (stays code k n) (slice_get code pc) k pc st (stays-settled k n) e

  -- it goes on exactly where they stay
  pub settle_in-stays : (n pc : ℕ) (st : List Item) → is_some (settle_in code n pc st) ≡ stays code (top_mark st) n pc (slots_on st)
  settle_in-stays n pc st = stays-settled (top_mark st) n pc st refl

-- and there it comes to where the machine comes

module _ (go : ℕ → List Item → Option (ℕ × List Item)) (next : ℕ → List Item → Point) where
  abbrev pub Lead : Type 0
  Lead = (pc : ℕ) (st : List Item) (x : ℕ × List Item) → go pc st ≡ Some x → next pc st ≡ point x.0 x.1 running

  past-leads : (y : Option (ℕ × List Item)) (pc : ℕ) (st : List Item) (x : ℕ × List Item) → Lead → past go y pc st ≡ Some x → after_silent next y pc st ≡ point x.0 x.1 running
  past-leads None pc st x h e = let f : (pc, st) ≡ x = cc in rw (← f) refl
  past-leads (Some y) pc st x h e = h y.0 y.1 x e

  leads-if : (b : Bool) (y : Option (ℕ × List Item)) (pc : ℕ) (st : List Item) (x : ℕ × List Item) → Lead → (if b then past go y pc st else None) ≡ Some x → after_silent next y pc st ≡ point x.0 x.1 running
  leads-if true y pc st x h e = past-leads y pc st x h e
  leads-if false y pc st x h e = absurd cc

  leads-at : (i : Option Instruction) (pc : ℕ) (st : List Item) (x : ℕ × List Item) → Lead → settle_in_at go i pc st ≡ Some x → settle_at next i pc st ≡ point x.0 x.1 running
  leads-at None pc st x h e = past-leads None pc st x h e
  leads-at (Some i) pc st x h e = leads-if (is_within i.op st) (silent i.op pc st) pc st x h e

pub settle_in-settles : (code : List Instruction) (n pc : ℕ) (st : List Item) (x : ℕ × List Item) → settle_in code n pc st ≡ Some x → settle code n pc st ≡ point x.0 x.1 running
settle_in-settles code zero pc st x e = let f : (pc, st) ≡ x = cc in rw (← f) refl
settle_in-settles code (suc n) pc st x e =
    leads-at (settle_in code n) (settle code n) (slice_get code pc) pc st x (λ p s y. settle_in-settles code n p s y) e
