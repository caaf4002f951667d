-- What stands above the rest of a stack is the same over every rest.
use Rattle.std.proofs.Common.{◌≡◌, ◌⊎◌, ℕ, zero, suc, ◌+◌, ◌≤◌, ◌==◌, leb, Bool, true, false, if◌then◌else◌, List, [], ◌∷◌, ◌++◌, length, Option, Some, None, is_none, is_some, option_map, option_and_then, slice_get, refl, sym, ap, ◌∙◌, subst, inl, inr, arith, length-append, eqb-true, leb-true}
use Rattle.std.specs.Prelude.{drop as without_first}
use Rattle.ql_world.specs.Word.{first_future}
use Rattle.ql_world.specs.declared.word.Word.{Word}
use Rattle.ql_world.specs.declared.word.Slot.{Slot}
use Rattle.ql_world.specs.declared.word.Slot.TheVariants.{Val as plain, Cell as boxed}
use Rattle.ql_code.specs.Code.{Op, jump, drop, slide, touch, join, Instruction}
use Rattle.ql_code.specs.Machine.{Mark, returning, catching, protecting, cleaning, base, Item, slot, mark, running, Point, point, word, words, push, frame_of, top_mark, below_mark, joins_at, slid, silent, after_silent, settle, settle_at}
use Rattle.ql_code.specs.LocalPath.{operands, untouched, whole_frame, is_within, past, settle_in, settle_in_at, loose}

pub cases : (b : Bool) → (b ≡ true) ⊎ (b ≡ false)
cases true = inl refl
cases false = inr refl

module _ {A B : Type 0} where
  pub of_and_then : (f : A → Option B) (o : Option A) (b : B) → option_and_then f o ≡ Some b → (a : A) × (o ≡ Some a) × (f a ≡ Some b)
  of_and_then f None b e = absurd cc
  of_and_then f (Some a) b e = (a, refl, e)

  pub of_map : (f : A → B) (o : Option A) (b : B) → option_map f o ≡ Some b → (a : A) × (o ≡ Some a) × (f a ≡ b)
  of_map f None b e = absurd cc
  of_map f (Some a) b e = (a, refl, cc)

module _ {A : Type 0} where
  pub of_if : (c : Bool) (o : Option A) (a : A) → (if c then o else None) ≡ Some a → (c ≡ true) × (o ≡ Some a)
  of_if true o a e = (refl, e)
  of_if false o a e = absurd cc

  pub of_is_some : (o : Option A) → is_some o ≡ true → (a : A) × (o ≡ Some a)
  of_is_some None e = absurd cc
  of_is_some (Some a) e = (a, refl)

  pub drop_over : (n : ℕ) (xs ys : List A) → n ≤ length xs → without_first n (xs ++ ys) ≡ without_first n xs ++ ys
  drop_over zero xs ys h = refl
  drop_over (suc n) [] ys h = absurd (omega arith)
  drop_over (suc n) (x ∷ xs) ys h = drop_over n xs ys (omega arith)

words_over : (n : ℕ) (st rest : List Item) → length (words n st) ≡ n → (words n (st ++ rest) ≡ words n st) × (n ≤ length st)
words_over zero st rest h = (refl, omega arith)
words_over (suc n) [] rest h = absurd (omega arith)
words_over (suc n) (slot (plain w) ∷ st) rest h =
    let less : length (words n st) ≡ n = omega (arith, length-append {A = Word}) in
    let r = words_over n st rest less in
    (ap (λ ws. ws ++ w ∷ []) r.0, omega (arith, r.1))
words_over (suc n) (slot (boxed b) ∷ st) rest h = absurd (omega arith)
words_over (suc n) (mark k ∷ st) rest h = absurd (omega arith)

pub record Operands (n : ℕ) (st : List Item) (ws : List Word) (rest : List Item) : Type 0 where
  pub here : words n st ≡ ws
  pub over : words n (st ++ rest) ≡ ws
  pub others : without_first n (st ++ rest) ≡ without_first n st ++ rest
  pub count : length ws ≡ n

pub operands_over : (n : ℕ) (st : List Item) (ws : List Word) (rest : List Item) → operands n st ≡ Some ws → Operands n st ws rest
operands_over n st ws rest e =
    let i = of_if (length (words n st) == n) (Some (words n st)) ws e in
    let same : Some (words n st) ≡ Some ws = i.1 in
    let here : words n st ≡ ws = cc in
    let full : length (words n st) ≡ n = eqb-true _ _ i.0 in
    let r = words_over n st rest full in
    record { here = here; over = r.0 ∙ here; others = drop_over n st rest r.1; count = sym (ap length here) ∙ full }

none_is : {A : Type 0} (o : Option A) → is_none o ≡ true → o ≡ None
none_is None e = refl
none_is (Some a) e = absurd cc

pub untouched_over : (n : ℕ) (st : List Item) (ws : List Word) (rest : List Item) → untouched n st ≡ Some ws → Operands n st ws rest × (first_future ws ≡ None)
untouched_over n st ws rest e =
    let i = of_if (is_none (first_future (words n st))) _ ws e in
    let r = operands_over n st ws rest i.1 in
    (r, subst (λ xs. first_future xs ≡ None) r.here (none_is _ i.0))

pub frame_over : (st : List Item) (ss : List Slot) (rest : List Item) → whole_frame st ≡ Some ss → frame_of (st ++ rest) ≡ ss
frame_over [] ss rest e = absurd cc
frame_over (slot s ∷ st) ss rest e = let r = of_map _ (whole_frame st) ss e in ap (λ xs. s ∷ xs) (frame_over st r.0 rest r.1) ∙ r.2
frame_over (mark (returning pc) ∷ st) ss rest e = cc
frame_over (mark (base j) ∷ st) ss rest e = cc
frame_over (mark (catching c pc) ∷ st) ss rest e = frame_over st ss rest e
frame_over (mark (protecting u pc) ∷ st) ss rest e = frame_over st ss rest e
frame_over (mark (cleaning u c) ∷ st) ss rest e = frame_over st ss rest e

pub top_over : (st : List Item) (k : Mark) (rest : List Item) → top_mark st ≡ Some k → (top_mark (st ++ rest) ≡ Some k) × (below_mark (st ++ rest) ≡ below_mark st ++ rest)
top_over [] k rest e = absurd cc
top_over (slot s ∷ st) k rest e = top_over st k rest e
top_over (mark j ∷ st) k rest e = (e, refl)

pub push_over : (ws : List Word) (st rest : List Item) → push ws st ++ rest ≡ push ws (st ++ rest)
push_over [] st rest = refl
push_over (w ∷ ws) st rest = push_over ws (word w ∷ st) rest

-- where a silent instruction goes on over a rest
abbrev pub lifted : List Item → Option (ℕ × List Item) → Option (ℕ × List Item)
lifted rest o = option_map (λ x. (x.0, x.1 ++ rest)) o

loose_within : (st : List Item) → loose st ≤ length st
loose_within [] = omega arith
loose_within (slot s ∷ st) = let l = loose_within st in omega (arith, l)
loose_within (mark k ∷ st) = omega arith

slid_over : (n : ℕ) (st rest : List Item) → leb (n + 1) (loose st) ≡ true → slid n (st ++ rest) ≡ slid n st ++ rest
slid_over n [] rest h = let l : n + 1 ≤ 0 = leb-true _ _ h in absurd (omega arith)
slid_over n (i ∷ st) rest h = let l : n + 1 ≤ loose (i ∷ st) = leb-true _ _ h in let k = loose_within (i ∷ st) in ap (λ xs. i ∷ xs) (drop_over n st rest (omega (arith, l, k)))

touch_over : (b : Bool) (pc : ℕ) (st rest : List Item) → (if b then Some (pc, st ++ rest) else None) ≡ lifted rest (if b then Some (pc, st) else None)
touch_over true pc st rest = refl
touch_over false pc st rest = refl

join_over : (b : Bool) (pc : ℕ) (st rest : List Item) → (if b then None else Some (pc, st ++ rest)) ≡ lifted rest (if b then None else Some (pc, st))
join_over true pc st rest = refl
join_over false pc st rest = refl

pub silent_over : (op : Op) (pc : ℕ) (st rest : List Item) → is_within op st ≡ true → silent op pc (st ++ rest) ≡ lifted rest (silent op pc st)
silent_over (jump l) pc st rest h = refl
silent_over drop pc st rest h = let l : 1 ≤ loose st = leb-true _ _ h in let k = loose_within st in ap (λ xs. Some (pc + 1, xs)) (drop_over 1 st rest (omega (arith, l, k)))
silent_over (slide n) pc st rest h = ap (λ xs. Some (pc + 1, xs)) (slid_over n st rest h)
silent_over join pc st rest h =
    let r = of_is_some (top_mark st) h in
    let t = top_over st r.0 rest r.1 in
    ap (λ k. if joins_at pc k then None else Some (pc + 1, st ++ rest)) (t.0 ∙ sym r.1) ∙ join_over (joins_at pc (top_mark st)) (pc + 1) st rest
silent_over (touch n) pc st rest h =
    let r = of_is_some (operands n st) h in
    let t = operands_over n st r.0 rest r.1 in
    ap (λ ws. if is_none (first_future ws) then Some (pc + 1, st ++ rest) else None) (t.over ∙ sym t.here) ∙ touch_over (is_none (first_future (words n st))) (pc + 1) st rest
silent_over op pc st rest h = refl

module _ (code : List Instruction) (rest : List Item) where
  -- the point that begins with these items
  abbrev pub On : ℕ × List Item → Point → Type 0
  On x p = p ≡ point x.0 (x.1 ++ rest) running

  abbrev Follows : (ℕ → List Item → Option (ℕ × List Item)) → (ℕ → List Item → Point) → Type 0
  Follows f g = (pc : ℕ) (st : List Item) (x : ℕ × List Item) → f pc st ≡ Some x → On x (g pc (st ++ rest))

  stays : (pc : ℕ) (st : List Item) (x : ℕ × List Item) → Some (pc, st) ≡ Some x → On x (point pc (st ++ rest) running)
  stays pc st x e = let same : (pc, st) ≡ x = cc in ap (λ y. point y.0 (y.1 ++ rest) running) same

  past_over : (f : ℕ → List Item → Option (ℕ × List Item)) (g : ℕ → List Item → Point) → Follows f g → (o : Option (ℕ × List Item)) (pc : ℕ) (st : List Item) (x : ℕ × List Item) → past f o pc st ≡ Some x → On x (after_silent g (lifted rest o) pc (st ++ rest))
  past_over f g h None pc st x e = stays pc st x e
  past_over f g h (Some y) pc st x e = h y.0 y.1 x e

  at_over : (f : ℕ → List Item → Option (ℕ × List Item)) (g : ℕ → List Item → Point) → Follows f g → (i : Option Instruction) (pc : ℕ) (st : List Item) (x : ℕ × List Item) → settle_in_at f i pc st ≡ Some x → On x (settle_at g i pc (st ++ rest))
  at_over f g h None pc st x e = stays pc st x e
  at_over f g h (Some i) pc st x e =
      let t = of_if (is_within i.op st) _ x e in
      subst (λ o. On x (after_silent g o pc (st ++ rest))) (sym (silent_over i.op pc st rest t.0)) (past_over f g h (silent i.op pc st) pc st x t.1)

  pub settle_over : (n pc : ℕ) (st : List Item) (x : ℕ × List Item) → settle_in code n pc st ≡ Some x → On x (settle code n pc (st ++ rest))
  settle_over zero pc st x e = stays pc st x e
  settle_over (suc n) pc st x e = at_over (settle_in code n) (settle code n) (settle_over n) (slice_get code pc) pc st x e
