-- Stacks that fit a shape.
use Rattle.std.proofs.Common.{◌≡◌, ℕ, zero, suc, ◌==◌, Bool, true, false, List, [], ◌∷◌, ◌++◌, length, map, Option, Some, None, refl, sym, ap, subst, ⊎_elim, arith, length-append}
use Rattle.std.specs.Prelude.{if◌then◌else◌, option_map, drop as without_first, is_some, replicate}
use Rattle.ql_world.specs.Word as word
use Rattle.ql_world.specs.declared.word.Slot.TheVariants.{Cell as word_boxed}
use Rattle.ql_world.specs.declared.word.Word.{Word}
use Rattle.ql_world.specs.declared.word.Slot.{Slot}
use Rattle.ql_world.specs.declared.word.Slot.TheVariants.{Val as plain}
use Rattle.ql_world.specs.declared.world.Kind.TheVariants.{Main as world_main, Child as world_child}
use Rattle.ql_world.specs.declared.world.Aim.{Aim}
use Rattle.ql_world.specs.declared.world.Kind.{Kind}
use Rattle.ql_world.specs.declared.world.Kind.TheVariants.{Closure as serving}
use Rattle.ql_code.specs.Machine as machine
use Rattle.ql_code.specs.Machine.{Mark, returning, base, Item, slot, mark, words, push, push_slots, frame_of, slot_at, slots_at, or_nil, top_mark, below_mark, unwind, aim_cleanup, joins_at}
use Rattle.ql_code.specs.Sound.{Part, value, boxed, catching, protecting, cleaning, Shape, Start, main, body, child, are_slots, slots_in, part_at, values, over, or_value, have_all, parts_at, is_own, same_part, under, Rule, led, All, Leads}
use Rattle.ql_code.specs.Standing.{Made, IsMade, AreMade, IsAimMade, IsSlot, AreSlots, IsBottom, IsBody, IsChild, IsUnwound, IsPart, Fits}
use Rattle.ql_code.proofs.Within.{cases}

values_more : (n : ℕ) (sh : Shape) → values n ++ (value ∷ sh) ≡ value ∷ (values n ++ sh)
values_more zero sh = refl
values_more (suc n) sh = ap (λ k. value ∷ k) (values_more n sh)

part_same : (p q : Part) → same_part p q ≡ true → p ≡ q
part_same value value e = refl
part_same boxed boxed e = refl
part_same catching catching e = refl
part_same protecting protecting e = refl
part_same cleaning cleaning e = refl
part_same p q e = absurd cc

under_if : (b : Bool) (o : Option Shape) (r : Shape) → (if b then o else None) ≡ Some r → (b ≡ true) × (o ≡ Some r)
under_if true o r e = (refl, e)
under_if false o r e = absurd cc

pub under_is : (ps : List Part) (sh r : Shape) → under ps sh ≡ Some r → sh ≡ ps ++ r
under_is [] sh r e = let k : sh ≡ r = cc in k
under_is (p ∷ ps) [] r e = absurd cc
under_is (p ∷ ps) (q ∷ sh) r e =
    let k = under_if (same_part p q) (under ps sh) r e in
    let a : p ≡ q = part_same p q k.0 in
    let b : sh ≡ ps ++ r = under_is ps sh r k.1 in
    cc

module _ (At : Start → ℕ → Shape → Type 0) where
  -- what a rule that leads on says
  pub record Led (r : Rule) (sh : Shape) : Type 0 where
    pub rest : Shape
    pub asks : r.asks ≡ true
    pub takes : sh ≡ r.takes ++ rest
    pub goes : All At (r.goes rest)

  led_under : (r : Rule) (sh : Shape) (o : Option Shape) → r.asks ≡ true → under r.takes sh ≡ o → Leads At (option_map r.goes o) → Led r sh
  led_under r sh None a e h = absurd h
  led_under r sh (Some x) a e h = record { rest = x; asks = a; takes = under_is r.takes sh x e; goes = h }

  led_if : (r : Rule) (sh : Shape) (b : Bool) → r.asks ≡ b → Leads At (if b then option_map r.goes (under r.takes sh) else None) → Led r sh
  led_if r sh true e h = led_under r sh (under r.takes sh) e refl h
  led_if r sh false e h = absurd h

  pub led_is : (r : Rule) (sh : Shape) → Leads At (led r sh) → Led r sh
  led_is r sh h = led_if r sh r.asks refl h

are_made_append : (m : Made) (a b : List Word) → AreMade m a → AreMade m b → AreMade m (a ++ b)
are_made_append m [] b h k = k
are_made_append m (w ∷ a) b h k = (h.0, are_made_append m a b h.1 k)

module _ (m : Made) where
  pub slots_long : (ps : List Part) (ss : List Slot) → AreSlots m ps ss → length ps ≡ length ss
  slots_long [] [] h = refl
  slots_long [] (s ∷ ss) h = absurd h
  slots_long (p ∷ ps) [] h = absurd h
  slots_long (p ∷ ps) (s ∷ ss) h = ap suc (slots_long ps ss h.1)

  pub slots_append : (a b : List Part) (c d : List Slot) → AreSlots m a c → AreSlots m b d → AreSlots m (a ++ b) (c ++ d)
  slots_append [] b [] d h k = k
  slots_append [] b (s ∷ c) d h k = absurd h
  slots_append (p ∷ a) b [] d h k = absurd h
  slots_append (p ∷ a) b (s ∷ c) d h k = (h.0, slots_append a b c d h.1 k)

  abbrev pub IsSome : Option Part → Option Slot → Type 0
  IsSome None o = Unit {0}
  IsSome (Some p) None = ⊥
  IsSome (Some p) (Some s) = IsSlot m p s

  some_if : (b : Bool) (o : Option Part) (q : Option Slot) (p : Part) (s : Slot) → IsSlot m p s → IsSome o q → IsSome (if b then Some p else o) (if b then Some s else q)
  some_if true o q p s h k = h
  some_if false o q p s h k = k

  pub slot_is : (ps : List Part) (ss : List Slot) (i : ℕ) → AreSlots m ps ss → IsSome (part_at ps i) (slot_at ss i)
  slot_is [] ss i h = tt
  slot_is (p ∷ ps) [] i h = absurd h
  slot_is (p ∷ ps) (s ∷ ss) i h = rw (slots_long ps ss h.1) (some_if (i == length ss) (part_at ps i) (slot_at ss i) p s h.0 (slot_is ps ss i h.1))

  or_slot : (o : Option Part) (q : Option Slot) → is_some o ≡ true → IsSome o q → IsSlot m (or_value o) (or_nil q)
  or_slot None q e h = absurd cc
  or_slot (Some p) None e h = absurd h
  or_slot (Some p) (Some s) e h = h

  pub captured_are : (ps : List Part) (ss : List Slot) (is : List ℕ) → AreSlots m ps ss → have_all ps is ≡ true → AreSlots m (parts_at ps is) (slots_at ss is)
  captured_are ps ss [] h e = tt
  captured_are ps ss (i ∷ is) h e =
      ⊎_elim
      (λ (t : is_some (part_at ps i) ≡ true). (or_slot (part_at ps i) (slot_at ss i) t (slot_is ps ss i h), captured_are ps ss is h (rw t at e)))
      (λ (t : is_some (part_at ps i) ≡ false). let bad : false ≡ true = rw t at e in absurd cc)
      (cases (is_some (part_at ps i)))

module _ (At : Start → ℕ → Shape → Type 0) (m : Made) (kind : Kind) where
  abbrev F : Start → Shape → List Item → Type 0
  F = Fits At m kind

  pub value_top : (s : Start) (sh : Shape) (st : List Item) → F s (value ∷ sh) st → (w : Word) × (r : List Item) × (st ≡ slot (plain w) ∷ r) × IsMade m w × F s sh r
  value_top s sh [] h = absurd h
  value_top s sh (slot (plain w) ∷ st) h = (w, st, refl, h.0, h.1)
  value_top s sh (slot (word_boxed n) ∷ st) h = absurd h.0
  value_top s sh (mark k ∷ st) h = absurd h.0

  pub record Top (n : ℕ) (s : Start) (sh : Shape) (st : List Item) : Type 0 where
    pub made : AreMade m (words n st)
    pub long : length (words n st) ≡ n
    pub below : F s sh (without_first n st)

  pub words_top : (n : ℕ) (s : Start) (sh : Shape) (st : List Item) → F s (values n ++ sh) st → Top n s sh st
  words_top zero s sh st h = record { made = tt; long = refl; below = h }
  words_top (suc n) s sh [] h = absurd h
  words_top (suc n) s sh (slot (plain w) ∷ st) h =
      let i = words_top n s sh st h.1 in
      record { made = are_made_append m (words n st) (w ∷ []) i.made (h.0, tt); long = (let l = i.long in omega (arith, length-append (words n st) (w ∷ []), l)); below = i.below }
  words_top (suc n) s sh (slot (word_boxed i) ∷ st) h = absurd h.0
  words_top (suc n) s sh (mark k ∷ st) h = absurd h.0

  pub push_top : (ws : List Word) (s : Start) (sh : Shape) (st : List Item) → AreMade m ws → F s sh st → F s (values (length ws) ++ sh) (push ws st)
  push_top [] s sh st a h = h
  push_top (w ∷ ws) s sh st a h = subst (λ z. F s z (push ws (slot (plain w) ∷ st))) (values_more (length ws) sh) (push_top ws s (value ∷ sh) (slot (plain w) ∷ st) a.1 (a.0, h))

  slot_part : (s : Start) (p : Part) (sh : Shape) (x : Slot) → IsSlot m p x → IsPart At m s p sh (slot x)
  slot_part s value sh x h = h
  slot_part s boxed sh x h = h
  slot_part s catching sh x h = h
  slot_part s protecting sh x h = h
  slot_part s cleaning sh x h = h

  pub push_slots_top : (ps : List Part) (ss : List Slot) (s : Start) (sh : Shape) (st : List Item) → AreSlots m ps ss → F s sh st → F s (over ps sh) (push_slots ss st)
  push_slots_top [] [] s sh st a h = h
  push_slots_top [] (x ∷ ss) s sh st a h = absurd a
  push_slots_top (p ∷ ps) [] s sh st a h = absurd a
  push_slots_top (p ∷ ps) (x ∷ ss) s sh st a h = push_slots_top ps ss s (p ∷ sh) (slot x ∷ st) a.1 (slot_part s p sh x a.0, h)

  pub slots_put : (ps : List Part) (ss : List Slot) (s : Start) (sh : Shape) (st : List Item) → AreSlots m ps ss → F s sh st → F s (ps ++ sh) (map slot ss ++ st)
  slots_put [] [] s sh st a h = h
  slots_put [] (x ∷ ss) s sh st a h = absurd a
  slots_put (p ∷ ps) [] s sh st a h = absurd a
  slots_put (p ∷ ps) (x ∷ ss) s sh st a h = (slot_part s p (ps ++ sh) x a.0, slots_put ps ss s sh st a.1 h)

  pub nils_put : (n : ℕ) (s : Start) (sh : Shape) (st : List Item) → F s sh st → F s (values n ++ sh) (replicate n (slot (plain word.nil)) ++ st)
  nils_put zero s sh st h = h
  nils_put (suc n) s sh st h = (tt, nils_put n s sh st h)

  -- the slots of the topmost frame
  pub frame_is : (s : Start) (sh : Shape) (st : List Item) → F s sh st → AreSlots m (slots_in sh) (frame_of st)
  frame_is s sh [] h = absurd h
  frame_is s (value ∷ sh) (slot x ∷ st) h = (h.0, frame_is s sh st h.1)
  frame_is s (boxed ∷ sh) (slot x ∷ st) h = (h.0, frame_is s sh st h.1)
  frame_is s (catching ∷ sh) (mark (machine.catching c l) ∷ st) h = frame_is s sh st h.1
  frame_is s (protecting ∷ sh) (mark (machine.protecting u l) ∷ st) h = frame_is s sh st h.1
  frame_is s (cleaning ∷ sh) (mark (machine.cleaning u c) ∷ st) h = frame_is s sh st h.1
  frame_is s (p ∷ sh) (i ∷ st) h = absurd h.0
  frame_is s [] (mark (returning pc) ∷ st) h = tt
  frame_is s [] (mark (base j) ∷ []) h = tt
  frame_is s [] (i ∷ st) h = absurd h

  pub off_top : (ps : List Part) (s : Start) (sh : Shape) (st : List Item) → F s (ps ++ sh) st → F s sh (without_first (length ps) st)
  off_top [] s sh st h = h
  off_top (p ∷ ps) s sh [] h = absurd h
  off_top (p ∷ ps) s sh (i ∷ st) h = off_top ps s sh st h.1

  abbrev pub Ends : Start → Option Mark → List Item → Type 0
  Ends s None st = ⊥
  Ends s (Some (returning pc)) st = IsBody s × ((r : Start) × (sh : Shape) × At r pc (value ∷ sh) × F r sh st)
  Ends s (Some (base j)) st = IsBottom kind s j
  Ends s (Some k) st = ⊥

  -- what stands under a frame without marks
  pub end_of : (s : Start) (sh : Shape) (st : List Item) → are_slots sh ≡ true → F s sh st → Ends s (top_mark st) (below_mark st)
  end_of s sh [] e h = absurd h
  end_of s (value ∷ sh) (slot x ∷ st) e h = end_of s sh st e h.1
  end_of s (boxed ∷ sh) (slot x ∷ st) e h = end_of s sh st e h.1
  end_of s (catching ∷ sh) (i ∷ st) e h = absurd cc
  end_of s (protecting ∷ sh) (i ∷ st) e h = absurd cc
  end_of s (cleaning ∷ sh) (i ∷ st) e h = absurd cc
  end_of s (p ∷ sh) (i ∷ st) e h = absurd h.0
  end_of s [] (mark (returning pc) ∷ st) e h = h
  end_of s [] (mark (base j) ∷ []) e h = h
  end_of s [] (i ∷ st) e h = absurd h

  own_bottom : (pc j : ℕ) (s : Start) → (k : Kind) → IsBottom k s (Some j) → (j == pc) ≡ true → (is_own s pc ≡ true) × IsChild k
  own_bottom pc j main world_main h e = absurd h
  own_bottom pc j main (world_child f) h e = absurd h
  own_bottom pc j main (serving k) h e = absurd h
  own_bottom pc j (body q) world_main h e = absurd h
  own_bottom pc j (body q) (world_child f) h e = absurd h
  own_bottom pc j (body q) (serving k) h e = absurd h
  own_bottom pc j (child q own) world_main h e = absurd h
  own_bottom pc j (child q own) (world_child f) h e = (subst (λ z. (z == pc) ≡ true) (sym h) e, tt)
  own_bottom pc j (child q own) (serving k) h e = absurd h

  -- a child at its own `join`
  pub own_top : (pc : ℕ) (s : Start) (sh : Shape) (st : List Item) → joins_at pc (top_mark st) ≡ true → F s sh st → (is_own s pc ≡ true) × IsChild kind
  own_top pc s sh [] e h = absurd h
  own_top pc s (p ∷ sh) (slot x ∷ st) e h = own_top pc s sh st e h.1
  own_top pc s [] (slot x ∷ st) e h = absurd h
  own_top pc s [] (mark (base (Some j)) ∷ []) e h = own_bottom pc j s kind h e
  own_top pc s [] (mark (base (Some j)) ∷ (i ∷ st)) e h = absurd h
  own_top pc s (value ∷ sh) (mark (base (Some j)) ∷ st) e h = absurd h.0
  own_top pc s (boxed ∷ sh) (mark (base (Some j)) ∷ st) e h = absurd h.0
  own_top pc s (catching ∷ sh) (mark (base (Some j)) ∷ st) e h = absurd h.0
  own_top pc s (protecting ∷ sh) (mark (base (Some j)) ∷ st) e h = absurd h.0
  own_top pc s (cleaning ∷ sh) (mark (base (Some j)) ∷ st) e h = absurd h.0
  own_top pc s sh (mark (base None) ∷ st) e h = absurd cc
  own_top pc s sh (mark (returning q) ∷ st) e h = absurd cc
  own_top pc s sh (mark (machine.catching c l) ∷ st) e h = absurd cc
  own_top pc s sh (mark (machine.protecting u l) ∷ st) e h = absurd cc
  own_top pc s sh (mark (machine.cleaning u c) ∷ st) e h = absurd cc

  -- the innermost running cleanup gets an aim
  pub aimed_fits : (a : Aim) (s : Start) (sh : Shape) (st : List Item) → IsAimMade m a → F s sh st → F s sh (aim_cleanup a st)
  aimed_fits a s sh [] i h = absurd h
  aimed_fits a s (value ∷ sh) (slot x ∷ st) i h = (h.0, aimed_fits a s sh st i h.1)
  aimed_fits a s (boxed ∷ sh) (slot x ∷ st) i h = (h.0, aimed_fits a s sh st i h.1)
  aimed_fits a s (catching ∷ sh) (mark (machine.catching c l) ∷ st) i h = (h.0, aimed_fits a s sh st i h.1)
  aimed_fits a s (protecting ∷ sh) (mark (machine.protecting u l) ∷ st) i h = (h.0, aimed_fits a s sh st i h.1)
  aimed_fits a s (cleaning ∷ sh) (mark (machine.cleaning u c) ∷ st) i h = (i, h.1)
  aimed_fits a s (p ∷ sh) (i ∷ st) j h = absurd h.0
  aimed_fits a s [] (mark (returning pc) ∷ st) i h = (h.0, (h.1.0, h.1.1, h.1.2, aimed_fits a h.1.0 h.1.1 st i h.1.3))
  aimed_fits a s [] (mark (base j) ∷ []) i h = h
  aimed_fits a s [] (i ∷ st) j h = absurd h

  abbrev pub FitsSome : List Item → Type 0
  FitsSome st = (s : Start) × (sh : Shape) × F s sh st

  -- where unwinding comes to
  pub unwind_fits : (s : Start) (sh : Shape) (st : List Item) → F s sh st → FitsSome (unwind st)
  unwind_fits s sh [] h = absurd h
  unwind_fits s (p ∷ sh) (slot x ∷ st) h = unwind_fits s sh st h.1
  unwind_fits s [] (slot x ∷ st) h = absurd h
  unwind_fits s [] (mark (returning pc) ∷ st) h = unwind_fits h.1.0 h.1.1 st h.1.3
  unwind_fits s (value ∷ sh) (mark (returning pc) ∷ st) h = absurd h.0
  unwind_fits s (boxed ∷ sh) (mark (returning pc) ∷ st) h = absurd h.0
  unwind_fits s (catching ∷ sh) (mark (returning pc) ∷ st) h = absurd h.0
  unwind_fits s (protecting ∷ sh) (mark (returning pc) ∷ st) h = absurd h.0
  unwind_fits s (cleaning ∷ sh) (mark (returning pc) ∷ st) h = absurd h.0
  unwind_fits s sh (mark (base j) ∷ st) h = (s, sh, h)
  unwind_fits s sh (mark (machine.catching c l) ∷ st) h = (s, sh, h)
  unwind_fits s sh (mark (machine.protecting u l) ∷ st) h = (s, sh, h)
  unwind_fits s sh (mark (machine.cleaning u c) ∷ st) h = (s, sh, h)

  pub unwind_stops : (s : Start) (sh : Shape) (st : List Item) → F s sh st → IsUnwound (unwind st)
  unwind_stops s sh [] h = absurd h
  unwind_stops s (p ∷ sh) (slot x ∷ st) h = unwind_stops s sh st h.1
  unwind_stops s [] (slot x ∷ st) h = absurd h
  unwind_stops s [] (mark (returning pc) ∷ st) h = unwind_stops h.1.0 h.1.1 st h.1.3
  unwind_stops s (value ∷ sh) (mark (returning pc) ∷ st) h = absurd h.0
  unwind_stops s (boxed ∷ sh) (mark (returning pc) ∷ st) h = absurd h.0
  unwind_stops s (catching ∷ sh) (mark (returning pc) ∷ st) h = absurd h.0
  unwind_stops s (protecting ∷ sh) (mark (returning pc) ∷ st) h = absurd h.0
  unwind_stops s (cleaning ∷ sh) (mark (returning pc) ∷ st) h = absurd h.0
  unwind_stops s sh (mark (base j) ∷ st) h = tt
  unwind_stops s sh (mark (machine.catching c l) ∷ st) h = tt
  unwind_stops s sh (mark (machine.protecting u l) ∷ st) h = tt
  unwind_stops s sh (mark (machine.cleaning u c) ∷ st) h = tt
