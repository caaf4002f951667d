-- What the world answers is made.
use Rattle.std.proofs.Common.{◌≡◌, ℕ, zero, suc, ◌+◌, ◌<◌, ◌≤◌, ◌==◌, Bool, true, false, List, [], ◌∷◌, length, map, Option, Some, None, refl, ap, ◌∙◌, arith}
use Rattle.std.specs.Prelude.{if◌then◌else◌, slice_get, ℤ, pos, ◌+ℤ◌, ◌-ℤ◌, ◌*ℤ◌, int_div, int_rem}
use Rattle.ql_base.specs.declared.fault.RunFault.{RunFault}
use Rattle.ql_base.specs.declared.fault.RunFault.TheVariants.{DivZero, NotPair}
use Rattle.ql_world.specs.Word as word
use Rattle.ql_world.specs.Word.{of_bool, is_nil}
use Rattle.ql_world.specs.declared.word.Word.{Word}
use Rattle.ql_world.specs.declared.word.Word.TheVariants.{Int as integer, Sym as symbol, Pair as pair, Fun as closure, Proc as process_closure, Fut as future}
use Rattle.ql_world.specs.Operator.{checked, of_integers, of_numbers, of_two, of_one, part, part_of, computed, fits}
use Rattle.ql_world.specs.declared.operator.Operator.{Operator}
use Rattle.ql_world.specs.declared.operator.Operator.TheVariants.{Add as add, Subtract as subtract, Multiply as multiply, Truncate as truncate, Remainder as remainder, Equals as equals, IsLess as is_less, IsGreater as is_greater, Eq as eq, Cons as cons, Car as car, Cdr as cdr, Null as null, Atom as atom, Consp as consp, Numberp as numberp, Symbolp as symbolp}
use Rattle.ql_world.specs.declared.operator.Computed.{Computed as Result}
use Rattle.ql_world.specs.declared.operator.Computed.TheVariants.{Gives as gives, Fails as fails, Joins as joins}
use Rattle.ql_world.specs.World.{change_numbered, numbers}
use Rattle.ql_world.specs.declared.world.FutState.{FutState as Future}
use Rattle.ql_world.specs.declared.world.FutState.TheVariants.{Value as valued}
use Rattle.ql_world.specs.declared.world.Aim.{Aim}
use Rattle.ql_world.specs.declared.world.Aim.TheVariants.{Free as free, To as to, Die as die}
use Rattle.ql_world.specs.declared.world.Kind.{Kind}
use Rattle.ql_world.specs.Tick.{words_boxed, slots_of, filled, answered, landing}
use Rattle.ql_world.specs.Idle.{acting}
use Rattle.ql_code.specs.Machine as machine
use Rattle.ql_code.specs.Machine.{Mark, returning, base, Item, slot, mark, cleanups_on}
use Rattle.ql_code.specs.Sound.{Part, value, boxed, catching, protecting, cleaning, Shape, Start}
use Rattle.ql_code.specs.Sound as sound
use Rattle.ql_code.specs.Standing.{Made, IsMade, AreMade, IsAimMade, AreSlots, Fits, AreFutures}
use Rattle.ql_code.specs.SoundWorld.{Each, IsPairMade, IsFutureMade}
use Rattle.ql_code.proofs.Worlds.{each_at, each_change_numbered, change_numbered_long}

module _ (m : Made) where
  abbrev pub IsResultMade : Result → Type 0
  IsResultMade (gives w) = IsMade m w
  IsResultMade (fails kind) = Unit {0}
  IsResultMade (joins a b) = IsMade m a × IsMade m b

  abbrev pub IsResult : Option Result → Type 0
  IsResult None = Unit {0}
  IsResult (Some r) = IsResultMade r

  bool_made : (b : Bool) → IsMade m (of_bool b)
  bool_made true = tt
  bool_made false = tt

  checked_if : (b : Bool) (z : ℤ) (k : RunFault) → IsResultMade (if b then gives (integer z) else fails k)
  checked_if true z k = tt
  checked_if false z k = tt

  checked_made : (z : ℤ) → IsResultMade (checked z)
  checked_made z = checked_if (fits z) z _

  divided_if : (b : Bool) (k : RunFault) (z : ℤ) → IsResultMade (if b then fails k else checked z)
  divided_if true k z = tt
  divided_if false k z = checked_made z

  integers_made : (o : Operator) (y z : ℤ) → IsResultMade (of_integers o y z)
  integers_made add y z = checked_made (y +ℤ z)
  integers_made subtract y z = checked_made (y -ℤ z)
  integers_made multiply y z = checked_made (y *ℤ z)
  integers_made truncate y z = divided_if (word.same_integer z (pos 0)) DivZero (int_div y z)
  integers_made remainder y z = divided_if (word.same_integer z (pos 0)) DivZero (int_rem y z)
  integers_made equals y z = bool_made _
  integers_made is_less y z = bool_made _
  integers_made is_greater y z = bool_made _
  integers_made o y z = tt

  numbers_made : (o : Operator) (a b : Word) → IsResultMade (of_numbers o a b)
  numbers_made o (integer y) (integer z) = integers_made o y z
  numbers_made o a b = tt

  two_made : (o : Operator) (a b : Word) → IsMade m a → IsMade m b → IsResultMade (of_two o a b)
  two_made eq a b h k = bool_made _
  two_made cons a b h k = (h, k)
  two_made o a b h k = numbers_made o a b

  part_made : (f : Word × Word → Word) → ((p : Word × Word) → IsPairMade m p → IsMade m (f p)) → (ps : List (Word × Word)) (n : ℕ) → Each (IsPairMade m) ps → (o : Option (Word × Word)) → slice_get ps n ≡ o → IsResultMade (part f o)
  part_made f g ps n h None e = tt
  part_made f g ps n h (Some p) e = g p (each_at (IsPairMade m) ps n p e h)

  nil_if : (b : Bool) (k : RunFault) → IsResultMade (if b then gives word.nil else fails k)
  nil_if true k = tt
  nil_if false k = tt

  part_of_made : (f : Word × Word → Word) → ((p : Word × Word) → IsPairMade m p → IsMade m (f p)) → (ps : List (Word × Word)) → Each (IsPairMade m) ps → (w : Word) → IsResultMade (part_of ps f w)
  part_of_made f g ps h (pair n) = part_made f g ps n h (slice_get ps n) refl
  part_of_made f g ps h (integer z) = tt
  part_of_made f g ps h (symbol n) = nil_if (is_nil (symbol n)) NotPair
  part_of_made f g ps h (closure n) = tt
  part_of_made f g ps h (process_closure n) = tt
  part_of_made f g ps h (future n) = tt

  one_made : (ps : List (Word × Word)) → Each (IsPairMade m) ps → (o : Operator) (w : Word) → IsResultMade (of_one ps o w)
  one_made ps h car w = part_of_made (λ x. x.0) (λ p i. i.0) ps h w
  one_made ps h cdr w = part_of_made (λ x. x.1) (λ p i. i.1) ps h w
  one_made ps h null w = bool_made _
  one_made ps h atom w = bool_made _
  one_made ps h consp w = bool_made _
  one_made ps h numberp w = bool_made _
  one_made ps h symbolp w = bool_made _
  one_made ps h o w = tt

  -- what a primitive gives
  pub computed_made : (ps : List (Word × Word)) → Each (IsPairMade m) ps → (o : Operator) (ws : List Word) → AreMade m ws → IsResult (computed ps o ws)
  computed_made ps h o [] k = tt
  computed_made ps h o (a ∷ []) k = one_made ps h o a
  computed_made ps h o (a ∷ (b ∷ [])) k = two_made o a b k.0 k.1.0
  computed_made ps h o (a ∷ (b ∷ (c ∷ ws))) k = tt

  -- the words in boxes, and the slots of variables
  pub words_boxed_made : (bs : List Bool) (xs : List Word) → AreMade m xs → Each (IsMade m) (words_boxed bs xs)
  words_boxed_made [] xs h = tt
  words_boxed_made (true ∷ bs) [] h = tt
  words_boxed_made (false ∷ bs) [] h = tt
  words_boxed_made (true ∷ bs) (x ∷ xs) h = (h.0, words_boxed_made bs xs h.1)
  words_boxed_made (false ∷ bs) (x ∷ xs) h = words_boxed_made bs xs h.1

  pub slots_made : (bs : List Bool) (xs : List Word) (n : ℕ) → length xs ≡ length bs → AreMade m xs → n + length (words_boxed bs xs) ≤ m.boxes → AreSlots m (map sound.part_of bs) (slots_of bs xs n)
  slots_made [] [] n e h l = tt
  slots_made [] (x ∷ xs) n e h l = absurd (omega (arith, e))
  slots_made (b ∷ bs) [] n e h l = absurd (omega (arith, e))
  slots_made (true ∷ bs) (x ∷ xs) n e h l = let k : n < m.boxes = omega (arith, l) in (k, slots_made bs xs (n + 1) (omega (arith, e)) h.1 (omega (arith, l)))
  slots_made (false ∷ bs) (x ∷ xs) n e h l = (h.0, slots_made bs xs n (omega (arith, e)) h.1 l)

  pub filled_made : (fs : List ℕ) (xs : List Word) (ss : List Future) → AreMade m xs → Each (IsFutureMade m) ss → Each (IsFutureMade m) (filled fs xs ss)
  filled_made [] xs ss h k = k
  filled_made (f ∷ fs) [] ss h k = k
  filled_made (f ∷ fs) (x ∷ xs) ss h k = filled_made fs xs (change_numbered (λ s. valued x) ss f) h.1 (each_change_numbered (IsFutureMade m) (λ s. valued x) ss f (λ s e i. h.0) k)

  pub answered_made : (o : Option ℕ) (x : Word) (ss : List Future) → IsMade m x → Each (IsFutureMade m) ss → Each (IsFutureMade m) (answered o x ss)
  answered_made None x ss h k = k
  answered_made (Some f) x ss h k = each_change_numbered (IsFutureMade m) (λ s. valued x) ss f (λ s e i. h) k

  pub numbers_are : (first n : ℕ) → 0 < first → first + n ≤ m.futures + 1 → AreFutures m (numbers first n)
  numbers_are first zero a l = tt
  numbers_are first (suc n) a l = ((a, omega (arith, l)), numbers_are (first + 1) n (omega arith) (omega (arith, l)))

  pub future_words_made : (fs : List ℕ) → AreFutures m fs → AreMade m (map future fs)
  future_words_made [] h = tt
  future_words_made (f ∷ fs) h = (h.0, future_words_made fs h.1)

  pub acting_made : (At : Start → ℕ → Shape → Type 0) (kind : Kind) (s : Start) (sh : Shape) (st : List Item) (a : Aim) → Fits At m kind s sh st → IsAimMade m a → IsAimMade m (acting (cleanups_on st) a)
  acting_made At kind s sh [] a h i = absurd h
  acting_made At kind s (p ∷ sh) (slot x ∷ st) a h i = acting_made At kind s sh st a h.1 i
  acting_made At kind s (p ∷ sh) (mark (machine.catching c l) ∷ st) a h i = acting_made At kind s sh st a h.1 i
  acting_made At kind s (p ∷ sh) (mark (machine.protecting c l) ∷ st) a h i = acting_made At kind s sh st a h.1 i
  acting_made At kind s (cleaning ∷ sh) (mark (machine.cleaning u c) ∷ st) a h i = h.0
  acting_made At kind s (value ∷ sh) (mark k ∷ st) a h i = absurd h.0
  acting_made At kind s (boxed ∷ sh) (mark k ∷ st) a h i = absurd h.0
  acting_made At kind s (catching ∷ sh) (mark k ∷ st) a h i = absurd h.0
  acting_made At kind s (protecting ∷ sh) (mark k ∷ st) a h i = absurd h.0
  acting_made At kind s (cleaning ∷ sh) (mark k ∷ st) a h i = absurd h.0
  acting_made At kind s [] (mark (returning pc) ∷ st) a h i = acting_made At kind h.1.0 h.1.1 st a h.1.3 i
  acting_made At kind s [] (mark (base j) ∷ []) a h i = i
  acting_made At kind s [] (j ∷ st) a h i = absurd h

  abbrev pub IsWord : Option Word → Type 0
  IsWord None = Unit {0}
  IsWord (Some w) = IsMade m w

  landing_if : (b : Bool) (w : Word) → IsMade m w → IsWord (if b then Some w else None)
  landing_if true w h = h
  landing_if false w h = tt

  pub landing_made : (a : Aim) (c : ℕ) → IsAimMade m a → IsWord (landing a c)
  landing_made free c h = tt
  landing_made (to d w) c h = landing_if (d == c) w h
  landing_made die c h = tt

pub filled_long : (fs : List ℕ) (xs : List Word) (ss : List Future) → length (filled fs xs ss) ≡ length ss
filled_long [] xs ss = refl
filled_long (f ∷ fs) [] ss = refl
filled_long (f ∷ fs) (x ∷ xs) ss = filled_long fs xs (change_numbered (λ s. valued x) ss f) ∙ change_numbered_long (λ s. valued x) ss f

pub answered_long : (o : Option ℕ) (x : Word) (ss : List Future) → length (answered o x ss) ≡ length ss
answered_long None x ss = refl
answered_long (Some f) x ss = change_numbered_long (λ s. valued x) ss f

pub numbers_long : (first n : ℕ) → length (numbers first n) ≡ n
numbers_long first zero = refl
numbers_long first (suc n) = ap suc (numbers_long (first + 1) n)
