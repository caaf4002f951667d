-- What stands still stands when more is made.
use Rattle.std.proofs.Common.{ℕ, ◌≤◌, List, [], ◌∷◌, arith}
use Rattle.ql_world.specs.declared.word.Slot.TheVariants.{Cell as word_boxed}
use Rattle.ql_world.specs.declared.word.Word.{Word}
use Rattle.ql_world.specs.declared.word.Word.TheVariants.{Int as integer, Sym as symbol, Pair as pair, Fun as closure, Proc as process_closure, Fut as future}
use Rattle.ql_world.specs.declared.word.Slot.{Slot}
use Rattle.ql_world.specs.declared.word.Slot.TheVariants.{Val as plain}
use Rattle.ql_world.specs.declared.world.Aim.{Aim}
use Rattle.ql_world.specs.declared.world.Aim.TheVariants.{Free as free, To as to, Die as die}
use Rattle.ql_world.specs.declared.world.Kind.{Kind}
use Rattle.ql_code.specs.Code.{Instruction}
use Rattle.ql_code.specs.Machine as machine
use Rattle.ql_code.specs.Machine.{Mark, returning, base, Item, slot, mark, running, unwinding, resting, Point, Entry}
use Rattle.ql_code.specs.Sound.{Part, value, boxed, catching, protecting, cleaning, Shape, Start}
use Rattle.ql_code.specs.Standing.{Made, IsNumber, IsMade, AreMade, IsAimMade, IsSlot, AreSlots, IsPart, Fits, IsEntry, IsStandingIn, IsStanding}

pub record Grows (m k : Made) : Type 0 where
  pub pairs : m.pairs ≤ k.pairs
  pub boxes : m.boxes ≤ k.boxes
  pub closures : m.closures ≤ k.closures
  pub futures : m.futures ≤ k.futures
  pub servers : m.servers ≤ k.servers
  pub catches : m.catches ≤ k.catches
  pub globals : m.globals ≤ k.globals

pub grows_self : (m : Made) → Grows m m
grows_self m = record { pairs = omega arith; boxes = omega arith; closures = omega arith; futures = omega arith; servers = omega arith; catches = omega arith; globals = omega arith }

pub grows_on : (m k l : Made) → Grows m k → Grows k l → Grows m l
grows_on m k l g h = record {
  pairs = omega (arith, g, h);
  boxes = omega (arith, g, h);
  closures = omega (arith, g, h);
  futures = omega (arith, g, h);
  servers = omega (arith, g, h);
  catches = omega (arith, g, h);
  globals = omega (arith, g, h);
}

module _ (m k : Made) (g : Grows m k) where
  pub number_more : (n a b : ℕ) → a ≤ b → IsNumber n a → IsNumber n b
  number_more n a b l h = (h.0, omega (arith, l, h))

  pub made_more : (w : Word) → IsMade m w → IsMade k w
  made_more (integer z) h = tt
  made_more (symbol n) h = tt
  made_more (pair n) h = omega (arith, h, g)
  made_more (closure n) h = number_more n m.closures k.closures g.closures h
  made_more (process_closure n) h = number_more n m.servers k.servers g.servers h
  made_more (future n) h = number_more n m.futures k.futures g.futures h

  pub are_made_more : (ws : List Word) → AreMade m ws → AreMade k ws
  are_made_more [] h = tt
  are_made_more (w ∷ ws) h = (made_more w h.0, are_made_more ws h.1)

  pub aim_more : (a : Aim) → IsAimMade m a → IsAimMade k a
  aim_more free h = tt
  aim_more (to c w) h = made_more w h
  aim_more die h = tt

  pub slot_more : (p : Part) (s : Slot) → IsSlot m p s → IsSlot k p s
  slot_more value (plain w) h = made_more w h
  slot_more boxed (word_boxed n) h = omega (arith, h, g)
  slot_more p s h = absurd h

  pub slots_more : (ps : List Part) (ss : List Slot) → AreSlots m ps ss → AreSlots k ps ss
  slots_more [] [] h = tt
  slots_more [] (s ∷ ss) h = absurd h
  slots_more (p ∷ ps) [] h = absurd h
  slots_more (p ∷ ps) (s ∷ ss) h = (slot_more p s h.0, slots_more ps ss h.1)

  module _ (At : Start → ℕ → Shape → Type 0) where
    part_more : (s : Start) (p : Part) (sh : Shape) (i : Item) → IsPart At m s p sh i → IsPart At k s p sh i
    part_more s value sh (slot x) h = slot_more value x h
    part_more s boxed sh (slot x) h = slot_more boxed x h
    part_more s catching sh (mark (machine.catching c l)) h = (let a = h.0 in omega (arith, a, g), h.1)
    part_more s protecting sh (mark (machine.protecting u l)) h = h
    part_more s cleaning sh (mark (machine.cleaning u c)) h = aim_more c.aim h
    part_more s p sh i h = absurd h

    pub fits_more : (kind : Kind) (s : Start) (sh : Shape) (st : List Item) → Fits At m kind s sh st → Fits At k kind s sh st
    fits_more kind s sh [] h = absurd h
    fits_more kind s (p ∷ sh) (i ∷ st) h = (part_more s p sh i h.0, fits_more kind s sh st h.1)
    fits_more kind s [] (mark (returning pc) ∷ st) h = (h.0, (h.1.0, h.1.1, h.1.2, fits_more kind h.1.0 h.1.1 st h.1.3))
    fits_more kind s [] (mark (base j) ∷ []) h = h
    fits_more kind s [] (i ∷ st) h = absurd h

    pub entry_more : (e : Entry) → IsEntry At m e → IsEntry At k e
    entry_more e h = (h.0, slots_more h.0 e.captured h.1, h.2)

    standing_in_more : (is : List Instruction) (kind : Kind) (state : machine.State) (pc : ℕ) (st : List Item) → IsStandingIn At m is kind state pc st → IsStandingIn At k is kind state pc st
    standing_in_more is kind running pc st h = record { start = h.start; shape = h.shape; here = h.here; fits = fits_more kind h.start h.shape st h.fits; next = h.next; stands = h.stands; halts = h.halts }
    standing_in_more is kind unwinding pc st h = (h.0, (h.1.0, h.1.1, fits_more kind h.1.0 h.1.1 st h.1.2))
    standing_in_more is kind resting pc st h = h
    standing_in_more is kind machine.over pc st h = absurd h

    pub standing_more : (is : List Instruction) (kind : Kind) (p : Point) → IsStanding At m is kind p → IsStanding At k is kind p
    standing_more is kind p h = standing_in_more is kind p.state p.place p.stack h
