-- A stack: its items, and for how much more there is room.
use Rattle.std.specs.Prelude.{◌≡◌, ◌≤◌, ℕ, suc, ◌-◌, if◌then◌else◌, List, [], ◌∷◌, ◌++◌, length, map, take, drop, Option, Some, None, Bool, true, false, ◌||◌}
use Rattle.ql_world.specs.declared.word.Slot.{Slot}
use Rattle.ql_code.specs.declared.mark.Mark.{Mark}
use Rattle.ql_world.specs.declared.world.Aim.{Aim}
use Rattle.ql_world.specs.declared.world.Cleanup.{Cleanup}
use Rattle.ql_code.specs.declared.mark.Mark.TheVariants.{Catching as catching, Cleaning as cleaning}
use Rattle.ql_code.specs.Machine.{Item, slot, mark}
use Rattle.ql_proc.specs.declared.stack.Marker.{Marker}
use Rattle.ql_proc.specs.Slots.{is_frame}

pub record Stacked : Type 0 where
  -- the topmost first
  pub items : List Item
  -- So many more slots, and so many more marks, can be pushed without taking memory.
  pub room : ℕ

-- The rest is for proofs.

-- the items of slots and marks, both with the topmost first
abbrev pub items_of : List Slot → List Marker → List Item
items_of ss [] = map slot ss
items_of ss (m ∷ ms) = map slot (take (length ss - m.height) ss) ++ (mark m.mark ∷ items_of (drop (length ss - m.height) ss) ms)

-- how many slots stand under the topmost mark
abbrev pub floor_of : List Marker → ℕ
floor_of [] = 0
floor_of (m ∷ ms) = m.height

-- how many slots stand under the topmost frame
abbrev pub base_of : List Marker → ℕ
base_of [] = 0
base_of (m ∷ ms) = if is_frame m.mark then m.height else base_of ms

-- no mark stands above this height
abbrev pub Rises : ℕ → List Marker → Type 0
Rises n [] = Unit {0}
Rises n (m ∷ ms) = (m.height ≤ n) × ((m.base ≡ base_of ms) × Rises m.height ms)

abbrev pub is_cleaning : Mark → Bool
is_cleaning (cleaning u c) = true
is_cleaning k = false

abbrev pub is_catching : Mark → Bool
is_catching (catching c l) = true
is_catching k = false

-- how many marks there are from the bottom up to the topmost one of a kind
abbrev pub up_to : (Mark → Bool) → List Marker → ℕ
up_to is_kind [] = 0
up_to is_kind (m ∷ ms) = if is_kind m.mark then suc (length ms) else up_to is_kind ms

-- each mark knows the innermost running cleanup and the innermost catch
abbrev pub AreLinked : List Marker → Type 0
AreLinked [] = Unit {0}
AreLinked (m ∷ ms) = (m.cleaning ≡ up_to is_cleaning (m ∷ ms)) × ((m.catching ≡ up_to is_catching (m ∷ ms)) × AreLinked ms)

-- a mark that is put on these
abbrev pub marker_on : List Marker → Mark → (height base : ℕ) → Marker
marker_on ms k h b = record {
  mark = k;
  height = h;
  base = b;
  cleaning = if is_cleaning k then suc (length ms) else up_to is_cleaning ms;
  catching = if is_catching k then suc (length ms) else up_to is_catching ms;
}

-- whether a frame stands on one of these marks
abbrev pub frame_among : List Marker → Bool
frame_among [] = false
frame_among (m ∷ ms) = is_frame m.mark || frame_among ms

pub record IsStack (ss : List Slot) (ms : List Marker) (f b : ℕ) : Type 0 where
  pub rises : Rises (length ss) ms
  pub links : AreLinked ms
  pub floor : f ≡ floor_of ms
  pub base : b ≡ base_of ms

abbrev pub mark_of : List Marker → Option Mark
mark_of [] = None
mark_of (m ∷ ms) = Some m.mark

abbrev pub cleanup_then : Mark → List Cleanup → List Cleanup
cleanup_then (cleaning u c) cs = c ∷ cs
cleanup_then k cs = cs

abbrev pub catch_or : Mark → Option ℕ → Option ℕ
catch_or (catching c l) other = Some c
catch_or k other = other

abbrev pub with_aim : Aim → Mark → Mark
with_aim a (cleaning u c) = cleaning u (record c { aim = a })
with_aim a k = k

-- the running cleanups, the innermost first
abbrev pub cleanups_in : List Marker → List Cleanup
cleanups_in [] = []
cleanups_in (m ∷ ms) = cleanup_then m.mark (cleanups_in ms)

abbrev pub catch_in : List Marker → Option ℕ
catch_in [] = None
catch_in (m ∷ ms) = catch_or m.mark (catch_in ms)

-- the innermost running cleanup with this aim
abbrev pub aimed : Aim → List Marker → List Marker
aimed a [] = []
aimed a (m ∷ ms) = if is_cleaning m.mark then record m { mark = with_aim a m.mark } ∷ ms else m ∷ aimed a ms
