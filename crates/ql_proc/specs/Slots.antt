-- The slots and the words on top of a stack.
use Rattle.std.specs.Prelude.{◌≡◌, ℕ, zero, suc, Bool, true, false, List, [], ◌∷◌, length, map, Option, Some, None}
use Rattle.ql_world.specs.declared.word.Word.{Word}
use Rattle.ql_world.specs.declared.word.Word.TheVariants.{Fut as future}
use Rattle.ql_world.specs.declared.word.Slot.{Slot}
use Rattle.ql_world.specs.declared.word.Slot.TheVariants.{Val as plain, Cell as boxed}
use Rattle.ql_world.specs.Word.{nil}
use Rattle.ql_code.specs.declared.mark.Mark.{Mark}
use Rattle.ql_code.specs.declared.mark.Mark.TheVariants.{Returning as returning, Base as base}
use Rattle.ql_code.specs.Machine.{Item, slot, mark, words}

-- the topmost so many items are words
abbrev pub HasWords : ℕ → List Item → Type 0
HasWords n st = length (words n st) ≡ n

-- The rest is for proofs.

-- the slots above the topmost mark, the topmost first
abbrev pub slots_on : List Item → List Slot
slots_on [] = []
slots_on (slot s ∷ st) = s ∷ slots_on st
slots_on (mark k ∷ st) = []

-- the stack without its topmost mark, under the slots above that
abbrev pub without_mark : List Item → List Item
without_mark [] = []
without_mark (slot s ∷ st) = slot s ∷ without_mark st
without_mark (mark k ∷ st) = st

-- the mark of a call
abbrev pub is_call : Option Mark → Bool
is_call (Some (returning pc)) = true
is_call _ = false

-- a mark at which a frame begins
abbrev pub is_frame : Mark → Bool
is_frame (returning pc) = true
is_frame (base j) = true
is_frame _ = false

-- whether the topmost so many items are words
abbrev pub are_words : ℕ → List Item → Bool
are_words zero st = true
are_words (suc n) (slot (plain w) ∷ st) = are_words n st
are_words (suc n) st = false

abbrev pub is_plain : Slot → Bool
is_plain (plain w) = true
is_plain (boxed n) = false

-- the word of a slot, nil where it lives in a box
abbrev pub word_of : Slot → Word
word_of (plain w) = w
word_of (boxed n) = nil

abbrev pub words_of : List Slot → List Word
words_of ss = map word_of ss

abbrev pub word_in_slot : Slot → Option Word
word_in_slot (plain w) = Some w
word_in_slot (boxed n) = None

abbrev pub future_in_slot : Slot → Option ℕ
future_in_slot (plain (future f)) = Some f
future_in_slot s = None

-- the first of these, or else the other
abbrev pub or_found : Option ℕ → Option ℕ → Option ℕ
or_found None other = other
or_found (Some f) other = Some f
