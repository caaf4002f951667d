-- One line of a journal, by itself.
use Rattle.std.specs.Prelude.{◌≡◌, ℕ, Bool, true, false, List, [], ◌∷◌, ◌++◌, Some}
use Rattle.ql_world.specs.declared.event.Event.{Event}
use Rattle.ql_world.specs.declared.event.Event.TheVariants.{Turn as turn}
use Rattle.ql_world.specs.declared.event.Head.{Head}
use Rattle.ql_world.specs.Event.{without_text}
use Rattle.ql_world.specs.Text.{line_of, head_text}
use Rattle.ql_journal.specs.Grammar.{IsEvent, IsHead}

-- This line, without its line feed, tells so many ticks of this process. Texts play no part in it.
pub record IsTurnLine (line : List ℕ) (p n : ℕ) : Type 0 where
  pub event : IsEvent true (turn p n)
  pub text : line ≡ line_of (turn p n)

-- This line, without its line feed, tells these limits.
pub record IsHeadLine (line : List ℕ) (h : Head) : Type 0 where
  pub head : IsHead (Some h)
  pub text : line ++ 10 ∷ [] ≡ head_text (Some h)

-- an event as a journal with texts tells it, or one without
abbrev pub as_told : (texts : Bool) → Event → Event
as_told true e = e
as_told false e = without_text e
