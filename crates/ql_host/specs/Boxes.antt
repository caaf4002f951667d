-- Boxes that a tick makes.
use Rattle.std.specs.Prelude.{◌≡◌, ◌≤◌, ◌+◌, ℕ, true, false, List, ◌++◌, length, Option, Some, None}
use Rattle.ql_base.specs.declared.limits.LimitKind.TheVariants.{Cells}
use Rattle.ql_world.specs.declared.word.Word.{Word}
use Rattle.ql_world.specs.declared.event.Stop.TheVariants.{Limit as limit}
use Rattle.ql_world.specs.World.{counted, marked}
use Rattle.ql_cells.specs.Cells.{allows}
use Rattle.ql_code.specs.Machine.{Point}
use Rattle.ql_host.specs.World.{world_of, Keeps}
use Rattle.ql_host.specs.Room.{with_room}
use Rattle.ql_host.specs.declared.shared.Shared.{Shared}

module _ (words : List Word) (old new : Shared) where
  -- The boxes with these words were made, and there is room for two events.
  pub record HasBoxes (number : ℕ) : Type 0 where
    pub allowed : allows old.cells (length words) ≡ true
    -- the number of the first
    pub first : number ≡ length old.cells.boxes
    pub numbers : number + length words ≤ 4294967295
    pub same : new ≡ with_room (record old { cells = record old.cells { boxes = old.cells.boxes ++ words; made = old.cells.made + length words } }) new
    pub events : 2 ≤ new.history.spare

  -- So many may not be made. The tick of process p is counted, and meets that limit.
  pub record MeetsLimit (p : ℕ) : Type 0 where
    pub full : allows old.cells (length words) ≡ false
    pub met : (threads : List Point) → world_of new threads ≡ marked (counted (world_of old threads) p) (limit Cells)
    pub keeps : Keeps old new

  -- Either, where the first box has a number or none.
  abbrev pub AfterBoxes : ℕ → Option ℕ → Type 0
  AfterBoxes p (Some first) = HasBoxes first
  AfterBoxes p None = MeetsLimit p
