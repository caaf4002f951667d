-- A turn of an eager process closure, before its call is there.
use Rattle.std.specs.Prelude.{◌≡◌, ℕ, List, length, map}
use Rattle.ql_world.specs.declared.word.Word.TheVariants.{Fut as future}
use Rattle.ql_world.specs.declared.word.Word.{Word}
use Rattle.ql_world.specs.World.{World, ProcessClosure, numbers, with_server}
use Rattle.ql_world.specs.Tick.{words_boxed, with_boxes, with_futures, with_next_call}
use Rattle.ql_code.specs.Code.{unmasked}
use Rattle.ql_code.specs.Machine.{Point, Entry}
use Rattle.ql_host.specs.declared.turns.Turn.{Turn}

-- Its first future has this number. The closure has so many parameters, of which these bits are stored.
pub record IsTurn (first count mask : ℕ) (turn : Turn) : Type 0 where
  pub futures : turn.futures.items ≡ numbers first count
  pub words : turn.words.items ≡ map future (numbers first count)
  pub stored : turn.stored.items ≡ words_boxed (unmasked count mask) (map future (numbers first count))

-- Process closure k, of which no call is in progress, has begun a turn with these futures and these stored words. It has
-- taken a call, if one waited.
abbrev pub turned_world : (k : ℕ) → ProcessClosure Entry → (turn : List ℕ) → (stored : List Word) → World Point Entry → World Point Entry
turned_world k s turn stored w =
    let t = record s { turn = turn } in
    with_next_call (with_server (with_boxes (with_futures w (length turn)) stored) k t) k t t.queue
