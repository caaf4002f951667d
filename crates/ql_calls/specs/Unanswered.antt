-- What nobody will answer any more once a closure is dead, a place for each call and each future of the turn.
use Rattle.std.specs.Prelude.{ℕ, List, ◌++◌, map, Option, Some, None}
use Rattle.ql_world.specs.World.{ProcessClosure}
use Rattle.ql_world.specs.Idle.{current_of}

module _ {K : Type 0} where
  -- the reply's future of each call, which there is none of where the call is ignored, and then the turn's futures
  abbrev pub reply_places : ProcessClosure K → List (Option ℕ)
  reply_places s = map (λ c. c.reply) (current_of s.current ++ s.queue) ++ map Some s.turn

abbrev pub future_at : Option (Option ℕ) → Option ℕ
future_at None = None
future_at (Some f) = f
