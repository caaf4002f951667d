-- How a call is sent.
use Rattle.std.specs.Prelude.{◌≡◌, ℕ, ◌+◌, ◌-◌, ◌^◌, Bool, true, false, ◌&&◌, ◌⊎◌, if◌then◌else◌, List, [], ◌∷◌, ◌++◌, Option, Some, None, is_none}
use Rattle.ql_world.specs.declared.word.Word.{Word}
use Rattle.ql_world.specs.World.{Call, ProcessClosure}
use Rattle.ql_calls.specs.declared.server.CallFault.{CallFault}
use Rattle.ql_calls.specs.declared.server.CallFault.TheVariants.{Dead, Memory}

module _ {K : Type 0} where
  -- the next call of a closure
  abbrev pub next_call : ProcessClosure K → List Word → (reply : Option ℕ) → Call
  next_call s xs reply = record { number = s.sent + 1; arguments = xs; reply = reply }

  -- its turn waits for a call
  abbrev pub takes_at_once : ProcessClosure K → Bool
  takes_at_once s = s.eager && is_none s.current

  -- A turn that waits for a call takes it at once. Otherwise it is put last in the queue.
  abbrev pub after_send : ProcessClosure K → Call → ProcessClosure K
  after_send s c =
      if takes_at_once s then record s { sent = c.number; current = Some c } else record s { sent = c.number; queue = s.queue ++ c ∷ [] }

  -- A closure that was never made is dead.
  abbrev pub is_dead_at : Option (ProcessClosure K) → Bool
  is_dead_at None = true
  is_dead_at (Some s) = s.dead

  -- Want of memory comes only where the queue is to grow, or where 64 bits don't count one call more.
  abbrev pub MayGrow : Option (ProcessClosure K) → Type 0
  MayGrow None = ⊥
  MayGrow (Some s) = (takes_at_once s ≡ false) ⊎ (s.sent ≡ 2 ^ 64 - 1)

  -- It is dead exactly where the closure is.
  abbrev pub Explains : CallFault → Option (ProcessClosure K) → Type 0
  Explains Dead o = is_dead_at o ≡ true
  Explains (Memory e) o = (is_dead_at o ≡ false) × MayGrow o
