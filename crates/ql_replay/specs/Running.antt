-- The run that follows a book.
use Rattle.std.specs.Prelude.{◌≡◌, ℕ, ◌≤◌, ◌<◌, Bool, true, List, [], drop, length, reverse, Some}
use Rattle.ql_base.specs.declared.limits.Policy.TheVariants.{Turn}
use Rattle.ql_world.specs.declared.event.Event.{Event}
use Rattle.ql_world.specs.Text.{line_of}
use Rattle.ql_world.specs.World.{World}
use Rattle.ql_code.specs.Code.{Code}
use Rattle.ql_code.specs.Machine.{Point, Entry, code_machine}
use Rattle.ql_host.specs.Host as running
use Rattle.ql_journal.specs.Single.{as_told}
use Rattle.ql_replay.specs.Replay.{Host, host_of, is_quiet, since_turn}

pub record Run : Type 0 where
  pub host : running.Host
  -- its lines have texts
  pub texts : Bool

-- what replaying needs of it
abbrev pub host_in : Run → Host (World Point Entry)
host_in r = host_of (code_machine r.host.code.instructions) r.host.names r.host.limits

-- the line of an event, with its text or without
abbrev pub line_in : (texts : Bool) → Event → List ℕ
line_in texts e = line_of (as_told texts e)

-- What its type keeps: it has its code, all processes are at home, the policy is the usual one, and so many events stand up to the newest turn.
pub record IsKept (code : Code) (h : running.Host) (told : ℕ) : Type 0 where
  pub same : code ≡ h.code
  pub home : h.away ≡ []
  pub policy : h.limits.policy ≡ Turn
  pub within : told ≤ length h.world.events
  pub since : drop told (reverse h.world.events) ≡ reverse (since_turn h.world.events)

-- Of so many ticks of a process only the last may have events.
abbrev pub IsQuietUpTo : (h : running.Host) → (p n : ℕ) → Type 0
IsQuietUpTo h p n = (j : ℕ) → 1 ≤ j → j < n → (u : World Point Entry) → running.worked h p j ≡ Some u → is_quiet u.events ≡ true
