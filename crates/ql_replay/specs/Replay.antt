-- A book is followed line by line.
use Rattle.std.specs.Prelude.{ℕ, zero, suc, ◌==◌, Bool, true, false, not, ◌&&◌, ◌||◌, if◌then◌else◌, List, [], ◌∷◌, ◌++◌, map, drop, reverse, Option, Some, None, is_none, is_some, option_and_then, leb}
use Rattle.std.specs.Str.{bytes_eq}
use Rattle.ql_base.specs.declared.limits.Limits.{Limits}
use Rattle.ql_base.specs.Limits.{usual}
use Rattle.ql_world.specs.Event.{without_text}
use Rattle.ql_world.specs.declared.event.Stop.{Stop}
use Rattle.ql_world.specs.declared.event.Event.{Event}
use Rattle.ql_world.specs.declared.event.Event.TheVariants.{Turn as turn, Stopped as stopped}
use Rattle.ql_world.specs.declared.event.Head.{Head}
use Rattle.ql_world.specs.World.{World}
use Rattle.ql_world.specs.Machine.{Machine}
use Rattle.ql_world.specs.Tick.{can_step, tick}
use Rattle.ql_world.specs.Text.{line_of}
use Rattle.ql_world.specs.Run.{any_from, stop_of}
use Rattle.ql_code.specs.Code.{Code}
use Rattle.ql_code.specs.Machine.{code_machine, code_world}
use Rattle.ql_replay.specs.Book.{Line, lines_in, turn_in, head_in}
use Rattle.ql_replay.specs.FirstDiff.{limits_of}

-- what replaying needs of a host
pub record Host (W : Type 0) : Type 0 where
  -- a tick of a process
  pub tick : W → ℕ → Option W
  pub stop : W → Option Stop
  -- the newest first
  pub events : W → List Event
  pub output : W → List ℕ
  -- another process than this one can step
  pub has_other : W → ℕ → Bool

pub data Verdict : Type 0 where
  -- the book is a journal of the program, and this was its output
  same : (output : List ℕ) → Verdict
  differs : (line : ℕ) → Verdict

abbrev pub is_turn : Event → Bool
is_turn (turn p n) = true
is_turn e = false

abbrev pub is_turn_of : ℕ → Event → Bool
is_turn_of p (turn q n) = p == q
is_turn_of p e = false

-- the newest event is a turn, so that the last tick had no events
abbrev pub is_quiet : List Event → Bool
is_quiet [] = false
is_quiet (e ∷ es) = is_turn e

-- it is a turn of this process, so that another tick of it would be joined
abbrev pub goes_on : ℕ → List Event → Bool
goes_on p [] = false
goes_on p (e ∷ es) = is_turn_of p e

abbrev pub is_zero : ℕ → Bool
is_zero zero = true
is_zero (suc n) = false

-- the events since the newest turn
abbrev pub since_turn : List Event → List Event
since_turn [] = []
since_turn (e ∷ es) = if is_turn e then [] else e ∷ since_turn es

-- ---- turns

module _ {W : Type 0} (host : Host W) where
  abbrev pub stepped : W → ℕ → Option W
  stepped w p = if is_none (host.stop w) then host.tick w p else None

  -- after so many ticks of a process, of which only the last has events
  abbrev pub turned : W → (p count : ℕ) → Option W
  turned w p zero = Some w
  turned w p (suc n) = option_and_then (λ v. if is_zero n || is_quiet (host.events v) then stepped v p else None) (turned w p n)

  -- a turn of this process can end here: its last tick had events, or the run stops, or another process can step
  abbrev pub can_end : W → ℕ → Bool
  can_end w p = not (is_quiet (host.events w)) || (is_some (host.stop w) || host.has_other w p)

  abbrev pub if_ends : ℕ → W → Option W
  if_ends p v = if can_end v p then Some v else None

  -- after a whole turn, which isn't joined to the one before it
  abbrev pub of_turn : W → (p count : ℕ) → Option W
  of_turn w p zero = None
  of_turn w p (suc n) = if goes_on p (host.events w) then None else option_and_then (if_ends p) (turned w p (suc n))

-- ---- lines

module _ {W : Type 0} (host : Host W) (line : Event → List ℕ) (read : List ℕ → Option (ℕ × ℕ)) where
  abbrev pub stop_lines : Option Stop → List (List ℕ)
  stop_lines None = []
  stop_lines (Some s) = line (stopped s) ∷ []

  -- the lines that follow a turn line: those of its events, and of the stop if the run stops there
  abbrev pub due : W → List (List ℕ)
  due w = map line (reverse (since_turn (host.events w))) ++ stop_lines (host.stop w)

  -- after the turn that this line tells, if it can be the next line
  abbrev pub next : W → List ℕ → Option W
  next w l = if is_none (host.stop w) then option_and_then (λ x. of_turn host w x.0 x.1) (read l) else None

  abbrev pub on_next : (at : ℕ) → (W → Verdict) → Option W → Verdict
  on_next at f None = differs at
  on_next at f (Some v) = f v

  -- From this state on, in which these lines of the last turn are still due, before the line of the book with this
  -- number.
  abbrev pub follow : W → List (List ℕ) → List Line → (at : ℕ) → Verdict
  follow w [] [] at = if is_some (host.stop w) then same (host.output w) else differs at
  follow w (d ∷ ds) [] at = differs at
  follow w ds (None ∷ ls) at = differs at
  follow w [] (Some l ∷ ls) at = on_next at (λ v. follow v (due v) ls (suc at)) (next w l)
  follow w (d ∷ ds) (Some l ∷ ls) at = if bytes_eq d l then follow w ds ls (suc at) else differs at

  abbrev pub follow_from : W → List Line → (at : ℕ) → Verdict
  follow_from w ls at = follow w (due w) ls at

  -- where so many of the lines that are due were seen
  abbrev pub follow_past : W → (seen : ℕ) → List Line → (at : ℕ) → Verdict
  follow_past w seen ls at = follow w (drop seen (due w)) ls at

  -- the verdict where these bytes of a line are held and these are still to be read
  abbrev pub ahead : W → (seen : ℕ) → (held rest : List ℕ) → (at : ℕ) → Verdict
  ahead w seen held rest at = follow_past w seen (lines_in (held ++ rest)) at

abbrev pub host_of : {P K : Type 0} → Machine P K → List (List ℕ) → Limits → Host (World P K)
host_of m names limits = record {
  tick = tick m names limits;
  stop = stop_of m names limits;
  events = λ w. w.events;
  output = λ w. w.output;
  has_other = λ w p. any_from (λ i q. not (i == p) && can_step m names limits i q w) 1 w.procs;
}

abbrev pub plain_line : Event → List ℕ
plain_line e = line_of (without_text e)

abbrev pub is_within : ℕ → ℕ → Bool
is_within most n = leb 1 n && leb n most

abbrev pub is_usable : Head → Bool
is_usable h = is_within 20000000 h.budget && is_within 4000000 h.cells && (h.procs == 65535) && (h.output == 16777216)

module _ (names : List (List ℕ)) (code : Code) where
  -- in version 1, from line 1 on
  abbrev pub plain_replayed : List Line → Verdict
  plain_replayed ls = follow_from (host_of (code_machine code.instructions) names usual) plain_line turn_in (code_world code) ls 1

  -- the same of bytes
  abbrev pub plain_verdict : List ℕ → Verdict
  plain_verdict bytes = plain_replayed (lines_in bytes)

  -- in version 2, after the head line
  abbrev pub headed_replayed : List Line → Head → Verdict
  headed_replayed ls h =
      if is_usable h
      then follow_from (host_of (code_machine code.instructions) names (limits_of h)) line_of turn_in (code_world code) ls 2
      else differs 1

  -- the same of the bytes after it
  abbrev pub headed_verdict : Head → List ℕ → Verdict
  headed_verdict h bytes = headed_replayed (lines_in bytes) h

  abbrev pub by_head : List Line → List Line → Option Head → Verdict
  by_head all ls None = plain_replayed all
  by_head all ls (Some h) = headed_replayed ls h

  abbrev pub lines_replayed : List Line → Verdict
  lines_replayed [] = plain_replayed []
  lines_replayed (None ∷ ls) = plain_replayed (None ∷ ls)
  lines_replayed (Some l ∷ ls) = by_head (Some l ∷ ls) ls (head_in l)

  abbrev pub replayed : List ℕ → Verdict
  replayed book = lines_replayed (lines_in book)
