-- What rests on local paths: the machine's own steps, runs, and work that has become stale.
use Rattle.std.specs.Prelude.{◌≡◌, ◌≢◌, ℕ, zero, suc, ◌+◌, ◌≤◌, ◌==◌, Bool, true, false, not, ◌&&◌, if◌then◌else◌, List, [], ◌∷◌, ◌++◌, replicate, Option, Some, None, option_map, option_and_then}
use Rattle.ql_base.specs.declared.limits.Limits.{Limits}
use Rattle.ql_world.specs.declared.word.Word.{Word}
use Rattle.ql_world.specs.Event.{with_tick}
use Rattle.ql_world.specs.declared.event.Event.{Event}
use Rattle.ql_world.specs.declared.event.Event.TheVariants.{Turn as turn}
use Rattle.ql_world.specs.World.{World, numbered, change_numbered}
use Rattle.ql_world.specs.declared.world.Process.{Process}
use Rattle.ql_world.specs.declared.world.Aim.{Aim}
use Rattle.ql_world.specs.Within.{is_die, is_free, is_live, is_within}
use Rattle.ql_world.specs.Machine.{Place, held, Want, takes_literal, reads, branches, computes, binds, calls, returns, Answer, done, got, bound, Machine}
use Rattle.ql_world.specs.Idle.{killed_within}
use Rattle.ql_world.specs.Tick.{slots_of, can_step, tick, with_owner_aimed}
use Rattle.ql_world.specs.Run.{stop_of, run}
use Rattle.ql_code.specs.Code.{Instruction, Code}
use Rattle.ql_code.specs.Machine.{Item, Point, point, Entry, code_machine, code_world}
use Rattle.ql_code.specs.LocalPath.{Window, window_of, beneath, Seen, result_in, given, local_step, local_steps, IsGreatest, farthest}

-- the wants that are answered without the world

abbrev pub none_stored : List Bool → Bool
none_stored [] = true
none_stored (b ∷ bs) = not b && none_stored bs

module _ {K : Type 0} where
  abbrev pub bound_alone : List Bool → List Word → Option (Answer K)
  bound_alone bs ws = if none_stored bs then Some (bound (slots_of bs ws 0)) else None

  abbrev pub read_alone : Place → Option (Answer K)
  read_alone held = Some done
  read_alone place = None

  abbrev pub alone : Seen → Want → Option (Answer K)
  alone seen takes_literal = Some done
  alone seen (reads place at) = read_alone place
  alone seen branches = Some done
  alone seen (computes o ws at) = option_map got (given (result_in seen o ws))
  alone seen (binds bs ws) = bound_alone bs ws
  alone seen (calls bs ws) = bound_alone bs ws
  alone seen returns = Some done
  alone seen want = None

module _ {P K : Type 0} (m : Machine P K) (seen : Seen) where
  -- the next step of a process, where it asks nothing of the world
  abbrev pub own_step : P → Option P
  own_step t = option_map (m.go t) (alone seen (m.want t))

  abbrev pub own_steps : ℕ → P → Option P
  own_steps zero t = Some t
  own_steps (suc n) t = option_and_then (own_steps n) (own_step t)

-- the pairs that can be seen are the first ones of these
abbrev pub Shows : Seen → List (Word × Word) → Type 0
Shows None pairs = Unit {0}
Shows (Some known) pairs = (more : List (Word × Word)) × (known ++ more ≡ pairs)

-- windows

-- a point that begins with a window
abbrev pub over_rest : Window → List Item → Point
over_rest a rest = point a.place (a.items ++ rest) a.state

-- what is under a window
abbrev pub rest_of : Process Point → List Item
rest_of q = beneath 64 q.thread.stack

-- the process after work on its window
abbrev pub thread_after : Process Point → Window → Point
thread_after q b = point b.place (b.items ++ rest_of q) q.thread.state

-- runs

-- events after n ticks of process p
abbrev pub with_ticks : ℕ → ℕ → List Event → List Event
with_ticks p zero es = es
with_ticks p (suc n) es = with_ticks p n (with_tick p es)

abbrev pub with_turn : ℕ → ℕ → List Event → List Event
with_turn p n (turn q m ∷ es) = if p == q then turn q (m + n) ∷ es else turn p n ∷ (turn q m ∷ es)
with_turn p n es = turn p n ∷ es

-- a world in which process p has taken n ticks that changed nothing but its own thread
abbrev pub worked : {P K : Type 0} → World P K → (p n : ℕ) → P → World P K
worked w p n t = record w {
  procs = change_numbered (λ q. record q { thread = t }) w.procs p;
  events = with_ticks p n w.events;
  ticks = w.ticks + n;
}

-- the process is not named in the schedule
abbrev pub IsAway : ℕ → List ℕ → Type 0
IsAway p [] = Unit {0}
IsAway p (r ∷ rs) = (p ≢ r) × IsAway p rs

-- the laws

-- Along a local path each point that begins with the first window comes to the one that begins with the last, over the
-- same rest, by so many steps of the machine that ask nothing of the world.
abbrev pub PathsFrame : Type 0
PathsFrame =
    (code : List Instruction) (seen : Seen) (n : ℕ) (a b : Window) (rest : List Item) →
    local_steps code seen n a ≡ Some b →
    own_steps (code_machine code) seen n (over_rest a rest) ≡ Some (over_rest b rest)

-- In a run of code that hasn't stopped, a local path of process p, with ticks for it left in the budget, is so many ticks
-- of p. They change the place and the top of the stack of p, the events and the number of ticks, and nothing else.
abbrev pub CommitsAreTicks : Type 0
CommitsAreTicks =
    (code : Code) (names : List (List ℕ)) (limits : Limits) (seen : Seen) (schedule : List ℕ) (n : ℕ) (w : World Point Entry) (p : ℕ) (q : Process Point) (b : Window) →
    run (code_machine code.instructions) names limits (code_world code) schedule ≡ Some w →
    stop_of (code_machine code.instructions) names limits w ≡ None →
    numbered w.procs p ≡ Some q →
    Shows seen w.pairs →
    w.ticks + n ≤ limits.budget →
    local_steps code.instructions seen n (window_of q) ≡ Some b →
    run (code_machine code.instructions) names limits (code_world code) (schedule ++ replicate n p) ≡ Some (worked w p n (thread_after q b))

-- So many ticks are one turn in the events.
abbrev pub TicksAreTurns : Type 0
TicksAreTurns = (p n : ℕ) (es : List Event) → with_ticks p (suc n) es ≡ with_turn p (suc n) es

-- Where the window of process p has a local step, the process can step, and its tick is that step.
abbrev pub NextIsLocal : Type 0
NextIsLocal =
    (code : List Instruction) (names : List (List ℕ)) (limits : Limits) (seen : Seen) (w : World Point Entry) (p : ℕ) (q : Process Point) (b : Window) →
    numbered w.procs p ≡ Some q →
    Shows seen w.pairs →
    w.cells ≤ limits.cells →
    local_step code seen (window_of q) ≡ Some b →
    (can_step (code_machine code) names limits p q w ≡ true) × (tick (code_machine code) names limits w p ≡ Some (worked w p 1 (thread_after q b)))

-- A bound and the greatest number of steps leave one answer.
abbrev pub GreatestIsFarthest : Type 0
GreatestIsFarthest =
    (code : List Instruction) (seen : Seen) (most n : ℕ) (a b : Window) →
    local_steps code seen n a ≡ Some b →
    IsGreatest code seen a most n →
    (n, b) ≡ farthest code seen most a

-- A process that was killed has none of the windows that it had when it was live.
abbrev pub KillsShow : Type 0
KillsShow =
    (code : List Instruction) (w : World Point Entry) (c owner p : ℕ) (q v : Process Point) →
    numbered w.procs p ≡ Some q →
    is_live q ≡ true →
    is_within w.catches q c ≡ true →
    p ≢ owner →
    numbered (killed_within (code_machine code) w c owner).procs p ≡ Some v →
    (a : Window) → is_die a.aim ≡ false → window_of v ≢ a

-- A process that leaves for a catch has none of the windows with another aim.
abbrev pub ThrowsShow : Type 0
ThrowsShow =
    (code : List Instruction) (names : List (List ℕ)) (limits : Limits) (w : World Point Entry) (thrower owner : ℕ) (t q v : Process Point) (a : Aim) →
    numbered w.procs owner ≡ Some q →
    numbered (with_owner_aimed (code_machine code) names limits thrower t w owner a).procs owner ≡ Some v →
    (b : Window) → b.aim ≢ a → window_of v ≢ b

-- A process without an aim takes no tick for a while. If its window is then the same, all of it is the same: it was not
-- killed, and nothing was thrown to a catch of its own.
abbrev pub StaleWorkShows : Type 0
StaleWorkShows =
    (code : List Instruction) (names : List (List ℕ)) (limits : Limits) (schedule : List ℕ) (w v : World Point Entry) (p : ℕ) (q u : Process Point) →
    IsAway p schedule →
    numbered w.procs p ≡ Some q →
    run (code_machine code) names limits w schedule ≡ Some v →
    numbered v.procs p ≡ Some u →
    is_free q.aim ≡ true →
    window_of u ≡ window_of q →
    u ≡ q

-- The pairs of a world are the first ones after every schedule.
abbrev pub PairsStay : Type 0
PairsStay =
    (code : List Instruction) (names : List (List ℕ)) (limits : Limits) (schedule : List ℕ) (w v : World Point Entry) →
    w.cells ≤ limits.cells →
    run (code_machine code) names limits w schedule ≡ Some v →
    Shows (Some w.pairs) v.pairs
