-- What the lines so far tell is what the world holds.
use Rattle.std.specs.Prelude.{◌≡◌, ◌↔◌, ℕ, ◌+◌, ◌<◌, ◌≤◌, true, length, Some}
use Rattle.ql_world.specs.declared.event.Event.TheVariants.{Opened as opened, Protect as protect}
use Rattle.ql_world.specs.World.{ProcessClosure, World, numbered, catch_at}
use Rattle.ql_world.specs.declared.world.Aim.TheVariants.{Die as die}
use Rattle.ql_world.specs.declared.world.Catch.{Catch}
use Rattle.ql_world.specs.declared.world.Process.{Process}
use Rattle.ql_world.specs.Within.{is_within}
use Rattle.ql_world.specs.Idle.{current_of}
use Rattle.ql_meaning.specs.Control.{Thread, Closure}
use Rattle.ql_meaning.specs.Legal.{IsAmong, HasHome, Owns, IsWithin, HasKill, HasEnd, sends, takes, replies}

pub record LinesTell (w : World Thread Closure) : Type 0 where
  -- The processes are process 1 and those spawned, with their homes.
  pub homes : (n : ℕ) (q : Process Thread) → numbered w.procs n ≡ Some q → HasHome w.events n q.home
  pub spawned : (n h : ℕ) → HasHome w.events n h → (q : Process Thread) × (numbered w.procs n ≡ Some q) × (q.home ≡ h)
  -- Exactly those with a `kill` line leave for their end, and exactly those with an `end` line have ended.
  pub killed : (n : ℕ) (q : Process Thread) → numbered w.procs n ≡ Some q → HasKill w.events n ↔ (q.aim ≡ die)
  pub ended : (n : ℕ) (q : Process Thread) → numbered w.procs n ≡ Some q → HasEnd w.events n ↔ (q.ended ≡ true)
  -- The catches are catch 0 and those opened, with their owners and enclosing catches.
  pub owners : (c : ℕ) (k : Catch) → catch_at w.catches c ≡ Some k → Owns w.events k.owner c
  pub opens : (p c d : ℕ) → IsAmong (opened p c d) w.events → (k : Catch) × (catch_at w.catches c ≡ Some k) × (k.owner ≡ p) × (k.enclosing ≡ d)
  pub within : (n : ℕ) (q : Process Thread) (c : ℕ) → numbered w.procs n ≡ Some q → IsWithin w.events n c ↔ (is_within w.catches q c ≡ true)
  -- Exactly the protects so far have a `protect` line.
  pub protects : (u : ℕ) → ((p : ℕ) × IsAmong (protect p u) w.events) ↔ ((0 < u) × (u ≤ w.protects))
  -- Of each process closure the calls sent, those taken, and those answered.
  pub sent : (k : ℕ) (s : ProcessClosure Closure) → numbered w.servers k ≡ Some s → sends k w.events ≡ s.sent
  pub taken : (k : ℕ) (s : ProcessClosure Closure) → numbered w.servers k ≡ Some s → takes k w.events + length s.queue ≡ s.sent
  pub answered : (k : ℕ) (s : ProcessClosure Closure) → numbered w.servers k ≡ Some s → replies k w.events + length (current_of s.current) ≡ takes k w.events
