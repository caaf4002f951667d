-- A kind of machine: what a process asks of the world, and how it goes on with the answer.
use Rattle.std.specs.Prelude.{ℕ, Bool, List, Option}
use Rattle.ql_world.specs.Word.{Word, Slot}
use Rattle.ql_world.specs.Operator.{Operator}
use Rattle.ql_world.specs.World.{Aim}
pub use Rattle.ql_world.specs.declared.world.Cleanup.{Cleanup}

-- where the word of a variable is: in the process itself, in a box, or with a global
pub data Place : Type 0 where
  held : Place
  box : ℕ → Place
  global : ℕ → Place

-- how a process comes to its end: after the last top form, with its value, or unwound
pub data Ending : Type 0 where
  last_form : Ending
  with_word : Word → Ending
  unwound : Ending

-- What the next tick of a process asks of the world. Where it can err, the last number is the offset of its form. A
-- list of truth values says which of the variables are stored, that is live in boxes.
pub data Want : Type 0 where
  -- the word of a future, in place of an operand
  awaits : (future at : ℕ) → Want
  takes_literal : Want
  reads : Place → (at : ℕ) → Want
  stores : Place → Word → Want
  branches : Want
  computes : Operator → List Word → (at : ℕ) → Want
  prints : Word → Want
  binds : List Bool → List Word → Want
  calls : List Bool → List Word → Want
  returns : Want
  -- a closure is made
  closes : Want
  funcalls : Word → List Word → (at : ℕ) → Want
  -- how the values of a `qlet` are got
  chooses : (proposition : Word) → Want
  -- a process closure, or a closure
  makes : (proposition : Word) → Want
  sends : (closure : ℕ) → List Word → (used : Bool) → (at : ℕ) → Want
  takes_call : Want
  replies : Word → Want
  opens : (tag : Word) → (waits : Bool) → Want
  exits : (catch : ℕ) → Want
  throws : (tag value : Word) → (at : ℕ) → Want
  protects : Want
  begins : (protect : ℕ) → Want
  finishes : (protect : ℕ) → Want
  -- it unwinds, and the next frame is a catch
  leaves : (catch : ℕ) → Want
  ends : Ending → Want
  -- it can't step
  rests : Want

-- what the world answers; K is what a closure holds
pub data Answer (K : Type 0) : Type 0 where
  done : Answer K
  got : Word → Answer K
  -- a new catch, a new protect, or the greatest number of a catch
  numbered : ℕ → Answer K
  -- the variables' slots
  bound : List Slot → Answer K
  -- a closure, with the slots of its parameters
  entered : K → List Slot → Answer K
  -- the values of a `qlet` are got in order
  in_line : Answer K
  -- or by children, with these futures, which are touched before the binding unless it is eager
  spawned : (eager : Bool) → (futures : List ℕ) → Answer K
  -- the process unwinds
  unwinds : Answer K
  -- and the innermost running cleanup has this aim
  aimed : Aim → Answer K

-- P is the control and the frames of a process.
pub record Machine (P K : Type 0) : Type 0 where
  pub want : P → Want
  pub go : P → Answer K → P
  -- the running cleanups, the innermost first
  pub cleanups : P → List Cleanup
  -- the innermost catch that the process itself has opened
  pub innermost : P → Option ℕ
  -- the process unwinds from now on
  pub unwound : P → P
  -- the closure that its next tick makes, if any
  pub closure : P → Option K
  -- the children that its next tick spawns, if any
  pub children : P → List P
  -- which parameters of a closure are stored
  pub stored : K → List Bool
  -- the process of a process closure, when it waits for a call
  pub at_rest : K → P
  -- the same where the body begins, with the slots of the parameters
  pub started : K → List Slot → P
