-- Work that is given out and taken in.
use Rattle.std.proofs.Common.{◌≡◌, ◌≤◌, ◌<◌, ◌+◌, ℕ, zero, suc, Bool, true, false, List, [], ◌∷◌, length, map, Option, Some, None, refl, sym, ap, ◌∙◌, arith}
use Rattle.std.specs.Prelude.{Result, Ok, Err, IfOk, not, option_map, slice_get, slice_set, is_some, is_none, ◌++◌}
use Rattle.std.proofs.Math.ListN.{get_or}
use Rattle.ql_world.specs.World.{numbered}
use Rattle.ql_world.specs.declared.world.Process.{Process}
use Rattle.ql_world.specs.declared.event.Stop.{Stop}
use Rattle.ql_tree.specs.declared.person.Person.{Person}
use Rattle.ql_tree.specs.Persons.{process_of_person, joined}
use Rattle.ql_world.specs.declared.world.Aim.{Aim}
use Rattle.ql_world.specs.declared.world.Aim.TheVariants.{Free as free}
use Rattle.ql_code.specs.Code.{Instruction}
use Rattle.ql_code.specs.Machine.{Point, point}
use Rattle.ql_code.specs.LocalPath.{window_of, beneath, topmost, local_tick, is_next_local}
use Rattle.ql_code.specs.LocalLaws.{with_ticks, thread_after, worked}
use Rattle.ql_proc.specs.declared.process.Proc.{Proc}
use Rattle.ql_proc.specs.declared.window.Job.{Job}
use Rattle.ql_proc.specs.declared.window.Done.{Done}
use Rattle.ql_proc.specs.Points.{point_of}
use Rattle.ql_proc.specs.Windows.{window_in, window_on}
use Rattle.ql_host.specs.declared.setting.Setting.{Setting}
use Rattle.ql_host.specs.declared.shared.Shared.{Shared}
use Rattle.ql_host.specs.World.{world_of}
use Rattle.ql_host.specs.Acts.{world_in, IsLeft}
use Rattle.ql_host.specs.Ready.{stop}
use Rattle.ql_host.specs.Working.{process_in, IsGiven, IsTakable, IsTaken}
use Rattle.ql_host.proofs.Making.{map_set, set_same, map_get, found}
use Rattle.ql_host.proofs.RowTicks.{moved_at}
use Rattle.ql_host.proofs.Stepping.{process_found, no_proc}
use Rattle.ql_host.proofs.Steps.{set_long}

module _ (h : Shared) (ts : List Proc) (p i : ℕ) (r : Person) (t : Proc) (number : p ≡ suc i) (person : numbered h.tree.persons p ≡ Some r) (thread : slice_get ts i ≡ Some t) where
  -- the process that is found
  pub process_is : process_in h ts p ≡ Some (process_of_person r (point_of t))
  process_is = process_found h.tree.persons ts p r t person (ap (numbered ts) number ∙ thread)

  pub window_is : option_map window_of (process_in h ts p) ≡ Some (window_on t r.aim r.ended)
  window_is = ap (option_map window_of) process_is

  pub given : (most : ℕ) (j : Job) → j.proc ≡ p → window_in j.start ≡ window_on t r.aim r.ended → window_in j.window ≡ window_on t r.aim r.ended → j.most ≡ most → most ≤ j.window.top.stack.room → IsGiven h ts p most j
  given most j process start copy most_is room =
      record { process = process; start = window_is ∙ ap Some (sym start); copy = start ∙ sym copy; most_is = most_is; room = room }

-- the thread at an index
pub at_index : (ts : List Proc) (i : ℕ) (t : Proc) → i < length ts → t ≡ get_or ts i t → slice_get ts i ≡ Some t
at_index ts i t within e = found ts ts i t refl within e

-- a thread that is only another in room
pub points_stay : (ts : List Proc) (i : ℕ) (t u : Proc) → slice_get ts i ≡ Some t → point_of u ≡ point_of t → map point_of (slice_set ts i u) ≡ map point_of ts
points_stay ts i t u thread same =
    map_set point_of ts i u ∙ ap (slice_set (map point_of ts) i) same ∙ set_same (map point_of ts) i (point_of t) (map_get point_of ts i t thread)

-- work that is taken in
module _ (old new : Shared) (ts : List Proc) (i : ℕ) (r : Person) (t u : Proc) (d : Done) (number : d.proc ≡ suc i) (person : numbered old.tree.persons d.proc ≡ Some r) (thread : slice_get ts i ≡ Some t) where
  pub taken : new ≡ record old { history = record old.history { events = with_ticks d.proc d.steps old.history.events; ticks = old.history.ticks + d.steps; spare = new.history.spare } }
      → 1 ≤ new.history.spare
      → point_of u ≡ point d.window.top.place ((window_in d.window).items ++ beneath 64 t.stack.items) t.state
      → IsTaken d old ts new (slice_set ts i u)
  taken changed room moves =
      record {
        world = λ q e. after q e;
        long = set_long ts i u;
        persons = ap (λ (h : Shared). h.tree.persons) changed;
        cells = ap (λ (h : Shared). h.cells.limit) changed;
        procs = ap (λ (h : Shared). h.tree.limit) changed;
        head = ap (λ (h : Shared). h.history.head) changed;
        ticks = ap (λ (h : Shared). h.history.ticks) changed;
        protects = ap (λ (h : Shared). h.protects) changed;
        room = room;
      }
    where
      after : (q : Process Point) → process_in old ts d.proc ≡ Some q → world_in new (slice_set ts i u) ≡ worked (world_in old ts) d.proc d.steps (thread_after q (window_in d.window))
      after q e =
          let is : q ≡ process_of_person r (point_of t) = let z : Some q ≡ Some (process_of_person r (point_of t)) = sym e ∙ process_is old ts d.proc i r t number person thread in cc in
          ap (world_of new) (map_set point_of ts i u)
          ∙ moved_at d.proc new (map point_of ts) i (point_of u) number
          ∙ rw (changed, moves, is) refl

module _ (old new : Shared) (ts : List Proc) (i : ℕ) (t u : Proc) (thread : slice_get ts i ≡ Some t) where
  pub left_so : new ≡ record old { history = record old.history { spare = new.history.spare } } → old.history.spare ≤ new.history.spare → point_of u ≡ point_of t → IsLeft old ts new (slice_set ts i u)
  left_so changed more same =
      record {
        world = ap (world_of new) (points_stay ts i t u thread same) ∙ rw changed refl;
        long = set_long ts i u;
        persons = ap (λ (h : Shared). h.tree.persons) changed;
        cells = ap (λ (h : Shared). h.cells.limit) changed;
        procs = ap (λ (h : Shared). h.tree.limit) changed;
        head = ap (λ (h : Shared). h.history.head) changed;
        ticks = ap (λ (h : Shared). h.history.ticks) changed;
        protects = ap (λ (h : Shared). h.protects) changed;
        room = more;
      }

module _ (s : Setting) (t : Proc) (aim : Aim) where
  abbrev I : List Instruction
  I = s.code.now.instructions

  -- one that has ended has no local tick
  pub ended_is_away : (ended : Bool) → ended ≡ true → false ≡ is_next_local I None (window_on t aim ended)
  ended_is_away true e = refl
  ended_is_away false e = absurd cc

  some_either : {A B C : Type 0} (f : A → B) (g : A → C) (o : Option A) → is_some (option_map f o) ≡ is_some (option_map g o)
  some_either f g None = refl
  some_either f g (Some x) = refl

  -- its aim is nothing to a local tick
  pub aim_is_other : (ended : Bool) → ended ≡ false → is_next_local I None (window_on t free false) ≡ is_next_local I None (window_on t aim ended)
  aim_is_other true e = absurd cc
  aim_is_other false e = some_either _ _ (local_tick I None t.state (slice_get I t.place) t.place (topmost 64 t.stack.items))

pub no_thread_at : (rs : List Person) (ts : List Proc) (p i : ℕ) → p ≡ suc i → length ts ≤ i → numbered (joined rs (map point_of ts)) p ≡ None
no_thread_at rs ts p i number short = no_proc rs ts p (ap (numbered ts) number ∙ past ts i short)
  where
    past : (ts : List Proc) (i : ℕ) → length ts ≤ i → slice_get ts i ≡ None
    past [] i h = refl
    past (t ∷ ts) zero h = absurd (omega (arith, h))
    past (t ∷ ts) (suc i) h = past ts i (omega (arith, h))

-- whether what was done on the window of this process can be taken in
module _ (s : Setting) (h : Shared) (ts : List Proc) (d : Done) (i : ℕ) (r : Person) (t : Proc) (number : d.proc ≡ suc i) (person : numbered h.tree.persons d.proc ≡ Some r) (thread : slice_get ts i ≡ Some t) where
  same_window : IsTakable s h ts d → window_in d.start ≡ window_on t r.aim r.ended
  same_window k = let z : Some (window_in d.start) ≡ Some (window_on t r.aim r.ended) = sym k.same ∙ window_is h ts d.proc i r t number person thread in cc

  pub other_window : (b : Bool) → b ≡ false → (window_in d.start ≡ window_on t r.aim r.ended → b ≡ true) → (false ≡ true → IsTakable s h ts d) × (IsTakable s h ts d → false ≡ true)
  other_window true e f = absurd cc
  other_window false e f = ((λ z. absurd cc), (λ k. f (same_window k)))

  pub too_many : (h.history.ticks + d.steps ≤ s.limits.budget → ⊥) → (false ≡ true → IsTakable s h ts d) × (IsTakable s h ts d → false ≡ true)
  too_many f = ((λ z. absurd cc), (λ k. absurd (f k.within)))

  pub takable : (b : Bool) → b ≡ true → (b ≡ true → window_in d.start ≡ window_on t r.aim r.ended) → h.history.ticks + d.steps ≤ s.limits.budget → (n : Bool) → n ≡ is_none (stop s h ts)
      → (n ≡ true → IsTakable s h ts d) × (IsTakable s h ts d → n ≡ true)
  takable false e f w n m = absurd cc
  takable true e f w n m = (
    (λ z. record { same = window_is h ts d.proc i r t number person thread ∙ ap Some (sym (f refl)); within = w; goes_on = none_is (stop s h ts) (sym m ∙ z) }),
    (λ k. m ∙ ap is_none k.goes_on),
  )
    where
      none_is : (o : Option Stop) → is_none o ≡ true → o ≡ None
      none_is None e = refl
      none_is (Some x) e = absurd cc

module _ {E : Type 0} (h : Shared) (ts : List Proc) (p i : ℕ) (r : Person) (t : Proc) (number : p ≡ suc i) (person : numbered h.tree.persons p ≡ Some r) (thread : slice_get ts i ≡ Some t) (most : ℕ) where
  pub job_given : (o : Result Job E) → IfOk o (λ j. j.proc ≡ p) → IfOk o (λ j. window_in j.start ≡ window_on t r.aim r.ended) → IfOk o (λ j. window_in j.window ≡ window_on t r.aim r.ended)
      → IfOk o (λ j. j.most ≡ most) → IfOk o (λ j. most ≤ j.window.top.stack.room) → IfOk o (λ j. IsGiven h ts p most j)
  job_given (Ok j) process start copy most_is room = given h ts p i r t number person thread most j process start copy most_is room
  job_given (Err e) process start copy most_is room = process

pub flipped : (a b : Bool) → a ≡ not b → b ≡ not a
flipped true true e = absurd cc
flipped true false e = refl
flipped false true e = refl
flipped false false e = absurd cc
