-- From a row of the definition to a tick of the host.
use Rattle.std.proofs.Common.{◌≡◌, ℕ, zero, suc, true, List, [], ◌∷◌, Option, Some, None, refl, sym, ap, ◌∙◌}
use Rattle.std.specs.Prelude.{if◌then◌else◌, slice_get, slice_set, option_and_then}
use Rattle.ql_base.specs.declared.limits.Limits.{Limits}
use Rattle.ql_world.specs.World.{World, numbered, change_numbered, counted, marked, with_thread}
use Rattle.ql_world.specs.declared.world.Process.{Process}
use Rattle.ql_world.specs.declared.event.Stop.{Stop}
use Rattle.ql_world.specs.Machine.{Machine, Answer}
use Rattle.ql_world.specs.Tick.{can_step, goes, row, step, tick}
use Rattle.ql_tree.specs.declared.person.Person.{Person}
use Rattle.ql_tree.specs.Persons.{process_of_person, joined, process_at}
use Rattle.ql_tree.specs.Joined.{joined-numbered, joined-set}
use Rattle.ql_code.specs.Code.{Instruction, instruction, Code}
use Rattle.ql_code.specs.declared.code.Op.{Op}
use Rattle.ql_code.specs.Machine.{Point, Entry, op_want, op_go, want_in, go_in, running_want, running_go, code_machine}
use Rattle.ql_code.specs.declared.mark.State.TheVariants.{Running as running}
use Rattle.ql_host.specs.declared.shared.Shared.{Shared}
use Rattle.ql_host.specs.World.{world_of, Acts, IsAt}

-- a process gets another thread
pub moved_at : (p : ℕ) (h : Shared) (threads : List Point) (i : ℕ) (u : Point) → p ≡ suc i → world_of h (slice_set threads i u) ≡ with_thread (world_of h threads) p u
moved_at p h threads i u e =
    ap (λ (ps : List (Process Point)). record (world_of h threads) { procs = ps })
    (joined-set h.tree.persons threads i u ∙ ap (λ n. change_numbered (λ q. record q { thread = u }) (joined h.tree.persons threads) n) (sym e))

module _ (code : Code) (names : List (List ℕ)) (limits : Limits) (p : ℕ) where
  abbrev M : Machine Point Entry
  M = code_machine code.instructions

  abbrev W : Type 0
  W = World Point Entry

  -- a tick of a process that can step is its row
  pub row_tick : (q : Process Point) (w : W) → numbered w.procs p ≡ Some q → can_step M names limits p q w ≡ true
      → tick M names limits w p ≡ row M names limits p q (counted w p) (M.want q.thread)
  row_tick q w e c =
      ap (λ o. option_and_then (λ r. step M names limits p r w) o) e
      ∙ ap (λ b. if b then row M names limits p q (counted w p) (M.want q.thread) else None) c

  -- the process with this number, made of its person and its thread
  pub process_there : (h : Shared) (r : Person) (t : Point) (threads : List Point) (i : ℕ) → p ≡ suc i → slice_get threads i ≡ Some t → numbered h.tree.persons p ≡ Some r
      → numbered (joined h.tree.persons threads) p ≡ Some (process_of_person r t)
  process_there h r t threads i e s n =
      joined-numbered h.tree.persons threads p
      ∙ ap (λ o. process_at o (numbered threads p)) n
      ∙ ap (λ o. process_at (Some r) o) (ap (numbered threads) e ∙ s)

  pub moved : (h : Shared) (threads : List Point) (i : ℕ) (u : Point) → p ≡ suc i → world_of h (slice_set threads i u) ≡ with_thread (world_of h threads) p u
  moved = moved_at p

  -- A row that leaves this world, but for the thread of the process, is a tick.
  pub acts : (r : Person) (old new : Shared) (t u : Point)
      → ((threads : List Point) → can_step M names limits p (process_of_person r t) (world_of old threads) ≡ true
      → row M names limits p (process_of_person r t) (counted (world_of old threads) p) (M.want t) ≡ Some (with_thread (world_of new threads) p u))
      → Acts code names limits p r old t new u
  acts r old new t u f threads i e s n c =
      row_tick (process_of_person r t) (world_of old threads) (process_there old r t threads i e s n) c
      ∙ f threads c
      ∙ ap Some (sym (moved new threads i u e))

  -- what a process at an instruction wants, and how it goes on
  pub want_at : (t : Point) (op : Op) (at : ℕ) → t.state ≡ running → slice_get code.instructions t.place ≡ Some (instruction op at) → M.want t ≡ op_want op at t.stack
  want_at t op at r h =
      ap (λ s. want_in code.instructions s t.place t.stack) r ∙ ap (λ (o : Option Instruction). running_want o t.stack) h

  pub go_at : (t : Point) (op : Op) (at : ℕ) → t.state ≡ running → slice_get code.instructions t.place ≡ Some (instruction op at) → (a : Answer Entry) → M.go t a ≡ op_go code.instructions op a t.place t.stack
  go_at t op at r h a =
      ap (λ s. go_in code.instructions s a t.place t.stack) r ∙ ap (λ (o : Option Instruction). running_go code.instructions o a t.place t.stack) h

  -- Of a process at an instruction: where its row comes to an answer in this world, it goes on with that.
  pub acts_at : (r : Person) (old new : Shared) (t u : Point) (op : Op) (at : ℕ) → IsAt code names limits p old r t op at → (a : Answer Entry)
      → ((threads : List Point) → can_step M names limits p (process_of_person r t) (world_of old threads) ≡ true
      → row M names limits p (process_of_person r t) (counted (world_of old threads) p) (op_want op at t.stack) ≡ Some (with_thread (world_of new threads) p (M.go t a)))
      → op_go code.instructions op a t.place t.stack ≡ u
      → Acts code names limits p r old t new u
  acts_at r old new t u op at h a f g =
      acts r old new t u
      (λ threads c.
      ap (row M names limits p (process_of_person r t) (counted (world_of old threads) p)) (want_at t op at h.runs h.here)
      ∙ f threads c
      ∙ ap (λ v. Some (with_thread (world_of new threads) p v)) (go_at t op at h.runs h.here a ∙ g))

  -- Of a process at an instruction: where its row errs or meets a limit, the tick is counted, and the run is marked.
  pub stops_at : (r : Person) (old new : Shared) (t : Point) (op : Op) (at : ℕ) → IsAt code names limits p old r t op at → (stop : Stop)
      → ((threads : List Point) → row M names limits p (process_of_person r t) (counted (world_of old threads) p) (op_want op at t.stack) ≡ Some (marked (counted (world_of old threads) p) stop))
      → ((threads : List Point) → world_of new threads ≡ marked (counted (world_of old threads) p) stop)
      → Acts code names limits p r old t new t
  stops_at r old new t op at h stop f g threads i e s n c =
      row_tick (process_of_person r t) (world_of old threads) (process_there old r t threads i e s n) c
      ∙ ap (row M names limits p (process_of_person r t) (counted (world_of old threads) p)) (want_at t op at h.runs h.here)
      ∙ f threads
      ∙ ap Some (sym (g threads) ∙ ap (world_of new) (sym (same_again threads i t s)))
    where
      same_again : (threads : List Point) (i : ℕ) (t : Point) → slice_get threads i ≡ Some t → slice_set threads i t ≡ threads
      same_again [] i t s = refl
      same_again (x ∷ xs) zero t s = ap (λ y. y ∷ xs) (let z : Some t ≡ Some x = sym s in cc)
      same_again (x ∷ xs) (suc i) t s = ap (λ ys. x ∷ ys) (same_again xs i t s)

  -- The same of a row that leaves the world as it was but for the tick.
  pub quiet_at : (r : Person) (old new : Shared) (t u : Point) (op : Op) (at : ℕ) → IsAt code names limits p old r t op at → (a : Answer Entry)
      → ((threads : List Point) → can_step M names limits p (process_of_person r t) (world_of old threads) ≡ true
      → row M names limits p (process_of_person r t) (counted (world_of old threads) p) (op_want op at t.stack) ≡ Some (goes M names limits p (process_of_person r t) (counted (world_of old threads) p) a))
      → ((threads : List Point) → world_of new threads ≡ counted (world_of old threads) p)
      → op_go code.instructions op a t.place t.stack ≡ u
      → Acts code names limits p r old t new u
  quiet_at r old new t u op at h a f w g =
      acts_at r old new t u op at h a
      (λ threads c. f threads c ∙ ap (λ x. Some (with_thread x p (M.go t a))) (sym (w threads)))
      g
