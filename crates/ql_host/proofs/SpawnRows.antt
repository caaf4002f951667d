-- Ticks that make processes and process closures, and the end of a child.
use Rattle.std.proofs.Common.{◌≡◌, ◌≤◌, ◌<◌, ℕ, ◌+◌, Bool, true, false, ◌||◌, if◌then◌else◌, List, [], ◌∷◌, ◌++◌, length, map, Option, Some, None, sym, ap, ◌∙◌, subst, leb}
use Rattle.std.specs.Prelude.{drop as without_first}
use Rattle.std.proofs.lemmas.Bool.{le-leb, lt-leb}
use Rattle.ql_base.specs.declared.limits.Limits.{Limits}
use Rattle.ql_base.specs.declared.limits.LimitKind.TheVariants.{Procs}
use Rattle.ql_world.specs.Word.{is_nil, is_eager}
use Rattle.ql_world.specs.declared.word.Word.{Word}
use Rattle.ql_world.specs.declared.word.Word.TheVariants.{Fut as future}
use Rattle.ql_world.specs.declared.world.FutState.TheVariants.{Value as valued}
use Rattle.ql_world.specs.declared.world.Kind.{Kind}
use Rattle.ql_world.specs.declared.world.Kind.TheVariants.{Child as child}
use Rattle.ql_world.specs.declared.event.Event.TheVariants.{EndOk as end_ok}
use Rattle.ql_world.specs.declared.event.Stop.TheVariants.{Limit as limit}
use Rattle.ql_world.specs.Text.{short_text}
use Rattle.ql_world.specs.World.{World, counted, marked, with_event, with_thread, with_future, with_end, numbers}
use Rattle.ql_world.specs.Machine.{Machine, ends, with_word, chooses, done, in_line, spawned}
use Rattle.ql_world.specs.Idle.{in_cleanup}
use Rattle.ql_world.specs.Tick.{goes, row, end_row, mode_row, has_procs, meets, with_children, or_home, next_futures}
use Rattle.ql_tree.specs.declared.person.Person.{Person}
use Rattle.ql_tree.specs.Persons.{process_of_person}
use Rattle.ql_tree.specs.Joined.{joined-length}
use Rattle.ql_code.specs.declared.code.Op.TheVariants.{Join as join, Qlet as qlet}
use Rattle.ql_code.specs.Code.{Code, Instruction}
use Rattle.ql_code.specs.Machine.{Point, Entry, words, push, ended, settled, frame_of, cleanups_on, innermost_on, next_of, children_by, children_from, op_want, mode_go, code_machine}
use Rattle.ql_host.specs.declared.shared.Shared.{Shared}
use Rattle.ql_host.specs.Awaited.{awaited}
use Rattle.ql_host.specs.World.{world_of, Acts, IsAt}
use Rattle.ql_host.specs.Making.{ActsMaking}
use Rattle.ql_host.proofs.Awaits.{calm_want, calm_go}
use Rattle.ql_host.proofs.Children.{children_length}
use Rattle.ql_host.proofs.Making.{makes_at, makes_none, stops_making}
use Rattle.ql_host.proofs.RowTicks.{acts_at, quiet_at}

module _ (code : Code) (names : List (List ℕ)) (limits : Limits) (p : ℕ) (r : Person) (old new : Shared) (t u : Point) where
  pub child_ended : (at f : ℕ) (w : Word) → IsAt code names limits p old r t join at → awaited join t.stack ≡ None → words 1 t.stack ≡ w ∷ [] → r.kind ≡ child f
      → ((threads : List Point) → world_of new threads
      ≡ with_end (with_event (with_future (counted (world_of old threads) p) f (valued w)) (end_ok p (Some (short_text names old.cells.pairs w)))) p)
      → u ≡ ended t.place
      → Acts code names limits p r old t new u
  child_ended at f w h n e k g z =
      acts_at code names limits p r old new t u join at h done
      (λ threads c.
      ap (row (code_machine code.instructions) names limits p (process_of_person r t) (counted (world_of old threads) p)) (calm_want t.stack w at (λ v. ends (with_word v)) e n)
      ∙ ap (λ (j : Kind). end_row (code_machine code.instructions) names limits p (process_of_person r t) (counted (world_of old threads) p) j (with_word w)) k
      ∙ ap (λ x. Some (with_thread x p ((code_machine code.instructions).go t done))) (sym (g threads)))
      (calm_go code.instructions done t.place t.stack w (λ st. ended t.place) e n ∙ sym z)

module _ (code : Code) (names : List (List ℕ)) (limits : Limits) (p : ℕ) (r : Person) (old new : Shared) (t u : Point) (starts : List ℕ) (touched bound at : ℕ) (x : Word)
    (h : IsAt code names limits p old r t (qlet starts touched bound) at) (n : awaited (qlet starts touched bound) t.stack ≡ None) (e : words 1 t.stack ≡ x ∷ []) where
  abbrev M : Machine Point Entry
  M = code_machine code.instructions

  abbrev W : List Point → World Point Entry
  W threads = counted (world_of old threads) p

  abbrev new_ones : List Point
  new_ones = children_from code.instructions 0 starts touched (frame_of (without_first 1 t.stack))

  new_ones_here : M.children t ≡ new_ones
  new_ones_here =
      ap (λ s. children_by code.instructions (next_of code.instructions s t.place) t.stack) h.runs
      ∙ ap (λ (o : Option Instruction). children_by code.instructions o t.stack) h.here

  qlet_row : (threads : List Point) → row M names limits p (process_of_person r t) (W threads) (op_want (qlet starts touched bound) at t.stack) ≡ Some (mode_row M names limits p (process_of_person r t) (W threads) x new_ones)
  qlet_row threads =
      ap (row M names limits p (process_of_person r t) (W threads)) (calm_want t.stack x at chooses e n)
      ∙ ap (λ ts. Some (mode_row M names limits p (process_of_person r t) (W threads) x ts)) new_ones_here

  abbrev mode_row_by : (threads ts : List Point) → Bool → World Point Entry
  mode_row_by threads ts b =
      if b then goes M names limits p (process_of_person r t) (W threads) in_line
      else (if has_procs limits (W threads) (length ts)
      then goes M names limits p (process_of_person r t) (with_children (W threads) p (or_home (innermost_on t.stack) r.home) ts) (spawned (is_eager x) (next_futures (W threads) (length ts)))
      else meets M names limits p (process_of_person r t) (W threads) Procs)

  abbrev mode_row_with : (threads ts : List Point) → Bool → World Point Entry
  mode_row_with threads ts b =
      if b then goes M names limits p (process_of_person r t) (with_children (W threads) p (or_home (innermost_on t.stack) r.home) ts) (spawned (is_eager x) (next_futures (W threads) (length ts)))
      else meets M names limits p (process_of_person r t) (W threads) Procs

  pub qlet_in_line : (is_nil x || in_cleanup (cleanups_on t.stack)) ≡ true
      → ((threads : List Point) → world_of new threads ≡ W threads)
      → u ≡ settled code.instructions (t.place + 1) (without_first 1 t.stack)
      → ActsMaking code names limits p r old t new u []
  qlet_in_line b f z =
      makes_none code names limits p r old new t u
      (quiet_at code names limits p r old new t u (qlet starts touched bound) at h in_line
      (λ threads c. qlet_row threads ∙ ap (λ v. Some (mode_row_by threads new_ones v)) b)
      f
      (calm_go code.instructions in_line t.place t.stack x (mode_go code.instructions touched bound in_line t.place) e n ∙ sym z))

  procs_allowed : (threads ts : List Point) → length threads ≡ length old.tree.persons → has_procs limits (W threads) (length ts) ≡ leb (length old.tree.persons + length ts) old.tree.limit
  procs_allowed threads ts l =
      ap (λ k. leb (k + length ts) limits.procs) (joined-length old.tree.persons threads (sym l) ∙ l)
      ∙ ap (leb (length old.tree.persons + length ts)) (sym h.fit.procs)

  pub qlet_full : (is_nil x || in_cleanup (cleanups_on t.stack)) ≡ false
      → old.tree.limit < length old.tree.persons + length starts
      → ((threads : List Point) → world_of new threads ≡ marked (W threads) (limit Procs))
      → ActsMaking code names limits p r old t new t []
  qlet_full b k f =
      stops_making code names limits p r old new t (qlet starts touched bound) at h (limit Procs)
      (λ threads l. qlet_row threads
      ∙ ap (λ v. Some (mode_row_by threads new_ones v)) b
      ∙ ap (λ v. Some (mode_row_with threads new_ones v))
      (procs_allowed threads new_ones l ∙ lt-leb (length old.tree.persons + length new_ones) old.tree.limit (subst (λ m. old.tree.limit < length old.tree.persons + m) (sym (children_length code.instructions touched (frame_of (without_first 1 t.stack)) 0 starts)) k)))
      f

  pub qlet_spawned : (made : List Point) (first count : ℕ) → (is_nil x || in_cleanup (cleanups_on t.stack)) ≡ false
      → made ≡ new_ones
      → length old.tree.persons + length made ≤ old.tree.limit
      → first ≡ length old.futures.states + 1
      → count ≡ length made
      → ((threads : List Point) → length threads ≡ length old.tree.persons → world_of new (threads ++ made) ≡ with_children (W threads) p (or_home (innermost_on t.stack) r.home) made)
      → u ≡ settled code.instructions (if is_eager x then bound else touched) (push (map future (numbers first count)) (without_first 1 t.stack))
      → ActsMaking code names limits p r old t new u made
  qlet_spawned made first count b m k d g f z =
      makes_at code names limits p r old new t u (qlet starts touched bound) at h (spawned (is_eager x) (numbers first count)) made
      (λ threads l. qlet_row threads
      ∙ ap (λ ts. Some (mode_row M names limits p (process_of_person r t) (W threads) x ts)) (sym m)
      ∙ ap (λ v. Some (mode_row_by threads made v)) b
      ∙ ap (λ v. Some (mode_row_with threads made v)) (procs_allowed threads made l ∙ le-leb (length old.tree.persons + length made) old.tree.limit k)
      ∙ ap (λ fs. Some (goes M names limits p (process_of_person r t) (with_children (W threads) p (or_home (innermost_on t.stack) r.home) made) (spawned (is_eager x) fs)))
      (ap (λ i. numbers i (length made)) (sym d) ∙ ap (numbers first) (sym g))
      ∙ ap (λ w. Some (with_thread w p (M.go t (spawned (is_eager x) (numbers first count))))) (sym (f threads l)))
      (calm_go code.instructions (spawned (is_eager x) (numbers first count)) t.place t.stack x (mode_go code.instructions touched bound (spawned (is_eager x) (numbers first count)) t.place) e n ∙ sym z)
