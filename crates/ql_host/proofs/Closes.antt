-- The tick that makes a closure.
use Rattle.std.proofs.Common.{◌≡◌, ℕ, ◌+◌, Bool, true, false, List, [], ◌∷◌, ◌++◌, length, Option, Some, sym, ap, ◌∙◌}
use Rattle.std.specs.Prelude.{leb, if◌then◌else◌}
use Rattle.ql_base.specs.declared.limits.Limits.{Limits}
use Rattle.ql_base.specs.declared.limits.LimitKind.TheVariants.{Cells}
use Rattle.ql_world.specs.declared.word.Word.TheVariants.{Fun as closure}
use Rattle.ql_world.specs.declared.world.Closure.{Closure}
use Rattle.ql_world.specs.declared.event.Stop.TheVariants.{Limit as limit}
use Rattle.ql_world.specs.World.{counted, marked, with_thread}
use Rattle.ql_world.specs.Machine.{got}
use Rattle.ql_world.specs.Tick.{goes, row, close_row}
use Rattle.ql_cells.specs.Cells.{allows}
use Rattle.ql_tree.specs.declared.person.Person.{Person}
use Rattle.ql_tree.specs.Persons.{process_of_person}
use Rattle.ql_code.specs.declared.code.Op.TheVariants.{Close as close}
use Rattle.ql_code.specs.declared.mark.State.{State}
use Rattle.ql_code.specs.Code.{Instruction, Code}
use Rattle.ql_code.specs.Machine.{Point, word, frame_of, slots_at, next_of, entry_by, op_want, settled, code_machine}
use Rattle.ql_host.specs.declared.shared.Shared.{Shared}
use Rattle.ql_host.specs.World.{world_of, Acts, IsAt}
use Rattle.ql_host.proofs.RowTicks.{acts_at, stops_at}

module _ (code : Code) (names : List (List ℕ)) (limits : Limits) (p : ℕ) (r : Person) (old : Shared) (t : Point) (n mask : ℕ) (is : List ℕ) (l at : ℕ) (k : Closure)
    (h : IsAt code names limits p old r t (close n mask is l) at)
    (made : k ≡ record { place = t.place + 1; count = n; mask = mask; captured = slots_at (frame_of t.stack) is })
  where
    its_closure : (code_machine code.instructions).closure t ≡ Some k
    its_closure =
        ap (λ (s : State). entry_by code.instructions (next_of code.instructions s t.place) t.place t.stack) h.runs
        ∙ ap (λ (o : Option Instruction). entry_by code.instructions o t.place t.stack) h.here
        ∙ ap Some (sym made)

    close_test : (b : Bool) → allows old.cells 1 ≡ b → (threads : List Point)
        → row (code_machine code.instructions) names limits p (process_of_person r t) (counted (world_of old threads) p) (op_want (close n mask is l) at t.stack)
        ≡ (if b then Some (goes (code_machine code.instructions) names limits p (process_of_person r t) (record (counted (world_of old threads) p) { closures = old.cells.closures ++ k ∷ []; cells = old.cells.made + 1 }) (got (closure (length old.cells.closures + 1)))) else Some (marked (counted (world_of old threads) p) (limit Cells)))
    close_test b e threads =
        ap (λ (o : Option Closure). close_row (code_machine code.instructions) names limits p (process_of_person r t) (counted (world_of old threads) p) o) its_closure
        ∙ ap (λ (b : Bool). if b then Some (goes (code_machine code.instructions) names limits p (process_of_person r t) (record (counted (world_of old threads) p) { closures = old.cells.closures ++ k ∷ []; cells = old.cells.made + 1 }) (got (closure (length old.cells.closures + 1)))) else Some (marked (counted (world_of old threads) p) (limit Cells)))
        (ap (leb (old.cells.made + 1)) (sym h.fit.cells) ∙ e)

    pub closure_made : (new : Shared) (u : Point) → allows old.cells 1 ≡ true
        → ((threads : List Point) → world_of new threads ≡ record (counted (world_of old threads) p) { closures = old.cells.closures ++ k ∷ []; cells = old.cells.made + 1 })
        → u ≡ settled code.instructions l (word (closure (length old.cells.closures + 1)) ∷ t.stack)
        → Acts code names limits p r old t new u
    closure_made new u e f z =
        acts_at code names limits p r old new t u (close n mask is l) at h (got (closure (length old.cells.closures + 1)))
        (λ threads c.
        close_test true e threads
        ∙ ap (λ x. Some (with_thread x p ((code_machine code.instructions).go t (got (closure (length old.cells.closures + 1)))))) (sym (f threads)))
        (sym z)

    pub closure_refused : (new : Shared) → allows old.cells 1 ≡ false
        → ((threads : List Point) → world_of new threads ≡ marked (counted (world_of old threads) p) (limit Cells))
        → Acts code names limits p r old t new t
    closure_refused new e f = stops_at code names limits p r old new t (close n mask is l) at h (limit Cells) (λ threads. close_test false e threads) f
