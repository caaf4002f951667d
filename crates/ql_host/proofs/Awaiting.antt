-- The tick that takes the word of a future.
use Rattle.std.proofs.Common.{◌≡◌, ℕ, Bool, true, false, not, ◌&&◌, List, Some, sym, ap, ◌∙◌}
use Rattle.std.specs.Prelude.{drop as without_first}
use Rattle.ql_base.specs.declared.fault.RunFault.TheVariants.{DeadFuture}
use Rattle.ql_base.specs.declared.limits.Limits.{Limits}
use Rattle.ql_world.specs.declared.word.Word.{Word}
use Rattle.ql_world.specs.Word.{with_value}
use Rattle.ql_world.specs.declared.event.Stop.TheVariants.{Fault as fault}
use Rattle.ql_world.specs.declared.world.FutState.{FutState as Future}
use Rattle.ql_world.specs.declared.world.FutState.TheVariants.{Pending as pending, Value as valued, Dead as dead}
use Rattle.ql_world.specs.World.{or_pending, numbered, counted, marked}
use Rattle.ql_world.specs.Machine.{Want, got}
use Rattle.ql_world.specs.Idle.{is_pending}
use Rattle.ql_world.specs.Tick.{is_ready, row, await_row}
use Rattle.ql_tree.specs.declared.person.Person.{Person}
use Rattle.ql_tree.specs.Persons.{process_of_person}
use Rattle.ql_code.specs.declared.code.Op.{Op}
use Rattle.ql_code.specs.Code.{Code}
use Rattle.ql_code.specs.Machine.{Point, words, push, op_want, settled, code_machine}
use Rattle.ql_host.specs.declared.shared.Shared.{Shared}
use Rattle.ql_host.specs.Awaited.{awaited, awaited_among}
use Rattle.ql_host.specs.World.{world_of, Acts, IsAt}
use Rattle.ql_host.proofs.Awaits.{op_awaits, op_replaced}
use Rattle.ql_host.proofs.RowTicks.{want_at, quiet_at, stops_at}

never_both : (b : Bool) → (b && false) ≡ true → ⊥
never_both true e = absurd cc
never_both false e = absurd cc

module _ (code : Code) (names : List (List ℕ)) (limits : Limits) (p : ℕ) (r : Person) (old : Shared) (t : Point) (op : Op) (f at : ℕ)
    (h : IsAt code names limits p old r t op at) (waits : awaited op t.stack ≡ Some f)
  where
    await_row_of : (x : Future) → x ≡ or_pending (numbered old.futures.states f) → (threads : List Point)
        → row (code_machine code.instructions) names limits p (process_of_person r t) (counted (world_of old threads) p) (op_want op at t.stack)
        ≡ await_row (code_machine code.instructions) names limits p (process_of_person r t) (counted (world_of old threads) p) x at
    await_row_of x e threads =
        ap (λ (w : Want). row (code_machine code.instructions) names limits p (process_of_person r t) (counted (world_of old threads) p) w) (op_awaits op t.stack f at h.operands waits)
        ∙ ap (λ (y : Future). await_row (code_machine code.instructions) names limits p (process_of_person r t) (counted (world_of old threads) p) y at) (sym e)

    pub word_taken : (new : Shared) (u : Point) (v : Word) → valued v ≡ or_pending (numbered old.futures.states f)
        → ((threads : List Point) → world_of new threads ≡ counted (world_of old threads) p)
        → u ≡ settled code.instructions t.place (push (with_value v (words (awaited_among op) t.stack)) (without_first (awaited_among op) t.stack))
        → Acts code names limits p r old t new u
    word_taken new u v e g z =
        quiet_at code names limits p r old new t u op at h (got v)
        (λ threads c. await_row_of (valued v) e threads)
        g (op_replaced code.instructions op v t.place t.stack f waits ∙ sym z)

    pub word_dead : (new : Shared) → dead ≡ or_pending (numbered old.futures.states f)
        → ((threads : List Point) → world_of new threads ≡ marked (counted (world_of old threads) p) (fault DeadFuture p at))
        → Acts code names limits p r old t new t
    word_dead new e g = stops_at code names limits p r old new t op at h (fault DeadFuture p at) (await_row_of dead e) g

    -- while it is pending nothing is taken
    pub word_pending : (new : Shared) (u : Point) → pending ≡ or_pending (numbered old.futures.states f) → Acts code names limits p r old t new u
    word_pending new u e threads i a b d c =
        absurd (never_both (not r.ended)
        (sym (ap (λ (w : Want). not r.ended && is_ready (code_machine code.instructions) names limits p (process_of_person r t) (world_of old threads) w)
        (want_at code names limits p t op at h.runs h.here ∙ op_awaits op t.stack f at h.operands waits)
        ∙ ap (λ (x : Future). not r.ended && not (is_pending x)) (sym e)) ∙ c))
