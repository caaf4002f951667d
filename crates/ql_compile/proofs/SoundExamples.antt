-- Code that is sound, and code that isn't.
use Rattle.std.proofs.Common.{◌≡◌, true, false, List, [], ◌∷◌, Some, refl, sym, ◌∙◌}
use Rattle.std.specs.Prelude.{pos, map}
use Rattle.ql_world.specs.declared.word.Word.TheVariants.{Int as integer, Sym as symbol}
use Rattle.ql_code.specs.Code.{instruction, Code}
use Rattle.ql_code.specs.declared.code.Op.{Op}
use Rattle.ql_code.specs.declared.code.Op.TheVariants.{Lit as lit, Close as close, Qlet as qlet, BoxGet as box_get, Branch as branch, Jump as jump, Drop as drop, Return as return, Catch as catch, Prim as prim, End as end}
use Rattle.ql_code.specs.Sound.{value, catching, main, body, Sound, IsValid}
use Rattle.ql_compile.specs.Compile.{compiled}
use Rattle.ql_compile.proofs.ProgramIsFine.{code_is_sound}
use Rattle.ql_meaning.specs.Worked.{sum_printed, nothing_at_all, quoted_list, overflow, even_odd, closures_share, small_fib, eager_throw, eager_throw_new, siblings, grandchildren, exit_kills, killed_cleanup, outer_throw, queued_calls, deadlock, dead_closure, eager_closure, budget_spent, one_cell, no_cells, product, throw_in_cleanup, catch_in_cleanup, send_in_cleanup, idle_in_cleanup, eager_deadlock, child_text}

sum_printed_is_sound : Sound (compiled sum_printed.program)
sum_printed_is_sound = code_is_sound sum_printed.program refl refl

nothing_at_all_is_sound : Sound (compiled nothing_at_all.program)
nothing_at_all_is_sound = code_is_sound nothing_at_all.program refl refl

quoted_list_is_sound : Sound (compiled quoted_list.program)
quoted_list_is_sound = code_is_sound quoted_list.program refl refl

overflow_is_sound : Sound (compiled overflow.program)
overflow_is_sound = code_is_sound overflow.program refl refl

even_odd_is_sound : Sound (compiled even_odd.program)
even_odd_is_sound = code_is_sound even_odd.program refl refl

closures_share_is_sound : Sound (compiled closures_share.program)
closures_share_is_sound = code_is_sound closures_share.program refl refl

small_fib_is_sound : Sound (compiled small_fib.program)
small_fib_is_sound = code_is_sound small_fib.program refl refl

eager_throw_is_sound : Sound (compiled eager_throw.program)
eager_throw_is_sound = code_is_sound eager_throw.program refl refl

eager_throw_new_is_sound : Sound (compiled eager_throw_new.program)
eager_throw_new_is_sound = code_is_sound eager_throw_new.program refl refl

siblings_is_sound : Sound (compiled siblings.program)
siblings_is_sound = code_is_sound siblings.program refl refl

grandchildren_is_sound : Sound (compiled grandchildren.program)
grandchildren_is_sound = code_is_sound grandchildren.program refl refl

exit_kills_is_sound : Sound (compiled exit_kills.program)
exit_kills_is_sound = code_is_sound exit_kills.program refl refl

killed_cleanup_is_sound : Sound (compiled killed_cleanup.program)
killed_cleanup_is_sound = code_is_sound killed_cleanup.program refl refl

outer_throw_is_sound : Sound (compiled outer_throw.program)
outer_throw_is_sound = code_is_sound outer_throw.program refl refl

queued_calls_is_sound : Sound (compiled queued_calls.program)
queued_calls_is_sound = code_is_sound queued_calls.program refl refl

deadlock_is_sound : Sound (compiled deadlock.program)
deadlock_is_sound = code_is_sound deadlock.program refl refl

dead_closure_is_sound : Sound (compiled dead_closure.program)
dead_closure_is_sound = code_is_sound dead_closure.program refl refl

eager_closure_is_sound : Sound (compiled eager_closure.program)
eager_closure_is_sound = code_is_sound eager_closure.program refl refl

budget_spent_is_sound : Sound (compiled budget_spent.program)
budget_spent_is_sound = code_is_sound budget_spent.program refl refl

one_cell_is_sound : Sound (compiled one_cell.program)
one_cell_is_sound = code_is_sound one_cell.program refl refl

no_cells_is_sound : Sound (compiled no_cells.program)
no_cells_is_sound = code_is_sound no_cells.program refl refl

product_is_sound : Sound (compiled product.program)
product_is_sound = code_is_sound product.program refl refl

throw_in_cleanup_is_sound : Sound (compiled throw_in_cleanup.program)
throw_in_cleanup_is_sound = code_is_sound throw_in_cleanup.program refl refl

catch_in_cleanup_is_sound : Sound (compiled catch_in_cleanup.program)
catch_in_cleanup_is_sound = code_is_sound catch_in_cleanup.program refl refl

send_in_cleanup_is_sound : Sound (compiled send_in_cleanup.program)
send_in_cleanup_is_sound = code_is_sound send_in_cleanup.program refl refl

idle_in_cleanup_is_sound : Sound (compiled idle_in_cleanup.program)
idle_in_cleanup_is_sound = code_is_sound idle_in_cleanup.program refl refl

eager_deadlock_is_sound : Sound (compiled eager_deadlock.program)
eager_deadlock_is_sound = code_is_sound eager_deadlock.program refl refl

child_text_is_sound : Sound (compiled child_text.program)
child_text_is_sound = code_is_sound child_text.program refl refl

-- code without quoted pairs, functions and globals
abbrev bare : List Op → Code
bare ops = record { instructions = map (λ op. instruction op 0) ops; quoted = []; entries = []; globals = 0 }

-- nothing to drop
drops_nothing : Sound (bare (drop ∷ (end ∷ []))) → ⊥
drops_nothing so = so.kept main 0 [] so.begins

-- an operand is missing
adds_one : Sound (bare (lit (integer (pos 1)) ∷ (prim 29 ∷ (drop ∷ (end ∷ []))))) → ⊥
adds_one so = so.kept main 1 (value ∷ []) (so.kept main 0 [] so.begins).0

-- out of the code
leaves_code : Sound (bare (jump 7 ∷ (end ∷ []))) → ⊥
leaves_code so = so.kept main 7 [] (so.kept main 0 [] so.begins).0

-- round and round without a tick
goes_round : Sound (bare (jump 0 ∷ [])) → ⊥
goes_round so = so.kept main 0 [] so.begins

-- a value where a box is wanted
reads_no_box : Sound (bare (lit (integer (pos 1)) ∷ (box_get 0 ∷ (drop ∷ (drop ∷ (end ∷ [])))))) → ⊥
reads_no_box so = so.kept main 1 (value ∷ []) (so.kept main 0 [] so.begins).0

-- a return where nothing was called
returns_nowhere : Sound (bare (lit (integer (pos 1)) ∷ (return ∷ []))) → ⊥
returns_nowhere so = so.kept main 1 (value ∷ []) (so.kept main 0 [] so.begins).0

-- the end within a catch
ends_caught : Sound (bare (lit (integer (pos 1)) ∷ (catch 2 ∷ (end ∷ [])))) → ⊥
ends_caught so = so.kept main 2 (catching ∷ []) (so.kept main 1 (value ∷ []) (so.kept main 0 [] so.begins).0).0

-- two ways to a place with frames that differ
differs : Sound (bare (lit (integer (pos 1)) ∷ (branch 3 ∷ (lit (integer (pos 1)) ∷ (end ∷ []))))) → ⊥
differs so =
    let a = so.kept main 0 [] so.begins in
    let b = so.kept main 1 (value ∷ []) a.0 in
    let c = so.kept main 2 [] b.1.0 in
    let d : Some [] ≡ Some (value ∷ []) = sym b.0 ∙ c.0 in
    absurd cc

-- a body that begins by dropping its parameter
drops_first : IsValid (bare (close 1 0 ([]) 4 ∷ (drop ∷ (lit (integer (pos 1)) ∷ (return ∷ (drop ∷ (end ∷ []))))))) → ⊥
drops_first v =
    let a = v.sound.kept main 0 [] v.sound.begins in
    let b : false ≡ true = v.strict.heads (body 1) (value ∷ []) a.1.0 in
    absurd cc

-- a child whose own place holds no `join`
joins_not : IsValid (bare (lit (symbol 0) ∷ (qlet (2 ∷ []) 4 4 ∷ (lit (integer (pos 1)) ∷ (jump 4 ∷ (drop ∷ (end ∷ []))))))) → ⊥
joins_not v =
    let a = v.sound.kept main 0 [] v.sound.begins in
    let b = v.sound.kept main 1 (value ∷ []) a.0 in
    let c : false ≡ true = v.strict.joins 2 2 [] b.1.1.1.0 in
    absurd cc
