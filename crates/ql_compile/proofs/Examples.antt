-- Worked programs: the code of each tells what the program means. Listings. And programs that can't be compiled.
use Rattle.std.proofs.Common.{◌≡◌, ◌∙◌, [], ◌∷◌, Bool, refl, sym}
use Rattle.std.specs.Prelude.{pos, true, false, codes}
use Rattle.std.specs.Fmt.{digits}
use Rattle.ql_base.specs.Names.{reserved}
use Rattle.ql_forms.specs.Form as form
use Rattle.ql_forms.specs.Form.{atom}
use Rattle.ql_expand.specs.Core.{named, binder, core, constant, variable, setq, primitive, print, call, qlet, no_cores, and_core, no_bounds, and_bound, function, Program, program}
use Rattle.ql_meaning.specs.Worked.{Worked, IsTold, sum_printed, nothing_at_all, quoted_list, overflow, even_odd, closures_share, small_fib, eager_throw, eager_throw_new, siblings, grandchildren, exit_kills, killed_cleanup, outer_throw, queued_calls, deadlock, dead_closure, eager_closure, budget_spent, one_cell, no_cells, product, throw_in_cleanup, catch_in_cleanup, send_in_cleanup, idle_in_cleanup, eager_deadlock, child_text, box_kept, qlet_in_cleanup, qcatch_waits, calls_served, call_of_itself, all_made, one_cell_met, call_in_cleanup, catches_in_killed, cleaning_goes_on, home_kept, closure_shared, eager_in_cleanup, eager_nested, caught_in_call, eager_in_order}
use Rattle.ql_code.specs.Machine.{code_told}
use Rattle.ql_code.specs.Listing.{listing}
use Rattle.ql_compile.specs.Compile.{compiled}
use Rattle.ql_scope.specs.Compilable as scope
use Rattle.ql_compile.proofs.Allowed.{can_be_compiled}
use Rattle.ql_compile.proofs.Compilable.{is_compilable}

abbrev IsCompilable : Worked → Type 0
IsCompilable w = is_compilable w.program ≡ true

abbrev IsCoded : Worked → Type 0
IsCoded w = IsTold w (code_told w.names (compiled w.program) w.limits w.schedule)

sum_printed_compilable : IsCompilable sum_printed
sum_printed_compilable = refl

sum_printed_coded : IsCoded sum_printed
unfolding digits
sum_printed_coded = refl

nothing_at_all_compilable : IsCompilable nothing_at_all
nothing_at_all_compilable = refl

nothing_at_all_coded : IsCoded nothing_at_all
unfolding digits
nothing_at_all_coded = refl

quoted_list_compilable : IsCompilable quoted_list
quoted_list_compilable = refl

quoted_list_coded : IsCoded quoted_list
unfolding digits
quoted_list_coded = refl

overflow_compilable : IsCompilable overflow
overflow_compilable = refl

overflow_coded : IsCoded overflow
unfolding digits
overflow_coded = refl

even_odd_compilable : IsCompilable even_odd
even_odd_compilable = refl

even_odd_coded : IsCoded even_odd
unfolding digits
even_odd_coded = refl

closures_share_compilable : IsCompilable closures_share
closures_share_compilable = refl

closures_share_coded : IsCoded closures_share
unfolding digits
closures_share_coded = refl

small_fib_compilable : IsCompilable small_fib
small_fib_compilable = refl

small_fib_coded : IsCoded small_fib
unfolding digits
small_fib_coded = refl

eager_throw_compilable : IsCompilable eager_throw
eager_throw_compilable = refl

eager_throw_coded : IsCoded eager_throw
unfolding digits
eager_throw_coded = refl

eager_throw_new_compilable : IsCompilable eager_throw_new
eager_throw_new_compilable = refl

eager_throw_new_coded : IsCoded eager_throw_new
unfolding digits
eager_throw_new_coded = refl

siblings_compilable : IsCompilable siblings
siblings_compilable = refl

siblings_coded : IsCoded siblings
unfolding digits
siblings_coded = refl

grandchildren_compilable : IsCompilable grandchildren
grandchildren_compilable = refl

grandchildren_coded : IsCoded grandchildren
unfolding digits
grandchildren_coded = refl

exit_kills_compilable : IsCompilable exit_kills
exit_kills_compilable = refl

exit_kills_coded : IsCoded exit_kills
unfolding digits
exit_kills_coded = refl

killed_cleanup_compilable : IsCompilable killed_cleanup
killed_cleanup_compilable = refl

killed_cleanup_coded : IsCoded killed_cleanup
unfolding digits
killed_cleanup_coded = refl

outer_throw_compilable : IsCompilable outer_throw
outer_throw_compilable = refl

outer_throw_coded : IsCoded outer_throw
unfolding digits
outer_throw_coded = refl

queued_calls_compilable : IsCompilable queued_calls
queued_calls_compilable = refl

queued_calls_coded : IsCoded queued_calls
unfolding digits
queued_calls_coded = refl

deadlock_compilable : IsCompilable deadlock
deadlock_compilable = refl

deadlock_coded : IsCoded deadlock
unfolding digits
deadlock_coded = refl

dead_closure_compilable : IsCompilable dead_closure
dead_closure_compilable = refl

dead_closure_coded : IsCoded dead_closure
unfolding digits
dead_closure_coded = refl

eager_closure_compilable : IsCompilable eager_closure
eager_closure_compilable = refl

eager_closure_coded : IsCoded eager_closure
unfolding digits
eager_closure_coded = refl

budget_spent_compilable : IsCompilable budget_spent
budget_spent_compilable = refl

budget_spent_coded : IsCoded budget_spent
unfolding digits
budget_spent_coded = refl

one_cell_compilable : IsCompilable one_cell
one_cell_compilable = refl

one_cell_coded : IsCoded one_cell
unfolding digits
one_cell_coded = refl

no_cells_compilable : IsCompilable no_cells
no_cells_compilable = refl

no_cells_coded : IsCoded no_cells
unfolding digits
no_cells_coded = refl

product_compilable : IsCompilable product
product_compilable = refl

product_coded : IsCoded product
unfolding digits
product_coded = refl

throw_in_cleanup_compilable : IsCompilable throw_in_cleanup
throw_in_cleanup_compilable = refl

throw_in_cleanup_coded : IsCoded throw_in_cleanup
unfolding digits
throw_in_cleanup_coded = refl

catch_in_cleanup_compilable : IsCompilable catch_in_cleanup
catch_in_cleanup_compilable = refl

catch_in_cleanup_coded : IsCoded catch_in_cleanup
unfolding digits
catch_in_cleanup_coded = refl

send_in_cleanup_compilable : IsCompilable send_in_cleanup
send_in_cleanup_compilable = refl

send_in_cleanup_coded : IsCoded send_in_cleanup
unfolding digits
send_in_cleanup_coded = refl

idle_in_cleanup_compilable : IsCompilable idle_in_cleanup
idle_in_cleanup_compilable = refl

idle_in_cleanup_coded : IsCoded idle_in_cleanup
unfolding digits
idle_in_cleanup_coded = refl

eager_deadlock_compilable : IsCompilable eager_deadlock
eager_deadlock_compilable = refl

eager_deadlock_coded : IsCoded eager_deadlock
unfolding digits
eager_deadlock_coded = refl

child_text_compilable : IsCompilable child_text
child_text_compilable = refl

child_text_coded : IsCoded child_text
unfolding digits
child_text_coded = refl

box_kept_compilable : IsCompilable box_kept
box_kept_compilable = refl

box_kept_coded : IsCoded box_kept
unfolding digits
box_kept_coded = refl

qlet_in_cleanup_compilable : IsCompilable qlet_in_cleanup
qlet_in_cleanup_compilable = refl

qlet_in_cleanup_coded : IsCoded qlet_in_cleanup
unfolding digits
qlet_in_cleanup_coded = refl

qcatch_waits_compilable : IsCompilable qcatch_waits
qcatch_waits_compilable = refl

qcatch_waits_coded : IsCoded qcatch_waits
unfolding digits
qcatch_waits_coded = refl

calls_served_compilable : IsCompilable calls_served
calls_served_compilable = refl

calls_served_coded : IsCoded calls_served
unfolding digits
calls_served_coded = refl

call_of_itself_compilable : IsCompilable call_of_itself
call_of_itself_compilable = refl

call_of_itself_coded : IsCoded call_of_itself
unfolding digits
call_of_itself_coded = refl

all_made_compilable : IsCompilable all_made
all_made_compilable = refl

all_made_coded : IsCoded all_made
unfolding digits
all_made_coded = refl

one_cell_met_compilable : IsCompilable one_cell_met
one_cell_met_compilable = refl

one_cell_met_coded : IsCoded one_cell_met
unfolding digits
one_cell_met_coded = refl

call_in_cleanup_compilable : IsCompilable call_in_cleanup
call_in_cleanup_compilable = refl

call_in_cleanup_coded : IsCoded call_in_cleanup
unfolding digits
call_in_cleanup_coded = refl

catches_in_killed_compilable : IsCompilable catches_in_killed
catches_in_killed_compilable = refl

catches_in_killed_coded : IsCoded catches_in_killed
unfolding digits
catches_in_killed_coded = refl

cleaning_goes_on_compilable : IsCompilable cleaning_goes_on
cleaning_goes_on_compilable = refl

cleaning_goes_on_coded : IsCoded cleaning_goes_on
unfolding digits
cleaning_goes_on_coded = refl

home_kept_compilable : IsCompilable home_kept
home_kept_compilable = refl

home_kept_coded : IsCoded home_kept
unfolding digits
home_kept_coded = refl

closure_shared_compilable : IsCompilable closure_shared
closure_shared_compilable = refl

closure_shared_coded : IsCoded closure_shared
unfolding digits
closure_shared_coded = refl

eager_in_cleanup_compilable : IsCompilable eager_in_cleanup
eager_in_cleanup_compilable = refl

eager_in_cleanup_coded : IsCoded eager_in_cleanup
unfolding digits
eager_in_cleanup_coded = refl

eager_nested_compilable : IsCompilable eager_nested
eager_nested_compilable = refl

eager_nested_coded : IsCoded eager_nested
unfolding digits
eager_nested_coded = refl

caught_in_call_compilable : IsCompilable caught_in_call
caught_in_call_compilable = refl

caught_in_call_coded : IsCoded caught_in_call
unfolding digits
caught_in_call_coded = refl

eager_in_order_compilable : IsCompilable eager_in_order
eager_in_order_compilable = refl

eager_in_order_coded : IsCoded eager_in_order
unfolding digits
eager_in_order_coded = refl

-- (print (+ 1 2))
sum_listed : listing reserved (compiled sum_printed.program) ≡ codes "0 lit 1 @10\n1 lit 2 @12\n2 prim + @7\n3 print @0\n4 drop @0\n5 end @0\n"
unfolding digits
sum_listed = refl

-- (qlet t ((a 1)) a)
abbrev one_child : Program
one_child = program [] [] (and_core (core 0 (qlet (core 6 (constant (atom 6 (form.symbol 1)))) (and_bound (binder 10 (named 46)) (core 12 (constant (atom 12 (form.integer (pos 1))))) no_bounds) (core 16 (variable (named 46))))) no_cores)

child_listed : listing reserved (compiled one_child) ≡ codes "0 lit t @6\n1 qlet 1 2 5 6 @0\n2 lit 1 @12\n3 join @12\n4 jump 6 @0\n5 touch 1 @0\n6 bind 1 0 @0\n7 local 0 @16\n8 slide 1 @0\n9 drop @0\n10 end @0\n"
unfolding digits
child_listed = refl

-- What the proofs take apart and refuse, the premise of the laws refuses.
refused : (p : Program) → is_compilable p ≡ false → scope.is_compilable p ≡ false
refused p e = by (scope.is_compilable p) refl
  where
    by : (b : Bool) → scope.is_compilable p ≡ b → b ≡ false
    by true h = let k : true ≡ false = sym (can_be_compiled p h) ∙ e in absurd cc
    by false h = refl

-- (print x)
unbound_refused : scope.is_compilable (program [] [] (and_core (core 0 (print (core 7 (variable (named 37))))) no_cores)) ≡ false
unbound_refused = refused (program [] [] (and_core (core 0 (print (core 7 (variable (named 37))))) no_cores)) refl

-- (setq x 1)
unbound_set_refused : scope.is_compilable (program [] [] (and_core (core 0 (setq (named 37) 6 (core 8 (constant (atom 8 (form.integer (pos 1))))))) no_cores)) ≡ false
unbound_set_refused = refused (program [] [] (and_core (core 0 (setq (named 37) 6 (core 8 (constant (atom 8 (form.integer (pos 1))))))) no_cores)) refl

-- (f)
no_function_refused : scope.is_compilable (program [] [] (and_core (core 0 (call 37 1 no_cores)) no_cores)) ≡ false
no_function_refused = refused (program [] [] (and_core (core 0 (call 37 1 no_cores)) no_cores)) refl

-- (defun f (x) x) (f)
wrong_count_refused : scope.is_compilable (program (function 0 37 7 (binder 10 (named 38) ∷ []) (core 13 (variable (named 38))) ∷ []) [] (and_core (core 16 (call 37 17 no_cores)) no_cores)) ≡ false
wrong_count_refused = refused (program (function 0 37 7 (binder 10 (named 38) ∷ []) (core 13 (variable (named 38))) ∷ []) [] (and_core (core 16 (call 37 17 no_cores)) no_cores)) refl

-- (defun f () (g)), where only the body is wrong
body_refused : scope.is_compilable (program (function 0 37 7 [] (core 13 (call 38 14 no_cores)) ∷ []) [] no_cores) ≡ false
body_refused = refused (program (function 0 37 7 [] (core 13 (call 38 14 no_cores)) ∷ []) [] no_cores) refl

-- (car)
no_operand_refused : scope.is_compilable (program [] [] (and_core (core 0 (primitive 20 no_cores)) no_cores)) ≡ false
no_operand_refused = refused (program [] [] (and_core (core 0 (primitive 20 no_cores)) no_cores)) refl
