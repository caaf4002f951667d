-- Worked programs: what each means along its schedule, that one worker takes that schedule, and that the journal spells it.
use Rattle.std.specs.Prelude.{◌≡◌, ℕ, List, [], ◌∷◌, true, take, Option, Some, option_map}
use Rattle.std.proofs.Common.{refl}
use Rattle.std.specs.Fmt.{digits}
use Rattle.ql_world.specs.Event.{turns}
use Rattle.ql_world.specs.Run.{Story, run, ready_ones, is_planned}
use Rattle.ql_meaning.specs.Context.{context_of}
use Rattle.ql_meaning.specs.Control.{core_machine}
use Rattle.ql_meaning.specs.Meaning.{program_told, program_world}
use Rattle.ql_meaning.specs.Worked.{Worked, IsTold, sum_printed, nothing_at_all, quoted_list, overflow, even_odd, closures_share, small_fib, eager_throw, eager_throw_new, siblings, grandchildren, exit_kills, killed_cleanup, outer_throw, queued_calls, deadlock, dead_closure, eager_closure, budget_spent, one_cell, no_cells, product, throw_in_cleanup, catch_in_cleanup, send_in_cleanup, idle_in_cleanup, eager_deadlock, child_text, box_kept, qlet_in_cleanup, qcatch_waits, calls_served, call_of_itself, all_made, one_cell_met, call_in_cleanup, catches_in_killed, cleaning_goes_on, home_kept, closure_shared, eager_in_cleanup, eager_nested, caught_in_call, eager_in_order}

abbrev told_of : Worked → Option Story
told_of w = program_told w.names w.program w.limits w.schedule

abbrev IsMeant : Worked → Type 0
IsMeant w = IsTold w (told_of w)

abbrev IsPlanned : Worked → Type 0
IsPlanned w = is_planned (core_machine (context_of w.program)) w.names w.limits (program_world w.program) w.schedule ≡ true

-- who can step after the first ticks of the schedule
abbrev can_step_after : ℕ → Worked → Option (List ℕ)
can_step_after n w =
    option_map (ready_ones (core_machine (context_of w.program)) w.names w.limits)
    (run (core_machine (context_of w.program)) w.names w.limits (program_world w.program) (take n w.schedule))

abbrev IsSpelled : Worked → Type 0
IsSpelled w = option_map (λ (s : Story). turns s.journal.events) (told_of w) ≡ Some w.schedule

sum_printed_meant : IsMeant sum_printed
unfolding digits
sum_printed_meant = refl

sum_printed_planned : IsPlanned sum_printed
unfolding digits
sum_printed_planned = refl

sum_printed_spelled : IsSpelled sum_printed
unfolding digits
sum_printed_spelled = refl

nothing_at_all_meant : IsMeant nothing_at_all
unfolding digits
nothing_at_all_meant = refl

nothing_at_all_planned : IsPlanned nothing_at_all
unfolding digits
nothing_at_all_planned = refl

nothing_at_all_spelled : IsSpelled nothing_at_all
unfolding digits
nothing_at_all_spelled = refl

quoted_list_meant : IsMeant quoted_list
unfolding digits
quoted_list_meant = refl

quoted_list_planned : IsPlanned quoted_list
unfolding digits
quoted_list_planned = refl

quoted_list_spelled : IsSpelled quoted_list
unfolding digits
quoted_list_spelled = refl

overflow_meant : IsMeant overflow
unfolding digits
overflow_meant = refl

overflow_planned : IsPlanned overflow
unfolding digits
overflow_planned = refl

overflow_spelled : IsSpelled overflow
unfolding digits
overflow_spelled = refl

even_odd_meant : IsMeant even_odd
unfolding digits
even_odd_meant = refl

even_odd_planned : IsPlanned even_odd
unfolding digits
even_odd_planned = refl

even_odd_spelled : IsSpelled even_odd
unfolding digits
even_odd_spelled = refl

closures_share_meant : IsMeant closures_share
unfolding digits
closures_share_meant = refl

closures_share_planned : IsPlanned closures_share
unfolding digits
closures_share_planned = refl

closures_share_spelled : IsSpelled closures_share
unfolding digits
closures_share_spelled = refl

small_fib_meant : IsMeant small_fib
unfolding digits
small_fib_meant = refl

small_fib_planned : IsPlanned small_fib
unfolding digits
small_fib_planned = refl

small_fib_spelled : IsSpelled small_fib
unfolding digits
small_fib_spelled = refl

eager_throw_meant : IsMeant eager_throw
unfolding digits
eager_throw_meant = refl

eager_throw_planned : IsPlanned eager_throw
unfolding digits
eager_throw_planned = refl

eager_throw_spelled : IsSpelled eager_throw
unfolding digits
eager_throw_spelled = refl

eager_throw_new_meant : IsMeant eager_throw_new
unfolding digits
eager_throw_new_meant = refl

eager_throw_new_planned : IsPlanned eager_throw_new
unfolding digits
eager_throw_new_planned = refl

eager_throw_new_spelled : IsSpelled eager_throw_new
unfolding digits
eager_throw_new_spelled = refl

siblings_meant : IsMeant siblings
unfolding digits
siblings_meant = refl

siblings_planned : IsPlanned siblings
unfolding digits
siblings_planned = refl

siblings_spelled : IsSpelled siblings
unfolding digits
siblings_spelled = refl

grandchildren_meant : IsMeant grandchildren
unfolding digits
grandchildren_meant = refl

grandchildren_planned : IsPlanned grandchildren
unfolding digits
grandchildren_planned = refl

grandchildren_spelled : IsSpelled grandchildren
unfolding digits
grandchildren_spelled = refl

exit_kills_meant : IsMeant exit_kills
unfolding digits
exit_kills_meant = refl

exit_kills_planned : IsPlanned exit_kills
unfolding digits
exit_kills_planned = refl

exit_kills_spelled : IsSpelled exit_kills
unfolding digits
exit_kills_spelled = refl

killed_cleanup_meant : IsMeant killed_cleanup
unfolding digits
killed_cleanup_meant = refl

killed_cleanup_planned : IsPlanned killed_cleanup
unfolding digits
killed_cleanup_planned = refl

killed_cleanup_spelled : IsSpelled killed_cleanup
unfolding digits
killed_cleanup_spelled = refl

outer_throw_meant : IsMeant outer_throw
unfolding digits
outer_throw_meant = refl

outer_throw_planned : IsPlanned outer_throw
unfolding digits
outer_throw_planned = refl

outer_throw_spelled : IsSpelled outer_throw
unfolding digits
outer_throw_spelled = refl

queued_calls_meant : IsMeant queued_calls
unfolding digits
queued_calls_meant = refl

queued_calls_planned : IsPlanned queued_calls
unfolding digits
queued_calls_planned = refl

queued_calls_spelled : IsSpelled queued_calls
unfolding digits
queued_calls_spelled = refl

deadlock_meant : IsMeant deadlock
unfolding digits
deadlock_meant = refl

deadlock_planned : IsPlanned deadlock
unfolding digits
deadlock_planned = refl

deadlock_spelled : IsSpelled deadlock
unfolding digits
deadlock_spelled = refl

dead_closure_meant : IsMeant dead_closure
unfolding digits
dead_closure_meant = refl

dead_closure_planned : IsPlanned dead_closure
unfolding digits
dead_closure_planned = refl

dead_closure_spelled : IsSpelled dead_closure
unfolding digits
dead_closure_spelled = refl

eager_closure_meant : IsMeant eager_closure
unfolding digits
eager_closure_meant = refl

eager_closure_planned : IsPlanned eager_closure
unfolding digits
eager_closure_planned = refl

eager_closure_spelled : IsSpelled eager_closure
unfolding digits
eager_closure_spelled = refl

budget_spent_meant : IsMeant budget_spent
unfolding digits
budget_spent_meant = refl

budget_spent_planned : IsPlanned budget_spent
unfolding digits
budget_spent_planned = refl

budget_spent_spelled : IsSpelled budget_spent
unfolding digits
budget_spent_spelled = refl

one_cell_meant : IsMeant one_cell
unfolding digits
one_cell_meant = refl

one_cell_planned : IsPlanned one_cell
unfolding digits
one_cell_planned = refl

one_cell_spelled : IsSpelled one_cell
unfolding digits
one_cell_spelled = refl

no_cells_meant : IsMeant no_cells
unfolding digits
no_cells_meant = refl

no_cells_planned : IsPlanned no_cells
unfolding digits
no_cells_planned = refl

no_cells_spelled : IsSpelled no_cells
unfolding digits
no_cells_spelled = refl

product_meant : IsMeant product
unfolding digits
product_meant = refl

product_planned : IsPlanned product
unfolding digits
product_planned = refl

product_spelled : IsSpelled product
unfolding digits
product_spelled = refl

throw_in_cleanup_meant : IsMeant throw_in_cleanup
unfolding digits
throw_in_cleanup_meant = refl

throw_in_cleanup_planned : IsPlanned throw_in_cleanup
unfolding digits
throw_in_cleanup_planned = refl

throw_in_cleanup_spelled : IsSpelled throw_in_cleanup
unfolding digits
throw_in_cleanup_spelled = refl

catch_in_cleanup_meant : IsMeant catch_in_cleanup
unfolding digits
catch_in_cleanup_meant = refl

catch_in_cleanup_planned : IsPlanned catch_in_cleanup
unfolding digits
catch_in_cleanup_planned = refl

catch_in_cleanup_spelled : IsSpelled catch_in_cleanup
unfolding digits
catch_in_cleanup_spelled = refl

send_in_cleanup_meant : IsMeant send_in_cleanup
unfolding digits
send_in_cleanup_meant = refl

send_in_cleanup_planned : IsPlanned send_in_cleanup
unfolding digits
send_in_cleanup_planned = refl

send_in_cleanup_spelled : IsSpelled send_in_cleanup
unfolding digits
send_in_cleanup_spelled = refl

idle_in_cleanup_meant : IsMeant idle_in_cleanup
unfolding digits
idle_in_cleanup_meant = refl

idle_in_cleanup_planned : IsPlanned idle_in_cleanup
unfolding digits
idle_in_cleanup_planned = refl

idle_in_cleanup_spelled : IsSpelled idle_in_cleanup
unfolding digits
idle_in_cleanup_spelled = refl

eager_deadlock_meant : IsMeant eager_deadlock
unfolding digits
eager_deadlock_meant = refl

eager_deadlock_planned : IsPlanned eager_deadlock
unfolding digits
eager_deadlock_planned = refl

eager_deadlock_spelled : IsSpelled eager_deadlock
unfolding digits
eager_deadlock_spelled = refl

child_text_meant : IsMeant child_text
unfolding digits
child_text_meant = refl

child_text_planned : IsPlanned child_text
unfolding digits
child_text_planned = refl

child_text_spelled : IsSpelled child_text
unfolding digits
child_text_spelled = refl

box_kept_meant : IsMeant box_kept
unfolding digits
box_kept_meant = refl

box_kept_planned : IsPlanned box_kept
unfolding digits
box_kept_planned = refl

box_kept_spelled : IsSpelled box_kept
unfolding digits
box_kept_spelled = refl

qlet_in_cleanup_meant : IsMeant qlet_in_cleanup
unfolding digits
qlet_in_cleanup_meant = refl

qlet_in_cleanup_planned : IsPlanned qlet_in_cleanup
unfolding digits
qlet_in_cleanup_planned = refl

qlet_in_cleanup_spelled : IsSpelled qlet_in_cleanup
unfolding digits
qlet_in_cleanup_spelled = refl

qcatch_waits_meant : IsMeant qcatch_waits
unfolding digits
qcatch_waits_meant = refl

qcatch_waits_planned : IsPlanned qcatch_waits
unfolding digits
qcatch_waits_planned = refl

qcatch_waits_spelled : IsSpelled qcatch_waits
unfolding digits
qcatch_waits_spelled = refl

calls_served_meant : IsMeant calls_served
unfolding digits
calls_served_meant = refl

calls_served_planned : IsPlanned calls_served
unfolding digits
calls_served_planned = refl

calls_served_spelled : IsSpelled calls_served
unfolding digits
calls_served_spelled = refl

call_of_itself_meant : IsMeant call_of_itself
unfolding digits
call_of_itself_meant = refl

call_of_itself_planned : IsPlanned call_of_itself
unfolding digits
call_of_itself_planned = refl

call_of_itself_spelled : IsSpelled call_of_itself
unfolding digits
call_of_itself_spelled = refl

all_made_meant : IsMeant all_made
unfolding digits
all_made_meant = refl

all_made_planned : IsPlanned all_made
unfolding digits
all_made_planned = refl

all_made_spelled : IsSpelled all_made
unfolding digits
all_made_spelled = refl

one_cell_met_meant : IsMeant one_cell_met
unfolding digits
one_cell_met_meant = refl

one_cell_met_planned : IsPlanned one_cell_met
unfolding digits
one_cell_met_planned = refl

one_cell_met_spelled : IsSpelled one_cell_met
unfolding digits
one_cell_met_spelled = refl

call_in_cleanup_meant : IsMeant call_in_cleanup
unfolding digits
call_in_cleanup_meant = refl

call_in_cleanup_planned : IsPlanned call_in_cleanup
unfolding digits
call_in_cleanup_planned = refl

call_in_cleanup_spelled : IsSpelled call_in_cleanup
unfolding digits
call_in_cleanup_spelled = refl

catches_in_killed_meant : IsMeant catches_in_killed
unfolding digits
catches_in_killed_meant = refl

catches_in_killed_planned : IsPlanned catches_in_killed
unfolding digits
catches_in_killed_planned = refl

catches_in_killed_spelled : IsSpelled catches_in_killed
unfolding digits
catches_in_killed_spelled = refl

cleaning_goes_on_meant : IsMeant cleaning_goes_on
unfolding digits
cleaning_goes_on_meant = refl

cleaning_goes_on_planned : IsPlanned cleaning_goes_on
unfolding digits
cleaning_goes_on_planned = refl

cleaning_goes_on_spelled : IsSpelled cleaning_goes_on
unfolding digits
cleaning_goes_on_spelled = refl

home_kept_meant : IsMeant home_kept
unfolding digits
home_kept_meant = refl

home_kept_planned : IsPlanned home_kept
unfolding digits
home_kept_planned = refl

home_kept_spelled : IsSpelled home_kept
unfolding digits
home_kept_spelled = refl

closure_shared_meant : IsMeant closure_shared
unfolding digits
closure_shared_meant = refl

closure_shared_planned : IsPlanned closure_shared
unfolding digits
closure_shared_planned = refl

closure_shared_spelled : IsSpelled closure_shared
unfolding digits
closure_shared_spelled = refl

eager_in_cleanup_meant : IsMeant eager_in_cleanup
unfolding digits
eager_in_cleanup_meant = refl

eager_in_cleanup_planned : IsPlanned eager_in_cleanup
unfolding digits
eager_in_cleanup_planned = refl

eager_in_cleanup_spelled : IsSpelled eager_in_cleanup
unfolding digits
eager_in_cleanup_spelled = refl

eager_nested_meant : IsMeant eager_nested
unfolding digits
eager_nested_meant = refl

eager_nested_planned : IsPlanned eager_nested
unfolding digits
eager_nested_planned = refl

eager_nested_spelled : IsSpelled eager_nested
unfolding digits
eager_nested_spelled = refl

caught_in_call_meant : IsMeant caught_in_call
unfolding digits
caught_in_call_meant = refl

caught_in_call_planned : IsPlanned caught_in_call
unfolding digits
caught_in_call_planned = refl

caught_in_call_spelled : IsSpelled caught_in_call
unfolding digits
caught_in_call_spelled = refl

eager_in_order_meant : IsMeant eager_in_order
unfolding digits
eager_in_order_meant = refl

eager_in_order_planned : IsPlanned eager_in_order
unfolding digits
eager_in_order_planned = refl

eager_in_order_spelled : IsSpelled eager_in_order
unfolding digits
eager_in_order_spelled = refl

-- the `qcatch` has its value, and is not left while calls are queued
queued_calls_waits : can_step_after 17 queued_calls ≡ Some (2 ∷ [])
unfolding digits
queued_calls_waits = refl

-- process 3 has thrown to the `qcatch`, which is not left before the killed have cleaned up and ended
qcatch_waits_waits : can_step_after 15 qcatch_waits ≡ Some (2 ∷ 3 ∷ [])
unfolding digits
qcatch_waits_waits = refl

-- the last form has its value, and the program does not end before the child has
eager_throw_waits : can_step_after 5 eager_throw ≡ Some (2 ∷ [])
unfolding digits
eager_throw_waits = refl
