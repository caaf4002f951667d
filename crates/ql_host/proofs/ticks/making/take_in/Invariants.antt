use Rattle.std.proofs.Common.{◌≡◌, ◌≤◌, ◌+◌, ◌++◌, length, vec_capacity, vec_len}
use Rattle.ql_host.proofs.ticks.making.take_in.Given as goal

abbrev pub invariant-moves : goal.invariant-moves
invariant-moves l =
    (l.procs.items ++ l.proc-iterator.rest.items ≡ l.fn.procs.items ++ l.fn.made.items)
    × (vec_len l.procs + length l.proc-iterator.rest.items ≤ vec_capacity l.procs)
