use Rattle.std.proofs.Common.{◌≡◌, ◌++◌, drop, map}
use Rattle.ql_expand.specs.View.{function_of}
use Rattle.ql_meaning.specs.Context.{data_in_functions}
use Rattle.ql_compile.specs.Quoting.{data_at}
use Rattle.ql_compile.proofs.quotes.put_functions_data.Given as goal

-- the data so far and those of the rest are all
abbrev pub invariant-loop-function : goal.invariant-loop-function
invariant-loop-function l =
    data_at l.found.items ++ data_in_functions (map function_of (drop l.function-index l.functions)) ≡ data_at l.fn.found.items ++ data_in_functions (map function_of l.functions)
