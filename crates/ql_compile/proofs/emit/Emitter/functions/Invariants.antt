use Rattle.std.proofs.Common.{◌≡◌, [], drop, map}
use Rattle.ql_expand.specs.View.{function_of}
use Rattle.ql_compile.specs.Emitting.{followed, functions_code}
use Rattle.ql_compile.proofs.emit.Emitter.functions.Given as goal

-- With the code of the rest it is the whole code.
abbrev pub invariant-loop-function : goal.invariant-loop-function
invariant-loop-function l = record {
  frame : l.self.frame ≡ [];
  rest : followed l.self (functions_code (map function_of (drop l.function-index l.functions)) l.self) ≡ followed l.fn.self (functions_code (map function_of l.functions) l.fn.self);
}
