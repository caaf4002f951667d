use Rattle.std.proofs.Common.{◌≡◌, [], drop}
use Rattle.ql_expand.specs.View.{cores_of}
use Rattle.ql_compile.specs.Emitting.{followed, tops_code}
use Rattle.ql_compile.proofs.emit.Emitter.tops.Given as goal

-- With the code of the rest it is the whole code.
abbrev pub invariant-loop-core : goal.invariant-loop-core
invariant-loop-core l = record {
  frame : l.self.frame ≡ [];
  rest : followed l.self (tops_code (cores_of (drop l.core-index l.cores)) l.self) ≡ followed l.fn.self (tops_code (cores_of l.cores) l.fn.self);
}
