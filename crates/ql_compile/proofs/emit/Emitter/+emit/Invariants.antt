use Rattle.std.proofs.Common.{◌≡◌, ◌++◌, length, drop}
use Rattle.ql_expand.specs.View.{bounds_of, cores_of}
use Rattle.ql_compile.specs.Compile.{starts_of}
use Rattle.ql_compile.specs.Emitting.{cores_code, followed, forms_code, joined_code, values_code, within}
use Rattle.ql_compile.proofs.Framed.{forms_left, operands}
use Rattle.ql_compile.proofs.emit.Emitter.+emit.Given as goal

-- With the code of the rest it is the whole code.
abbrev pub invariant-cores-loop-core : goal.invariant-cores-loop-core
invariant-cores-loop-core l = record {
  outer : l.outer ≡ length l.fn.self.frame;
  frame : l.self.frame ≡ operands l.core-index l.fn.self.frame;
  rest : followed (within l.self l.fn.self.frame) (cores_code (cores_of (drop l.core-index l.cores)) l.self) ≡ followed l.fn.self (cores_code (cores_of l.cores) l.fn.self);
}

abbrev pub invariant-forms-loop-i : goal.invariant-forms-loop-i
invariant-forms-loop-i l =
    followed l.self (forms_left l.fn.at.0 (drop l.i l.forms) l.self) ≡ followed l.fn.self (forms_code l.fn.at.0 (cores_of l.forms) l.fn.self)

abbrev pub invariant-joined-loop-bound : goal.invariant-joined-loop-bound
invariant-joined-loop-bound l = record {
  outer : l.outer ≡ length l.fn.self.frame;
  frame : l.self.frame ≡ operands l.bound-index l.fn.self.frame;
  rest : followed (within l.self l.fn.self.frame) (joined_code (bounds_of (drop l.bound-index l.binds)) l.self) ≡ followed l.fn.self (joined_code (bounds_of l.binds) l.fn.self);
  starts : l.starts.items ++ starts_of (length l.self.output) (bounds_of (drop l.bound-index l.binds)) ≡ starts_of (length l.fn.self.output) (bounds_of l.binds);
}

abbrev pub invariant-values-loop-bound : goal.invariant-values-loop-bound
invariant-values-loop-bound l = record {
  outer : l.outer ≡ length l.fn.self.frame;
  frame : l.self.frame ≡ operands l.bound-index l.fn.self.frame;
  rest : followed (within l.self l.fn.self.frame) (values_code (bounds_of (drop l.bound-index l.binds)) l.self) ≡ followed l.fn.self (values_code (bounds_of l.binds) l.fn.self);
}
