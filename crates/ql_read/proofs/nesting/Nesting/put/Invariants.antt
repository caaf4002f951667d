use Rattle.std.proofs.Common.{◌≡◌, ℕ, List, length}
use Rattle.ql_base.specs.Names.{reserved}
use Rattle.ql_forms.specs.View.{spelling_of}
use Rattle.ql_read.specs.Numbering.{GoesOn}
use Rattle.ql_read.specs.Scan.{push}
use Rattle.ql_read.specs.View.{nested}
use Rattle.ql_read.proofs.nesting.Nesting.put.Given as goal

abbrev pub invariant-frames : goal.invariant-frames
invariant-frames l = record {
  forms : (later : List (List ℕ)) → GoesOn reserved later → push (spelling_of later l.ended) (nested later l.self) ≡ push (spelling_of later l.fn.form) (nested later l.fn.self);
  names : l.self.names ≡ l.fn.self.names;
}

abbrev pub decreases-frames : goal.decreases-frames
decreases-frames l = length l.self.frames.items
