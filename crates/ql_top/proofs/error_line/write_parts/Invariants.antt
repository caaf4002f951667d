use Rattle.std.proofs.Common.{◌≡◌, List, ℕ, drop}
use Rattle.std.specs.Prelude.{Option}
use Rattle.ql_base.specs.Outside.{Appends, AppendsFront}
use Rattle.ql_top.specs.ErrorLine.{joined}
use Rattle.ql_top.proofs.error_line.write_parts.Given as goal

-- what is done with the parts to come is done with all
abbrev pub invariant-parts : goal.invariant-parts
invariant-parts g l = record {
  whole : (z : Option (List ℕ)) → Appends (joined (drop l.part-index l.parts)) (g.E.Sink.held l.err) z → Appends (joined l.parts) (g.E.Sink.held l.fn.err) z;
  front : (z : Option (List ℕ)) → AppendsFront (joined (drop l.part-index l.parts)) (g.E.Sink.held l.err) z → AppendsFront (joined l.parts) (g.E.Sink.held l.fn.err) z;
  faults : g.E.Sink.faults l.err ≡ g.E.Sink.faults l.fn.err;
}
