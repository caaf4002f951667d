use Rattle.ql_top.proofs.Pieces.{appends_more, front_written}
use Rattle.ql_top.proofs.writing.write_text.Goals as goal

pub returns-in-Err-clause-front : goal.returns-in-Err-clause-front
returns-in-Err-clause-front g c = front_written _ _ _ _ _ c.pieces.invariant.written c.in-Err.ensures.same

pub pieces-preserved : goal.pieces-preserved
pieces-preserved g c = record {
  within = c.in-Ok.ensures.some.1;
  written = appends_more _ _ _ _ _ _ c.pieces.invariant.written c.in-Ok.ensures.written;
  faults = Rattle.std.proofs.Common.◌∙◌ c.in-Ok.ensures.kept c.pieces.invariant.faults;
}
