use Rattle.std.proofs.Common.{◌∙◌}
use Rattle.ql_top.proofs.Parts.{part_then_others, part_then_front, front_of_part}
use Rattle.ql_top.proofs.error_line.write_parts.Goals as goal

pub returns-in-Err-clause-front : goal.returns-in-Err-clause-front
returns-in-Err-clause-front g c = c.parts.invariant.front _ (front_of_part _ _ _ _ _ c.parts-test.true c.in-Err.ensures.front)

pub parts-preserved : goal.parts-preserved
parts-preserved g c = record {
  whole = λ z h. c.parts.invariant.whole z (part_then_others _ _ _ _ _ z c.parts-test.true c.in-Ok.ensures.whole h);
  front = λ z h. c.parts.invariant.front z (part_then_front _ _ _ _ _ z c.parts-test.true c.in-Ok.ensures.whole h);
  faults = c.in-Ok.ensures.kept ∙ c.parts.invariant.faults;
}
