use Rattle.std.proofs.Common.{sym}
use Rattle.std.specs.Vec.{vec_len}
use Rattle.ql_read.proofs.TextEnd.{not_whole, is_whole}
use Rattle.ql_read.proofs.ending.all_closed.Goals as goal

pub returns-then-is_empty-clause-forms : goal.returns-then-is_empty-clause-forms
returns-then-is_empty-clause-forms c = λ later. is_whole later (vec_len c.args.nesting.frames) c.args.nesting.frames.items c.args.nesting.top.items c.from_vec.result c.args.nesting.frames.ok.0 c.if-is_empty.ensures c.from_vec.ensures

pub returns-clause-forms : goal.returns-clause-forms
returns-clause-forms c = λ later. not_whole later (vec_len c.args.nesting.frames) c.args.nesting.frames.items c.args.nesting.top.items c.args.nesting.frames.ok.0 (sym c.if-is_empty.ensures)
