use Rattle.std.proofs.Common.{ap, Err}
use Rattle.ql_top.proofs.Pieces.{unfinished_text}
use Rattle.ql_top.proofs.reading.whole_text.Goals as goal

pub returns-in-Ok-clause-bytes : goal.returns-in-Ok-clause-bytes
returns-in-Ok-clause-bytes c old new h end = record { taken = h.taken; takes = h.takes; is_read = c.in-Ok.ensures.ok h.taken h.has_taken; at_end = end }

pub returns-in-Err-Bad-clause-bytes : goal.returns-in-Err-Bad-clause-bytes
returns-in-Err-Bad-clause-bytes c old new h end =
    unfinished_text c.args.reader old new _ _ h end (c.in-Err-Bad.ensures.bad _ _ (ap Err c.in-Err-Bad.field-0-is) h.taken h.has_taken)
