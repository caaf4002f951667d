use Rattle.ql_top.proofs.Pieces.{takes_more}
use Rattle.ql_top.proofs.book.take_part.Goals as goal

pub returns-then-is_err-clause-bytes : goal.returns-then-is_err-clause-bytes
returns-then-is_err-clause-bytes g c start t = (_, takes_more _ _ _ start _ _ t c.in-Ok.ensures.bytes)
