use Rattle.ql_top.proofs.reading.feed_all.Goals as goal

pub returns-in-End-clause-bytes : goal.returns-in-End-clause-bytes
returns-in-End-clause-bytes g c = c.in-End.ensures.bytes _ c.pieces.invariant.read
