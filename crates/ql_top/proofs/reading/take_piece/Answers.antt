use Rattle.std.proofs.Common.{rules, ◌≤◌, ap, Err, take, length}
use Rattle.std.proofs.lemmas.List.{length-take-le}
use Rattle.ql_top.proofs.Pieces.{refused_piece, takes_more}
use Rattle.ql_top.proofs.reading.take_piece.Goals as goal

pub returns-in-Err-Bad-clause-bytes : goal.returns-in-Err-Bad-clause-bytes
returns-in-Err-Bad-clause-bytes g c start h =
    let within : c.in-Ok.n ≤ length c.read.new.buf = search rules in
    let few : length (take c.in-Ok.n c.read.new.buf) ≤ 4096 = rw length-take-le (search rules) in
    refused_piece _ _ start _ _ _ _ _ h c.in-Ok.ensures.bytes (c.in-Err-Bad.ensures.bad _ _ (ap Err c.in-Err-Bad.field-0-is)) (c.in-Err-Bad.ensures.near _ _ (ap Err c.in-Err-Bad.field-0-is)) few

pub returns-in-Err-Memory-clause-bytes : goal.returns-in-Err-Memory-clause-bytes
returns-in-Err-Memory-clause-bytes g c start h = (_, takes_more _ h.taken _ start _ _ h.takes c.in-Ok.ensures.bytes)
