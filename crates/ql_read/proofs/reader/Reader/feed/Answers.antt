use Rattle.std.proofs.Common.{◌++◌, take}
use Rattle.ql_read.proofs.Taking.{refused_piece, near_fault, piece_taken}
use Rattle.ql_read.proofs.reader.Reader.feed.Goals as goal

pub returns-in-Err-clause-bad : goal.returns-in-Err-clause-bad
returns-in-Err-clause-bad c = λ kind at e p h.
    let front = p ++ take c.loop-b.b-index c.args.piece.now in
    let here = c.in-Err.ensures.here kind at e front (c.loop-b.invariant.taken p h) in
    refused_piece p c.args.piece.now c.loop-b.b-index kind at c.loop-b-test.true (c.in-Err.ensures.bad kind at e front (c.loop-b.invariant.taken p h)) here.1

pub returns-in-Err-clause-near : goal.returns-in-Err-clause-near
returns-in-Err-clause-near c = λ kind at e p h.
    let front = p ++ take c.loop-b.b-index c.args.piece.now in
    near_fault p (take c.loop-b.b-index c.args.piece.now) at kind (c.in-Err.ensures.here kind at e front (c.loop-b.invariant.taken p h))

pub returns-clause-no_fault : goal.returns-clause-no_fault
returns-clause-no_fault c b h = piece_taken c.loop-b.self b c.args.piece.now c.loop-b.b-index c.loop-b-test.false (c.loop-b.invariant.taken b h)
