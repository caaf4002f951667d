use Rattle.std.proofs.Common.{arith}
use Rattle.ql_cells.proofs.Changes.{put, past}
use Rattle.ql_cells.proofs.cells.put_word.Goals as goal

pub returns-then-place-len-clause-items : goal.returns-then-place-len-clause-items
returns-then-place-len-clause-items c = put c.args.w c.args.words.now.items c.args.at

pub returns-else-place-len-clause-items : goal.returns-else-place-len-clause-items
returns-else-place-len-clause-items c =
    let same = c.args.words.now.ok.0 in
    past (λ y. c.args.w) c.args.words.now.items c.args.at (omega arith)
