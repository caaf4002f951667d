use Rattle.std.proofs.Common.{Option, Some, arith}
use Rattle.ql_world.specs.declared.word.Word.{Word}
use Rattle.ql_host.proofs.Changes.{put, past}
use Rattle.ql_host.proofs.ticks.values.put_global.Goals as goal

pub returns-then-at-len : goal.returns-then-at-len
returns-then-at-len c = put (Some c.args.w) c.args.globals.now.items c.args.at

pub returns-else-at-len : goal.returns-else-at-len
returns-else-at-len c =
    let same = c.args.globals.now.ok.0 in
    past (λ (y : Option Word). Some c.args.w) c.args.globals.now.items c.args.at (omega arith)
