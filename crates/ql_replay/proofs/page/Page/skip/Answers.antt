use Rattle.std.proofs.Common.{arith}
use Rattle.ql_replay.proofs.Pages.{after_first}
use Rattle.ql_replay.proofs.page.Page.skip.Goals as goal

pub returns : goal.returns
returns c =
    let i = c.self.invariant in
    after_first c.self.inside.bytes c.args.self.now c.self.inside.from c.self.inside.to c.self.view_is c.requires (omega (arith, i))
