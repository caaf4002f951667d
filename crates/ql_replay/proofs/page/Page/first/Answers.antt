use Rattle.std.proofs.Common.{◌∙◌, sym, ap, arith}
use Rattle.ql_replay.specs.Page.{first_of}
use Rattle.ql_replay.proofs.Pages.{first_between}
use Rattle.ql_replay.proofs.page.Page.first.Goals as goal

pub returns-then-self : goal.returns-then-self
returns-then-self c =
    let i = c.self.invariant in
    let n = c.self.told in
    sym (first_between c.self.inside.bytes c.self.inside.from c.self.inside.to 0 c.if-self.true (omega (arith, i, n))) ∙ ap first_of c.self.view_is
