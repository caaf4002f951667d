use Rattle.std.proofs.Common.{◌≡◌, ◌∙◌, slice_get, arith}
use Rattle.std.proofs.lemmas.Grind.{common_steps}
use Rattle.std.proofs.lemmas.Option.{gets}
use Rattle.ql_tree.proofs.Walks.{catch_at_whole}
use Rattle.ql_tree.proofs.catches.catch_at.Goals as goal

pub returns : goal.returns
returns c =
    let look = c.get.ensures.lookup in
    let read : c.copied.result ≡ slice_get c.args.catches.now c.args.c = grind (arith, common_steps, gets) in
    read ∙ catch_at_whole c.args.catches.now c.args.c
