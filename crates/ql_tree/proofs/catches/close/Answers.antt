use Rattle.std.proofs.lemmas.List.{get_or_default}
use Rattle.ql_tree.proofs.Walks.{closed-at, closed-past}
use Rattle.ql_tree.proofs.catches.close.Goals as goal

pub returns-then-at-catches : goal.returns-then-at-catches
returns-then-at-catches c =
    let l = c.if-at-catches.true in
    closed-at c.args.catches.now c.args.c _ l (get_or_default c.args.catches.now c.args.c _ _ l)

pub returns-else-at-catches : goal.returns-else-at-catches
returns-else-at-catches c = closed-past c.args.catches.now c.args.c c.if-at-catches.false
