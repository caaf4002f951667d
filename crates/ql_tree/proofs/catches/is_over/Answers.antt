use Rattle.std.proofs.Common.{sym, ◌∙◌, arith}
use Rattle.ql_world.specs.World.{outermost}
use Rattle.ql_tree.proofs.Walks.{over-found, over-next, over-past}
use Rattle.ql_tree.proofs.catches.is_over.Goals as goal

pub returns-then-c-at : goal.returns-then-c-at
returns-then-c-at c =
    let i = c.loop-at.invariant in
    sym (over-found c.args.catches.now c.loop-at.end c.loop-at.at outermost i.within c.args.c c.loop-at-test.true c.if-c-at.true) ∙ i.rest

pub loop-at-preserved : goal.loop-at-preserved
loop-at-preserved c =
    let i = c.loop-at.invariant in
    record {
      within = omega arith;
      rest = sym (over-next c.args.catches.now c.loop-at.end c.loop-at.at _ i.within c.args.c c.loop-at-test.true c.if-c-at.false) ∙ i.rest;
    }

pub returns : goal.returns
returns c =
    let i = c.loop-at.invariant in
    sym (over-past c.args.catches.now c.loop-at.end c.loop-at.at outermost i.within c.args.c c.loop-at-test.false) ∙ i.rest
