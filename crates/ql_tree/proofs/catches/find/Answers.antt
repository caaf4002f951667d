use Rattle.std.proofs.Common.{sym, ◌∙◌, arith}
use Rattle.ql_world.specs.World.{outermost}
use Rattle.ql_tree.specs.Tree.{is_above}
use Rattle.ql_tree.proofs.Walks.{tag-found, tag-next, tag-below, tag-past}
use Rattle.ql_tree.proofs.catches.find.Goals as goal

pub returns-then-is_open_with : goal.returns-then-is_open_with
returns-then-is_open_with c =
    let i = c.loop-at.invariant in
    sym (tag-found c.args.catches.now c.loop-at.end c.loop-at.at _ i.within (is_above c.args.floor) c.args.tag c.loop-at-test.true (sym c.is_above.ensures ∙ c.if-is_above.true) (sym c.is_open_with.ensures ∙ c.if-is_open_with.true)) ∙ i.rest

pub loop-at-preserved : goal.loop-at-preserved
loop-at-preserved c =
    let i = c.loop-at.invariant in
    record {
      within = omega arith;
      rest = sym (tag-next c.args.catches.now c.loop-at.end c.loop-at.at _ i.within (is_above c.args.floor) c.args.tag c.loop-at-test.true (sym c.is_above.ensures ∙ c.if-is_above.true) (sym c.is_open_with.ensures ∙ c.if-is_open_with.false)) ∙ i.rest;
    }

pub returns-else-is_above : goal.returns-else-is_above
returns-else-is_above c =
    let i = c.loop-at.invariant in
    sym (tag-below c.args.catches.now c.loop-at.end c.loop-at.at outermost i.within (is_above c.args.floor) c.args.tag c.loop-at-test.true (sym c.is_above.ensures ∙ c.if-is_above.false)) ∙ i.rest

pub returns-after-loop-at : goal.returns-after-loop-at
returns-after-loop-at c =
    let i = c.loop-at.invariant in
    sym (tag-past c.args.catches.now c.loop-at.end c.loop-at.at outermost i.within (is_above c.args.floor) c.args.tag c.loop-at-test.false) ∙ i.rest
