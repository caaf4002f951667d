use Rattle.std.proofs.Common.{ap, ◌<◌, length, reverse, arith}
use Rattle.ql_proc.specs.Stacked.{floor_of}
use Rattle.ql_proc.proofs.Stacks
use Rattle.ql_proc.proofs.stack.drop_item.Goals as goal

pub returns-then-height-floor_under-clause-items : goal.returns-then-height-floor_under-clause-items
returns-then-height-floor_under-clause-items c =
    let ss = reverse c.args.slots.now.items in
    let ms = reverse c.args.marks.now.items in
    let h : floor_of ms < length ss = omega (arith, c.if-height-floor_under.true, c.height.ensures, c.floor_under.ensures, ap (λ x. floor_of (reverse x)) c.deref.ensures.value) in
    rw c.cut.ensures.slots (Stacks.dropped-slot _ _ ss ms h c.requires).0
