use Rattle.std.proofs.Common.{◌≤◌, length}
use Rattle.std.proofs.lemmas.List.{length-reverse}
use Rattle.ql_proc.proofs.Stacks
use Rattle.ql_proc.proofs.slots.shorten.Goals as goal

pub returns-clause-slots : goal.returns-clause-slots
returns-clause-slots c =
    let h : c.args.height ≤ length c.args.slots.now.items = rw (length-reverse c.args.slots.now.items) at c.requires in
    rw (c.truncate.ensures.items, length-reverse c.args.slots.now.items) (Stacks.reverse-take c.args.height c.args.slots.now.items h)
