use Rattle.std.proofs.Common.{◌<◌, length}
use Rattle.std.proofs.lemmas.List.{length-reverse}
use Rattle.ql_proc.proofs.Stacks
use Rattle.ql_proc.proofs.slots.take_out.Goals as goal

pub returns-clause-slots : goal.returns-clause-slots
returns-clause-slots c =
    let h : c.args.after < length c.args.slots.now.items = rw (length-reverse c.args.slots.now.items) at c.requires in
    rw (c.remove.ensures.items, c.height.ensures, length-reverse c.args.slots.now.items) (Stacks.reverse-out c.args.after c.args.slots.now.items h)
