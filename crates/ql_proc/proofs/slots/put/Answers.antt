use Rattle.std.proofs.Common.{◌<◌, length, add-one}
use Rattle.std.proofs.lemmas.List.{length-reverse}
use Rattle.ql_proc.proofs.Stacks
use Rattle.ql_proc.proofs.slots.put.Goals as goal

pub returns-clause-slots : goal.returns-clause-slots
returns-clause-slots c =
    let h : c.args.at < length c.args.slots.now.items = rw (length-reverse c.args.slots.now.items) at c.requires in
    rw (c.truncate.ensures.items, add-one, length-reverse c.args.slots.now.items) (Stacks.reverse-put c.args.slots.now.items c.args.at c.args.last h)
