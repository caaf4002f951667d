use Rattle.ql_proc.specs.Slots.{is_plain}
use Rattle.ql_proc.proofs.Stacks
use Rattle.ql_proc.proofs.slots.last_are_plain.Goals as goal

pub returns : goal.returns
returns c = rw c.are_plain.ensures (Stacks.last-plain is_plain c.args.count c.args.slots.now c.requires)
