use Rattle.ql_proc.proofs.Insides
use Rattle.ql_proc.proofs.inside.lowered.Goals as goal

pub returns : goal.returns
returns c = Insides.without-last c.args.count c.args.slots.now c.requires
