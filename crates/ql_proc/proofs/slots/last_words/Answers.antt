use Rattle.ql_proc.proofs.Stacks
use Rattle.ql_proc.proofs.slots.last_words.Goals as goal

pub returns : goal.returns
returns c = rw (← Stacks.last-part c.args.count c.args.slots.now c.requires) c.words_in.ensures
