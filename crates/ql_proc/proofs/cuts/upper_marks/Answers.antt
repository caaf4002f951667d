use Rattle.std.proofs.lemmas.List.{take_rest}
use Rattle.ql_proc.proofs.Windowed
use Rattle.ql_proc.proofs.cuts.upper_marks.Goals as goal

pub returns : goal.returns
returns c = rw (c.count_under.ensures, take_rest) (Windowed.reverse-upper 64 c.args.marks.now)
