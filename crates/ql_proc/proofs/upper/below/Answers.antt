use Rattle.std.proofs.Common.{◌≤◌, length, arith}
use Rattle.std.proofs.lemmas.List.{length-reverse}
use Rattle.ql_proc.proofs.Stacks
use Rattle.ql_proc.proofs.upper.below.Goals as goal

pub returns : goal.returns
returns c =
    let xs = c.args.slots.now in
    let h : c.args.height ≤ length xs = omega (arith, c.requires, length-reverse xs) in
    rw (length-reverse xs) (Stacks.reverse-take c.args.height xs h)
