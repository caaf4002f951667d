use Rattle.std.proofs.Common.{◌≤◌, length, arith}
use Rattle.std.proofs.lemmas.List.{length-reverse}
use Rattle.ql_proc.proofs.Topmost
use Rattle.ql_proc.proofs.upper.last_slots.Goals as goal

pub returns : goal.returns
returns c =
    let xs = c.args.slots.now in
    let h : c.args.count ≤ length xs = omega (arith, c.requires, length-reverse xs) in
    Topmost.last-of c.args.count xs h
