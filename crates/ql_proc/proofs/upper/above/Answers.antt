use Rattle.std.proofs.Common.{◌≤◌, ◌∙◌, ap, length, reverse, arith}
use Rattle.std.proofs.lemmas.List.{length-reverse, take_rest}
use Rattle.ql_proc.proofs.Tops
use Rattle.ql_proc.proofs.upper.above.Goals as goal

pub returns : goal.returns
returns c =
    let xs = c.args.slots.now in
    let h : c.args.floor ≤ length xs = omega (arith, c.requires, length-reverse xs) in
    ap reverse (take_rest xs c.args.floor) ∙ Tops.slots-above c.args.floor xs h
