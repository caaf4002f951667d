use Rattle.std.proofs.Common.{◌≡◌, ◌≤◌, ◌++◌, arith, length, take}
use Rattle.std.specs.Prelude.{IsOk}
use Rattle.std.proofs.lemmas.List.{length-reverse}
use Rattle.ql_proc.proofs.Windowed
use Rattle.ql_proc.proofs.cuts.replace_over.Goals as goal

pub returns : goal.returns
returns g c =
    let xs = c.args.items.now.items in
    let h : c.args.kept ≤ length xs = rw (length-reverse xs) at c.requires.within in
    let ok : IsOk c.extend_from_slice-appended.result = c.extend_from_slice-appended.ensures.succeeds (omega arith) in
    let e : c.extend_from_slice-appended.new.self.items ≡ take c.args.kept xs ++ c.args.upper.now = grind arith in
    rw e (Windowed.reverse-replaced c.args.kept xs c.args.upper.now h)
