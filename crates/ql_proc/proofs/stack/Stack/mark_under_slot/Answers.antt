use Rattle.std.proofs.Common.{◌≡◌, length, arith}
use Rattle.ql_proc.specs.Slots.{slots_on}
use Rattle.ql_proc.proofs.Tops
use Rattle.ql_proc.proofs.stack.Stack.mark_under_slot.Goals as goal

pub returns-clause-shape : goal.returns-clause-shape
returns-clause-shape c =
    let st = c.args.self.now.items in
    let h : length (slots_on st) ≡ 1 = omega (arith, c.if-slots_above-ne1.false, c.slots_above.ensures) in
    rw (c.mark.ensures, Tops.mark-second st h) (Tops.under-shape st)
