use Rattle.std.proofs.Common.{◌<◌, ◌≤◌, ◌+◌, length, arith}
use Rattle.ql_proc.specs.Binding.{boxes_from}
use Rattle.ql_proc.proofs.Binding
use Rattle.ql_proc.proofs.slots.bind_from.Goals.{then-rest-eq1, else-rest-eq1}
use Rattle.ql_proc.proofs.slots.bind_from.Goals as goal

pub overflow_add-next : goal.overflow_add-next
overflow_add-next c =
    let h : c.slots.at < length c.slots.slots = omega (arith, c.slots-test.true, c.slots.auto.slots) in
    let e : c.slots.next + 1 ≤ boxes_from c.slots.at c.slots.rest c.slots.next c.slots.slots = Binding.room-left c.slots.at c.slots.slots h c.slots.rest c.slots.next c.if-rest-eq1.true in
    let f : boxes_from c.slots.at c.slots.rest c.slots.next c.slots.slots ≤ 4294967295 = c.slots.invariant.1.0 in
    omega (arith, e, f)

pub slots-preserved : goal.slots-preserved
slots-preserved c =
    let at = c.slots.at in
    let ss = c.slots.slots in
    let h : at < length ss = omega (arith, c.slots-test.true, c.slots.auto.slots) in
    let p = (Binding.still-plain at ss h c.slots.invariant.0).1 in
    elim c.if-rest-eq1.branch [
      | then-rest-eq1 w ↦
          rw (w.slots-is, w.next-is, Binding.boxes-stored at ss h c.slots.rest c.slots.next w.if-rest-eq1.true, Binding.bound-stored at ss h c.slots.rest c.slots.next w.if-rest-eq1.true)
          (Binding.plain-after at ss h c.slots.next p, c.slots.invariant.1)
      | else-rest-eq1 w ↦
          rw (w.slots-is, w.next-is, Binding.boxes-held at ss h c.slots.rest c.slots.next w.if-rest-eq1.false, Binding.bound-held at ss h c.slots.rest c.slots.next w.if-rest-eq1.false c.slots.invariant.0)
          (p, c.slots.invariant.1)
    ]
