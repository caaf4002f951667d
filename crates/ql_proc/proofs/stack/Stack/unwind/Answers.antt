use Rattle.std.proofs.Common.{sym, ◌∙◌, arith}
use Rattle.ql_proc.proofs.Unwinds
use Rattle.ql_proc.proofs.stack.Stack.unwind.Goals as goal

pub calls-smaller : goal.calls-smaller
calls-smaller c =
    rw c.leave_call.ensures.items (Unwinds.below-shorter c.calls.self.items (sym c.is_in_call.ensures ∙ c.calls-test.true))

pub calls-preserved : goal.calls-preserved
calls-preserved c =
    (rw c.leave_call.ensures.items (Unwinds.unwinds-call c.calls.self.items (sym c.is_in_call.ensures ∙ c.calls-test.true) ∙ c.calls.invariant.0), omega (arith, c.calls.invariant.1, c.leave_call.ensures.room))

pub leave_call-requires : goal.leave_call-requires
leave_call-requires c =
    Unwinds.call-is-mark c.calls.self.items (sym c.is_in_call.ensures ∙ c.calls-test.true)
