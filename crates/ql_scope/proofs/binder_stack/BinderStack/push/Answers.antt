use Rattle.std.proofs.Common.{◌≡◌, ◌∙◌, arith, sym, None, get_or}
use Rattle.ql_scope.specs.CheckTables.{HasInnermost}
use Rattle.ql_scope.proofs.Above.{pushed_hidden, pushed_named}
use Rattle.ql_scope.proofs.binder_stack.BinderStack.push.Goals as goal

pub invariant_of-self-in_default : goal.invariant_of-self-in_default
invariant_of-self-in_default c =
    rw c.in_ok-push.ensures.items (pushed_hidden c.self.inside.row.items (record { binder = c.args.binder; hides = None }) c.self.inside.innermost.items c.in_default.field-0 c.self.invariant c.in_default.is)

pub invariant_of-self-2 : goal.invariant_of-self-2
invariant_of-self-2 c =
    let row = c.self.inside.row.items in
    let old = c.self.inside.innermost.items in
    let reached = c.reach.new.table.items in
    let n = c.in-Sym.number in
    let kept : HasInnermost row reached = record { innermost = λ m. c.in_ok-reach.ensures.same m ∙ c.self.invariant.innermost m; kept = c.self.invariant.kept } in
    let hides : c.value_at-hides.result ≡ get_or reached n None = (rw c.deref.ensures.value at c.value_at-hides.ensures) ∙ sym (c.in_ok-reach.ensures.same n) in
    rw c.in_ok-push-2.ensures.items
    (pushed_named row (record { binder = c.args.binder; hides = c.value_at-hides.result }) reached c.replace.new.table.items n c.len.result (omega arith) kept c.in-Sym.is hides
    (c.replace.ensures c.in_ok-reach.ensures.reached))
