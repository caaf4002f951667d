use Rattle.std.proofs.Common.{[], ◌∷◌, ◌++◌}
use Rattle.ql_scope.proofs.Above.{popped_named, popped_hidden}
use Rattle.ql_scope.specs.CheckTables.{HasInnermost}
use Rattle.ql_scope.proofs.binder_stack.BinderStack.pop.Goals as goal

pub invariant_of-self : goal.invariant_of-self
invariant_of-self c =
    let before : HasInnermost (c.pop.new.self.items ++ c.in-Some.last ∷ []) c.self.inside.innermost.items = rw c.in-Some.ensures.items at c.self.invariant in
    popped_named c.pop.new.self.items c.in-Some.last c.self.inside.innermost.items c.replace.new.table.items c.in-Sym.number before c.in-Sym.is c.replace.ensures

pub invariant_of-self-in-Some : goal.invariant_of-self-in-Some
invariant_of-self-in-Some c =
    let before : HasInnermost (c.pop.new.self.items ++ c.in-Some.last ∷ []) c.self.inside.innermost.items = rw c.in-Some.ensures.items at c.self.invariant in
    popped_hidden c.pop.new.self.items c.in-Some.last c.self.inside.innermost.items c.in_default-name.field-0 before c.in_default-name.is
