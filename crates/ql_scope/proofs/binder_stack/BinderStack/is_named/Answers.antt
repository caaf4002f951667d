use Rattle.std.proofs.Common.{[], refl}
use Rattle.ql_scope.proofs.binder_stack.BinderStack.is_named.Goals as goal

pub returns : goal.returns
returns c = c.is_named_inside.ensures [] c.args.self.now refl refl
