use Rattle.std.proofs.Common.{Some, None}
use Rattle.ql_scope.proofs.Above.{named_inside}
use Rattle.ql_scope.proofs.binder_stack.BinderStack.is_named_inside.Goals as goal

pub returns-in-Some : goal.returns-in-Some
returns-in-Some c before after split counted = named_inside c.args.self.now before after c.args.number c.args.outer (Some c.in-Some.binder) c.in-Some.ensures split counted

pub returns-in-None : goal.returns-in-None
returns-in-None c before after split counted = named_inside c.args.self.now before after c.args.number c.args.outer None c.in-None.ensures split counted
