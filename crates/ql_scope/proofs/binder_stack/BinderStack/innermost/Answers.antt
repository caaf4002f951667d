use Rattle.std.proofs.Common.{[], ◌∙◌, ap}
use Rattle.std.specs.Prelude.{option_map}
use Rattle.ql_scope.specs.Stored.{inside}
use Rattle.ql_scope.proofs.Above.{offset_is}
use Rattle.ql_scope.proofs.binder_stack.BinderStack.innermost.Goals as goal

pub returns-in-Some : goal.returns-in-Some
returns-in-Some c = ap (option_map (λ i. i.at)) c.in-Some.ensures ∙ offset_is (inside c.args.self.now []) c.args.number

pub returns-in-None : goal.returns-in-None
returns-in-None c = ap (option_map (λ i. i.at)) c.in-None.ensures ∙ offset_is (inside c.args.self.now []) c.args.number
