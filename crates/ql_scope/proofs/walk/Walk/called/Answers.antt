use Rattle.std.proofs.Common.{◌≡◌, ◌∙◌, sym, ap, ◌==◌, Some, None, get_or, length}
use Rattle.ql_base.specs.Refusal.{fault, first_of}
use Rattle.ql_base.specs.declared.refusal.FaultKind.TheVariants.{WrongCount}
use Rattle.ql_scope.proofs.Cases.{where_not}
use Rattle.ql_scope.specs.Scope.{parameter_count}
use Rattle.ql_scope.proofs.Listed.{count_all}
use Rattle.ql_scope.proofs.walk.Walk.called.Goals as goal

pub returns-in-Some : goal.returns-in-Some
returns-in-Some c =
    let found : Some c.in-Some.count ≡ get_or c.self.inside.parameters.items c.args.name None = rw c.deref.ensures.value at c.in-Some.ensures in
    let known : parameter_count c.args.self.now.seen.functions c.args.name ≡ Some c.in-Some.count =
    ap (λ w. parameter_count w.seen.functions c.args.name) (sym c.self.view_is) ∙ (sym (c.self.invariant.counted c.args.name) ∙ sym found) in
    record {
      first = rw (known, count_all c.args.args.now) (c.find_if-in-Some.ensures.first ∙ ap (first_of c.args.self.now.first) (where_not (length c.args.args.now == c.in-Some.count) (fault WrongCount c.args.named.0)));
      stored = c.find_if-in-Some.ensures.stored;
      seen = c.find_if-in-Some.ensures.seen;
    }
