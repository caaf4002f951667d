use Rattle.std.proofs.Common.{◌∙◌, refl, sym, ap, map, []}
use Rattle.ql_expand.specs.View.{name_of}
use Rattle.ql_scope.specs.Stored.{binder_set, inside}
use Rattle.ql_scope.specs.CheckWalk.{above, with_binders, variable_of}
use Rattle.ql_scope.proofs.Collected.{set_is, inserted}
use Rattle.ql_scope.proofs.walk.Walk.set.Goals as goal

pub returns-in_ok-insert : goal.returns-in_ok-insert
returns-in_ok-insert c =
    let before = c.args.self.now in
    let keys = c.self.inside.stored.keys in
    let name = name_of c.args.name in
    let here = set_is (inside c.self.inside.above []) c.args.name c.in-Sym.number c.in-Some.at c.in-Sym.is (sym c.in-Some.ensures) in
    record {
      first = ap (λ w. w.first) c.self.view_is ∙ c.used.ensures.first;
      stored = ap (map variable_of) c.in_ok-insert.ensures.keys
          ∙ (inserted _ (λ x y. refl) keys (record { at = c.in-Some.at; name = c.in-Sym.number })
          ∙ (sym (ap (with_binders (map variable_of keys)) here)
          ∙ (ap (λ w. with_binders w.stored (binder_set (above w.seen) name)) c.self.view_is
          ∙ (ap (λ st. with_binders st (binder_set (above c.used.new.self.seen) name)) c.used.ensures.stored ∙ ap (λ s. with_binders before.stored (binder_set (above s) name)) c.used.ensures.seen))));
      seen = ap (λ w. w.seen) c.self.view_is ∙ c.used.ensures.seen;
    }
