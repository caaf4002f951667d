-- Lists of forms and of bindings.
use Rattle.std.proofs.Common.{◌≡◌, List, length, map, refl, ap, arith, [], ◌∷◌}
use Rattle.ql_expand.specs.Opened.{bound_opened}
use Rattle.ql_expand.specs.View.{cores_of, bounds_of, binder_of}
use Rattle.ql_expand.specs.Primitives.{count_of}
use Rattle.ql_scope.specs.Scope.{binders_in}
use Rattle.ql_expand.specs.declared.core_form.Core.{Core}
use Rattle.ql_expand.specs.declared.core_form.Bound.{Bound}

pub count_all : (cs : List Core) → count_of (cores_of cs) ≡ length cs
count_all [] = refl
count_all (c ∷ cs) = omega (arith, count_all cs)

-- The variables of bindings are the binders of these.
pub variables_are : (bs : List Bound) → binders_in (bounds_of bs) ≡ map (λ b. binder_of b.binder) bs
variables_are [] = refl
variables_are (b ∷ bs) = rw (bound_opened b) (ap (λ xs. binder_of b.binder ∷ xs) (variables_are bs))
