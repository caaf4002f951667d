-- What loops over cores make.
use Rattle.std.proofs.Common.{◌≡◌, ℕ, ◌<◌, ◌≤◌, arith, length, length-append, List, [], ◌∷◌, ◌++◌, refl, ap, sym, ◌∙◌, reverse}
use Rattle.std.proofs.lemmas.List.{reverse-append, reverse-reverse, length-reverse}
use Rattle.ql_expand.specs.Assembly.{linked, chain, all_linked, with_two, number_core, folded, operands, under, nested, one_bound}
use Rattle.ql_expand.specs.Core as spec
use Rattle.ql_expand.specs.Core.{core, binding}
use Rattle.ql_expand.specs.View.{core_of, cores_of, bound_of, bounds_of}
use Rattle.ql_expand.specs.declared.core_form.Core.{Core}
use Rattle.ql_expand.specs.declared.core_form.Bound.{Bound}
use Rattle.ql_expand.specs.declared.operator.Operator.{Operator}

pub chain_last : (o : Operator) (at : ℕ) (cs : List Core) (c : Core) (rest : spec.Core)
    → chain o at (cores_of (cs ++ c ∷ [])) rest ≡ chain o at (cores_of cs) (linked o at (core_of c) rest)
chain_last o at [] c rest = refl
chain_last o at (b ∷ cs) c rest = ap (linked o at (core_of b)) (chain_last o at cs c rest)

pub all_linked_last : (o : Operator) (at : ℕ) (cs : List Core) (c : Core) → all_linked o at (cores_of (cs ++ c ∷ [])) ≡ chain o at (cores_of cs) (core_of c)
all_linked_last o at [] c = refl
all_linked_last o at (b ∷ []) c = refl
all_linked_last o at (b ∷ (d ∷ cs)) c = ap (linked o at (core_of b)) (all_linked_last o at (d ∷ cs) c)

pub under_last : (at : ℕ) (bs : List Bound) (b : Bound) (c : spec.Core)
    → under at (bounds_of (bs ++ b ∷ [])) c ≡ under at (bounds_of bs) (core at (binding (one_bound (bound_of b).0 (bound_of b).1) c))
under_last at [] b c = refl
under_last at (d ∷ bs) b c = ap (λ e. core at (binding (one_bound (bound_of d).0 (bound_of d).1) e)) (under_last at bs b c)

pub folded_last : (at w : ℕ) (sum : spec.Core) (cs : List Core) (c : Core)
    → folded at w sum (cores_of (reverse (cs ++ c ∷ []))) ≡ folded at w (with_two at w sum (core_of c)) (cores_of (reverse cs))
folded_last at w sum cs c = rw (reverse-append cs (c ∷ [])) refl

first_of_reversed : (cs ds : List Core) (c : Core) → reverse cs ≡ ds ++ c ∷ [] → cs ≡ c ∷ reverse ds
first_of_reversed cs ds c e = sym (reverse-reverse cs) ∙ ap reverse e ∙ reverse-append ds (c ∷ [])

pub operands_few : (at w n : ℕ) (cs : List Core) → length (reverse cs) < 2
    → operands at w n (cores_of cs) ≡ folded at w (number_core at n) (cores_of (reverse (reverse cs)))
operands_few at w n [] h = refl
operands_few at w n (c ∷ []) h = refl
operands_few at w n (c ∷ (d ∷ cs)) h = let long : length (reverse (c ∷ (d ∷ cs))) ≡ length (c ∷ (d ∷ cs)) = length-reverse (c ∷ (d ∷ cs)) in absurd (omega arith)

pub operands_more : (at w n : ℕ) (cs mid ds : List Core) (c : Core) → mid ≡ reverse cs → 2 ≤ length mid → mid ≡ ds ++ c ∷ []
    → operands at w n (cores_of cs) ≡ folded at w (core_of c) (cores_of (reverse ds))
operands_more at w n cs mid ds c m h e =
    let long : 1 ≤ length (reverse ds) = omega (arith, length-reverse ds, ap length e, length-append ds (c ∷ [])) in
    rw (first_of_reversed cs ds c (sym m ∙ e)) (by_second (reverse ds) long)
  where
    by_second : (es : List Core) → 1 ≤ length es → operands at w n (cores_of (c ∷ es)) ≡ folded at w (core_of c) (cores_of es)
    by_second [] k = absurd (omega arith)
    by_second (d ∷ es) k = refl

pub nested_under : (at : ℕ) (bs : List Bound) (c : spec.Core) → (bs ≡ [] → ⊥) → under at (bounds_of bs) c ≡ nested at (bounds_of bs) c
nested_under at [] c h = absurd (h refl)
nested_under at (b ∷ bs) c h = refl
