-- Lists that begin other lists.
use Rattle.std.proofs.Common.{List, [], ◌++◌, All, Contains, sym, ap, ◌∙◌, subst}
use Rattle.std.proofs.lemmas.List.{append-nil, append_assoc}
use Rattle.std.proofs.lemmas.List.Elements.{All-weaker, Contains-append_left}
use mathlib.Core.List.{IsPrefix}

module _ {E : Type 0} where
  pub prefix_self : (xs : List E) → IsPrefix xs xs
  prefix_self xs = ([], append-nil xs)

  pub prefix_trans : (xs ys zs : List E) → IsPrefix xs ys → IsPrefix ys zs → IsPrefix xs zs
  prefix_trans xs ys zs p q = (p.0 ++ q.0, sym (append_assoc xs p.0 q.0) ∙ (ap (λ w. w ++ q.0) p.1 ∙ q.1))

  -- what stands in a list stands in each that it begins
  pub Contains-prefix : (xs ys : List E) → IsPrefix xs ys → (x : E) → Contains xs x → Contains ys x
  Contains-prefix xs ys p x c = subst (λ l. Contains l x) p.1 (Contains-append_left xs p.0 x c)

  pub All-prefix : (xs ys : List E) → IsPrefix xs ys → (all : List E) → All (Contains xs) all → All (Contains ys) all
  All-prefix xs ys p = All-weaker (Contains xs) (Contains ys) (Contains-prefix xs ys p)
