-- What the checks of names and counts let through is right.
use Rattle.std.proofs.Common.{◌≡◌, ◌⊎◌, ℕ, Bool, true, false, List, [], ◌∷◌, ◌++◌, Option, Some, None, refl, sym, ◌∙◌, subst, ⊎_elim, inl, inr, eqb-true}
use Rattle.std.specs.Prelude.{◌&&◌, is_some}
use Rattle.ql_expand.specs.Core as core
use Rattle.ql_expand.specs.Core.{Name, named, hidden, Binder, Core, Node, constant, variable, setq, conditional, progn, binding, primitive, lambda, defvar, Cores, no_cores, and_core, Bounds, no_bounds, and_bound, Function, Program}
use Rattle.ql_scope.specs.Scope.{binders_in}
use Rattle.ql_scope.specs.Stored.{inside}
use Rattle.ql_world.specs.Operator.{operator_of}
use Rattle.ql_world.specs.declared.operator.Operator.{Operator}
use Rattle.ql_meaning.specs.Context.{same_name, name_of, place_of, parameters_of, body_of, function_called, functions_of, globals_of, tops_of}
use Rattle.ql_compile.specs.Compile.{is_name_among, without, without_all, free, free_in_node, free_in_cores, free_in_values, count}
use Rattle.ql_compile.proofs.Compilable.{is_bound, is_global, is_seen, has_parameters, has_operands, is_right, is_right_node, are_right, are_right_values, are_right_functions, is_compilable}
use Rattle.ql_compile.proofs.Right.{IsGlobal, AreGlobal, IsFunction, IsPrimitive, IsRight, IsRightNode, AreRight, AreRightValues, AreRightFunctions}
use Rattle.ql_compile.proofs.Cases.{cases}
use Rattle.ql_compile.proofs.Scopes.{name_same, binds_name, bound_not_among}

left : (b c : Bool) → (b && c) ≡ true → b ≡ true
left true c h = refl
left false c h = h

right : (b c : Bool) → (b && c) ≡ true → c ≡ true
right true c h = h
right false c h = absurd cc

some_place : (globals : List ℕ) (w : ℕ) (o : Option ℕ) → place_of globals w ≡ o → is_some o ≡ true → IsGlobal globals (named w)
some_place globals w None e h = absurd cc
some_place globals w (Some g) e h = (g, e)

global_of : (globals : List ℕ) (y : Name) → is_global globals y ≡ true → IsGlobal globals y
global_of globals (named w) h = some_place globals w _ refl h
global_of globals (hidden n) h = absurd cc

function_of : (functions : List Function) (w n : ℕ) (o : Option Function) → function_called functions w ≡ o → has_parameters o n ≡ true → IsFunction functions w n
function_of functions w n None e h = absurd cc
function_of functions w n (Some f) e h = (f, e, eqb-true _ n h)

primitive_of : (s n : ℕ) (o : Option Operator) → operator_of s ≡ o → has_operands o n ≡ true → IsPrimitive s n
primitive_of s n None e h = absurd cc
primitive_of s n (Some o) e h = (o, e, eqb-true _ n h)

among_either : (y : Name) (xs ys : List Name) → is_name_among y (xs ++ ys) ≡ true → (is_name_among y xs ≡ true) ⊎ (is_name_among y ys ≡ true)
among_either y [] ys h = inr h
among_either y (x ∷ xs) ys h =
    ⊎_elim
    (λ (t : same_name y x ≡ true). inl (rw t refl))
    (λ (t : same_name y x ≡ false). rw t (among_either y xs ys (rw t at h)))
    (cases (same_name y x))

among_without : (x y : Name) (xs : List Name) → is_name_among y (without x xs) ≡ true → is_name_among y xs ≡ true
among_without x y [] h = h
among_without x y (z ∷ zs) h =
    ⊎_elim
    (λ (t : same_name y z ≡ true). rw t refl)
    (λ (t : same_name y z ≡ false).
    rw t (⊎_elim
    (λ (u : same_name x z ≡ true). among_without x y zs (rw u at h))
    (λ (u : same_name x z ≡ false). let k = rw u at h in among_without x y zs (rw t at k))
    (cases (same_name x z))))
    (cases (same_name y z))

among_body : (bs : List Binder) (y : Name) (xs : List Name) → is_name_among y (without_all bs xs) ≡ true → is_name_among y xs ≡ true
among_body [] y xs h = h
among_body (b ∷ bs) y xs h = among_without (name_of b) y xs (among_body bs y _ h)

bound_inside : (bs above : List Binder) (y : Name) → binds_name bs y ≡ false → is_bound (inside bs above) y ≡ is_bound above y
bound_inside [] above y h = refl
bound_inside (b ∷ bs) above y h =
    ⊎_elim
    (λ (t : same_name (name_of b) y ≡ true). let k : true ≡ false = rw t at h in absurd cc)
    (λ (t : same_name (name_of b) y ≡ false). bound_inside bs (b ∷ above) y (rw t at h) ∙ rw t)
    (cases (same_name (name_of b) y))

module _ (functions : List Function) (globals : List ℕ) where
  -- all of these are seen
  abbrev Seen : List Binder → List Name → Type 0
  Seen above xs = (y : Name) → is_name_among y xs ≡ true → is_seen globals above y ≡ true

  seen_none : (above : List Binder) → Seen above []
  seen_none above y h = absurd cc

  seen_one : (above : List Binder) (x : Name) (xs : List Name) → is_seen globals above x ≡ true → Seen above xs → Seen above (x ∷ xs)
  seen_one above x xs h k y i =
      ⊎_elim
      (λ (t : same_name y x ≡ true). subst (λ z. is_seen globals above z ≡ true) (sym (name_same y x t)) h)
      (λ (t : same_name y x ≡ false). k y (rw t at i))
      (cases (same_name y x))

  seen_both : (above : List Binder) (xs ys : List Name) → Seen above xs → Seen above ys → Seen above (xs ++ ys)
  seen_both above xs ys h k y i = ⊎_elim (h y) (k y) (among_either y xs ys i)

  seen_body : (bs above : List Binder) (xs : List Name) → Seen (inside bs above) xs → Seen above (without_all bs xs)
  seen_body bs above xs h y i =
      ⊎_elim
      (λ (t : binds_name bs y ≡ true). let bad : true ≡ false = sym i ∙ bound_not_among bs xs y t in absurd cc)
      (λ (t : binds_name bs y ≡ false). rw (bound_inside bs above y t) at (h y (among_body bs y xs i)))
      (cases (binds_name bs y))

  mutual
    seen : (above : List Binder) (c : Core) → is_right functions globals above c ≡ true → Seen above (free c)
    seen above (core.core at n) h = seen_node above n h

    seen_node : (above : List Binder) (n : Node) → is_right_node functions globals above n ≡ true → Seen above (free_in_node n)
    seen_node above (constant f) h = seen_none above
    seen_node above (variable y) h = seen_one above y [] h (seen_none above)
    seen_node above (setq y o c) h = seen_one above y (free c) (left _ _ h) (seen above c (right _ _ h))
    seen_node above (conditional a b c) h =
        seen_both above (free a) (free b ++ free c) (seen above a (left _ _ h))
        (seen_both above (free b) (free c) (seen above b (left _ _ (right _ _ h))) (seen above c (right _ _ (right _ _ h))))
    seen_node above (progn cs) h = seen_cores above cs h
    seen_node above (binding bs c) h =
        seen_both above (free_in_values bs) _ (seen_values above bs (left _ _ h)) (seen_body (binders_in bs) above (free c) (seen _ c (right _ _ h)))
    seen_node above (primitive o cs) h = seen_cores above cs (right _ _ h)
    seen_node above (core.print c) h = seen above c h
    seen_node above (core.call f o cs) h = seen_cores above cs (right _ _ h)
    seen_node above (core.funcall ignored c cs) h = seen_both above (free c) (free_in_cores cs) (seen above c (left _ _ h)) (seen_cores above cs (right _ _ h))
    seen_node above (lambda ps c) h = seen_body ps above (free c) (seen _ c h)
    seen_node above (core.qlet p bs c) h =
        seen_both above (free p) _ (seen above p (left _ _ h))
        (seen_both above (free_in_values bs) _ (seen_values above bs (left _ _ (right _ _ h))) (seen_body (binders_in bs) above (free c) (seen _ c (right _ _ (right _ _ h)))))
    seen_node above (core.qlambda p ps c) h = seen_both above (free p) _ (seen above p (left _ _ h)) (seen_body ps above (free c) (seen _ c (right _ _ h)))
    seen_node above (core.catch a b) h = seen_both above (free a) (free b) (seen above a (left _ _ h)) (seen above b (right _ _ h))
    seen_node above (core.qcatch a b) h = seen_both above (free a) (free b) (seen above a (left _ _ h)) (seen above b (right _ _ h))
    seen_node above (core.throw a b) h = seen_both above (free a) (free b) (seen above a (left _ _ h)) (seen above b (right _ _ h))
    seen_node above (core.protect a b) h = seen_both above (free a) (free b) (seen above a (left _ _ h)) (seen above b (right _ _ h))
    seen_node above (defvar w o c) h = seen_one above (named w) (free c) (left _ _ h) (seen above c (right _ _ h))

    seen_cores : (above : List Binder) (cs : Cores) → are_right functions globals above cs ≡ true → Seen above (free_in_cores cs)
    seen_cores above no_cores h = seen_none above
    seen_cores above (and_core c cs) h = seen_both above (free c) (free_in_cores cs) (seen above c (left _ _ h)) (seen_cores above cs (right _ _ h))

    seen_values : (above : List Binder) (bs : Bounds) → are_right_values functions globals above bs ≡ true → Seen above (free_in_values bs)
    seen_values above no_bounds h = seen_none above
    seen_values above (and_bound b c bs) h = seen_both above (free c) (free_in_values bs) (seen above c (left _ _ h)) (seen_values above bs (right _ _ h))

  mutual
    counts : (above : List Binder) (c : Core) → is_right functions globals above c ≡ true → IsRight functions c
    counts above (core.core at n) h = counts_node above n h

    counts_node : (above : List Binder) (n : Node) → is_right_node functions globals above n ≡ true → IsRightNode functions n
    counts_node above (constant f) h = tt
    counts_node above (variable y) h = tt
    counts_node above (setq y o c) h = counts above c (right _ _ h)
    counts_node above (conditional a b c) h = (counts above a (left _ _ h), counts above b (left _ _ (right _ _ h)), counts above c (right _ _ (right _ _ h)))
    counts_node above (progn cs) h = counts_cores above cs h
    counts_node above (binding bs c) h = (counts_values above bs (left _ _ h), counts _ c (right _ _ h))
    counts_node above (primitive o cs) h = (primitive_of o (count cs) _ refl (left _ _ h), counts_cores above cs (right _ _ h))
    counts_node above (core.print c) h = counts above c h
    counts_node above (core.call f o cs) h = (function_of functions f (count cs) _ refl (left _ _ h), counts_cores above cs (right _ _ h))
    counts_node above (core.funcall ignored c cs) h = (counts above c (left _ _ h), counts_cores above cs (right _ _ h))
    counts_node above (lambda ps c) h = counts _ c h
    counts_node above (core.qlet p bs c) h = (counts above p (left _ _ h), counts_values above bs (left _ _ (right _ _ h)), counts _ c (right _ _ (right _ _ h)))
    counts_node above (core.qlambda p ps c) h = (counts above p (left _ _ h), counts _ c (right _ _ h))
    counts_node above (core.catch a b) h = (counts above a (left _ _ h), counts above b (right _ _ h))
    counts_node above (core.qcatch a b) h = (counts above a (left _ _ h), counts above b (right _ _ h))
    counts_node above (core.throw a b) h = (counts above a (left _ _ h), counts above b (right _ _ h))
    counts_node above (core.protect a b) h = (counts above a (left _ _ h), counts above b (right _ _ h))
    counts_node above (defvar w o c) h = counts above c (right _ _ h)

    counts_cores : (above : List Binder) (cs : Cores) → are_right functions globals above cs ≡ true → AreRight functions cs
    counts_cores above no_cores h = tt
    counts_cores above (and_core c cs) h = (counts above c (left _ _ h), counts_cores above cs (right _ _ h))

    counts_values : (above : List Binder) (bs : Bounds) → are_right_values functions globals above bs ≡ true → AreRightValues functions bs
    counts_values above no_bounds h = tt
    counts_values above (and_bound b c bs) h = (counts above c (left _ _ h), counts_values above bs (right _ _ h))

  -- what is seen at the top is a global
  all_global : (xs : List Name) → Seen [] xs → AreGlobal globals xs
  all_global xs h y i = global_of globals y (h y i)

  all_functions : (fs : List Function) → are_right_functions functions globals fs ≡ true → AreRightFunctions functions globals fs
  all_functions [] h = tt
  all_functions (f ∷ fs) h =
      let k = left _ _ h in
      ((counts (inside (parameters_of f) []) (body_of f) k, all_global _ (seen_body (parameters_of f) [] (free (body_of f)) (seen (inside (parameters_of f) []) (body_of f) k))), all_functions fs (right _ _ h))

pub record Checked (p : Program) : Type 0 where
  pub functions : AreRightFunctions (functions_of p) (globals_of p) (functions_of p)
  pub tops : AreRight (functions_of p) (tops_of p)
  pub variables : AreGlobal (globals_of p) (free_in_cores (tops_of p))

pub checked : (p : Program) → is_compilable p ≡ true → Checked p
checked p h =
    let fs = functions_of p in
    let gs = globals_of p in
    record {
      functions = all_functions fs gs fs (left _ _ h);
      tops = counts_cores fs gs [] (tops_of p) (right _ _ h);
      variables = all_global fs gs _ (seen_cores fs gs [] (tops_of p) (right _ _ h));
    }
