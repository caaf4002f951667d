-- What the scope check calls compilable can be compiled.
use Rattle.std.proofs.Common.{◌≡◌, ℕ, zero, suc, ◌+◌, ◌<◌, ◌≤◌, ◌==◌, Bool, true, false, not, ◌&&◌, ◌||◌, List, [], ◌∷◌, length, map, Option, Some, None, is_some, refl, sym, ap, ap₂, ◌∙◌, subst, ⊎_elim, arith, eqb-true, nat_lt}
use Rattle.std.proofs.Math.Nat.{eq-or-lt_of_le}
use Rattle.std.proofs.lemmas.Bool.{ltb-true, ltb-false}
use Rattle.std.proofs.lemmas.Option.{slice_get_past}
use Rattle.std.specs.Prelude.{if◌then◌else◌, option_map}
use Rattle.ql_base.specs.Reserved.{all}
use Rattle.ql_expand.specs.Core as core
use Rattle.ql_expand.specs.Core.{Name, named, hidden, Binder, binder, Core, Node, constant, variable, setq, conditional, progn, binding, primitive, lambda, defvar, Cores, no_cores, and_core, Bounds, no_bounds, and_bound, Function, function, Program, program}
use Rattle.ql_expand.specs.Operator as words
use Rattle.ql_expand.specs.Operator.{operator_or_call}
use Rattle.ql_expand.specs.Primitives.{takes, takes_one, count_of}
use Rattle.ql_scope.specs.Scope.{head_of, is_among, parameter_count, binders_in}
use Rattle.ql_scope.specs.Stored.{inside}
use Rattle.ql_scope.specs.Compilable as scope
use Rattle.ql_world.specs.Operator.{operator_of}
use Rattle.ql_meaning.specs.Context.{same_name, place_of, function_called}
use Rattle.ql_compile.specs.Compile.{count}
use Rattle.ql_compile.proofs.Compilable.{is_bound, is_global, is_seen, has_parameters, has_operands, is_right, is_right_node, are_right, are_right_values, are_right_functions, is_compilable}
use Rattle.ql_compile.proofs.Cases.{cases, Goes, both}

same_names : (x y : Name) → scope.same_name x y ≡ same_name x y
same_names (named v) (named w) = refl
same_names (named v) (hidden n) = refl
same_names (hidden m) (named w) = refl
same_names (hidden m) (hidden n) = refl

same_bound : (bs : List Binder) (y : Name) → scope.is_bound bs y ≡ is_bound bs y
same_bound [] y = refl
same_bound (binder at x ∷ bs) y = ap₂ (λ a b. a || b) (same_names x y) (same_bound bs y)

some_more : (o : Option ℕ) → is_some (option_map (λ i. i + 1) o) ≡ is_some o
some_more None = refl
some_more (Some i) = refl

among_if : (b c : Bool) (o : Option ℕ) → c ≡ is_some o → (b || c) ≡ is_some (if b then Some 0 else option_map (λ i. i + 1) o)
among_if true c o e = refl
among_if false c o e = e ∙ sym (some_more o)

same_among : (ns : List ℕ) (w : ℕ) → is_among w ns ≡ is_some (place_of ns w)
same_among [] w = refl
same_among (n ∷ ns) w = among_if (n == w) (is_among w ns) (place_of ns w) (same_among ns w)

same_global : (globals : List ℕ) (y : Name) → scope.is_global globals y ≡ is_global globals y
same_global globals (named w) = same_among globals w
same_global globals (hidden n) = refl

same_seen : (globals : List ℕ) (above : List Binder) (y : Name) → scope.is_seen globals above y ≡ is_seen globals above y
same_seen globals above y = ap₂ (λ a b. a || b) (same_bound above y) (same_global globals y)

seen : (globals : List ℕ) (above : List Binder) (y : Name) → Goes (scope.is_seen globals above y) (is_seen globals above y)
seen globals above y h = sym (same_seen globals above y) ∙ h

called_if : (b : Bool) (at w o : ℕ) (ps : List Binder) (c : Core) (k : ℕ) (m : Option ℕ) (f : Option Function) → scope.has_parameters m k ≡ has_parameters f k
    → scope.has_parameters (if b then Some (length ps) else m) k ≡ has_parameters (if b then Some (function at w o ps c) else f) k
called_if true at w o ps c k m f e = refl
called_if false at w o ps c k m f e = e

same_called : (fs : List Function) (w k : ℕ) → scope.has_parameters (parameter_count (map head_of fs) w) k ≡ has_parameters (function_called fs w) k
same_called [] w k = refl
same_called (function at v o ps c ∷ fs) w k = called_if (v == w) at v o ps c k _ _ (same_called fs w k)

same_count : (cs : Cores) → count_of cs ≡ count cs
same_count no_cores = refl
same_count (and_core c cs) = let e = same_count cs in omega (arith, e)

called : (fs : List Function) (w : ℕ) (cs : Cores) → Goes (scope.has_parameters (parameter_count (map head_of fs) w) (count_of cs)) (has_parameters (function_called fs w) (count cs))
called fs w cs h = subst (λ k. has_parameters (function_called fs w) k ≡ true) (same_count cs) (sym (same_called fs w (count_of cs)) ∙ h)

-- of each reserved word
abbrev goes : Bool → Bool → Bool
goes a b = not a || b

abbrev agrees : ℕ → Bool
agrees o = goes (takes_one (words.operator_of o)) (has_operands (operator_of o) 1) && goes (words.takes_two (words.operator_of o)) (has_operands (operator_of o) 2)

abbrev all_below : ℕ → Bool
all_below zero = true
all_below (suc n) = agrees n && all_below n

reserved_agree : all_below 46 ≡ true
unfolding words.operator_of
reserved_agree = refl

and_left : (a b : Bool) → (a && b) ≡ true → a ≡ true
and_left true b h = refl
and_left false b h = absurd cc

and_right : (a b : Bool) → (a && b) ≡ true → b ≡ true
and_right true b h = h
and_right false b h = absurd cc

below : (n m : ℕ) → m < n → all_below n ≡ true → agrees m ≡ true
below zero m l h = absurd (omega (arith, l))
below (suc n) m l h =
    ⊎_elim
    (λ (e : m ≡ n). subst (λ k. agrees k ≡ true) (sym e) (and_left (agrees n) (all_below n) h))
    (λ (e : m < n). below n m e (and_right (agrees n) (all_below n) h))
    (eq-or-lt_of_le (omega (arith, l)))

no_word : (o : ℕ) → 46 ≤ o → words.operator_of o ≡ operator_or_call None
unfolding words.operator_of
no_word o l = ap operator_or_call (slice_get_past all o l)

no_agrees : (o : ℕ) → 46 ≤ o → agrees o ≡ true
no_agrees o l = rw (no_word o l) refl

agreed : (o : ℕ) → agrees o ≡ true
agreed o = ⊎_elim (λ (l : nat_lt o 46 ≡ true). below 46 o (ltb-true o 46 l) reserved_agree) (λ (l : nat_lt o 46 ≡ false). no_agrees o (ltb-false o 46 l)) (cases (nat_lt o 46))

then_goes : (a b : Bool) → goes a b ≡ true → Goes a b
then_goes true true e h = refl
then_goes true false e h = e
then_goes false true e h = refl
then_goes false false e h = h

takes_if : (o k : ℕ) → agrees o ≡ true → (b d : Bool) → (k == 1) ≡ b → (k == 2) ≡ d → (if b then takes_one (words.operator_of o) else (d && words.takes_two (words.operator_of o))) ≡ true → has_operands (operator_of o) k ≡ true
takes_if o k g true d e f h = rw (eqb-true k 1 e) (then_goes (takes_one (words.operator_of o)) (has_operands (operator_of o) 1) (and_left (goes (takes_one (words.operator_of o)) (has_operands (operator_of o) 1)) (goes (words.takes_two (words.operator_of o)) (has_operands (operator_of o) 2)) g) h)
takes_if o k g false true e f h = rw (eqb-true k 2 f) (then_goes (words.takes_two (words.operator_of o)) (has_operands (operator_of o) 2) (and_right (goes (takes_one (words.operator_of o)) (has_operands (operator_of o) 1)) (goes (words.takes_two (words.operator_of o)) (has_operands (operator_of o) 2)) g) h)
takes_if o k g false false e f h = absurd cc

takes_operands : (o k : ℕ) → Goes (takes o k) (has_operands (operator_of o) k)
takes_operands o k h = takes_if o k (agreed o) (k == 1) (k == 2) refl refl h

operands : (o : ℕ) (cs : Cores) → Goes (takes o (count_of cs)) (has_operands (operator_of o) (count cs))
operands o cs h = subst (λ k. has_operands (operator_of o) k ≡ true) (same_count cs) (takes_operands o (count_of cs) h)

module _ (fs : List Function) (globals : List ℕ) where
  mutual
    right : (above : List Binder) (c : Core) → Goes (scope.is_right (map head_of fs) globals above c) (is_right fs globals above c)
    right above (core.core at n) = right_node above n

    right_node : (above : List Binder) (n : Node) → Goes (scope.is_right_node (map head_of fs) globals above n) (is_right_node fs globals above n)
    right_node above (constant f) = λ h. refl
    right_node above (variable y) = seen globals above y
    right_node above (setq y o c) = both _ _ _ _ (seen globals above y) (right above c)
    right_node above (conditional a b c) = both _ _ _ _ (right above a) (both _ _ _ _ (right above b) (right above c))
    right_node above (progn cs) = all_right above cs
    right_node above (binding bs c) = both _ _ _ _ (all_right_values above bs) (right (inside (binders_in bs) above) c)
    right_node above (primitive o cs) = both _ _ _ _ (operands o cs) (all_right above cs)
    right_node above (core.print c) = right above c
    right_node above (core.call f o cs) = both _ _ _ _ (called fs f cs) (all_right above cs)
    right_node above (core.funcall ignored c cs) = both _ _ _ _ (right above c) (all_right above cs)
    right_node above (lambda ps c) = right (inside ps above) c
    right_node above (core.qlet p bs c) = both _ _ _ _ (right above p) (both _ _ _ _ (all_right_values above bs) (right (inside (binders_in bs) above) c))
    right_node above (core.qlambda p ps c) = both _ _ _ _ (right above p) (right (inside ps above) c)
    right_node above (core.catch a b) = both _ _ _ _ (right above a) (right above b)
    right_node above (core.qcatch a b) = both _ _ _ _ (right above a) (right above b)
    right_node above (core.throw a b) = both _ _ _ _ (right above a) (right above b)
    right_node above (core.protect a b) = both _ _ _ _ (right above a) (right above b)
    right_node above (defvar w o c) = both _ _ _ _ (seen globals above (named w)) (right above c)

    all_right : (above : List Binder) (cs : Cores) → Goes (scope.are_right (map head_of fs) globals above cs) (are_right fs globals above cs)
    all_right above no_cores = λ h. refl
    all_right above (and_core c cs) = both _ _ _ _ (right above c) (all_right above cs)

    all_right_values : (above : List Binder) (bs : Bounds) → Goes (scope.are_right_values (map head_of fs) globals above bs) (are_right_values fs globals above bs)
    all_right_values above no_bounds = λ h. refl
    all_right_values above (and_bound b c bs) = both _ _ _ _ (right above c) (all_right_values above bs)

  right_functions : (gs : List Function) → Goes (scope.are_right_functions (map head_of fs) globals gs) (are_right_functions fs globals gs)
  right_functions [] = λ h. refl
  right_functions (function at n o ps c ∷ gs) = both _ _ _ _ (right (inside ps []) c) (right_functions gs)

pub can_be_compiled : (p : Program) → scope.is_compilable p ≡ true → is_compilable p ≡ true
can_be_compiled (program fs globals cs) = both _ _ _ _ (right_functions fs globals fs) (all_right fs globals [] cs)
