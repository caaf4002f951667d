-- Where nothing is wrong with the names of what forms expand to, each variable is seen, each call has its function, and each primitive its operands.
use Rattle.std.proofs.Common.{◌≡◌, ℕ, ◌+◌, Bool, true, ◌||◌, List, [], ◌∷◌, ◌++◌, Option, Some, None, refl, arith}
use Rattle.std.proofs.lemmas.Bool.Decides.{nat_tests}
use Rattle.ql_base.specs.declared.refusal.Fault.{Fault}
use Rattle.ql_forms.specs.Form.{Form, Forms}
use Rattle.ql_expand.specs.Core.{Name, named, hidden, Binder, binder, Core, Cores, Bounds, Function, Program, program}
use Rattle.ql_expand.specs.Expands.{Expands, sugar, or_more, integer_alone, constant_word, quoted, variable_word, assigned, if_then, if_else, sequence, bound, one_operand, two_operands, printed, called, value_called, closed, bound_apart, closed_apart, caught, caught_all, thrown, protected, Body, no_forms, one_form, forms, InTurn, last_form, then_forms, Each, none_left, one_more, Bind, with_value, without_value, alone, Binds, none_bound, one_bound, TopForms, no_tops, top_function, top_global, top_form, ExpandsTo}
use Rattle.ql_expand.specs.Primitives.{count_of}
use Rattle.ql_scope.specs.Compilable.{is_bound, is_seen, has_parameters, is_right, are_right, are_right_values, are_right_functions, is_compilable}
use Rattle.ql_scope.specs.Scope.{Place, is_among, names_at, binders_in, under, use_faults, count_faults, core_faults, cores_faults, arguments_faults, values_faults, functions_faults, parameter_count, top, InScope}
use Rattle.ql_scope.specs.Stored.{inside}

no_first : (xs ys : List Fault) → xs ++ ys ≡ [] → xs ≡ []
no_first [] ys h = refl
no_first (x ∷ xs) ys h = cc

no_second : (xs ys : List Fault) → xs ++ ys ≡ [] → ys ≡ []
no_second [] ys h = h
no_second (x ∷ xs) ys h = cc

-- each variable of the place is bound above it
abbrev Sees : List Binder → Place → Type 0
Sees above p = (w : ℕ) → is_among w p.variables ≡ true → is_bound above (named w) ≡ true

still_bound : (bs above : List Binder) (y : Name) → is_bound above y ≡ true → is_bound (inside bs above) y ≡ true
still_bound [] above y h = h
still_bound (binder at x ∷ bs) above y h = still_bound bs (binder at x ∷ above) y (grind (arith, nat_tests))

bound_inside : (bs above : List Binder) (w : ℕ) → is_among w (names_at bs) ≡ true → is_bound (inside bs above) (named w) ≡ true
bound_inside [] above w h = cc
bound_inside (binder at (hidden n) ∷ bs) above w h = bound_inside bs (binder at (hidden n) ∷ above) w h
bound_inside (binder at (named v) ∷ bs) above w h =
    grind (arith, nat_tests, still_bound bs (binder at (named v) ∷ above) (named w), bound_inside bs (binder at (named v) ∷ above) w)

among_either : (w : ℕ) (ms ns : List ℕ) → is_among w (ms ++ ns) ≡ is_among w ms || is_among w ns
among_either w [] ns = refl
among_either w (m ∷ ms) ns = grind (arith, nat_tests, among_either w ms ns)

sees_inside : (bs above : List Binder) (p : Place) → Sees above p → Sees (inside bs above) (under bs p)
sees_inside bs above p s w h =
    grind (arith, nat_tests, among_either w p.variables (names_at bs), s w, still_bound bs above (named w), bound_inside bs above w)

seen : (above : List Binder) (p : Place) (at w : ℕ) → Sees above p → use_faults p at (named w) ≡ [] → is_seen p.globals above (named w) ≡ true
seen above p at w s h = grind (arith, nat_tests, s w)

counted : (o : Option ℕ) (at n : ℕ) → count_faults at n o ≡ [] → has_parameters o n ≡ true
counted None at n h = cc
counted (Some m) at n h = grind (arith, nat_tests)

mutual
  right : {d : Bool} {f : Form} {c : Core} → Expands d f c → (above : List Binder) (p : Place) → Sees above p → core_faults p c ≡ []
      → is_right p.functions p.globals above c ≡ true
  right (sugar r x) above p s h = right x above p s h
  right (or_more {at = at} k x y) above p s h =
      let bs = binder at (hidden 0) ∷ [] in
      let t = sees_inside bs above p s in
      grind (arith, nat_tests, no_first, no_second, right x above p s, right y (inside bs above) (under bs p) t)
  right integer_alone above p s h = refl
  right (constant_word k) above p s h = refl
  right (quoted k) above p s h = refl
  right (variable_word {at = at} {w = w} k) above p s h = seen above p at w s h
  right (assigned {p = o} {v = v} k x) above p s h = grind (arith, nat_tests, no_first, no_second, seen above p o v s, right x above p s)
  right (if_then k x y) above p s h = grind (arith, nat_tests, no_first, no_second, right x above p s, right y above p s)
  right (if_else k x y z) above p s h = grind (arith, nat_tests, no_first, no_second, right x above p s, right y above p s, right z above p s)
  right (sequence k y) above p s h = right_body y above p s h
  right (bound {ns = ns} k i m y) above p s h =
      let t = sees_inside (binders_in ns) above p s in
      grind (arith, nat_tests, no_first, no_second, right_values m above p s, right_body y (inside (binders_in ns) above) (under (binders_in ns) p) t)
  right (one_operand k x) above p s h = grind (arith, nat_tests, no_first, no_second, right x above p s)
  right (two_operands k x y) above p s h = grind (arith, nat_tests, no_first, no_second, right x above p s, right y above p s)
  right (printed k x) above p s h = grind (arith, nat_tests, no_first, no_second, right x above p s)
  right (called {o = o} {w = w} {cs = cs} k m) above p s h =
      grind (arith, nat_tests, no_first, no_second, counted (parameter_count p.functions w) o (count_of cs), right_each m above p s)
  right (value_called k x m) above p s h = grind (arith, nat_tests, no_first, no_second, right x above p s, right_arguments m above p 0 s)
  right (closed {vs = vs} k i y) above p s h =
      let t = sees_inside vs above p s in
      grind (arith, nat_tests, no_first, no_second, right_body y (inside vs above) (under vs p) t)
  right (bound_apart {ns = ns} k x i m y) above p s h =
      let t = sees_inside (binders_in ns) above p s in
      grind (arith, nat_tests, no_first, no_second, right x above p s, right_values m above p s, right_body y (inside (binders_in ns) above) (under (binders_in ns) p) t)
  right (closed_apart {vs = vs} k x i y) above p s h =
      let t = sees_inside vs above p s in
      grind (arith, nat_tests, no_first, no_second, right x above p s, right_body y (inside vs above) (under vs p) t)
  right (caught k x y) above p s h = grind (arith, nat_tests, no_first, no_second, right x above p s, right_body y above p s)
  right (caught_all k x y) above p s h = grind (arith, nat_tests, no_first, no_second, right x above p s, right_body y above p s)
  right (thrown k x y) above p s h = grind (arith, nat_tests, no_first, no_second, right x above p s, right y above p s)
  right (protected k x y) above p s h = grind (arith, nat_tests, no_first, no_second, right x above p s, right_body y above p s)

  right_body : {at : ℕ} {fs : Forms} {c : Core} → Body at fs c → (above : List Binder) (p : Place) → Sees above p → core_faults p c ≡ []
      → is_right p.functions p.globals above c ≡ true
  right_body no_forms above p s h = refl
  right_body (one_form x) above p s h = right x above p s h
  right_body (forms m) above p s h = right_turn m above p s h

  right_turn : {fs : Forms} {cs : Cores} → InTurn fs cs → (above : List Binder) (p : Place) → Sees above p → cores_faults p cs ≡ []
      → are_right p.functions p.globals above cs ≡ true
  right_turn (last_form x) above p s h = grind (arith, nat_tests, no_first, no_second, right x above p s)
  right_turn (then_forms x m) above p s h = grind (arith, nat_tests, no_first, no_second, right x above p s, right_turn m above p s)

  right_each : {fs : Forms} {cs : Cores} → Each fs cs → (above : List Binder) (p : Place) → Sees above p → cores_faults p cs ≡ []
      → are_right p.functions p.globals above cs ≡ true
  right_each none_left above p s h = refl
  right_each (one_more x m) above p s h = grind (arith, nat_tests, no_first, no_second, right x above p s, right_each m above p s)

  right_arguments : {fs : Forms} {cs : Cores} → Each fs cs → (above : List Binder) (p : Place) (count : ℕ) → Sees above p → arguments_faults p count cs ≡ []
      → are_right p.functions p.globals above cs ≡ true
  right_arguments none_left above p count s h = refl
  right_arguments (one_more x m) above p count s h =
      grind (arith, nat_tests, no_first, no_second, right x above p s, right_arguments m above p (count + 1) s)

  right_value : {f : Form} {b : Binder} {c : Core} → Bind f b c → (above : List Binder) (p : Place) → Sees above p → core_faults p c ≡ []
      → is_right p.functions p.globals above c ≡ true
  right_value (with_value x) above p s h = right x above p s h
  right_value without_value above p s h = refl
  right_value alone above p s h = refl

  right_values : {fs : Forms} {ns : Bounds} → Binds fs ns → (above : List Binder) (p : Place) → Sees above p → values_faults p ns ≡ []
      → are_right_values p.functions p.globals above ns ≡ true
  right_values none_bound above p s h = refl
  right_values (one_bound x m) above p s h = grind (arith, nat_tests, no_first, no_second, right_value x above p s, right_values m above p s)

-- the place has all these globals
abbrev Has : List ℕ → Place → Type 0
Has globals p = (w : ℕ) → is_among w globals ≡ true → is_among w p.globals ≡ true

-- a place where no variable is bound
abbrev IsTop : Place → Type 0
IsTop p = Sees [] p

right_functions : {fs : Forms} {functions : List Function} {globals : List ℕ} {cs : Cores} → TopForms fs functions globals cs → (p : Place) → IsTop p
    → functions_faults p functions ≡ [] → are_right_functions p.functions p.globals functions ≡ true
right_functions no_tops p s h = refl
right_functions (top_function {vs = vs} k i y t) p s h =
    let u = sees_inside vs [] p s in
    grind (arith, nat_tests, no_first, no_second, right_body y (inside vs []) (under vs p) u, right_functions t p s)
right_functions (top_global k x t) p s h = right_functions t p s h
right_functions (top_form x t) p s h = right_functions t p s h

right_tops : {fs : Forms} {functions : List Function} {globals : List ℕ} {cs : Cores} → TopForms fs functions globals cs → (p : Place) → IsTop p → Has globals p
    → cores_faults p cs ≡ [] → are_right p.functions p.globals [] cs ≡ true
right_tops no_tops p s g h = refl
right_tops (top_function k i y t) p s g h = right_tops t p s g h
right_tops (top_global {v = v} {globals = globals} k x t) p s g h =
    let later : Has globals p = λ w i. g w (grind (arith, nat_tests)) in
    grind (arith, nat_tests, no_first, no_second, g v, right x [] p s, right_tops t p s later)
right_tops (top_form x t) p s g h = grind (arith, nat_tests, no_first, no_second, right x [] p s, right_tops t p s g)

pub is_right_program : (fs : Forms) (p : Program) → ExpandsTo fs p → InScope p → is_compilable p ≡ true
is_right_program fs (program functions globals cs) t h =
    let p = top functions globals in
    grind (arith, nat_tests, no_first, no_second, right_functions t p (λ w i. i), right_tops t p (λ w i. i) (λ w i. i))
