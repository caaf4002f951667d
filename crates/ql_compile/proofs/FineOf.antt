-- What the checks let through is fine.
use Rattle.std.proofs.Common.{◌≡◌, ℕ, Bool, true, false, List, [], ◌∷◌, ◌++◌, length, map, Option, Some, None, refl, sym, ap, ◌∙◌, subst, ⊎_elim, eq-eqb, eqb-true}
use Rattle.std.specs.Prelude.{◌&&◌, ◌||◌, if◌then◌else◌, is_some, leb}
use Rattle.std.proofs.lemmas.Bool.{leb-true}
use Rattle.ql_forms.specs.Form.{Form}
use Rattle.ql_expand.specs.Core as core
use Rattle.ql_expand.specs.Core.{Name, named, hidden, Binder, binder, Core, Node, constant, variable, setq, conditional, progn, binding, primitive, lambda, defvar, Cores, no_cores, and_core, Bounds, no_bounds, and_bound, Function, function, Program, program}
use Rattle.ql_scope.specs.Scope.{binders_in}
use Rattle.ql_scope.specs.Stored.{has_name, binder_named, inside, at_most_one, binder_set, stored_in, stored_in_node, stored_in_cores, stored_in_values, same_variable, is_binder_among}
use Rattle.ql_world.specs.Operator.{operator_of}
use Rattle.ql_world.specs.declared.operator.Operator.{Operator}
use Rattle.ql_meaning.specs.Context.{Context, same_name, name_of, constant_word, stored_among, function_called}
use Rattle.ql_code.specs.Code.{Code}
use Rattle.ql_compile.specs.Compile.{Scope, Places, find_in, is_name_among, without, without_all, free, free_in_node, free_in_cores, free_in_values, caught, with_variables, count, body_scope, place_called}
use Rattle.ql_code.specs.Sound.{is_constant}
use Rattle.ql_compile.proofs.Compilable.{is_bound, is_global, is_seen, has_parameters, has_operands, is_right, is_right_node, are_right, are_right_values}
use Rattle.ql_compile.proofs.Sized.{is_named, is_sized, is_sized_node, are_sized, are_sized_values}
use Rattle.ql_compile.proofs.Cases.{cases}
use Rattle.ql_compile.proofs.Noted.{inner_scope}
use Rattle.ql_compile.proofs.Fine.{IsGlobal, Readable, Writable, IsCalled, IsPrimitive, Fine, FineNode, FineCores, FineValues, FineForms}
use Rattle.ql_compile.proofs.Scopes.{name_same, name_refl, binds_name, among_left, among_right, still_among, not_among, bound_not_among, unbound_among}

pub both_true : (a b : Bool) → (a && b) ≡ true → (a ≡ true) × (b ≡ true)
both_true true b e = (refl, e)
both_true false b e = absurd cc

pub or_true : (a b : Bool) → b ≡ true → (a || b) ≡ true
or_true true b e = refl
or_true false b e = e

-- the innermost binder of a variable
abbrev pub bound : List Binder → Name → Option Binder
bound [] y = None
bound (b ∷ bs) y = if same_name (name_of b) y then Some b else bound bs y

some_if : {A : Type 0} (b : Bool) (x : A) (o : Option A) → is_some (if b then Some x else o) ≡ (b || is_some o)
some_if true x o = refl
some_if false x o = refl

bound_some : (bs : List Binder) (y : Name) → is_bound bs y ≡ is_some (bound bs y)
bound_some [] y = refl
bound_some (b ∷ bs) y = ap (λ z. same_name (name_of b) y || z) (bound_some bs y) ∙ sym (some_if (same_name (name_of b) y) b (bound bs y))

has_same : (w : ℕ) (b : Binder) → has_name w b ≡ same_name (name_of b) (named w)
has_same w (binder at (named v)) = refl
has_same w (binder at (hidden n)) = refl

bound_named : (bs : List Binder) (w : ℕ) → binder_named bs w ≡ bound bs (named w)
bound_named [] w = refl
bound_named (b ∷ bs) w = rw (has_same w b, bound_named bs w)

-- a binder of a name that the source names
abbrev Is : ℕ → Option Binder → Type 0
Is w None = Unit {0}
Is w (Some b) = same_variable b b ≡ true

itself : (w : ℕ) (b : Binder) → same_name (name_of b) (named w) ≡ true → same_variable b b ≡ true
itself w (binder at (named v)) e = rw (eq-eqb at at refl, eq-eqb v v refl)
itself w (binder at (hidden n)) e = absurd cc

is_if : (w : ℕ) (c : Bool) (b : Binder) (o : Option Binder) → (c ≡ true → same_variable b b ≡ true) → Is w o → Is w (if c then Some b else o)
is_if w true b o f h = f refl
is_if w false b o f h = h

bound_itself : (bs : List Binder) (w : ℕ) → Is w (bound bs (named w))
bound_itself [] w = tt
bound_itself (b ∷ bs) w = is_if w (same_name (name_of b) (named w)) b (bound bs (named w)) (itself w b) (bound_itself bs w)

pub binder_left : (b : Binder) (xs ys : List Binder) → is_binder_among b xs ≡ true → is_binder_among b (xs ++ ys) ≡ true
binder_left b [] ys h = absurd cc
binder_left b (x ∷ xs) ys h =
    ⊎_elim
    (λ (t : same_variable b x ≡ true). rw t refl)
    (λ (t : same_variable b x ≡ false). rw t (binder_left b xs ys (rw t at h)))
    (cases (same_variable b x))

pub binder_right : (b : Binder) (xs ys : List Binder) → is_binder_among b ys ≡ true → is_binder_among b (xs ++ ys) ≡ true
binder_right b [] ys h = h
binder_right b (x ∷ xs) ys h =
    ⊎_elim
    (λ (t : same_variable b x ≡ true). rw t refl)
    (λ (t : same_variable b x ≡ false). rw t (binder_right b xs ys h))
    (cases (same_variable b x))

module _ (x : Context) (places : Places) where
  -- a variable is in a scope as it is among the binders above
  abbrev pub Same : Option (ℕ × Bool) → Option Binder → Type 0
  Same None None = Unit {0}
  Same (Some v) (Some b) = v.1 ≡ is_binder_among b x.stored
  Same None (Some b) = ⊥
  Same (Some v) None = ⊥

  abbrev pub Agrees : List Name → Scope → List Binder → Type 0
  Agrees xs sc above = (y : Name) → is_name_among y xs ≡ true → Same (find_in sc y) (bound above y)

  abbrev pub Contains : List Binder → Type 0
  Contains bs = (b : Binder) → is_binder_among b bs ≡ true → is_binder_among b x.stored ≡ true

  left : (xs ys : List Name) (sc : Scope) (above : List Binder) → Agrees (xs ++ ys) sc above → Agrees xs sc above
  left xs ys sc above h y i = h y (among_left y xs ys i)

  right : (xs ys : List Name) (sc : Scope) (above : List Binder) → Agrees (xs ++ ys) sc above → Agrees ys sc above
  right xs ys sc above h y i = h y (among_right y xs ys i)

  pub front : (a b : List Binder) → Contains (a ++ b) → Contains a
  front a b h c i = h c (binder_left c a b i)

  pub back : (a b : List Binder) → Contains (a ++ b) → Contains b
  back a b h c i = h c (binder_right c a b i)

  same_if : (c : Bool) (n : ℕ) (b : Binder) (o : Option (ℕ × Bool)) (q : Option Binder) → (c ≡ false → Same o q) → Same (if c then Some (n, is_binder_among b x.stored) else o) (if c then Some b else q)
  same_if true n b o q h = refl
  same_if false n b o q h = h refl

  -- variables are bound
  same_bound : (y : Name) (bs : List Binder) (sc : Scope) (above : List Binder) → (binds_name bs y ≡ false → Same (find_in sc y) (bound above y)) → Same (find_in (with_variables bs (stored_among x bs) sc) y) (bound (inside bs above) y)
  same_bound y [] sc above h = h refl
  same_bound y (b ∷ bs) sc above h =
      same_bound y bs (Some (name_of b, is_binder_among b x.stored) ∷ sc) (b ∷ above)
      (λ k. same_if (same_name (name_of b) y) (length sc) b (find_in sc y) (bound above y) (λ e. h (rw (e, k) refl)))

  pub agrees_inner : (xs : List Name) (bs : List Binder) (sc : Scope) (above : List Binder) → Agrees (without_all bs xs) sc above → Agrees xs (inner_scope x places bs sc) (inside bs above)
  agrees_inner xs bs sc above h y i = same_bound y bs sc above (λ e. h y (unbound_among bs xs y e i))

  abbrev variables : List (ℕ × (Name × Bool)) → Scope
  variables cs = map (λ c. Some c.1) cs

  same_found : (c : Bool) (n k : ℕ) (b : Bool) (o p : Option (ℕ × Bool)) (q : Option Binder) → (c ≡ false → Same o q → Same p q) → Same (if c then Some (n, b) else o) q → Same (if c then Some (k, b) else p) q
  same_found true n k b o p None f h = absurd h
  same_found true n k b o p (Some d) f h = h
  same_found false n k b o p q f h = f refl h

  -- under what is caught
  under_caught : (y : Name) (sc : Scope) (names : List Name) (w : Scope) (q : Option Binder) → is_name_among y names ≡ false → Same (find_in w y) q → Same (find_in (variables (caught sc names) ++ w) y) q
  under_caught y [] names w q e h = h
  under_caught y (None ∷ sc) names w q e h = under_caught y sc names w q e h
  under_caught y (Some v ∷ sc) names w q e h =
      ⊎_elim
      (λ (t : is_name_among v.0 names ≡ true).
      let apart : same_name v.0 y ≡ false =
      ⊎_elim
      (λ (u : same_name v.0 y ≡ true). let k : is_name_among y names ≡ true = subst (λ z. is_name_among z names ≡ true) (name_same v.0 y u) t in absurd cc)
      (λ (u : same_name v.0 y ≡ false). u)
      (cases (same_name v.0 y)) in
      rw (t, apart) (under_caught y sc (without v.0 names) w q (not_among names v.0 y e) h))
      (λ (t : is_name_among v.0 names ≡ false). rw t (under_caught y sc names w q e h))
      (cases (is_name_among v.0 names))

  -- a variable that is named is caught as it was outside
  captured_same : (y : Name) (w : Scope) (q : Option Binder) → find_in w y ≡ None → (sc : Scope) (names : List Name) → is_name_among y names ≡ true → Same (find_in sc y) q → Same (find_in (variables (caught sc names) ++ w) y) q
  captured_same y w q n [] names e h = rw n h
  captured_same y w q n (None ∷ sc) names e h = captured_same y w q n sc names e h
  captured_same y w q n (Some v ∷ sc) names e h =
      ⊎_elim
      (λ (t : is_name_among v.0 names ≡ true).
      rw t (same_found (same_name v.0 y) (length sc) _ v.1 (find_in sc y) (find_in (variables (caught sc (without v.0 names)) ++ w) y) q
      (λ u. captured_same y w q n sc (without v.0 names) (still_among names v.0 y u e)) h))
      (λ (t : is_name_among v.0 names ≡ false).
      let apart : same_name v.0 y ≡ false =
      ⊎_elim
      (λ (u : same_name v.0 y ≡ true). let k : is_name_among y names ≡ false = subst (λ z. is_name_among z names ≡ false) (name_same v.0 y u) t in absurd cc)
      (λ (u : same_name v.0 y ≡ false). u)
      (cases (same_name v.0 y)) in
      rw t (captured_same y w q n sc names e (rw apart at h)))
      (cases (is_name_among v.0 names))

  unbound_find : (bs : List Binder) (ts : List Bool) (sc : Scope) (y : Name) → binds_name bs y ≡ false → find_in (with_variables bs ts sc) y ≡ find_in sc y
  unbound_find [] ts sc y h = refl
  unbound_find (b ∷ bs) [] sc y h = refl
  unbound_find (b ∷ bs) (s ∷ ts) sc y h =
      ⊎_elim
      (λ (t : same_name (name_of b) y ≡ true). let k : true ≡ false = rw t at h in absurd cc)
      (λ (t : same_name (name_of b) y ≡ false). unbound_find bs ts (Some (name_of b, s) ∷ sc) y (rw t at h) ∙ rw t)
      (cases (same_name (name_of b) y))

  unbound_above : (bs : List Binder) (above : List Binder) (y : Name) → binds_name bs y ≡ false → bound (inside bs above) y ≡ bound above y
  unbound_above [] above y h = refl
  unbound_above (b ∷ bs) above y h =
      ⊎_elim
      (λ (t : same_name (name_of b) y ≡ true). let k : true ≡ false = rw t at h in absurd cc)
      (λ (t : same_name (name_of b) y ≡ false). unbound_above bs (b ∷ above) y (rw t at h) ∙ rw t)
      (cases (same_name (name_of b) y))

  agrees_body : (c : Core) (ps : List Binder) (sc : Scope) (above : List Binder) → Agrees (without_all ps (free c)) sc above → Agrees (free c) (body_scope x sc ps c) (inside ps above)
  agrees_body c ps sc above h y i =
      let w = with_variables ps (stored_among x ps) [] in
      ⊎_elim
      (λ (t : binds_name ps y ≡ true).
      under_caught y sc (without_all ps (free c)) w (bound (inside ps above) y) (bound_not_among ps (free c) y t)
      (same_bound y ps [] above (λ e. let bad : true ≡ false = sym t ∙ e in absurd cc)))
      (λ (t : binds_name ps y ≡ false).
      let a = unbound_among ps (free c) y t i in
      subst (λ z. Same (find_in (body_scope x sc ps c) y) z) (sym (unbound_above ps above y t))
      (captured_same y w (bound above y) (unbound_find ps (stored_among x ps) [] y t) sc (without_all ps (free c)) a (h y a)))
      (cases (binds_name ps y))

module _ (k : Code) (x : Context) (places : Places) (functions : List Function) (globals : List ℕ)
    (constants : (f : Form) → is_constant (length k.quoted) (constant_word x f) ≡ true)
    (calls : (w n : ℕ) → has_parameters (function_called functions w) n ≡ true → IsCalled k x places (place_called places w) n)
    (of_global : (y : Name) → is_global globals y ≡ true → IsGlobal k x places y) where
  readable : (y : Name) (o : Option (ℕ × Bool)) (q : Option Binder) → Same x places o q → (is_some q || is_global globals y) ≡ true → Readable k x places o y
  readable y (Some v) q s e = tt
  readable y None (Some b) s e = absurd s
  readable y None None s e = of_global y e

  writable : (w : ℕ) (o : Option (ℕ × Bool)) (q : Option Binder) → Same x places o q → Is w q → Contains x places (at_most_one q) → (is_some q || is_global globals (named w)) ≡ true → Writable k x places o (named w)
  writable w None None s i c e = of_global (named w) e
  writable w None (Some b) s i c e = absurd s
  writable w (Some v) None s i c e = absurd s
  writable w (Some v) (Some b) s i c e = s ∙ c b (rw i refl)

  seen : (above : List Binder) (y : Name) → is_seen globals above y ≡ true → (is_some (bound above y) || is_global globals y) ≡ true
  seen above y e = subst (λ z. (z || is_global globals y) ≡ true) (bound_some above y) e

  sets : (sc : Scope) (above : List Binder) (y : Name) → is_named y ≡ true → is_seen globals above y ≡ true → Same x places (find_in sc y) (bound above y) → Contains x places (binder_set above y) → Writable k x places (find_in sc y) y
  sets sc above (hidden n) m e s c = absurd cc
  sets sc above (named w) m e s c =
      writable w (find_in sc (named w)) (bound above (named w)) s (bound_itself above w) (subst (λ z. Contains x places (at_most_one z)) (bound_named above w) c) (seen above (named w) e)

  primitive_is : (o : ℕ) (n : ℕ) (q : Option Operator) → operator_of o ≡ q → has_operands q n ≡ true → IsPrimitive k x places o n
  primitive_is o n None e h = absurd cc
  primitive_is o n (Some p) e h = (p, e, eqb-true _ n h)

  mutual
    pub fine : (above : List Binder) (sc : Scope) (c : Core) → is_right functions globals above c ≡ true → is_sized c ≡ true → Agrees x places (free c) sc above → Contains x places (stored_in above c) → Fine k x places sc c
    fine above sc (core.core at n) r z a s = fine_node above sc n r z a s

    fine_node : (above : List Binder) (sc : Scope) (n : Node) → is_right_node functions globals above n ≡ true → is_sized_node n ≡ true → Agrees x places (free_in_node n) sc above → Contains x places (stored_in_node above n) → FineNode k x places sc n
    fine_node above sc (constant f) r z a s = constants f
    fine_node above sc (variable y) r z a s = readable y (find_in sc y) (bound above y) (a y (rw (name_refl y) refl)) (seen above y r)
    fine_node above sc (setq y o c) r z a s =
        let rs = both_true (is_seen globals above y) (is_right functions globals above c) r in
        let zs = both_true (is_named y) (is_sized c) z in (
          sets sc above y zs.0 rs.0 (a y (rw (name_refl y) refl)) (front x places (binder_set above y) (stored_in above c) s),
          fine above sc c rs.1 zs.1 (right x places (y ∷ []) (free c) sc above a) (back x places (binder_set above y) (stored_in above c) s),
        )
    fine_node above sc (conditional b c d) r z a s =
        let rs = both_true (is_right functions globals above b) (is_right functions globals above c && is_right functions globals above d) r in
        let rt = both_true (is_right functions globals above c) (is_right functions globals above d) rs.1 in
        let zs = both_true (is_sized b) (is_sized c && is_sized d) z in
        let zt = both_true (is_sized c) (is_sized d) zs.1 in
        let ar = right x places (free b) (free c ++ free d) sc above a in
        let sr = back x places (stored_in above b) (stored_in above c ++ stored_in above d) s in (
          fine above sc b rs.0 zs.0 (left x places (free b) (free c ++ free d) sc above a) (front x places (stored_in above b) (stored_in above c ++ stored_in above d) s),
          fine above sc c rt.0 zt.0 (left x places (free c) (free d) sc above ar) (front x places (stored_in above c) (stored_in above d) sr),
          fine above sc d rt.1 zt.1 (right x places (free c) (free d) sc above ar) (back x places (stored_in above c) (stored_in above d) sr),
        )
    fine_node above sc (progn cs) r z a s = fine_forms above sc cs r z a s
    fine_node above sc (binding bs c) r z a s =
        let v = binders_in bs in
        let rs = both_true (are_right_values functions globals above bs) (is_right functions globals (inside v above) c) r in
        let zs = both_true (leb (length v) 16) (are_sized_values bs && is_sized c) z in
        let zt = both_true (are_sized_values bs) (is_sized c) zs.1 in (
          fine_values above sc bs rs.0 zt.0 (left x places (free_in_values bs) (without_all v (free c)) sc above a) (front x places (stored_in_values above bs) (stored_in (inside v above) c) s),
          leb-true (length v) 16 zs.0,
          fine (inside v above) (inner_scope x places v sc) c rs.1 zt.1 (agrees_inner x places (free c) v sc above (right x places (free_in_values bs) (without_all v (free c)) sc above a)) (back x places (stored_in_values above bs) (stored_in (inside v above) c) s),
        )
    fine_node above sc (primitive o cs) r z a s =
        let rs = both_true (has_operands (operator_of o) (count cs)) (are_right functions globals above cs) r in
        (fine_cores above sc cs rs.1 z a s, primitive_is o (count cs) (operator_of o) refl rs.0)
    fine_node above sc (core.print c) r z a s = fine above sc c r z a s
    fine_node above sc (core.call f o cs) r z a s =
        let rs = both_true (has_parameters (function_called functions f) (count cs)) (are_right functions globals above cs) r in
        (fine_cores above sc cs rs.1 z a s, calls f (count cs) rs.0)
    fine_node above sc (core.funcall ignored c cs) r z a s =
        let rs = both_true (is_right functions globals above c) (are_right functions globals above cs) r in
        let zs = both_true (leb (count cs) 16) (is_sized c && are_sized cs) z in
        let zt = both_true (is_sized c) (are_sized cs) zs.1 in (
          fine above sc c rs.0 zt.0 (left x places (free c) (free_in_cores cs) sc above a) (front x places (stored_in above c) (stored_in_cores above cs) s),
          fine_cores above (None ∷ sc) cs rs.1 zt.1 (right x places (free c) (free_in_cores cs) sc above a) (back x places (stored_in above c) (stored_in_cores above cs) s),
          leb-true (count cs) 16 zs.0,
        )
    fine_node above sc (lambda ps c) r z a s =
        let zs = both_true (leb (length ps) 16) (is_sized c) z in
        (leb-true (length ps) 16 zs.0, fine (inside ps above) (body_scope x sc ps c) c r zs.1 (agrees_body x places c ps sc above a) s)
    fine_node above sc (core.qlet p bs c) r z a s =
        let v = binders_in bs in
        let rs = both_true (is_right functions globals above p) (are_right_values functions globals above bs && is_right functions globals (inside v above) c) r in
        let rt = both_true (are_right_values functions globals above bs) (is_right functions globals (inside v above) c) rs.1 in
        let zs = both_true (leb (length v) 16) (is_sized p && (are_sized_values bs && is_sized c)) z in
        let zt = both_true (is_sized p) (are_sized_values bs && is_sized c) zs.1 in
        let zu = both_true (are_sized_values bs) (is_sized c) zt.1 in
        let ar = right x places (free p) (free_in_values bs ++ without_all v (free c)) sc above a in
        let sr = back x places (stored_in above p) (stored_in_values above bs ++ stored_in (inside v above) c) s in (
          fine above sc p rs.0 zt.0 (left x places (free p) (free_in_values bs ++ without_all v (free c)) sc above a) (front x places (stored_in above p) (stored_in_values above bs ++ stored_in (inside v above) c) s),
          fine_values above sc bs rt.0 zu.0 (left x places (free_in_values bs) (without_all v (free c)) sc above ar) (front x places (stored_in_values above bs) (stored_in (inside v above) c) sr),
          leb-true (length v) 16 zs.0,
          fine (inside v above) (inner_scope x places v sc) c rt.1 zu.1 (agrees_inner x places (free c) v sc above (right x places (free_in_values bs) (without_all v (free c)) sc above ar)) (back x places (stored_in_values above bs) (stored_in (inside v above) c) sr),
        )
    fine_node above sc (core.qlambda p ps c) r z a s =
        let rs = both_true (is_right functions globals above p) (is_right functions globals (inside ps above) c) r in
        let zs = both_true (leb (length ps) 16) (is_sized p && is_sized c) z in
        let zt = both_true (is_sized p) (is_sized c) zs.1 in (
          fine above sc p rs.0 zt.0 (left x places (free p) (without_all ps (free c)) sc above a) (front x places (stored_in above p) (stored_in (inside ps above) c) s),
          leb-true (length ps) 16 zs.0,
          fine (inside ps above) (body_scope x sc ps c) c rs.1 zt.1 (agrees_body x places c ps sc above (right x places (free p) (without_all ps (free c)) sc above a)) (back x places (stored_in above p) (stored_in (inside ps above) c) s),
        )
    fine_node above sc (core.catch b c) r z a s =
        let rs = both_true (is_right functions globals above b) (is_right functions globals above c) r in
        let zs = both_true (is_sized b) (is_sized c) z in (
          fine above sc b rs.0 zs.0 (left x places (free b) (free c) sc above a) (front x places (stored_in above b) (stored_in above c) s),
          fine above sc c rs.1 zs.1 (right x places (free b) (free c) sc above a) (back x places (stored_in above b) (stored_in above c) s),
        )
    fine_node above sc (core.qcatch b c) r z a s =
        let rs = both_true (is_right functions globals above b) (is_right functions globals above c) r in
        let zs = both_true (is_sized b) (is_sized c) z in (
          fine above sc b rs.0 zs.0 (left x places (free b) (free c) sc above a) (front x places (stored_in above b) (stored_in above c) s),
          fine above sc c rs.1 zs.1 (right x places (free b) (free c) sc above a) (back x places (stored_in above b) (stored_in above c) s),
        )
    fine_node above sc (core.throw b c) r z a s =
        let rs = both_true (is_right functions globals above b) (is_right functions globals above c) r in
        let zs = both_true (is_sized b) (is_sized c) z in (
          fine above sc b rs.0 zs.0 (left x places (free b) (free c) sc above a) (front x places (stored_in above b) (stored_in above c) s),
          fine above (None ∷ sc) c rs.1 zs.1 (right x places (free b) (free c) sc above a) (back x places (stored_in above b) (stored_in above c) s),
        )
    fine_node above sc (core.protect b c) r z a s =
        let rs = both_true (is_right functions globals above b) (is_right functions globals above c) r in
        let zs = both_true (is_sized b) (is_sized c) z in (
          fine above sc b rs.0 zs.0 (left x places (free b) (free c) sc above a) (front x places (stored_in above b) (stored_in above c) s),
          fine above (None ∷ sc) c rs.1 zs.1 (right x places (free b) (free c) sc above a) (back x places (stored_in above b) (stored_in above c) s),
        )
    fine_node above sc (defvar l o c) r z a s = absurd cc

    fine_cores : (above : List Binder) (sc : Scope) (cs : Cores) → are_right functions globals above cs ≡ true → are_sized cs ≡ true → Agrees x places (free_in_cores cs) sc above → Contains x places (stored_in_cores above cs) → FineCores k x places sc cs
    fine_cores above sc no_cores r z a s = tt
    fine_cores above sc (and_core c cs) r z a s =
        let rs = both_true (is_right functions globals above c) (are_right functions globals above cs) r in
        let zs = both_true (is_sized c) (are_sized cs) z in (
          fine above sc c rs.0 zs.0 (left x places (free c) (free_in_cores cs) sc above a) (front x places (stored_in above c) (stored_in_cores above cs) s),
          fine_cores above (None ∷ sc) cs rs.1 zs.1 (right x places (free c) (free_in_cores cs) sc above a) (back x places (stored_in above c) (stored_in_cores above cs) s),
        )

    fine_values : (above : List Binder) (sc : Scope) (bs : Bounds) → are_right_values functions globals above bs ≡ true → are_sized_values bs ≡ true → Agrees x places (free_in_values bs) sc above → Contains x places (stored_in_values above bs) → FineValues k x places sc bs
    fine_values above sc no_bounds r z a s = tt
    fine_values above sc (and_bound b c bs) r z a s =
        let rs = both_true (is_right functions globals above c) (are_right_values functions globals above bs) r in
        let zs = both_true (is_sized c) (are_sized_values bs) z in (
          fine above sc c rs.0 zs.0 (left x places (free c) (free_in_values bs) sc above a) (front x places (stored_in above c) (stored_in_values above bs) s),
          fine_values above (None ∷ sc) bs rs.1 zs.1 (right x places (free c) (free_in_values bs) sc above a) (back x places (stored_in above c) (stored_in_values above bs) s),
        )

    fine_forms : (above : List Binder) (sc : Scope) (cs : Cores) → are_right functions globals above cs ≡ true → are_sized cs ≡ true → Agrees x places (free_in_cores cs) sc above → Contains x places (stored_in_cores above cs) → FineForms k x places sc cs
    fine_forms above sc no_cores r z a s = tt
    fine_forms above sc (and_core c cs) r z a s =
        let rs = both_true (is_right functions globals above c) (are_right functions globals above cs) r in
        let zs = both_true (is_sized c) (are_sized cs) z in (
          fine above sc c rs.0 zs.0 (left x places (free c) (free_in_cores cs) sc above a) (front x places (stored_in above c) (stored_in_cores above cs) s),
          fine_forms above sc cs rs.1 zs.1 (right x places (free c) (free_in_cores cs) sc above a) (back x places (stored_in above c) (stored_in_cores above cs) s),
        )
