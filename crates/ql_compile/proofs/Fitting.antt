-- Where nothing is wrong with the names of a program, each of its lists has at most 16 members.
use Rattle.std.proofs.Common.{◌≡◌, ℕ, ◌+◌, ◌<◌, ◌≤◌, ◌==◌, leb, Bool, true, false, ◌&&◌, List, [], ◌∷◌, ◌++◌, length, refl, ⊎_elim, arith}
use Rattle.std.proofs.Math.Nat.{eq-or-lt_of_le}
use Rattle.std.proofs.lemmas.Bool.{le-leb, eq-eqb}
use Rattle.ql_base.specs.Refusal.{fault, where_true}
use Rattle.ql_base.specs.declared.refusal.Fault.{Fault}
use Rattle.ql_base.specs.declared.refusal.FaultKind.TheVariants.{TooMany}
use Rattle.ql_expand.specs.Core.{Binder, Core, core, Node, constant, variable, setq, conditional, progn, binding, primitive, print, call, funcall, lambda, qlet, qlambda, catch, qcatch, throw, protect, defvar, Cores, no_cores, and_core, Bounds, no_bounds, and_bound, Function, function, Program, program}
use Rattle.ql_expand.specs.Primitives.{count_of}
use Rattle.ql_scope.specs.Scope.{Place, offset_of, core_at, name_at, binders_in, under, use_faults, count_faults, parameter_count, called_faults, binder_faults, binders_faults, list_faults, seventeenth_faults, core_faults, node_faults, cores_faults, arguments_faults, values_faults, functions_faults, top, InScope, repeated_functions, repeated_globals}
use Rattle.ql_compile.specs.Compile.{count}
use Rattle.ql_compile.proofs.Cases.{Goes, both}
use Rattle.ql_compile.proofs.Sized.{is_named, is_sized, is_sized_node, are_sized, are_sized_values, is_sized_top, are_sized_tops, are_sized_functions, is_sized_program}
use Rattle.ql_compile.proofs.Assigns.{assigns, node_assigns, all_assign, values_assign, top_assigns, tops_assign, functions_assign, program_assigns}

-- nothing in two lists of faults
left : (xs ys : List Fault) → xs ++ ys ≡ [] → xs ≡ []
left [] ys h = refl
left (x ∷ xs) ys h = absurd cc

right : (xs ys : List Fault) → xs ++ ys ≡ [] → ys ≡ []
right [] ys h = h
right (x ∷ xs) ys h = absurd cc

same : (b : Bool) → Goes b b
same b h = h

besides : (b c d : Bool) → b ≡ true → Goes c d → Goes c (b && d)
besides b c d h g k = rw h (g k)

-- one more is not the seventeenth
not_seventeenth : (b : Bool) (at : ℕ) → where_true b (fault TooMany at) ≡ [] → b ≡ false
not_seventeenth false at h = refl
not_seventeenth true at h = absurd cc

room : (n at : ℕ) → n ≤ 16 → seventeenth_faults n at ≡ [] → n + 1 ≤ 16
room n at l h =
    let e : (n == 16) ≡ false = not_seventeenth (n == 16) at h in
    ⊎_elim (λ (k : n ≡ 16). absurd (let f : (n == 16) ≡ true = eq-eqb n 16 k in cc)) (λ (k : n < 16). omega (arith, k)) (eq-or-lt_of_le l)

short : (globals before : List ℕ) (n : ℕ) (bs : List Binder) → n ≤ 16 → binders_faults globals before n bs ≡ [] → n + length bs ≤ 16
short globals before n [] l h = omega (arith, l)
short globals before n (b ∷ bs) l h =
    let rest = binders_faults globals (before ++ name_at b) (n + 1) bs in
    let first = left (binder_faults globals before n b) rest h in
    let r = room n (offset_of b) l (left (seventeenth_faults n (offset_of b)) (called_faults globals before b) first) in
    let k : (n + 1) + length bs ≤ 16 = short globals (before ++ name_at b) (n + 1) bs r (right (binder_faults globals before n b) rest h) in
    omega (arith, k)

list_short : (p : Place) (bs : List Binder) → list_faults p bs ≡ [] → leb (length bs) 16 ≡ true
list_short p bs h = let k : 0 + length bs ≤ 16 = short p.globals [] 0 bs (omega arith) h in le-leb (length bs) 16 (omega (arith, k))

few : (p : Place) (n : ℕ) (cs : Cores) → n ≤ 16 → arguments_faults p n cs ≡ [] → n + count cs ≤ 16
few p n no_cores l h = omega (arith, l)
few p n (and_core c cs) l h =
    let rest = core_faults p c ++ arguments_faults p (n + 1) cs in
    let r = room n (core_at c) l (left (seventeenth_faults n (core_at c)) rest h) in
    let k : (n + 1) + count cs ≤ 16 = few p (n + 1) cs r (right (core_faults p c) (arguments_faults p (n + 1) cs) (right (seventeenth_faults n (core_at c)) rest h)) in
    omega (arith, k)

arguments_few : (p : Place) (cs : Cores) → arguments_faults p 0 cs ≡ [] → leb (count cs) 16 ≡ true
arguments_few p cs h = let k : 0 + count cs ≤ 16 = few p 0 cs (omega arith) h in le-leb (count cs) 16 (omega (arith, k))

mutual
  sized : (p : Place) (c : Core) → core_faults p c ≡ [] → Goes (assigns c) (is_sized c)
  sized p (core at n) h = sized_node p at n h

  sized_node : (p : Place) (at : ℕ) (n : Node) → node_faults p at n ≡ [] → Goes (node_assigns n) (is_sized_node n)
  sized_node p at (constant f) h = λ a. refl
  sized_node p at (variable y) h = λ a. refl
  sized_node p at (setq y o c) h = both _ _ _ _ (same (is_named y)) (sized p c (right (use_faults p o y) (core_faults p c) h))
  sized_node p at (conditional a b c) h =
      let r = right (core_faults p a) (core_faults p b ++ core_faults p c) h in
      both _ _ _ _ (sized p a (left (core_faults p a) (core_faults p b ++ core_faults p c) h))
      (both _ _ _ _ (sized p b (left (core_faults p b) (core_faults p c) r)) (sized p c (right (core_faults p b) (core_faults p c) r)))
  sized_node p at (progn cs) h = all_sized p cs h
  sized_node p at (binding bs c) h =
      let p' = under (binders_in bs) p in
      let r = right (values_faults p bs) (list_faults p (binders_in bs) ++ core_faults p' c) h in
      besides _ _ _ (list_short p (binders_in bs) (left (list_faults p (binders_in bs)) (core_faults p' c) r))
      (both _ _ _ _ (values_sized p bs (left (values_faults p bs) (list_faults p (binders_in bs) ++ core_faults p' c) h)) (sized p' c (right (list_faults p (binders_in bs)) (core_faults p' c) r)))
  sized_node p at (primitive o cs) h = all_sized p cs h
  sized_node p at (print c) h = sized p c h
  sized_node p at (call f o cs) h = all_sized p cs (right (count_faults o (count_of cs) (parameter_count p.functions f)) (cores_faults p cs) h)
  sized_node p at (funcall ignored c cs) h =
      let r = right (core_faults p c) (arguments_faults p 0 cs) h in
      besides _ _ _ (arguments_few p cs r) (both _ _ _ _ (sized p c (left (core_faults p c) (arguments_faults p 0 cs) h)) (arguments_sized p 0 cs r))
  sized_node p at (lambda ps c) h =
      besides _ _ _ (list_short p ps (left (list_faults p ps) (core_faults (under ps p) c) h)) (sized (under ps p) c (right (list_faults p ps) (core_faults (under ps p) c) h))
  sized_node p at (qlet q bs c) h =
      let p' = under (binders_in bs) p in
      let all = list_faults p (binders_in bs) ++ core_faults p' c in
      let r = right (core_faults p q) (values_faults p bs ++ all) h in
      let s = right (values_faults p bs) all r in
      besides _ _ _ (list_short p (binders_in bs) (left (list_faults p (binders_in bs)) (core_faults p' c) s))
      (both _ _ _ _ (sized p q (left (core_faults p q) (values_faults p bs ++ all) h))
      (both _ _ _ _ (values_sized p bs (left (values_faults p bs) all r)) (sized p' c (right (list_faults p (binders_in bs)) (core_faults p' c) s))))
  sized_node p at (qlambda q ps c) h =
      let r = right (core_faults p q) (list_faults p ps ++ core_faults (under ps p) c) h in
      besides _ _ _ (list_short p ps (left (list_faults p ps) (core_faults (under ps p) c) r))
      (both _ _ _ _ (sized p q (left (core_faults p q) (list_faults p ps ++ core_faults (under ps p) c) h)) (sized (under ps p) c (right (list_faults p ps) (core_faults (under ps p) c) r)))
  sized_node p at (catch a b) h = both _ _ _ _ (sized p a (left (core_faults p a) (core_faults p b) h)) (sized p b (right (core_faults p a) (core_faults p b) h))
  sized_node p at (qcatch a b) h = both _ _ _ _ (sized p a (left (core_faults p a) (core_faults p b) h)) (sized p b (right (core_faults p a) (core_faults p b) h))
  sized_node p at (throw a b) h = both _ _ _ _ (sized p a (left (core_faults p a) (core_faults p b) h)) (sized p b (right (core_faults p a) (core_faults p b) h))
  sized_node p at (protect a b) h = both _ _ _ _ (sized p a (left (core_faults p a) (core_faults p b) h)) (sized p b (right (core_faults p a) (core_faults p b) h))
  sized_node p at (defvar w o c) h = λ a. absurd cc

  all_sized : (p : Place) (cs : Cores) → cores_faults p cs ≡ [] → Goes (all_assign cs) (are_sized cs)
  all_sized p no_cores h = λ a. refl
  all_sized p (and_core c cs) h = both _ _ _ _ (sized p c (left (core_faults p c) (cores_faults p cs) h)) (all_sized p cs (right (core_faults p c) (cores_faults p cs) h))

  arguments_sized : (p : Place) (n : ℕ) (cs : Cores) → arguments_faults p n cs ≡ [] → Goes (all_assign cs) (are_sized cs)
  arguments_sized p n no_cores h = λ a. refl
  arguments_sized p n (and_core c cs) h =
      let r = right (seventeenth_faults n (core_at c)) (core_faults p c ++ arguments_faults p (n + 1) cs) h in
      both _ _ _ _ (sized p c (left (core_faults p c) (arguments_faults p (n + 1) cs) r)) (arguments_sized p (n + 1) cs (right (core_faults p c) (arguments_faults p (n + 1) cs) r))

  values_sized : (p : Place) (bs : Bounds) → values_faults p bs ≡ [] → Goes (values_assign bs) (are_sized_values bs)
  values_sized p no_bounds h = λ a. refl
  values_sized p (and_bound b c bs) h = both _ _ _ _ (sized p c (left (core_faults p c) (values_faults p bs) h)) (values_sized p bs (right (core_faults p c) (values_faults p bs) h))

top_sized : (p : Place) (c : Core) → core_faults p c ≡ [] → Goes (top_assigns c) (is_sized_top c)
top_sized p (core at (defvar w o c)) h = sized p c h
top_sized p (core at (constant f)) h = sized p (core at (constant f)) h
top_sized p (core at (variable y)) h = sized p (core at (variable y)) h
top_sized p (core at (setq y o c)) h = sized p (core at (setq y o c)) h
top_sized p (core at (conditional a b c)) h = sized p (core at (conditional a b c)) h
top_sized p (core at (progn cs)) h = sized p (core at (progn cs)) h
top_sized p (core at (binding bs c)) h = sized p (core at (binding bs c)) h
top_sized p (core at (primitive o cs)) h = sized p (core at (primitive o cs)) h
top_sized p (core at (print c)) h = sized p (core at (print c)) h
top_sized p (core at (call f o cs)) h = sized p (core at (call f o cs)) h
top_sized p (core at (funcall i c cs)) h = sized p (core at (funcall i c cs)) h
top_sized p (core at (lambda ps c)) h = sized p (core at (lambda ps c)) h
top_sized p (core at (qlet q bs c)) h = sized p (core at (qlet q bs c)) h
top_sized p (core at (qlambda q ps c)) h = sized p (core at (qlambda q ps c)) h
top_sized p (core at (catch a b)) h = sized p (core at (catch a b)) h
top_sized p (core at (qcatch a b)) h = sized p (core at (qcatch a b)) h
top_sized p (core at (throw a b)) h = sized p (core at (throw a b)) h
top_sized p (core at (protect a b)) h = sized p (core at (protect a b)) h

tops_sized : (p : Place) (cs : Cores) → cores_faults p cs ≡ [] → Goes (tops_assign cs) (are_sized_tops cs)
tops_sized p no_cores h = λ a. refl
tops_sized p (and_core c cs) h = both _ _ _ _ (top_sized p c (left (core_faults p c) (cores_faults p cs) h)) (tops_sized p cs (right (core_faults p c) (cores_faults p cs) h))

functions_sized : (p : Place) (fs : List Function) → functions_faults p fs ≡ [] → Goes (functions_assign fs) (are_sized_functions fs)
functions_sized p [] h = λ a. refl
functions_sized p (function at w o ps c ∷ fs) h =
    let first = left (list_faults p ps ++ core_faults (under ps p) c) (functions_faults p fs) h in
    both _ _ _ _
    (besides _ _ _ (list_short p ps (left (list_faults p ps) (core_faults (under ps p) c) first)) (sized (under ps p) c (right (list_faults p ps) (core_faults (under ps p) c) first)))
    (functions_sized p fs (right (list_faults p ps ++ core_faults (under ps p) c) (functions_faults p fs) h))

pub lists_fit : (p : Program) → InScope p → Goes (program_assigns p) (is_sized_program p)
lists_fit (program fs globals cs) h =
    let wrong = functions_faults (top fs globals) fs ++ cores_faults (top fs globals) cs in
    let r = right (repeated_globals [] cs) wrong (right (repeated_functions [] fs) (repeated_globals [] cs ++ wrong) h) in
    both _ _ _ _
    (functions_sized (top fs globals) fs (left (functions_faults (top fs globals) fs) (cores_faults (top fs globals) cs) r))
    (tops_sized (top fs globals) cs (right (functions_faults (top fs globals) fs) (cores_faults (top fs globals) cs) r))
