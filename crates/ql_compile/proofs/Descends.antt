-- Into the operands: the code of a core begins where its control does.
use Rattle.std.proofs.Common.{◌≡◌, ℕ, suc, ◌+◌, ◌≤◌, true, false, List, [], ◌∷◌, ◌++◌, length, Option, Some, None, refl, sym, ap, subst, ⊎_elim, arith, append-nil}
use Rattle.ql_expand.specs.Core as core
use Rattle.ql_expand.specs.Core.{Name, named, Core, Node, constant, variable, setq, conditional, progn, binding, primitive, lambda, defvar, Cores, no_cores, and_core, Bounds, no_bounds, and_bound, Function}
use Rattle.ql_scope.specs.Scope.{binders_in}
use Rattle.ql_world.specs.declared.word.Slot.{Slot}
use Rattle.ql_meaning.specs.Context.{Context, same_name, offset_of}
use Rattle.ql_meaning.specs.Control.{Bindings, Frame, operands, Thread, values_in, descend, descend_node, descend_operands, descend_values, descend_forms}
use Rattle.ql_code.specs.Code.{Instruction}
use Rattle.ql_compile.specs.Compile.{Scope, is_name_among, without_all, free, free_in_node, free_in_cores, free_in_values, count, size, size_of_node, size_of_cores, size_of_forms, size_of_values, Places, code, code_of_node, code_of_cores, code_of_forms, code_of_values}
use Rattle.ql_code.specs.declared.mark.Mark.TheVariants as marks
use Rattle.ql_code.specs.Machine.{Item, slot, mark, word, push, frame_of, top_mark, Point, Entry}
use Rattle.ql_code.specs.declared.mark.Mark.{Mark}
use Rattle.ql_code.specs.declared.mark.State.{State}
use Rattle.ql_code.specs.declared.mark.Mark.TheVariants.{Base as base}
use Rattle.ql_code.specs.declared.mark.State.TheVariants.{Running as running}
use Rattle.ql_compile.proofs.Right.{IsRight, IsRightNode, AreRight, AreRightValues}
use Rattle.ql_compile.proofs.Cases.{cases}
use Rattle.ql_compile.proofs.Scopes.{sees_more, among_left, among_right, name_refl}
use Rattle.ql_compile.proofs.Sizes.{HasAt, front, back, long, long_cores, long_values, code_values, values_size}
use Rattle.ql_compile.proofs.Relation.{Beyond, arity, free_after, size_after, code_after, RightAfter, Fits, After, Rest, operand, forms, At, at_literal, at_read, at_close, at_guard, at_act}

-- those among the first are among the second
abbrev pub Sub : List Name → List Name → Type 0
Sub xs ys = (y : Name) → is_name_among y xs ≡ true → is_name_among y ys ≡ true

pub sub_same : (xs : List Name) → Sub xs xs
sub_same xs y h = h

pub sub_left : (xs ys : List Name) → Sub xs (xs ++ ys)
sub_left xs ys y h = among_left y xs ys h

pub sub_right : (xs ys : List Name) → Sub ys (xs ++ ys)
sub_right xs ys y h = among_right y xs ys h

pub sub_none : (xs : List Name) → Sub [] xs
sub_none xs y h = absurd cc

pub beyond_less : (m : Option Mark) (p q : ℕ) → p ≤ q → Beyond m q → Beyond m p
beyond_less None p q l b = tt
beyond_less (Some (marks.Returning r)) p q l b = tt
beyond_less (Some (marks.Catching c r)) p q l b = tt
beyond_less (Some (marks.Protecting u r)) p q l b = tt
beyond_less (Some (marks.Cleaning u k)) p q l b = tt
beyond_less (Some (base None)) p q l b = tt
beyond_less (Some (base (Some j))) p q l b = omega (arith, l, b)

pub sub_both : (xs ys zs : List Name) → Sub xs zs → Sub ys zs → Sub (xs ++ ys) zs
sub_both [] ys zs a b y i = b y i
sub_both (x ∷ xs) ys zs a b y i =
    let rest = sub_both xs ys zs (λ y i. a y (among_right y (x ∷ []) xs i)) b in
    ⊎_elim
    (λ (t : same_name y x ≡ true). a y (rw t refl))
    (λ (t : same_name y x ≡ false). rest y (rw t at i))
    (cases (same_name y x))

pub free_values : (bs : Bounds) → free_in_values bs ≡ free_in_cores (values_in bs)
free_values no_bounds = refl
free_values (and_bound b c bs) = rw (free_values bs)

pub right_values : (functions : List Function) (bs : Bounds) → AreRightValues functions bs → AreRight functions (values_in bs)
right_values functions no_bounds r = tt
right_values functions (and_bound b c bs) r = (r.0, right_values functions bs r.1)

pub count_values : (bs : Bounds) → count (values_in bs) ≡ length (binders_in bs)
count_values no_bounds = refl
count_values (and_bound b c bs) = omega (arith, count_values bs)

module _ (x : Context) (places : Places) where
  -- fewer variables, up to an earlier place
  pub part : {xs ys : List Name} {env : Bindings} {sc : Scope} {st : List Item} {p q : ℕ} → Sub ys xs → p ≤ q → Fits x places xs env sc st q
      → Fits x places ys env sc st p
  part {st = st} {p = p} {q = q} s l f = record { sees = λ y i. f.sees y (s y i); long = f.long; beyond = beyond_less (top_mark st) p q l f.beyond }

  -- an operand comes on top
  pub fits_more : {xs : List Name} {env : Bindings} {sc : Scope} {st : List Item} {q : ℕ} (s : Slot) → Fits x places xs env sc st q
      → Fits x places xs env (None ∷ sc) (slot s ∷ st) q
  fits_more {xs = xs} {env = env} {sc = sc} {st = st} s f =
      record { sees = sees_more x.globals xs env sc (frame_of st) s f.long f.sees; long = ap suc f.long; beyond = f.beyond }

  module _ (ops : List Instruction) where
    abbrev H : ℕ → List Instruction → Type 0
    H = HasAt ops

    abbrev R : List Frame → ℕ → List Item → Type 0
    R = Rest x places ops

    abbrev pub Settled : Thread → ℕ → List Item → Type 0
    Settled t pc st = At x places ops t.control t.frames running pc st

    -- one operand, and then the core acts
    only : (at : ℕ) (n : Node) (env : Bindings) (fs : List Frame) (sc : Scope) (p q : ℕ) (st : List Item) (xs : List Name) → arity n ≡ 1
        → H p (code_after x places sc p at n) → RightAfter x places n → Sub (free_after n) xs → Fits x places xs env sc st q → q ≡ p + size_after n → R fs q st
        → R (operands (core.core at n) [] no_cores env ∷ fs) p st
    only at n env fs sc p q st xs one h r s f e t =
        operand at n [] no_cores env fs st p q refl (record { sc = sc; has = tt; right = tt; fits = part (sub_none xs) (omega (arith, e)) f; is_last = omega arith })
        (omega (arith, one)) (record { sc = sc; has = h; right = r; fits = part s (omega (arith, e)) f; is_last = e }) t

    mutual
      pub descends : (c : Core) (env : Bindings) (fs : List Frame) (sc : Scope) (pc q : ℕ) (st : List Item)
          → H pc (code x places sc pc c) → IsRight x.functions c → Fits x places (free c) env sc st q → q ≡ pc + size c → R fs q st → Settled (descend c env fs) pc st
      descends (core.core at n) env fs sc pc q st h r f e t = descends_node at n env fs sc pc q st h r f e t

      descends_node : (at : ℕ) (n : Node) (env : Bindings) (fs : List Frame) (sc : Scope) (pc q : ℕ) (st : List Item)
          → H pc (code_of_node x places sc pc at n) → IsRightNode x.functions n → Fits x places (free_in_node n) env sc st q → q ≡ pc + size_of_node n → R fs q st
          → Settled (descend_node at n env fs) pc st
      descends_node at (constant g) env fs sc pc q st h r f e t = at_literal g at h.0 (subst (λ k. R fs k st) e t)
      descends_node at (variable y) env fs sc pc q st h r f e t = at_read at y env sc h.0 (f.sees y (rw (name_refl y) refl)) (subst (λ k. R fs k st) e t)
      descends_node at (setq y o c) env fs sc pc q st h r f e t =
          descends c env _ sc pc (pc + size c) st (front ops pc _ _ h) r (part (sub_right (y ∷ []) (free c)) (omega (arith, e)) f) refl
          (only at (setq y o c) env fs sc _ q st (y ∷ free c) refl (back ops pc _ _ (size c) (long x places sc pc c) h) tt (sub_left (y ∷ []) (free c)) f (omega (arith, e)) t)
      descends_node at (conditional a b c) env fs sc pc q st h r f e t =
          descends a env _ sc pc (pc + size a) st (front ops pc _ _ h) r.0 (part (sub_left (free a) (free b ++ free c)) (omega (arith, e)) f) refl
          (only at (conditional a b c) env fs sc _ q st (free a ++ (free b ++ free c)) refl (back ops pc _ _ (size a) (long x places sc pc a) h) (r.1, r.2)
          (sub_right (free a) (free b ++ free c)) f (omega (arith, e)) t)
      descends_node at (progn cs) env fs sc pc q st h r f e t = descends_forms at at cs env fs sc pc q st h r f e t
      descends_node at (binding bs c) env fs sc pc q st h r f e t =
          let out = without_all (binders_in bs) (free c) in
          descends_values at (binding bs c) bs env fs sc pc (pc + size_of_values bs) q st (front ops pc _ _ h) r.0
          (part (sub_left (free_in_values bs) out) (omega (arith, e)) f) refl refl
          (record { sc = sc; has = back ops pc _ _ (size_of_values bs) (long_values x places sc pc bs) h; right = r.1; fits = part (sub_right (free_in_values bs) out) (omega (arith, e)) f; is_last = omega (arith, e) }) t
      descends_node at (primitive o cs) env fs sc pc q st h r f e t =
          descends_operands at (primitive o cs) cs env fs sc pc (pc + size_of_cores cs) q st (front ops pc _ _ h) r.1
          (part (sub_same (free_in_cores cs)) (omega (arith, e)) f) refl refl
          (record { sc = sc; has = back ops pc _ _ (size_of_cores cs) (long_cores x places sc pc cs) h; right = r.0; fits = part (sub_none (free_in_cores cs)) (omega (arith, e)) f; is_last = omega (arith, e) }) t
      descends_node at (core.print c) env fs sc pc q st h r f e t =
          descends c env _ sc pc (pc + size c) st (front ops pc _ _ h) r (part (sub_same (free c)) (omega (arith, e)) f) refl
          (only at (core.print c) env fs sc _ q st (free c) refl (back ops pc _ _ (size c) (long x places sc pc c) h) tt (sub_none (free c)) f (omega (arith, e)) t)
      descends_node at (core.call w o cs) env fs sc pc q st h r f e t =
          descends_operands at (core.call w o cs) cs env fs sc pc (pc + size_of_cores cs) q st (front ops pc _ _ h) r.1
          (part (sub_same (free_in_cores cs)) (omega (arith, e)) f) refl refl
          (record { sc = sc; has = back ops pc _ _ (size_of_cores cs) (long_cores x places sc pc cs) h; right = r.0; fits = part (sub_none (free_in_cores cs)) (omega (arith, e)) f; is_last = omega (arith, e) }) t
      descends_node at (core.funcall true c cs) env fs sc pc q st h r f e t =
          let rest = back ops pc _ _ (size c) (long x places sc pc c) h in
          descends c env _ sc pc (pc + size c) st (front ops pc _ _ h) r.0 (part (sub_left (free c) (free_in_cores cs)) (omega (arith, e)) f) refl
          (operand at (core.funcall true c cs) [] cs env fs st (pc + size c + size_of_cores cs) q refl
          (record { sc = sc; has = front ops _ _ _ rest; right = r.1; fits = part (sub_right (free c) (free_in_cores cs)) (omega (arith, e)) f; is_last = refl }) (omega arith)
          (record { sc = sc; has = back ops _ _ _ (size_of_cores cs) (long_cores x places (None ∷ sc) (pc + size c) cs) rest; right = tt; fits = part (sub_none (free c ++ free_in_cores cs)) (omega (arith, e)) f; is_last = omega (arith, e) }) t)
      descends_node at (core.funcall false c cs) env fs sc pc q st h r f e t =
          let rest = back ops pc _ _ (size c) (long x places sc pc c) h in
          descends c env _ sc pc (pc + size c) st (front ops pc _ _ h) r.0 (part (sub_left (free c) (free_in_cores cs)) (omega (arith, e)) f) refl
          (operand at (core.funcall false c cs) [] cs env fs st (pc + size c + size_of_cores cs) q refl
          (record { sc = sc; has = front ops _ _ _ rest; right = r.1; fits = part (sub_right (free c) (free_in_cores cs)) (omega (arith, e)) f; is_last = refl }) (omega arith)
          (record { sc = sc; has = back ops _ _ _ (size_of_cores cs) (long_cores x places (None ∷ sc) (pc + size c) cs) rest; right = tt; fits = part (sub_none (free c ++ free_in_cores cs)) (omega (arith, e)) f; is_last = omega (arith, e) }) t)
      descends_node at (lambda ps c) env fs sc pc q st h r f e t = at_close _ sc q (record { has = h; right = r; fits = f; is_last = e }) t
      descends_node at (core.qlet p bs c) env fs sc pc q st h r f e t =
          let out = free_in_values bs ++ without_all (binders_in bs) (free c) in
          descends p env _ sc pc (pc + size p) st (front ops pc _ _ h) r.0 (part (sub_left (free p) out) (omega (arith, e)) f) refl
          (only at (core.qlet p bs c) env fs sc _ q st (free p ++ out) refl (back ops pc _ _ (size p) (long x places sc pc p) h) (r.1, r.2) (sub_right (free p) out) f (omega (arith, e)) t)
      descends_node at (core.qlambda p ps c) env fs sc pc q st h r f e t =
          let out = without_all ps (free c) in
          descends p env _ sc pc (pc + size p) st (front ops pc _ _ h) r.0 (part (sub_left (free p) out) (omega (arith, e)) f) refl
          (only at (core.qlambda p ps c) env fs sc _ q st (free p ++ out) refl (back ops pc _ _ (size p) (long x places sc pc p) h) r.1 (sub_right (free p) out) f (omega (arith, e)) t)
      descends_node at (core.catch a b) env fs sc pc q st h r f e t =
          descends a env _ sc pc (pc + size a) st (front ops pc _ _ h) r.0 (part (sub_left (free a) (free b)) (omega (arith, e)) f) refl
          (only at (core.catch a b) env fs sc _ q st (free a ++ free b) refl (back ops pc _ _ (size a) (long x places sc pc a) h) r.1 (sub_right (free a) (free b)) f (omega (arith, e)) t)
      descends_node at (core.qcatch a b) env fs sc pc q st h r f e t =
          descends a env _ sc pc (pc + size a) st (front ops pc _ _ h) r.0 (part (sub_left (free a) (free b)) (omega (arith, e)) f) refl
          (only at (core.qcatch a b) env fs sc _ q st (free a ++ free b) refl (back ops pc _ _ (size a) (long x places sc pc a) h) r.1 (sub_right (free a) (free b)) f (omega (arith, e)) t)
      descends_node at (core.throw a b) env fs sc pc q st h r f e t =
          let rest = back ops pc _ _ (size a) (long x places sc pc a) h in
          descends a env _ sc pc (pc + size a) st (front ops pc _ _ h) r.0 (part (sub_left (free a) (free b)) (omega (arith, e)) f) refl
          (operand at (core.throw a b) [] (and_core b no_cores) env fs st (pc + size a + size b) q refl
          (record {
            sc = sc;
            has = subst (H (pc + size a)) (sym (append-nil _)) (front ops _ _ _ rest);
            right = (r.1, tt);
            fits = part (sub_both (free b) [] (free a ++ free b) (sub_right (free a) (free b)) (sub_none (free a ++ free b))) (omega (arith, e)) f;
            is_last = omega arith;
          }) refl
          (record { sc = sc; has = back ops _ _ _ (size b) (long x places (None ∷ sc) (pc + size a) b) rest; right = tt; fits = part (sub_none (free a ++ free b)) (omega (arith, e)) f; is_last = omega (arith, e) }) t)
      descends_node at (core.protect a b) env fs sc pc q st h r f e t = at_guard a b env sc at q (record { has = h; right = r; fits = f; is_last = e }) t
      descends_node at (defvar w o c) env fs sc pc q st h r f e t =
          descends c env _ sc pc (pc + size c) st (front ops pc _ _ h) r (part (sub_right (named w ∷ []) (free c)) (omega (arith, e)) f) refl
          (only at (defvar w o c) env fs sc _ q st (named w ∷ free c) refl (back ops pc _ _ (size c) (long x places sc pc c) h) tt (sub_left (named w ∷ []) (free c)) f (omega (arith, e)) t)

      pub descends_forms : (at code_at : ℕ) (cs : Cores) (env : Bindings) (fs : List Frame) (sc : Scope) (pc q : ℕ) (st : List Item)
          → H pc (code_of_forms x places sc pc code_at cs) → AreRight x.functions cs → Fits x places (free_in_cores cs) env sc st q → q ≡ pc + size_of_forms cs → R fs q st
          → Settled (descend_forms at cs env fs) pc st
      descends_forms at code_at no_cores env fs sc pc q st h r f e t = at_literal _ code_at h.0 (subst (λ k. R fs k st) e t)
      descends_forms at code_at (and_core c no_cores) env fs sc pc q st h r f e t =
          descends c env fs sc pc q st h r.0 (part (sub_left (free c) []) (omega (arith, e)) f) e t
      descends_forms at code_at (and_core c (and_core d ds)) env fs sc pc q st h r f e t =
          let rest = back ops pc _ _ (size c) (long x places sc pc c) h in
          descends c env _ sc pc (pc + size c) st (front ops pc _ _ h) r.0 (part (sub_left (free c) (free_in_cores (and_core d ds))) (omega (arith, e)) f) refl
          (forms (and_core d ds) env fs q (record {
            at = code_at;
            drop_at = offset_of c;
            sc = sc;
            here = rest.0;
            has = rest.1;
            right = r.1;
            fits = part (sub_right (free c) (free_in_cores (and_core d ds))) (omega (arith, e)) f;
            is_last = omega (arith, e);
          }) t)

      pub descends_operands : (at : ℕ) (n : Node) (cs : Cores) (env : Bindings) (fs : List Frame) (sc : Scope) (pc q r : ℕ) (st : List Item)
          → H pc (code_of_cores x places sc pc cs) → AreRight x.functions cs → Fits x places (free_in_cores cs) env sc st q → q ≡ pc + size_of_cores cs → count cs ≡ arity n
          → After x places ops at n env q r st → R fs r st → Settled (descend_operands (core.core at n) cs env fs) pc st
      descends_operands at n no_cores env fs sc pc q r st h a f e k u t =
          let same : q ≡ pc = omega (arith, e) in at_act at n env [] st r refl k (subst (λ p. After x places ops at n env p r st) same u) t
      descends_operands at n (and_core c cs) env fs sc pc q r st h a f e k u t =
          descends c env _ sc pc (pc + size c) st (front ops pc _ _ h) a.0 (part (sub_left (free c) (free_in_cores cs)) (omega (arith, e)) f) refl
          (operand at n [] cs env fs st q r refl
          (record { sc = sc; has = back ops pc _ _ (size c) (long x places sc pc c) h; right = a.1; fits = part (sub_right (free c) (free_in_cores cs)) (omega (arith, e)) f; is_last = omega (arith, e) })
          (omega (arith, k)) u t)

      descends_values : (at : ℕ) (n : Node) (bs : Bounds) (env : Bindings) (fs : List Frame) (sc : Scope) (pc q r : ℕ) (st : List Item)
          → H pc (code_of_values x places sc pc bs) → AreRightValues x.functions bs → Fits x places (free_in_values bs) env sc st q → q ≡ pc + size_of_values bs → length (binders_in bs) ≡ arity n
          → After x places ops at n env q r st → R fs r st → Settled (descend_values (core.core at n) bs env fs) pc st
      descends_values at n no_bounds env fs sc pc q r st h a f e k u t =
          let same : q ≡ pc = omega (arith, e) in at_act at n env [] st r refl k (subst (λ p. After x places ops at n env p r st) same u) t
      descends_values at n (and_bound b c bs) env fs sc pc q r st h a f e k u t =
          let g : Fits x places (free_in_values bs) env sc st q = part (sub_right (free c) (free_in_values bs)) (omega (arith, e)) f in
          descends c env _ sc pc (pc + size c) st (front ops pc _ _ h) a.0 (part (sub_left (free c) (free_in_values bs)) (omega (arith, e)) f) refl
          (operand at n [] (values_in bs) env fs st q r refl
          (record {
            sc = sc;
            has = subst (H (pc + size c)) (code_values x places (None ∷ sc) (pc + size c) bs) (back ops pc _ _ (size c) (long x places sc pc c) h);
            right = right_values x.functions bs a.1;
            fits = subst (λ xs. Fits x places xs env sc st q) (free_values bs) g;
            is_last = omega (arith, e, values_size bs);
          })
          (omega (arith, k, count_values bs)) u t)
