-- Compiled code is strict.
use Rattle.std.proofs.Common.{◌≡◌, ℕ, zero, suc, ◌+◌, ◌<◌, ◌≤◌, Bool, true, false, List, [], ◌∷◌, ◌++◌, length, Option, Some, None, refl, sym, ap, ◌∙◌, subst, ⊎_elim, arith}
use Rattle.std.specs.Prelude.{if◌then◌else◌, slice_get}
use Rattle.ql_expand.specs.Core as core
use Rattle.ql_expand.specs.Core.{Name, named, hidden, Binder, Core, Node, constant, variable, setq, conditional, progn, binding, primitive, lambda, defvar, Cores, no_cores, and_core, Bounds, no_bounds, and_bound, Function, function, Program}
use Rattle.ql_scope.specs.Scope.{binders_in}
use Rattle.ql_world.specs.Operator.{takes_one}
use Rattle.ql_world.specs.declared.operator.Operator.{Operator}
use Rattle.ql_meaning.specs.Context.{Context, offset_of, stored_among}
use Rattle.ql_code.specs.Code.{Code}
use Rattle.ql_code.specs.declared.code.Op.{Op}
use Rattle.ql_code.specs.declared.code.Op.TheVariants.{Local as local, BoxGet as box_get, Drop as drop, Slide as slide, Return as return, Join as join}
use Rattle.ql_code.specs.Machine.{operand_count}
use Rattle.ql_compile.specs.Compile.{Scope, Places, find_in, count, size, size_of_node, size_of_cores, size_of_forms, size_of_values, size_of_joined, read_op, call_op, body_scope, place_called}
use Rattle.ql_code.specs.Sound.{value, catching, protecting, cleaning, Shape, Start, body, child, slots_in, values, over, first_place, is_same_kind, may_start, joins_there, Table}
use Rattle.ql_compile.proofs.Along.{Along, front, back, both}
use Rattle.ql_compile.proofs.Noted.{Here, on, with_value, with_values, only, either, kinds_of, Note, note, kinds, with_kinds, inner_scope, noted, noted_node, noted_cores, noted_values, noted_joined, noted_forms}
use Rattle.ql_compile.proofs.SlotKinds.{slots_over, kinds_bound, values_slots, slots_kinds}
use Rattle.ql_compile.proofs.Fine.{Fine, FineNode, FineCores, FineValues, FineForms}
use Rattle.ql_compile.proofs.Follows.{mapped_is, only_is, either_is, Stands, stored_long, len, len_cores, len_values, len_joined}

mutual
  pub positive : (c : Core) → 0 < size c
  positive (core.core at n) = positive_node n

  positive_node : (n : Node) → 0 < size_of_node n
  positive_node (constant f) = omega arith
  positive_node (variable y) = omega arith
  positive_node (setq y o c) = omega arith
  positive_node (conditional a b c) = omega arith
  positive_node (progn cs) = positive_forms cs
  positive_node (binding bs c) = omega arith
  positive_node (primitive o cs) = omega arith
  positive_node (core.print c) = omega arith
  positive_node (core.call f o cs) = omega arith
  positive_node (core.funcall true c cs) = omega arith
  positive_node (core.funcall false c cs) = omega arith
  positive_node (lambda ps c) = omega arith
  positive_node (core.qlet p bs c) = omega arith
  positive_node (core.qlambda p ps c) = omega arith
  positive_node (core.catch a b) = omega arith
  positive_node (core.qcatch a b) = omega arith
  positive_node (core.throw a b) = omega arith
  positive_node (core.protect a b) = omega arith
  positive_node (defvar l o c) = omega arith

  positive_forms : (cs : Cores) → 0 < size_of_forms cs
  positive_forms no_cores = omega arith
  positive_forms (and_core c no_cores) = positive c
  positive_forms (and_core c (and_core d ds)) = omega arith

module _ (k : Code) where
  -- frames that come to places from this one on
  pub record Region (h : Here) (sc : Scope) (lo : ℕ) : Type 0 where
    pub slots : (s : Start) (sh : Shape) → h s ≡ Some sh → slots_in sh ≡ kinds_of sc
    pub below : (s : Start) (sh : Shape) → h s ≡ Some sh → first_place s ≤ lo
    pub alone : (s r : Start) (sh other : Shape) → h s ≡ Some sh → h r ≡ Some other → first_place s ≡ lo → first_place r ≡ lo → is_same_kind s r ≡ true
    pub joins : (pc own : ℕ) (sh : Shape) → h (child pc own) ≡ Some sh → pc ≡ lo → joins_there (slice_get k.instructions own) ≡ true

  pub record IsStrictAt (pc : ℕ) (n : Note) : Type 0 where
    pub slots : (s r : Start) (sh other : Shape) → n.1 s ≡ Some sh → n.1 r ≡ Some other → slots_in sh ≡ slots_in other
    pub apart : (s r : Start) (sh other : Shape) → n.1 s ≡ Some sh → n.1 r ≡ Some other → first_place s ≡ pc → first_place r ≡ pc → is_same_kind s r ≡ true
    pub heads : (s : Start) (sh : Shape) → n.1 s ≡ Some sh → first_place s ≡ pc → may_start n.0.op ≡ true
    pub joins : (p own : ℕ) (sh : Shape) → n.1 (child p own) ≡ Some sh → p ≡ pc → joins_there (slice_get k.instructions own) ≡ true

  -- what a shape is made of
  abbrev Maps : (Shape → Shape) → Scope → Scope → Type 0
  Maps f sc sc' = (sh : Shape) → slots_in sh ≡ kinds_of sc → slots_in (f sh) ≡ kinds_of sc'

  region_on : (f : Shape → Shape) (h : Here) (sc sc' : Scope) (lo : ℕ) → Maps f sc sc' → Region h sc lo → Region (on f h) sc' lo
  region_on f h sc sc' lo g r = record {
    slots = λ s sh e. let m = mapped_is f (h s) sh e in subst (λ z. slots_in z ≡ kinds_of sc') (sym m.2) (g m.0 (r.slots s m.0 m.1));
    below = λ s sh e. let m = mapped_is f (h s) sh e in r.below s m.0 m.1;
    alone = λ s t sh other e i. let m = mapped_is f (h s) sh e in let n = mapped_is f (h t) other i in r.alone s t m.0 n.0 m.1 n.1;
    joins = λ pc own sh e. let m = mapped_is f (h (child pc own)) sh e in r.joins pc own m.0 m.1;
  }

  pub region_value : (h : Here) (sc : Scope) (lo : ℕ) → Region h sc lo → Region (with_value h) (None ∷ sc) lo
  region_value h sc lo r = region_on (λ sh. value ∷ sh) h sc (None ∷ sc) lo (λ sh e. ap (λ z. value ∷ z) e) r

  -- an instruction from there on
  pub strict_here : (h : Here) (sc : Scope) (lo pc at : ℕ) (op : Op) → Region h sc lo → lo ≤ pc → (pc ≡ lo → may_start op ≡ true) → IsStrictAt pc (note op at h)
  strict_here h sc lo pc at op r l m = record {
    slots = λ s t sh other e i. r.slots s sh e ∙ sym (r.slots t other i);
    apart = λ s t sh other e i a b. let d = r.below s sh e in let z : pc ≡ lo = omega (arith, d, a, l) in r.alone s t sh other e i (a ∙ z) (b ∙ z);
    heads = λ s sh e a. let d = r.below s sh e in m (omega (arith, d, a, l));
    joins = λ p own sh e a. let d = r.below (child p own) sh e in r.joins p own sh e (omega (arith, d, a, l));
  }

  pub strict_after : (h : Here) (sc : Scope) (lo pc at : ℕ) (op : Op) → Region h sc lo → lo < pc → IsStrictAt pc (note op at h)
  strict_after h sc lo pc at op r l = strict_here h sc lo pc at op r (omega (arith, l)) (λ e. absurd (omega (arith, e, l)))

  region_body : (p : ℕ) (sc : Scope) → Region (only (body p) (kinds_of sc)) sc p
  region_body p sc = record {
    slots = λ s sh e. let m = only_is (body p) (kinds_of sc) s sh e in subst (λ z. slots_in z ≡ kinds_of sc) (sym m.1) (slots_kinds sc);
    below = λ s sh e. let m = only_is (body p) (kinds_of sc) s sh e in subst (λ z. first_place z ≤ p) (sym m.0) (omega arith);
    alone = λ s t sh other e i a b. let m = only_is (body p) (kinds_of sc) s sh e in let n = only_is (body p) (kinds_of sc) t other i in subst (λ z. is_same_kind z t ≡ true) (sym m.0) (subst (λ z. is_same_kind (body p) z ≡ true) (sym n.0) refl);
    joins = λ pc own sh e a. let m = only_is (body p) (kinds_of sc) (child pc own) sh e in absurd cc;
  }

  region_child : (h : Here) (sc : Scope) (lo pc own : ℕ) → lo < pc → joins_there (slice_get k.instructions own) ≡ true → Region h sc lo → Region (either h (only (child pc own) (kinds_of sc))) sc pc
  region_child h sc lo pc own l j r = record {
    slots = λ s sh e. ⊎_elim (λ (i : h s ≡ Some sh). r.slots s sh i) (λ (i : only (child pc own) (kinds_of sc) s ≡ Some sh). let m = only_is (child pc own) (kinds_of sc) s sh i in subst (λ z. slots_in z ≡ kinds_of sc) (sym m.1) (slots_kinds sc)) (either_is (h s) (only (child pc own) (kinds_of sc) s) sh e);
    below = λ s sh e. ⊎_elim (λ (i : h s ≡ Some sh). let d = r.below s sh i in omega (arith, d, l)) (λ (i : only (child pc own) (kinds_of sc) s ≡ Some sh). let m = only_is (child pc own) (kinds_of sc) s sh i in subst (λ z. first_place z ≤ pc) (sym m.0) (omega arith)) (either_is (h s) (only (child pc own) (kinds_of sc) s) sh e);
    alone = λ s t sh other e i a b. let m = is_it s sh e a in let n = is_it t other i b in subst (λ z. is_same_kind z t ≡ true) (sym m) (subst (λ z. is_same_kind (child pc own) z ≡ true) (sym n) refl);
    joins = λ p q sh e a. let m = is_it (child p q) sh e a in let n : own ≡ q = cc in subst (λ z. joins_there (slice_get k.instructions z) ≡ true) n j;
  }
    where
      is_it : (s : Start) (sh : Shape) → either h (only (child pc own) (kinds_of sc)) s ≡ Some sh → first_place s ≡ pc → s ≡ child pc own
      is_it s sh e a = ⊎_elim (λ (i : h s ≡ Some sh). let d = r.below s sh i in absurd (omega (arith, d, a, l))) (λ (i : only (child pc own) (kinds_of sc) s ≡ Some sh). (only_is (child pc own) (kinds_of sc) s sh i).0) (either_is (h s) (only (child pc own) (kinds_of sc) s) sh e)

module _ (k : Code) (t : Table) (x : Context) (places : Places) where
  abbrev S : ℕ → Note → Type 0
  S = Stands k t x places

  abbrev P : ℕ → Note → Type 0
  P = IsStrictAt k

  region_kinds : (bs : List Binder) (h : Here) (sc : Scope) (lo : ℕ) → Region k h sc lo → Region k (with_kinds x places bs h) (inner_scope x places bs sc) lo
  region_kinds bs h sc lo r = region_on k (over (kinds x places bs)) h sc (inner_scope x places bs sc) lo
      (λ sh e. slots_over (stored_among x bs) sh ∙ (ap (over (kinds x places bs)) e ∙ sym (kinds_bound bs (stored_among x bs) sc (stored_long k t x places bs)))) r

  -- so many values
  abbrev values_scope : ℕ → Scope → Scope
  values_scope zero sc = sc
  values_scope (suc n) sc = None ∷ values_scope n sc

  values_kinds : (n : ℕ) (sc : Scope) → kinds_of (values_scope n sc) ≡ values n ++ kinds_of sc
  values_kinds zero sc = refl
  values_kinds (suc n) sc = ap (λ z. value ∷ z) (values_kinds n sc)

  region_values : (n : ℕ) (h : Here) (sc : Scope) (lo : ℕ) → Region k h sc lo → Region k (with_values n h) (values_scope n sc) lo
  region_values n h sc lo r = region_on k (λ sh. values n ++ sh) h sc (values_scope n sc) lo
      (λ sh e. values_slots n sh ∙ (ap (λ z. values n ++ z) e ∙ sym (values_kinds n sc))) r

  region_mark : (f : Shape → Shape) → ((sh : Shape) → slots_in (f sh) ≡ slots_in sh) → (h : Here) (sc : Scope) (lo : ℕ) → Region k h sc lo → Region k (on f h) sc lo
  region_mark f g h sc lo r = region_on k f h sc sc lo (λ sh e. g sh ∙ e) r

  read_starts : (o : Option (ℕ × Bool)) (y : Name) → may_start (read_op x o y) ≡ true
  read_starts (Some v) y = of_if v.1
    where
      of_if : (b : Bool) → may_start (if b then box_get v.0 else local v.0) ≡ true
      of_if true = refl
      of_if false = refl
  read_starts None (named l) = refl
  read_starts None (hidden n) = refl

  call_starts : (o : Option (Function × ℕ)) (cs : Cores) → may_start (call_op x o cs) ≡ true
  call_starts None cs = refl
  call_starts (Some f) cs = refl

  some_operand : (o : Operator) → 0 < operand_count (Some o)
  some_operand o = of_if (takes_one o)
    where
      of_if : (b : Bool) → 0 < (if b then 1 else 2)
      of_if true = omega arith
      of_if false = omega arith

  -- a primitive has operands before it
  some_cores : (cs : Cores) → 0 < count cs → 0 < size_of_cores cs
  some_cores no_cores l = absurd (omega (arith, l))
  some_cores (and_core c cs) l = let p = positive c in omega (arith, p)

  mutual
    pub strict : (lo : ℕ) (h : Here) (sc : Scope) (pc : ℕ) (c : Core) → Fine k x places sc c → Region k h sc lo → lo ≤ pc → Along S pc (noted x places h sc pc c) → Along P pc (noted x places h sc pc c)
    strict lo h sc pc (core.core at n) f r l a = strict_node lo h sc pc at n f r l a

    strict_node : (lo : ℕ) (h : Here) (sc : Scope) (pc at : ℕ) (n : Node) → FineNode k x places sc n → Region k h sc lo → lo ≤ pc → Along S pc (noted_node x places h sc pc at n) → Along P pc (noted_node x places h sc pc at n)
    strict_node lo h sc pc at (constant d) f r l a = (strict_here k h sc lo pc at _ r l (λ e. refl), tt)
    strict_node lo h sc pc at (variable y) f r l a = (strict_here k h sc lo pc at _ r l (λ e. read_starts (find_in sc y) y), tt)
    strict_node lo h sc pc at (setq y o c) f r l a = strict_last lo h sc pc at c f.1 r l _ (front S pc (noted x places h sc pc c) _ a)
    strict_node lo h sc pc at (conditional b c d) f r l a =
        let p2 = pc + size b + 1 in
        let p4 = p2 + size c + 1 in
        let nb = noted x places h sc pc b in
        let nc = noted x places h sc p2 c in
        let u = back S pc nb _ (size b) (len k t x places h sc pc b) a in
        let v = back S p2 nc _ (size c) (len k t x places h sc p2 c) u.1 in
        let pb = positive b in let pc' = positive c in
        both P pc nb _ (size b) (len k t x places h sc pc b) (strict lo h sc pc b f.0 r l (front S pc nb _ a)) (
          strict_after k (with_value h) (None ∷ sc) lo (pc + size b) at _ (region_value k h sc lo r) (omega (arith, l, pb)),
          both P p2 nc _ (size c) (len k t x places h sc p2 c) (strict lo h sc p2 c f.1 r (omega (arith, l)) (front S p2 nc _ u.1))
              (strict_after k (with_value h) (None ∷ sc) lo (p2 + size c) at _ (region_value k h sc lo r) (omega (arith, l)), strict lo h sc p4 d f.2 r (omega (arith, l)) v.1),
        )
    strict_node lo h sc pc at (progn cs) f r l a = strict_forms lo h sc pc at cs f r l a
    strict_node lo h sc pc at (binding bs c) f r l a =
        let v = binders_in bs in
        let p1 = pc + size_of_values bs + 1 in
        let h' = with_kinds x places v h in
        let sc' = inner_scope x places v sc in
        let nb = noted_values x places h sc pc bs in
        let nc = noted x places h' sc' p1 c in
        let u = back S pc nb _ (size_of_values bs) (len_values k t x places h sc pc bs) a in
        let i = region_kinds v h sc lo r in
        both P pc nb _ (size_of_values bs) (len_values k t x places h sc pc bs) (strict_values lo h sc pc bs f.0 r l (front S pc nb _ a)) (
          strict_here k (with_values (length v) h) (values_scope (length v) sc) lo (pc + size_of_values bs) at _ (region_values (length v) h sc lo r) (omega (arith, l)) (λ e. refl),
          both P p1 nc _ (size c) (len k t x places h' sc' p1 c) (strict lo h' sc' p1 c f.2 i (omega (arith, l)) (front S p1 nc _ u.1))
              (strict_after k (with_value h') (None ∷ sc') lo (p1 + size c) at _ (region_value k h' sc' lo i) (omega (arith, l)), tt),
        )
    strict_node lo h sc pc at (primitive o cs) f r l a =
        let n = noted_cores x places h sc pc cs in
        let q : 0 < count cs = subst (λ z. 0 < z) f.1.2 (some_operand f.1.0) in
        let z = some_cores cs q in
        both P pc n _ (size_of_cores cs) (len_cores k t x places h sc pc cs) (strict_cores lo h sc pc cs f.0 r l (front S pc n _ a))
        (strict_after k (with_values (count cs) h) (values_scope (count cs) sc) lo (pc + size_of_cores cs) at _ (region_values (count cs) h sc lo r) (omega (arith, l, z)), tt)
    strict_node lo h sc pc at (core.print c) f r l a = strict_last lo h sc pc at c f r l _ (front S pc (noted x places h sc pc c) _ a)
    strict_node lo h sc pc at (core.call g o cs) f r l a =
        let n = noted_cores x places h sc pc cs in
        both P pc n _ (size_of_cores cs) (len_cores k t x places h sc pc cs) (strict_cores lo h sc pc cs f.0 r l (front S pc n _ a))
        (strict_here k (with_values (count cs) h) (values_scope (count cs) sc) lo (pc + size_of_cores cs) at _ (region_values (count cs) h sc lo r) (omega (arith, l)) (λ e. call_starts (place_called places g) cs), tt)
    strict_node lo h sc pc at (core.funcall true c cs) f r l a =
        let n = noted x places h sc pc c in
        let p1 = pc + size c in
        let ns = noted_cores x places (with_value h) (None ∷ sc) p1 cs in
        let u = back S pc n _ (size c) (len k t x places h sc pc c) a in
        let i = region_value k h sc lo r in
        let pz = positive c in
        both P pc n _ (size c) (len k t x places h sc pc c) (strict lo h sc pc c f.0 r l (front S pc n _ a))
        (both P p1 ns _ (size_of_cores cs) (len_cores k t x places (with_value h) (None ∷ sc) p1 cs) (strict_cores lo (with_value h) (None ∷ sc) p1 cs f.1 i (omega (arith, l)) (front S p1 ns _ u))
        (strict_after k (with_values (count cs) (with_value h)) (values_scope (count cs) (None ∷ sc)) lo (p1 + size_of_cores cs) at _ (region_values (count cs) (with_value h) (None ∷ sc) lo i) (omega (arith, l, pz)), tt))
    strict_node lo h sc pc at (core.funcall false c cs) f r l a =
        let n = noted x places h sc pc c in
        let p1 = pc + size c in
        let ns = noted_cores x places (with_value h) (None ∷ sc) p1 cs in
        let u = back S pc n _ (size c) (len k t x places h sc pc c) a in
        let i = region_value k h sc lo r in
        let pz = positive c in
        both P pc n _ (size c) (len k t x places h sc pc c) (strict lo h sc pc c f.0 r l (front S pc n _ a))
        (both P p1 ns _ (size_of_cores cs) (len_cores k t x places (with_value h) (None ∷ sc) p1 cs) (strict_cores lo (with_value h) (None ∷ sc) p1 cs f.1 i (omega (arith, l)) (front S p1 ns _ u)) (
          strict_after k (with_values (count cs) (with_value h)) (values_scope (count cs) (None ∷ sc)) lo (p1 + size_of_cores cs) at _ (region_values (count cs) (with_value h) (None ∷ sc) lo i) (omega (arith, l, pz)),
          (strict_after k (with_value h) (None ∷ sc) lo (p1 + size_of_cores cs + 1) at _ i (omega (arith, l)), tt),
        ))
    strict_node lo h sc pc at (lambda ps c) f r l a =
        (strict_here k h sc lo pc at _ r l (λ e. refl), strict_body (pc + 1) at (body_scope x sc ps c) c f.1 a.1)
    strict_node lo h sc pc at (core.qlet p bs c) f r l a =
        let q = pc + size p in
        let v = binders_in bs in
        let j = q + 1 + size_of_joined bs in
        let h' = with_kinds x places v h in
        let sc' = inner_scope x places v sc in
        let np = noted x places h sc pc p in
        let nj = noted_joined x places h sc (q + 1) bs in
        let nc = noted x places h' sc' (j + 1 + 2) c in
        let u = back S pc np _ (size p) (len k t x places h sc pc p) a in
        let w = back S (q + 1) nj _ (size_of_joined bs) (len_joined k t x places h sc (q + 1) bs) u.1 in
        let three : j + 1 + 1 + 1 ≡ j + 1 + 2 = omega arith in
        let z = subst (λ n. Along S n (nc ++ (note (slide (length v)) at (with_value h') ∷ []))) three w.1.1.1 in
        let i = region_kinds v h sc lo r in
        let e = region_values (length v) h sc lo r in
        let pz = positive p in
        both P pc np _ (size p) (len k t x places h sc pc p) (strict lo h sc pc p f.0 r l (front S pc np _ a)) (
          strict_after k (with_value h) (None ∷ sc) lo q at _ (region_value k h sc lo r) (omega (arith, l, pz)),
          both P (q + 1) nj _ (size_of_joined bs) (len_joined k t x places h sc (q + 1) bs) (strict_joined lo h sc (q + 1) bs f.1 r (omega (arith, l)) (front S (q + 1) nj _ u.1)) (
            strict_after k (with_values (length v) h) (values_scope (length v) sc) lo j at _ e (omega (arith, l)),
            (
              strict_after k (with_values (length v) h) (values_scope (length v) sc) lo (j + 1) at _ e (omega (arith, l)),
              (
                strict_after k (with_values (length v) h) (values_scope (length v) sc) lo (j + 1 + 1) at _ e (omega (arith, l)),
                subst (λ n. Along P n (nc ++ (note (slide (length v)) at (with_value h') ∷ []))) (sym three)
                    (both P (j + 1 + 2) nc _ (size c) (len k t x places h' sc' (j + 1 + 2) c) (strict lo h' sc' (j + 1 + 2) c f.3 i (omega (arith, l)) (front S (j + 1 + 2) nc _ z))
                    (strict_after k (with_value h') (None ∷ sc') lo (j + 1 + 2 + size c) at _ (region_value k h' sc' lo i) (omega (arith, l)), tt)),
              ),
            ),
          ),
        )
    strict_node lo h sc pc at (core.qlambda p ps c) f r l a =
        let np = noted x places h sc pc p in
        let u = back S pc np _ (size p) (len k t x places h sc pc p) a in
        let pz = positive p in
        both P pc np _ (size p) (len k t x places h sc pc p) (strict lo h sc pc p f.0 r l (front S pc np _ a))
        (strict_after k (with_value h) (None ∷ sc) lo (pc + size p) at _ (region_value k h sc lo r) (omega (arith, l, pz)), strict_body (pc + size p + 1) at (body_scope x sc ps c) c f.2 u.1)
    strict_node lo h sc pc at (core.catch b c) f r l a =
        let p1 = pc + size b in
        let h' = on (λ sh. catching ∷ sh) h in
        let nb = noted x places h sc pc b in
        let nc = noted x places h' sc (p1 + 1) c in
        let u = back S pc nb _ (size b) (len k t x places h sc pc b) a in
        let i = region_mark (λ sh. catching ∷ sh) (λ sh. refl) h sc lo r in
        let pz = positive b in
        both P pc nb _ (size b) (len k t x places h sc pc b) (strict lo h sc pc b f.0 r l (front S pc nb _ a)) (
          strict_after k (with_value h) (None ∷ sc) lo p1 at _ (region_value k h sc lo r) (omega (arith, l, pz)),
          both P (p1 + 1) nc _ (size c) (len k t x places h' sc (p1 + 1) c) (strict lo h' sc (p1 + 1) c f.1 i (omega (arith, l)) (front S (p1 + 1) nc _ u.1))
              (strict_after k (with_value h') (None ∷ sc) lo (p1 + 1 + size c) at _ (region_value k h' sc lo i) (omega (arith, l)), tt),
        )
    strict_node lo h sc pc at (core.qcatch b c) f r l a =
        let p1 = pc + size b in
        let h' = on (λ sh. catching ∷ sh) h in
        let nb = noted x places h sc pc b in
        let nc = noted x places h' sc (p1 + 1) c in
        let u = back S pc nb _ (size b) (len k t x places h sc pc b) a in
        let i = region_mark (λ sh. catching ∷ sh) (λ sh. refl) h sc lo r in
        let pz = positive b in
        both P pc nb _ (size b) (len k t x places h sc pc b) (strict lo h sc pc b f.0 r l (front S pc nb _ a)) (
          strict_after k (with_value h) (None ∷ sc) lo p1 at _ (region_value k h sc lo r) (omega (arith, l, pz)),
          both P (p1 + 1) nc _ (size c) (len k t x places h' sc (p1 + 1) c) (strict lo h' sc (p1 + 1) c f.1 i (omega (arith, l)) (front S (p1 + 1) nc _ u.1))
              (strict_after k (with_value h') (None ∷ sc) lo (p1 + 1 + size c) at _ (region_value k h' sc lo i) (omega (arith, l)), tt),
        )
    strict_node lo h sc pc at (core.throw b c) f r l a =
        let p1 = pc + size b in
        let nb = noted x places h sc pc b in
        let nc = noted x places (with_value h) (None ∷ sc) p1 c in
        let u = back S pc nb _ (size b) (len k t x places h sc pc b) a in
        let i = region_value k h sc lo r in
        let pz = positive b in
        both P pc nb _ (size b) (len k t x places h sc pc b) (strict lo h sc pc b f.0 r l (front S pc nb _ a))
        (both P p1 nc _ (size c) (len k t x places (with_value h) (None ∷ sc) p1 c) (strict lo (with_value h) (None ∷ sc) p1 c f.1 i (omega (arith, l)) (front S p1 nc _ u))
        (strict_after k (with_value (with_value h)) (None ∷ (None ∷ sc)) lo (p1 + size c) at _ (region_value k (with_value h) (None ∷ sc) lo i) (omega (arith, l, pz)), tt))
    strict_node lo h sc pc at (core.protect b c) f r l a =
        let p1 = pc + 1 in
        let p2 = p1 + size b + 1 in
        let h1 = on (λ sh. protecting ∷ sh) h in
        let h2 = on (λ sh. cleaning ∷ (value ∷ sh)) h in
        let nb = noted x places h1 sc p1 b in
        let nc = noted x places h2 (None ∷ sc) p2 c in
        let u = back S p1 nb _ (size b) (len k t x places h1 sc p1 b) a.1 in
        let i = region_mark (λ sh. protecting ∷ sh) (λ sh. refl) h sc lo r in
        let j = region_on k (λ sh. cleaning ∷ (value ∷ sh)) h sc (None ∷ sc) lo (λ sh e. ap (λ z. value ∷ z) e) r in (
          strict_here k h sc lo pc at _ r l (λ e. refl),
          both P p1 nb _ (size b) (len k t x places h1 sc p1 b) (strict lo h1 sc p1 b f.0 i (omega (arith, l)) (front S p1 nb _ a.1)) (
            strict_after k (with_value h1) (None ∷ sc) lo (p1 + size b) at _ (region_value k h1 sc lo i) (omega (arith, l)),
            both P p2 nc _ (size c) (len k t x places h2 (None ∷ sc) p2 c) (strict lo h2 (None ∷ sc) p2 c f.1 j (omega (arith, l)) (front S p2 nc _ u.1))
                (strict_after k (with_value h2) (None ∷ (None ∷ sc)) lo (p2 + size c) at _ (region_value k h2 (None ∷ sc) lo j) (omega (arith, l)), tt),
          ),
        )
    strict_node lo h sc pc at (defvar y o c) f r l a = strict_last lo h sc pc at c f.1 r l _ (front S pc (noted x places h sc pc c) _ a)

    -- a core, and an instruction that takes its value
    strict_last : (lo : ℕ) (h : Here) (sc : Scope) (pc at : ℕ) (c : Core) → Fine k x places sc c → Region k h sc lo → lo ≤ pc → (op : Op) → Along S pc (noted x places h sc pc c) → Along P pc (noted x places h sc pc c ++ note op at (with_value h) ∷ [])
    strict_last lo h sc pc at (core.core i n) f r l op a =
        let p = positive_node n in
        both P pc (noted x places h sc pc (core.core i n)) _ (size (core.core i n)) (len k t x places h sc pc (core.core i n)) (strict_node lo h sc pc i n f r l a)
        (strict_after k (with_value h) (None ∷ sc) lo (pc + size_of_node n) at op (region_value k h sc lo r) (omega (arith, l, p)), tt)

    -- the body of a closure
    pub strict_body : (p at : ℕ) (sc : Scope) (c : Core) → Fine k x places sc c → Along S p (noted x places (only (body p) (kinds_of sc)) sc p c ++ note return at (with_value (only (body p) (kinds_of sc))) ∷ [])
        → Along P p (noted x places (only (body p) (kinds_of sc)) sc p c ++ note return at (with_value (only (body p) (kinds_of sc))) ∷ [])
    strict_body p at sc (core.core i n) f a =
        let h = only (body p) (kinds_of sc) in
        let r = region_body k p sc in
        let z = positive_node n in
        let nc = noted x places h sc p (core.core i n) in
        both P p nc _ (size (core.core i n)) (len k t x places h sc p (core.core i n)) (strict_node p h sc p i n f r (omega arith) (front S p nc _ a))
        (strict_after k (with_value h) (None ∷ sc) p (p + size_of_node n) at return (region_value k h sc p r) (omega (arith, z)), tt)

    strict_cores : (lo : ℕ) (h : Here) (sc : Scope) (pc : ℕ) (cs : Cores) → FineCores k x places sc cs → Region k h sc lo → lo ≤ pc → Along S pc (noted_cores x places h sc pc cs) → Along P pc (noted_cores x places h sc pc cs)
    strict_cores lo h sc pc no_cores f r l a = tt
    strict_cores lo h sc pc (and_core c cs) f r l a =
        let n = noted x places h sc pc c in
        both P pc n _ (size c) (len k t x places h sc pc c) (strict lo h sc pc c f.0 r l (front S pc n _ a))
        (strict_cores lo (with_value h) (None ∷ sc) (pc + size c) cs f.1 (region_value k h sc lo r) (omega (arith, l)) (back S pc n _ (size c) (len k t x places h sc pc c) a))

    strict_values : (lo : ℕ) (h : Here) (sc : Scope) (pc : ℕ) (bs : Bounds) → FineValues k x places sc bs → Region k h sc lo → lo ≤ pc → Along S pc (noted_values x places h sc pc bs) → Along P pc (noted_values x places h sc pc bs)
    strict_values lo h sc pc no_bounds f r l a = tt
    strict_values lo h sc pc (and_bound b c bs) f r l a =
        let n = noted x places h sc pc c in
        both P pc n _ (size c) (len k t x places h sc pc c) (strict lo h sc pc c f.0 r l (front S pc n _ a))
        (strict_values lo (with_value h) (None ∷ sc) (pc + size c) bs f.1 (region_value k h sc lo r) (omega (arith, l)) (back S pc n _ (size c) (len k t x places h sc pc c) a))

    strict_joined : (lo : ℕ) (h : Here) (sc : Scope) (pc : ℕ) (bs : Bounds) → FineValues k x places sc bs → Region k h sc lo → lo < pc → Along S pc (noted_joined x places h sc pc bs) → Along P pc (noted_joined x places h sc pc bs)
    strict_joined lo h sc pc no_bounds f r l a = tt
    strict_joined lo h sc pc (and_bound b c bs) f r l a =
        let q = pc + size c in
        let g = either h (only (child pc q) (kinds_of sc)) in
        let n = noted x places g sc pc c in
        let u = back S pc n _ (size c) (len k t x places g sc pc c) a in
        let j : joins_there (slice_get k.instructions q) ≡ true = subst (λ z. joins_there z ≡ true) (sym u.0.0) refl in
        let i = region_child k h sc lo pc q l j r in
        let z = positive c in
        both P pc n _ (size c) (len k t x places g sc pc c) (strict pc g sc pc c f.0 i (omega arith) (front S pc n _ a)) (
          strict_after k (with_value g) (None ∷ sc) pc q (offset_of c) join (region_value k g sc pc i) (omega (arith, z)),
          strict_joined lo (with_value h) (None ∷ sc) (q + 1) bs f.1 (region_value k h sc lo r) (omega (arith, l)) u.1,
        )

    strict_forms : (lo : ℕ) (h : Here) (sc : Scope) (pc at : ℕ) (cs : Cores) → FineForms k x places sc cs → Region k h sc lo → lo ≤ pc → Along S pc (noted_forms x places h sc pc at cs) → Along P pc (noted_forms x places h sc pc at cs)
    strict_forms lo h sc pc at no_cores f r l a = (strict_here k h sc lo pc at _ r l (λ e. refl), tt)
    strict_forms lo h sc pc at (and_core c no_cores) f r l a = strict lo h sc pc c f.0 r l a
    strict_forms lo h sc pc at (and_core c (and_core d ds)) f r l a =
        let n = noted x places h sc pc c in
        let u = back S pc n _ (size c) (len k t x places h sc pc c) a in
        let z = positive c in
        both P pc n _ (size c) (len k t x places h sc pc c) (strict lo h sc pc c f.0 r l (front S pc n _ a)) (
          strict_after k (with_value h) (None ∷ sc) lo (pc + size c) (offset_of c) drop (region_value k h sc lo r) (omega (arith, l, z)),
          strict_forms lo h sc (pc + size c + 1) at (and_core d ds) f.1 r (omega (arith, l)) u.1,
        )
