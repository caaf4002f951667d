-- Along each instruction of compiled code the shapes are kept.
use Rattle.std.proofs.Common.{◌≡◌, ◌⊎◌, ℕ, suc, ◌+◌, ◌-◌, ◌<◌, ◌≤◌, ◌==◌, Bool, true, false, List, [], ◌∷◌, ◌++◌, length, Option, Some, None, refl, sym, ap, ◌∙◌, subst, ⊎_elim, inl, inr, arith, eq-eqb, eqb-true, ne_eqb, take}
use Rattle.std.specs.Prelude.{◌&&◌, if◌then◌else◌, option_map, slice_get}
use Rattle.std.proofs.lemmas.List.{length-map}
use Rattle.std.proofs.lemmas.Bool.{lt-ltb, le-leb}
use Rattle.std.proofs.Math.Seq.{take-append_seam}
use Rattle.ql_expand.specs.Core as core
use Rattle.ql_expand.specs.Core.{Name, named, hidden, Binder, Core, Node, constant, variable, setq, conditional, progn, binding, primitive, lambda, defvar, Cores, no_cores, and_core, Bounds, no_bounds, and_bound, Function, function, Program}
use Rattle.ql_scope.specs.Scope.{binders_in}
use Rattle.ql_world.specs.Operator.{operator_of}
use Rattle.ql_world.specs.declared.operator.Operator.TheVariants.{Cons as cons_operator}
use Rattle.ql_meaning.specs.Context.{Context, offset_of, stored_among, parameters_of}
use Rattle.ql_code.specs.Code.{Instruction, instruction, Code}
use Rattle.ql_code.specs.declared.code.Op.{Op}
use Rattle.ql_code.specs.declared.code.Op.TheVariants.{Local as local, BoxGet as box_get, Branch as branch, Jump as jump, Drop as drop, Slide as slide, Bind as bind, Call as call, Return as return, Close as close, Funcall as funcall, FuncallDrop as funcall_drop, Touch as touch, Qlet as qlet, Join as join, Qlambda as qlambda, Catch as catch, Qcatch as qcatch, Exit as exit, Throw as throw, Leave as leave, EndClean as end_clean, Prim as prim, Cons as cons, Print as print}
use Rattle.ql_code.specs.Machine.{operand_count}
use Rattle.ql_compile.specs.Compile.{Scope, Places, find_in, caught_slots, count, size, size_of_node, size_of_cores, size_of_forms, size_of_values, size_of_joined, starts_of, read_op, write_op, mask, call_op, primitive_op, captured, body_scope, place_called, free, without_all}
use Rattle.ql_code.specs.Sound.{value, catching, protecting, cleaning, Shape, Start, main, body, child, are_slots, slots_in, part_at, values, part_of, over, variables, is_mask, have_all, parts_at, is_body, is_own, under, op_rule, after, children, All, Leads, Table, Has}
use Rattle.ql_compile.proofs.Along.{Along, front, back, both}
use Rattle.ql_compile.proofs.Sizes.{long, long_cores, long_values, long_joined}
use Rattle.ql_compile.proofs.Noted.{Here, on, with_value, with_values, same_start, only, or_else, either, kinds_of, Note, note, kinds, with_kinds, inner_scope, body_shape, noted, noted_node, noted_cores, noted_values, noted_joined, noted_forms, same, same_cores, same_values, same_joined}
use Rattle.ql_compile.proofs.Cases.{cases}
use Rattle.ql_compile.proofs.Counts.{starts_length}
use Rattle.ql_compile.proofs.SlotKinds.{found, kinds_slots, slots_over, over_onto, over_long, over_slots, kinds_bound, caught_there, kinds_caught, mask_fits, variables_are, under_them, values_more, slots_kinds}
use Rattle.ql_compile.proofs.Fine.{Readable, Writable, IsCalled, IsPrimitive, Fine, FineNode, FineCores, FineValues, FineForms}

pub mapped_is : (f : Shape → Shape) (o : Option Shape) (sh : Shape) → option_map f o ≡ Some sh → (r : Shape) × (o ≡ Some r) × (sh ≡ f r)
mapped_is f None sh e = absurd cc
mapped_is f (Some r) sh e = let k : f r ≡ sh = cc in (r, refl, sym k)

pub start_is : (s t : Start) → same_start s t ≡ true → t ≡ s
start_is main main e = refl
start_is main (body q) e = absurd cc
start_is main (child q j) e = absurd cc
start_is (body p) main e = absurd cc
start_is (body p) (body q) e = ap body (sym (eqb-true p q e))
start_is (body p) (child q j) e = absurd cc
start_is (child p i) main e = absurd cc
start_is (child p i) (body q) e = absurd cc
start_is (child p i) (child q j) e =
    ⊎_elim
    (λ (t : (p == q) ≡ true). let k : (i == j) ≡ true = rw t at e in let a : p ≡ q = eqb-true p q t in let b : i ≡ j = eqb-true i j k in cc)
    (λ (t : (p == q) ≡ false). let bad : false ≡ true = rw t at e in absurd cc)
    (cases (p == q))

pub start_itself : (s : Start) → same_start s s ≡ true
start_itself main = refl
start_itself (body p) = eq-eqb p p refl
start_itself (child p i) = rw (eq-eqb p p refl) (eq-eqb i i refl)

only_if : (b : Bool) (sh r : Shape) → (if b then Some sh else None) ≡ Some r → (b ≡ true) × (r ≡ sh)
only_if true sh r e = let k : sh ≡ r = cc in (refl, sym k)
only_if false sh r e = absurd cc

pub only_is : (s : Start) (sh : Shape) (t : Start) (r : Shape) → only s sh t ≡ Some r → (t ≡ s) × (r ≡ sh)
only_is s sh t r e = let k = only_if (same_start s t) sh r e in (start_is s t k.0, k.1)

pub only_itself : (s : Start) (sh : Shape) → only s sh s ≡ Some sh
only_itself s sh = rw (start_itself s)

pub either_is : (o p : Option Shape) (r : Shape) → or_else o p ≡ Some r → (o ≡ Some r) ⊎ (p ≡ Some r)
either_is None p r e = inr e
either_is (Some sh) p r e = inl e

-- values before values
shift : (n : ℕ) (o : Option Shape) → option_map (λ sh. values n ++ sh) (option_map (λ sh. value ∷ sh) o) ≡ option_map (λ sh. values (suc n) ++ sh) o
shift n None = refl
shift n (Some sh) = ap Some (values_more n sh)

shift_one : (n : ℕ) (o : Option Shape) → option_map (λ sh. values n ++ sh) (option_map (λ sh. value ∷ sh) o) ≡ option_map (λ sh. values (1 + n) ++ sh) o
shift_one n o = let e : suc n ≡ 1 + n = omega arith in subst (λ m. option_map (λ sh. values n ++ sh) (option_map (λ sh. value ∷ sh) o) ≡ option_map (λ sh. values m ++ sh) o) e (shift n o)

no_values : (o : Option Shape) (r : Shape) → o ≡ Some r → option_map (λ sh. values 0 ++ sh) o ≡ Some r
no_values o r e = rw e

-- frames from this start are at work between these places
abbrev pub InBounds : ℕ → ℕ → Start → Type 0
InBounds lo hi main = Unit {0}
InBounds lo hi (body p) = Unit {0}
InBounds lo hi (child p own) = (p ≤ lo) × (hi ≤ own)

not_own : (lo hi q : ℕ) (s : Start) → InBounds lo hi s → q < hi → is_own s q ≡ false
not_own lo hi q main b h = refl
not_own lo hi q (body p) b h = refl
not_own lo hi q (child p own) b h = ne_eqb _ _ (λ e. omega (arith, b, e))

pub record Comes (h : Here) (sc : Scope) (lo hi : ℕ) : Type 0 where
  pub slots : (s : Start) (sh : Shape) → h s ≡ Some sh → slots_in sh ≡ kinds_of sc
  pub bounds : (s : Start) (sh : Shape) → h s ≡ Some sh → InBounds lo hi s

comes_on : (f : Shape → Shape) (h : Here) (sc sc' : Scope) (lo hi : ℕ) → ((sh : Shape) → slots_in sh ≡ kinds_of sc → slots_in (f sh) ≡ kinds_of sc') → Comes h sc lo hi → Comes (on f h) sc' lo hi
comes_on f h sc sc' lo hi g m = record {
  slots = λ s sh e. let k = mapped_is f (h s) sh e in subst (λ z. slots_in z ≡ kinds_of sc') (sym k.2) (g k.0 (m.slots s k.0 k.1));
  bounds = λ s sh e. let k = mapped_is f (h s) sh e in m.bounds s k.0 k.1;
}

comes_value : (h : Here) (sc : Scope) (lo hi : ℕ) → Comes h sc lo hi → Comes (with_value h) (None ∷ sc) lo hi
comes_value h sc lo hi m = comes_on (λ sh. value ∷ sh) h sc (None ∷ sc) lo hi (λ sh e. ap (λ z. value ∷ z) e) m

pub comes_only : (p : ℕ) (sh : Shape) (sc : Scope) (lo hi : ℕ) → sh ≡ kinds_of sc → Comes (only (body p) sh) sc lo hi
comes_only p sh sc lo hi e = record {
  slots = λ s r i. let k = only_is (body p) sh s r i in subst (λ z. slots_in z ≡ kinds_of sc) (sym (k.1 ∙ e)) (slots_kinds sc);
  bounds = λ s r i. let k = only_is (body p) sh s r i in subst (InBounds lo hi) (sym k.0) tt;
}

comes_joined : (h : Here) (sc : Scope) (lo hi pc own : ℕ) → lo < pc → own ≤ hi → Comes h sc lo hi → Comes (either h (only (child pc own) (kinds_of sc))) sc pc own
comes_joined h sc lo hi pc own l u m = record {
  slots = λ s r i. ⊎_elim (λ (e : h s ≡ Some r). m.slots s r e) (λ (e : only (child pc own) (kinds_of sc) s ≡ Some r). let k = only_is (child pc own) (kinds_of sc) s r e in subst (λ z. slots_in z ≡ kinds_of sc) (sym k.1) (slots_kinds sc)) (either_is (h s) (only (child pc own) (kinds_of sc) s) r i);
  bounds = λ s r i. ⊎_elim (λ (e : h s ≡ Some r). narrow s (m.bounds s r e)) (λ (e : only (child pc own) (kinds_of sc) s ≡ Some r). let k = only_is (child pc own) (kinds_of sc) s r e in subst (InBounds pc own) (sym k.0) (omega arith, omega arith)) (either_is (h s) (only (child pc own) (kinds_of sc) s) r i);
}
  where
    narrow : (s : Start) → InBounds lo hi s → InBounds pc own s
    narrow main b = tt
    narrow (body p) b = tt
    narrow (child p i) b = (omega (arith, b), omega (arith, b))

module _ (k : Code) (t : Table) (x : Context) (places : Places) where
  abbrev pub Stands : ℕ → Note → Type 0
  Stands pc n = (slice_get k.instructions pc ≡ Some n.0) × ((s : Start) → t s pc ≡ n.1 s)

  abbrev pub IsKept : ℕ → Note → Type 0
  IsKept pc n = (s : Start) (sh : Shape) → n.1 s ≡ Some sh → Leads (Has t) (after k s pc sh (Some n.0))

  -- frames come to this place with these shapes
  abbrev pub Enters : Here → ℕ → Type 0
  Enters h pc = (s : Start) (sh : Shape) → h s ≡ Some sh → Has t s pc sh

  pub here : (pc : ℕ) (i : Instruction) (h : Here) → Stands pc (i, h) → Enters h pc
  here pc i h a s sh e = a.1 s ∙ e

  -- the same place
  pub moved : (h : Here) (pc q : ℕ) → pc ≡ q → Enters h pc → Enters h q
  moved h pc q e a = subst (Enters h) e a

  leads : (s : Start) (pc : ℕ) (sh r : Shape) (i : Instruction) → (op_rule k s pc sh i.op).asks ≡ true → under (op_rule k s pc sh i.op).takes sh ≡ Some r → All (Has t) ((op_rule k s pc sh i.op).goes r) → Leads (Has t) (after k s pc sh (Some i))
  leads s pc sh r i a u g = rw (a, u) g

  -- a shape that is made from another
  pub kept_on : (f : Shape → Shape) (h : Here) (op : Op) (at pc : ℕ) → ((s : Start) (sh : Shape) → h s ≡ Some sh → Leads (Has t) (after k s pc (f sh) (Some (instruction op at)))) → IsKept pc (note op at (on f h))
  kept_on f h op at pc g s sh e = let m = mapped_is f (h s) sh e in subst (λ z. Leads (Has t) (after k s pc z (Some (instruction op at)))) (sym m.2) (g s m.0 m.1)

  pub len : (h : Here) (sc : Scope) (pc : ℕ) (c : Core) → length (noted x places h sc pc c) ≡ size c
  len h sc pc c = sym (length-map (noted x places h sc pc c) (λ (n : Note). n.0)) ∙ (ap length (same x places h sc pc c) ∙ long x places sc pc c)

  pub len_cores : (h : Here) (sc : Scope) (pc : ℕ) (cs : Cores) → length (noted_cores x places h sc pc cs) ≡ size_of_cores cs
  len_cores h sc pc cs = sym (length-map (noted_cores x places h sc pc cs) (λ (n : Note). n.0)) ∙ (ap length (same_cores x places h sc pc cs) ∙ long_cores x places sc pc cs)

  pub len_values : (h : Here) (sc : Scope) (pc : ℕ) (bs : Bounds) → length (noted_values x places h sc pc bs) ≡ size_of_values bs
  len_values h sc pc bs = sym (length-map (noted_values x places h sc pc bs) (λ (n : Note). n.0)) ∙ (ap length (same_values x places h sc pc bs) ∙ long_values x places sc pc bs)

  pub len_joined : (h : Here) (sc : Scope) (pc : ℕ) (bs : Bounds) → length (noted_joined x places h sc pc bs) ≡ size_of_joined bs
  len_joined h sc pc bs = sym (length-map (noted_joined x places h sc pc bs) (λ (n : Note). n.0)) ∙ (ap length (same_joined x places h sc pc bs) ∙ long_joined x places sc pc bs)

  enters_shift : (n : ℕ) (h : Here) (pc : ℕ) → Enters (with_values (suc n) h) pc → Enters (with_values n (with_value h)) pc
  enters_shift n h pc a s sh e = a s sh (sym (shift n (h s)) ∙ e)

  enters_shift_one : (n : ℕ) (h : Here) (pc : ℕ) → Enters (with_values (1 + n) h) pc → Enters (with_values n (with_value h)) pc
  enters_shift_one n h pc a s sh e = a s sh (sym (shift_one n (h s)) ∙ e)

  enters_none : (h : Here) (pc : ℕ) → Enters (with_values 0 h) (pc + 0) → Enters h pc
  enters_none h pc a s sh e = let z : pc + 0 ≡ pc = omega arith in subst (λ n. Has t s n sh) z (a s sh (no_values (h s) sh e))

  mutual
    -- code begins with the frames that come to it
    pub enters : (h : Here) (sc : Scope) (pc : ℕ) (c : Core) → Along Stands pc (noted x places h sc pc c) → Enters h pc
    enters h sc pc (core.core at n) a = enters_node h sc pc at n a

    enters_node : (h : Here) (sc : Scope) (pc at : ℕ) (n : Node) → Along Stands pc (noted_node x places h sc pc at n) → Enters h pc
    enters_node h sc pc at (constant f) a = here pc _ h a.0
    enters_node h sc pc at (variable y) a = here pc _ h a.0
    enters_node h sc pc at (setq y o c) a = enters h sc pc c (front Stands pc (noted x places h sc pc c) _ a)
    enters_node h sc pc at (conditional b c d) a = enters h sc pc b (front Stands pc (noted x places h sc pc b) _ a)
    enters_node h sc pc at (progn cs) a = enters_forms h sc pc at cs a
    enters_node h sc pc at (binding bs c) a =
        let n = noted_values x places h sc pc bs in
        enters_values h sc pc bs (front Stands pc n _ a) (here _ _ _ (back Stands pc n _ (size_of_values bs) (len_values h sc pc bs) a).0)
    enters_node h sc pc at (primitive o cs) a =
        let n = noted_cores x places h sc pc cs in
        enters_cores h sc pc cs (front Stands pc n _ a) (here _ _ _ (back Stands pc n _ (size_of_cores cs) (len_cores h sc pc cs) a).0)
    enters_node h sc pc at (core.print c) a = enters h sc pc c (front Stands pc (noted x places h sc pc c) _ a)
    enters_node h sc pc at (core.call f o cs) a =
        let n = noted_cores x places h sc pc cs in
        enters_cores h sc pc cs (front Stands pc n _ a) (here _ _ _ (back Stands pc n _ (size_of_cores cs) (len_cores h sc pc cs) a).0)
    enters_node h sc pc at (core.funcall true c cs) a = enters h sc pc c (front Stands pc (noted x places h sc pc c) _ a)
    enters_node h sc pc at (core.funcall false c cs) a = enters h sc pc c (front Stands pc (noted x places h sc pc c) _ a)
    enters_node h sc pc at (lambda ps c) a = here pc _ h a.0
    enters_node h sc pc at (core.qlet p bs c) a = enters h sc pc p (front Stands pc (noted x places h sc pc p) _ a)
    enters_node h sc pc at (core.qlambda p ps c) a = enters h sc pc p (front Stands pc (noted x places h sc pc p) _ a)
    enters_node h sc pc at (core.catch b c) a = enters h sc pc b (front Stands pc (noted x places h sc pc b) _ a)
    enters_node h sc pc at (core.qcatch b c) a = enters h sc pc b (front Stands pc (noted x places h sc pc b) _ a)
    enters_node h sc pc at (core.throw b c) a = enters h sc pc b (front Stands pc (noted x places h sc pc b) _ a)
    enters_node h sc pc at (core.protect b c) a = here pc _ h a.0
    enters_node h sc pc at (defvar l o c) a = enters h sc pc c (front Stands pc (noted x places h sc pc c) _ a)

    enters_cores : (h : Here) (sc : Scope) (pc : ℕ) (cs : Cores) → Along Stands pc (noted_cores x places h sc pc cs) → Enters (with_values (count cs) h) (pc + size_of_cores cs) → Enters h pc
    enters_cores h sc pc no_cores a out = enters_none h pc out
    enters_cores h sc pc (and_core c cs) a out = enters h sc pc c (front Stands pc (noted x places h sc pc c) _ a)

    enters_values : (h : Here) (sc : Scope) (pc : ℕ) (bs : Bounds) → Along Stands pc (noted_values x places h sc pc bs) → Enters (with_values (length (binders_in bs)) h) (pc + size_of_values bs) → Enters h pc
    enters_values h sc pc no_bounds a out = enters_none h pc out
    enters_values h sc pc (and_bound b c bs) a out = enters h sc pc c (front Stands pc (noted x places h sc pc c) _ a)

    enters_joined : (h : Here) (sc : Scope) (pc : ℕ) (bs : Bounds) → Along Stands pc (noted_joined x places h sc pc bs) → Enters (with_values (length (binders_in bs)) h) (pc + size_of_joined bs) → Enters h pc
    enters_joined h sc pc no_bounds a out = enters_none h pc out
    enters_joined h sc pc (and_bound b c bs) a out =
        let g = either h (only (child pc (pc + size c)) (kinds_of sc)) in
        λ s sh e. enters g sc pc c (front Stands pc (noted x places g sc pc c) _ a) s sh (rw e)

    enters_forms : (h : Here) (sc : Scope) (pc at : ℕ) (cs : Cores) → Along Stands pc (noted_forms x places h sc pc at cs) → Enters h pc
    enters_forms h sc pc at no_cores a = here pc _ h a.0
    enters_forms h sc pc at (and_core c no_cores) a = enters h sc pc c a
    enters_forms h sc pc at (and_core c (and_core d ds)) a = enters h sc pc c (front Stands pc (noted x places h sc pc c) _ a)

  -- a variable's slot, under a value
  slot_found : (sc : Scope) (y : Name) (v : ℕ × Bool) (b : Bool) (sh : Shape) → slots_in sh ≡ kinds_of sc → find_in sc y ≡ Some v → v.1 ≡ b → part_at (slots_in sh) v.0 ≡ Some (part_of b)
  slot_found sc y v b sh e f g = rw e (found sc y v f ∙ ap (λ z. Some (part_of z)) g)

  read_kept : (s : Start) (pc at : ℕ) (sh : Shape) (sc : Scope) (y : Name) (o : Option (ℕ × Bool)) → slots_in sh ≡ kinds_of sc → find_in sc y ≡ o → Readable k x places o y → Has t s (pc + 1) (value ∷ sh)
      → Leads (Has t) (after k s pc sh (Some (instruction (read_op x o y) at)))
  read_kept s pc at sh sc y (Some v) e f r g = at_slot v.1 refl
    where
      at_slot : (b : Bool) → v.1 ≡ b → Leads (Has t) (after k s pc sh (Some (instruction (if b then box_get v.0 else local v.0) at)))
      at_slot true q = rw (slot_found sc y v true sh e f q) (g, tt)
      at_slot false q = rw (slot_found sc y v false sh e f q) (g, tt)
  read_kept s pc at sh sc (named l) None e f r g = rw r (g, tt)
  read_kept s pc at sh sc (hidden n) None e f r g = absurd r

  write_kept : (s : Start) (pc at : ℕ) (sh : Shape) (sc : Scope) (y : Name) (o : Option (ℕ × Bool)) → slots_in sh ≡ kinds_of sc → find_in sc y ≡ o → Writable k x places o y → Has t s (pc + 1) (value ∷ sh)
      → Leads (Has t) (after k s pc (value ∷ sh) (Some (instruction (write_op x o y) at)))
  write_kept s pc at sh sc y (Some v) e f r g = rw (slot_found (None ∷ sc) y v true (value ∷ sh) (ap (λ z. value ∷ z) e) f r) (g, tt)
  write_kept s pc at sh sc (named l) None e f r g = rw r (g, tt)
  write_kept s pc at sh sc (hidden n) None e f r g = absurd r

  pub stored_long : (bs : List Binder) → length bs ≡ length (stored_among x bs)
  stored_long bs = sym (length-map bs _)

  take_values : (n : ℕ) (sh : Shape) → under (values n) (values n ++ sh) ≡ Some sh
  take_values n sh = under_them (values n) sh

  -- variables are bound
  bind_kept : (pc at : ℕ) (bs : List Binder) (h : Here) → length bs ≤ 16 → Enters (with_kinds x places bs h) (pc + 1)
      → IsKept pc (note (bind (length bs) (mask x bs)) at (with_values (length bs) h))
  bind_kept pc at bs h l g = kept_on (λ sh. values (length bs) ++ sh) h (bind (length bs) (mask x bs)) at pc
      (λ s sh e. leads s pc (values (length bs) ++ sh) sh (instruction (bind (length bs) (mask x bs)) at) (mask_fits (length bs) (stored_among x bs) (stored_long bs) l) (take_values (length bs) sh)
      (subst (λ z. Has t s (pc + 1) (over z sh)) (sym (variables_are (length bs) (stored_among x bs) (stored_long bs))) (g s (over (kinds x places bs) sh) (rw e)), tt))

  over_kinds : (bs : List Binder) (sh : Shape) → take (length bs) (over (kinds x places bs) sh) ≡ over (kinds x places bs) []
  over_kinds bs sh =
      let a : over (kinds x places bs) sh ≡ over (kinds x places bs) [] ++ sh = over_onto (kinds x places bs) [] sh in
      let b : length (over (kinds x places bs) []) ≡ length bs = over_long (kinds x places bs) [] ∙ (let c = length-map (stored_among x bs) part_of in let d = stored_long bs in omega (arith, c, d)) in
      rw a (subst (λ n. take n (over (kinds x places bs) [] ++ sh) ≡ over (kinds x places bs) []) b (take-append_seam (over (kinds x places bs) []) sh))

  -- and leave the frame
  slide_kept : (pc at : ℕ) (bs : List Binder) (h : Here) → Enters (with_value h) (pc + 1)
      → IsKept pc (note (slide (length bs)) at (with_value (with_kinds x places bs h)))
  slide_kept pc at bs h g = kept_on (λ sh. value ∷ sh) (with_kinds x places bs h) (slide (length bs)) at pc
      (λ s sh e. let m = mapped_is (over (kinds x places bs)) (h s) sh e in
      subst (λ z. Leads (Has t) (after k s pc (value ∷ z) (Some (instruction (slide (length bs)) at)))) (sym m.2) (slid s m.0 (g s (value ∷ m.0) (ap (option_map (λ sh. value ∷ sh)) m.1))))
    where
      slid : (s : Start) (r : Shape) → Has t s (pc + 1) (value ∷ r) → Leads (Has t) (after k s pc (value ∷ over (kinds x places bs) r) (Some (instruction (slide (length bs)) at)))
      slid s r u =
          let ps = over (kinds x places bs) [] in
          let a : take (length bs) (over (kinds x places bs) r) ≡ ps = over_kinds bs r in
          let b : are_slots ps ≡ true = over_slots (stored_among x bs) [] refl in
          let c : length ps ≡ length bs = over_long (kinds x places bs) [] ∙ (let c = length-map (stored_among x bs) part_of in let d = stored_long bs in omega (arith, c, d)) in
          leads s pc (value ∷ over (kinds x places bs) r) r (instruction (slide (length bs)) at)
          (rw (a, b) (eq-eqb _ _ c))
          (rw (a, over_onto (kinds x places bs) [] r) (under_them ps r))
          (u, tt)

  -- a closure's body and what it captures
  body_slots : (sc : Scope) (ps : List Binder) (c : Core) (sh : Shape) → slots_in sh ≡ kinds_of sc
      → over (variables (length ps) (mask x ps) ++ parts_at (slots_in sh) (caught_slots (captured x sc ps c))) [] ≡ body_shape x places sc ps c
  body_slots sc ps c sh e =
      rw (e, variables_are (length ps) (stored_among x ps) (stored_long ps)) (kinds_caught sc (without_all ps (free c)) ps (stored_among x ps) (stored_long ps))

  -- asked of an instruction that makes a closure
  makes_asks : (sc : Scope) (ps : List Binder) (c : Core) (sh : Shape) → slots_in sh ≡ kinds_of sc → length ps ≤ 16
      → (is_mask (length ps) (mask x ps) && have_all (slots_in sh) (caught_slots (captured x sc ps c))) ≡ true
  makes_asks sc ps c sh e l = rw (mask_fits (length ps) (stored_among x ps) (stored_long ps) l, e) (caught_there sc (without_all ps (free c)))

  pub return_kept : (pc at q : ℕ) (sh : Shape) → are_slots sh ≡ true → IsKept pc (note return at (with_value (only (body q) sh)))
  return_kept pc at q sh a = kept_on (λ sh. value ∷ sh) (only (body q) sh) return at pc
      (λ s r e. let m = only_is (body q) sh s r e in
      leads s pc (value ∷ r) r (instruction return at) (subst (λ z. (is_body z && are_slots (value ∷ r)) ≡ true) (sym m.0) (subst (λ z. are_slots (value ∷ z) ≡ true) (sym m.1) a)) refl tt)

  -- a tick that takes values and gives one
  primitive_kept : (pc at o : ℕ) (n : ℕ) (h : Here) → IsPrimitive k x places o n → Enters (with_value h) (pc + 1) → IsKept pc (note (primitive_op x o) at (with_values n h))
  primitive_kept pc at o n h p g = by_cases (o == 19) refl
    where
      by_cases : (b : Bool) → (o == 19) ≡ b → IsKept pc (note (if b then cons else prim o) at (with_values n h))
      by_cases true e =
          let same : o ≡ 19 = eqb-true o 19 e in
          let q : operator_of 19 ≡ Some p.0 = subst (λ z. operator_of z ≡ Some p.0) same p.1 in
          let r : cons_operator ≡ p.0 = cc in
          let two : 2 ≡ n = subst (λ z. operand_count (Some z) ≡ n) (sym r) p.2 in
          subst (λ z. IsKept pc (note cons at (with_values z h))) two
          (kept_on (λ sh. values 2 ++ sh) h cons at pc (λ s sh i. (g s (value ∷ sh) (rw i), tt)))
      by_cases false e =
          subst (λ z. IsKept pc (note (prim o) at (with_values z h))) (ap operand_count p.1 ∙ p.2)
          (kept_on (λ sh. values (operand_count (operator_of o)) ++ sh) h (prim o) at pc
          (λ s sh i. leads s pc (values (operand_count (operator_of o)) ++ sh) sh (instruction (prim o) at) (rw (p.1, e)) (take_values (operand_count (operator_of o)) sh) (g s (value ∷ sh) (rw i), tt)))

  call_kept : (pc at : ℕ) (o : Option (Function × ℕ)) (cs : Cores) (h : Here) → IsCalled k x places o (count cs) → Enters (with_value h) (pc + 1) → IsKept pc (note (call_op x o cs) at (with_values (count cs) h))
  call_kept pc at None cs h c g = absurd c
  call_kept pc at (Some f) cs h c g = kept_on (λ sh. values (count cs) ++ sh) h (call f.1 (count cs) (mask x (parameters_of f.0))) at pc
      (λ s sh i. leads s pc (values (count cs) ++ sh) sh (instruction (call f.1 (count cs) (mask x (parameters_of f.0))) at) c (take_values (count cs) sh) (g s (value ∷ sh) (rw i), tt))

  -- a function and its arguments
  with_function : (n : ℕ) (sh : Shape) → under (values (suc n)) (values n ++ (value ∷ sh)) ≡ Some sh
  with_function n sh = rw (values_more n sh) (take_values (suc n) sh)

  comes_kinds : (lo hi : ℕ) (bs : List Binder) (h : Here) (sc : Scope) → Comes h sc lo hi → Comes (with_kinds x places bs h) (inner_scope x places bs sc) lo hi
  comes_kinds lo hi bs h sc m = comes_on (over (kinds x places bs)) h sc (inner_scope x places bs sc) lo hi
      (λ sh e. slots_over (stored_among x bs) sh ∙ (ap (over (kinds x places bs)) e ∙ sym (kinds_bound bs (stored_among x bs) sc (stored_long bs)))) m

  -- a `join` is passed by all frames but its child's
  join_kept : (lo hi : ℕ) (h : Here) (sc : Scope) (pc q at : ℕ) → Comes h sc lo hi → q < hi → Enters (with_value h) (q + 1) → IsKept q (note join at (with_value (either h (only (child pc q) (kinds_of sc)))))
  join_kept lo hi h sc pc q at m l g = kept_on (λ sh. value ∷ sh) (either h (only (child pc q) (kinds_of sc))) join at q
      (λ s sh e.
      ⊎_elim
      (λ (i : h s ≡ Some sh). rw (not_own lo hi q s (m.bounds s sh i) l) (g s (value ∷ sh) (rw i), tt))
      (λ (i : only (child pc q) (kinds_of sc) s ≡ Some sh).
      let d = only_is (child pc q) (kinds_of sc) s sh i in
      subst (λ z. Leads (Has t) (after k z q (value ∷ sh) (Some (instruction join at)))) (sym d.0)
      (subst (λ z. Leads (Has t) (after k (child pc q) q (value ∷ z) (Some (instruction join at)))) (sym d.1) (rw (eq-eqb q q refl, kinds_slots sc) tt)))
      (either_is (h s) (only (child pc q) (kinds_of sc) s) sh e))

  -- a frame that comes to a `qlet` isn't that of its child
  not_child : (o : Option Shape) (lo hi pc own : ℕ) (r : Shape) → ((sh : Shape) → o ≡ Some sh → InBounds lo hi (child pc own)) → lo < pc → or_else o (Some r) ≡ Some r
  not_child None lo hi pc own r b l = refl
  not_child (Some sh) lo hi pc own r b l = let i = b sh refl in absurd (omega (arith, i, l))

  -- the children of a `qlet` start with the shapes of their places
  children_stand : (lo hi : ℕ) (h : Here) (sc : Scope) (pc after_all n : ℕ) (r : Shape) (bs : Bounds) → ((s : Start) (sh : Shape) → h s ≡ Some sh → InBounds lo hi s) → lo < pc → values n ++ slots_in r ≡ kinds_of sc
      → after_all ≡ pc + size_of_joined bs + 1 → Along Stands pc (noted_joined x places h sc pc bs) → All (Has t) (children n (starts_of pc bs) after_all r)
  children_stand lo hi h sc pc after_all n r no_bounds b l e i a = tt
  children_stand lo hi h sc pc after_all n r (and_bound v c no_bounds) b l e i a =
      let own : pc + size c ≡ after_all - 2 = omega (arith, i) in
      let g = either h (only (child pc (pc + size c)) (kinds_of sc)) in
      let q : g (child pc (pc + size c)) ≡ Some (kinds_of sc) = rw (only_itself (child pc (pc + size c)) (kinds_of sc)) (not_child (h (child pc (pc + size c))) lo hi pc (pc + size c) (kinds_of sc) (b (child pc (pc + size c))) l) in
      let u = enters g sc pc c (front Stands pc (noted x places g sc pc c) _ a) (child pc (pc + size c)) (kinds_of sc) q in
      (subst (λ z. Has t (child pc z) pc (values n ++ slots_in r)) own (subst (Has t (child pc (pc + size c)) pc) (sym e) u), tt)
  children_stand lo hi h sc pc after_all n r (and_bound v c (and_bound w d bs)) b l e i a =
      let own : pc + size c ≡ pc + size c + 1 - 1 = omega arith in
      let g = either h (only (child pc (pc + size c)) (kinds_of sc)) in
      let q : g (child pc (pc + size c)) ≡ Some (kinds_of sc) = rw (only_itself (child pc (pc + size c)) (kinds_of sc)) (not_child (h (child pc (pc + size c))) lo hi pc (pc + size c) (kinds_of sc) (b (child pc (pc + size c))) l) in
      let u = enters g sc pc c (front Stands pc (noted x places g sc pc c) _ a) (child pc (pc + size c)) (kinds_of sc) q in
      let one : n + 1 ≡ suc n = omega arith in
      let e' : values (n + 1) ++ slots_in r ≡ value ∷ kinds_of sc = subst (λ m. values m ++ slots_in r ≡ value ∷ kinds_of sc) (sym one) (ap (λ z. value ∷ z) e) in
      let rest = (back Stands pc (noted x places g sc pc c) _ (size c) (len g sc pc c) a).1 in (
        subst (λ z. Has t (child pc z) pc (values n ++ slots_in r)) own (subst (Has t (child pc (pc + size c)) pc) (sym e) u),
        children_stand lo hi (with_value h) (None ∷ sc) (pc + size c + 1) after_all (n + 1) r (and_bound w d bs)
            (λ s sh i. let m = mapped_is (λ sh. value ∷ sh) (h s) sh i in b s m.0 m.1) (omega (arith, l)) e' (omega (arith, i)) rest,
      )

  mutual
    pub kept : (lo hi : ℕ) (h : Here) (sc : Scope) (pc : ℕ) (c : Core) → Fine k x places sc c → Comes h sc lo hi → (lo ≤ pc) × (pc + size c ≤ hi)
        → Along Stands pc (noted x places h sc pc c) → Enters (with_value h) (pc + size c) → Along IsKept pc (noted x places h sc pc c)
    kept lo hi h sc pc (core.core at n) f m w a out = kept_node lo hi h sc pc at n f m w a out

    kept_node : (lo hi : ℕ) (h : Here) (sc : Scope) (pc at : ℕ) (n : Node) → FineNode k x places sc n → Comes h sc lo hi → (lo ≤ pc) × (pc + size_of_node n ≤ hi)
        → Along Stands pc (noted_node x places h sc pc at n) → Enters (with_value h) (pc + size_of_node n) → Along IsKept pc (noted_node x places h sc pc at n)
    kept_node lo hi h sc pc at (constant d) f m w a out = ((λ s sh e. rw f (out s (value ∷ sh) (rw e), tt)), tt)
    kept_node lo hi h sc pc at (variable y) f m w a out = ((λ s sh e. read_kept s pc at sh sc y (find_in sc y) (m.slots s sh e) refl f (out s (value ∷ sh) (rw e))), tt)
    kept_node lo hi h sc pc at (setq y o c) f m w a out =
        let n = noted x places h sc pc c in
        let r = back Stands pc n _ (size c) (len h sc pc c) a in
        both IsKept pc n _ (size c) (len h sc pc c)
        (kept lo hi h sc pc c f.1 m (omega (arith, w), omega (arith, w)) (front Stands pc n _ a) (here _ _ _ r.0)) (
          kept_on (λ sh. value ∷ sh) h (write_op x (find_in sc y) y) at (pc + size c)
              (λ s sh e. write_kept s (pc + size c) at sh sc y (find_in sc y) (m.slots s sh e) refl f.0 (moved (with_value h) _ (pc + size c + 1) (omega arith) out s (value ∷ sh) (rw e))),
          tt,
        )
    kept_node lo hi h sc pc at (conditional b c d) f m w a out =
        let p2 = pc + size b + 1 in
        let p4 = p2 + size c + 1 in
        let nb = noted x places h sc pc b in
        let nc = noted x places h sc p2 c in
        let r = back Stands pc nb _ (size b) (len h sc pc b) a in
        let u = back Stands p2 nc _ (size c) (len h sc p2 c) r.1 in
        let ec = enters h sc p2 c (front Stands p2 nc _ r.1) in
        let ed = enters h sc p4 d u.1 in
        let out' = moved (with_value h) _ (p4 + size d) (omega arith) out in
        both IsKept pc nb _ (size b) (len h sc pc b)
        (kept lo hi h sc pc b f.0 m (omega (arith, w), omega (arith, w)) (front Stands pc nb _ a) (here _ _ _ r.0)) (
          kept_on (λ sh. value ∷ sh) h (branch p4) at (pc + size b) (λ s sh e. (ed s sh e, (ec s sh e, tt))),
          both IsKept p2 nc _ (size c) (len h sc p2 c)
              (kept lo hi h sc p2 c f.1 m (omega (arith, w), omega (arith, w)) (front Stands p2 nc _ r.1) (here _ _ _ u.0)) (
                kept_on (λ sh. value ∷ sh) h (jump (p4 + size d)) at (p2 + size c) (λ s sh e. rw (lt-ltb (p2 + size c) (p4 + size d) (omega arith)) (out' s (value ∷ sh) (rw e), tt)),
                kept lo hi h sc p4 d f.2 m (omega (arith, w), omega (arith, w)) u.1 out',
              ),
        )
    kept_node lo hi h sc pc at (progn cs) f m w a out = kept_forms lo hi h sc pc at cs f m w a out
    kept_node lo hi h sc pc at (binding bs c) f m w a out =
        let v = binders_in bs in
        let p1 = pc + size_of_values bs + 1 in
        let h' = with_kinds x places v h in
        let sc' = inner_scope x places v sc in
        let nb = noted_values x places h sc pc bs in
        let nc = noted x places h' sc' p1 c in
        let r = back Stands pc nb _ (size_of_values bs) (len_values h sc pc bs) a in
        let u = back Stands p1 nc _ (size c) (len h' sc' p1 c) r.1 in
        both IsKept pc nb _ (size_of_values bs) (len_values h sc pc bs)
        (kept_values lo hi h sc pc bs f.0 m (omega (arith, w), omega (arith, w)) (front Stands pc nb _ a) (here _ _ _ r.0)) (
          bind_kept (pc + size_of_values bs) at v h f.1 (enters h' sc' p1 c (front Stands p1 nc _ r.1)),
          both IsKept p1 nc _ (size c) (len h' sc' p1 c)
              (kept lo hi h' sc' p1 c f.2 (comes_kinds lo hi v h sc m) (omega (arith, w), omega (arith, w)) (front Stands p1 nc _ r.1) (here _ _ _ u.0))
              (slide_kept (p1 + size c) at v h (moved (with_value h) _ (p1 + size c + 1) (omega arith) out), tt),
        )
    kept_node lo hi h sc pc at (primitive o cs) f m w a out =
        let n = noted_cores x places h sc pc cs in
        let r = back Stands pc n _ (size_of_cores cs) (len_cores h sc pc cs) a in
        both IsKept pc n _ (size_of_cores cs) (len_cores h sc pc cs)
        (kept_cores lo hi h sc pc cs f.0 m (omega (arith, w), omega (arith, w)) (front Stands pc n _ a) (here _ _ _ r.0))
        (primitive_kept (pc + size_of_cores cs) at o (count cs) h f.1 (moved (with_value h) _ (pc + size_of_cores cs + 1) (omega arith) out), tt)
    kept_node lo hi h sc pc at (core.print c) f m w a out =
        let n = noted x places h sc pc c in
        let r = back Stands pc n _ (size c) (len h sc pc c) a in
        both IsKept pc n _ (size c) (len h sc pc c)
        (kept lo hi h sc pc c f m (omega (arith, w), omega (arith, w)) (front Stands pc n _ a) (here _ _ _ r.0))
        (kept_on (λ sh. value ∷ sh) h print at (pc + size c) (λ s sh e. (moved (with_value h) _ (pc + size c + 1) (omega arith) out s (value ∷ sh) (rw e), tt)), tt)
    kept_node lo hi h sc pc at (core.call g o cs) f m w a out =
        let n = noted_cores x places h sc pc cs in
        let r = back Stands pc n _ (size_of_cores cs) (len_cores h sc pc cs) a in
        both IsKept pc n _ (size_of_cores cs) (len_cores h sc pc cs)
        (kept_cores lo hi h sc pc cs f.0 m (omega (arith, w), omega (arith, w)) (front Stands pc n _ a) (here _ _ _ r.0))
        (call_kept (pc + size_of_cores cs) at (place_called places g) cs h f.1 (moved (with_value h) _ (pc + size_of_cores cs + 1) (omega arith) out), tt)
    kept_node lo hi h sc pc at (core.funcall true c cs) f m w a out =
        let n = noted x places h sc pc c in
        let p1 = pc + size c in
        let ns = noted_cores x places (with_value h) (None ∷ sc) p1 cs in
        let r = back Stands pc n _ (size c) (len h sc pc c) a in
        let u = back Stands p1 ns _ (size_of_cores cs) (len_cores (with_value h) (None ∷ sc) p1 cs) r in
        both IsKept pc n _ (size c) (len h sc pc c)
        (kept lo hi h sc pc c f.0 m (omega (arith, w), omega (arith, w)) (front Stands pc n _ a) (enters_cores (with_value h) (None ∷ sc) p1 cs (front Stands p1 ns _ r) (here _ _ _ u.0)))
        (both IsKept p1 ns _ (size_of_cores cs) (len_cores (with_value h) (None ∷ sc) p1 cs)
        (kept_cores lo hi (with_value h) (None ∷ sc) p1 cs f.1 (comes_value h sc lo hi m) (omega (arith, w), omega (arith, w)) (front Stands p1 ns _ r) (here _ _ _ u.0)) (
          kept_on (λ sh. values (count cs) ++ sh) (with_value h) (funcall_drop (count cs)) at (p1 + size_of_cores cs)
              (λ s sh e. let i = mapped_is (λ sh. value ∷ sh) (h s) sh e in
              let q : under (values (suc (count cs))) (values (count cs) ++ sh) ≡ Some i.0 = subst (λ z. under (values (suc (count cs))) (values (count cs) ++ z) ≡ Some i.0) (sym i.2) (with_function (count cs) i.0) in
              leads s (p1 + size_of_cores cs) (values (count cs) ++ sh) i.0 (instruction (funcall_drop (count cs)) at) (le-leb (count cs) 16 f.2) q
              (moved (with_value h) _ (p1 + size_of_cores cs + 1) (omega arith) out s (value ∷ i.0) (ap (option_map (λ sh. value ∷ sh)) i.1), tt)),
          tt,
        ))
    kept_node lo hi h sc pc at (core.funcall false c cs) f m w a out =
        let n = noted x places h sc pc c in
        let p1 = pc + size c in
        let p2 = p1 + size_of_cores cs in
        let ns = noted_cores x places (with_value h) (None ∷ sc) p1 cs in
        let r = back Stands pc n _ (size c) (len h sc pc c) a in
        let u = back Stands p1 ns _ (size_of_cores cs) (len_cores (with_value h) (None ∷ sc) p1 cs) r in
        both IsKept pc n _ (size c) (len h sc pc c)
        (kept lo hi h sc pc c f.0 m (omega (arith, w), omega (arith, w)) (front Stands pc n _ a) (enters_cores (with_value h) (None ∷ sc) p1 cs (front Stands p1 ns _ r) (here _ _ _ u.0)))
        (both IsKept p1 ns _ (size_of_cores cs) (len_cores (with_value h) (None ∷ sc) p1 cs)
        (kept_cores lo hi (with_value h) (None ∷ sc) p1 cs f.1 (comes_value h sc lo hi m) (omega (arith, w), omega (arith, w)) (front Stands p1 ns _ r) (here _ _ _ u.0)) (
          kept_on (λ sh. values (count cs) ++ sh) (with_value h) (funcall (count cs)) at p2
              (λ s sh e. let i = mapped_is (λ sh. value ∷ sh) (h s) sh e in
              let j = ap (option_map (λ sh. value ∷ sh)) i.1 in
              let q : under (values (suc (count cs))) (values (count cs) ++ sh) ≡ Some i.0 = subst (λ z. under (values (suc (count cs))) (values (count cs) ++ z) ≡ Some i.0) (sym i.2) (with_function (count cs) i.0) in
              leads s p2 (values (count cs) ++ sh) i.0 (instruction (funcall (count cs)) at) (le-leb (count cs) 16 f.2) q
              (here _ _ _ u.1.0 s (value ∷ i.0) j, (moved (with_value h) _ (p2 + 2) (omega arith) out s (value ∷ i.0) j, tt))),
          (kept_on (λ sh. value ∷ sh) h (touch 1) at (p2 + 1) (λ s sh e. (moved (with_value h) _ (p2 + 1 + 1) (omega arith) out s (value ∷ sh) (rw e), tt)), tt),
        ))
    kept_node lo hi h sc pc at (lambda ps c) f m w a out =
        let b = body (pc + 1) in
        let sc' = body_scope x sc ps c in
        let h' = only b (kinds_of sc') in
        let n = noted x places h' sc' (pc + 1) c in
        let u = back Stands (pc + 1) n _ (size c) (len h' sc' (pc + 1) c) a.1 in (
          (λ s sh e. leads s pc sh sh (instruction (close (length ps) (mask x ps) (caught_slots (captured x sc ps c)) (pc + 1 + size c + 1)) at) (makes_asks sc ps c sh (m.slots s sh e) f.0) refl (
            moved (with_value h) _ (pc + 1 + size c + 1) (omega arith) out s (value ∷ sh) (rw e),
            (subst (Has t b (pc + 1)) (sym (body_slots sc ps c sh (m.slots s sh e))) (enters h' sc' (pc + 1) c (front Stands (pc + 1) n _ a.1) b (kinds_of sc') (only_itself b (kinds_of sc'))), tt),
          )),
          both IsKept (pc + 1) n _ (size c) (len h' sc' (pc + 1) c)
              (kept (pc + 1) (pc + 1 + size c) h' sc' (pc + 1) c f.1 (comes_only (pc + 1) (kinds_of sc') sc' (pc + 1) (pc + 1 + size c) refl) (omega arith, omega arith) (front Stands (pc + 1) n _ a.1) (here _ _ _ u.0))
              (return_kept (pc + 1 + size c) at (pc + 1) (kinds_of sc') (kinds_slots sc'), tt),
        )
    kept_node lo hi h sc pc at (core.qlet p bs c) f m w a out =
        let q = pc + size p in
        let v = binders_in bs in
        let j = q + 1 + size_of_joined bs in
        let h' = with_kinds x places v h in
        let sc' = inner_scope x places v sc in
        let np = noted x places h sc pc p in
        let nj = noted_joined x places h sc (q + 1) bs in
        let nc = noted x places h' sc' (j + 1 + 2) c in
        let r = back Stands pc np _ (size p) (len h sc pc p) a in
        let u = back Stands (q + 1) nj _ (size_of_joined bs) (len_joined h sc (q + 1) bs) r.1 in
        let three : j + 1 + 1 + 1 ≡ j + 1 + 2 = omega arith in
        let z = subst (λ n. Along Stands n (nc ++ (note (slide (length v)) at (with_value h') ∷ []))) three u.1.1.1 in
        let y = back Stands (j + 1 + 2) nc _ (size c) (len h' sc' (j + 1 + 2) c) z in
        let ej = enters_joined h sc (q + 1) bs (front Stands (q + 1) nj _ r.1) (here _ _ _ u.0) in
        let et = here (j + 1) _ _ u.1.0 in
        let eb = here (j + 1 + 1) _ _ u.1.1.0 in
        both IsKept pc np _ (size p) (len h sc pc p)
        (kept lo hi h sc pc p f.0 m (omega (arith, w), omega (arith, w)) (front Stands pc np _ a) (here _ _ _ r.0)) (
          kept_on (λ sh. value ∷ sh) h (qlet (starts_of (q + 1) bs) (j + 1) (j + 1 + 1)) at q
              (λ s sh e. leads s q (value ∷ sh) sh (instruction (qlet (starts_of (q + 1) bs) (j + 1) (j + 1 + 1)) at) (rw (starts_length (q + 1) bs) (le-leb (length v) 16 f.2)) refl (
                ej s sh e,
                (
                  rw (starts_length (q + 1) bs) (et s (values (length v) ++ sh) (rw e)),
                  (
                    rw (starts_length (q + 1) bs) (eb s (values (length v) ++ sh) (rw e)),
                    children_stand lo hi h sc (q + 1) (j + 1) 0 sh bs m.bounds (omega (arith, w)) (m.slots s sh e) refl (front Stands (q + 1) nj _ r.1),
                  ),
                ),
              )),
          both IsKept (q + 1) nj _ (size_of_joined bs) (len_joined h sc (q + 1) bs)
              (kept_joined lo hi h sc (q + 1) bs f.1 m (omega (arith, w), omega (arith, w)) (front Stands (q + 1) nj _ r.1) (here _ _ _ u.0)) (
                kept_on (λ sh. values (length v) ++ sh) h (jump (j + 1 + 1)) at j (λ s sh e. rw (lt-ltb j (j + 1 + 1) (omega arith)) (eb s (values (length v) ++ sh) (rw e), tt)),
                (
                  kept_on (λ sh. values (length v) ++ sh) h (touch (length v)) at (j + 1)
                      (λ s sh e. leads s (j + 1) (values (length v) ++ sh) sh (instruction (touch (length v)) at) refl (take_values (length v) sh) (eb s (values (length v) ++ sh) (rw e), tt)),
                  (
                    bind_kept (j + 1 + 1) at v h f.2 (moved h' (j + 1 + 2) (j + 1 + 1 + 1) (omega arith) (enters h' sc' (j + 1 + 2) c (front Stands (j + 1 + 2) nc _ z))),
                    subst (λ n. Along IsKept n (nc ++ (note (slide (length v)) at (with_value h') ∷ []))) (sym three)
                        (both IsKept (j + 1 + 2) nc _ (size c) (len h' sc' (j + 1 + 2) c)
                        (kept lo hi h' sc' (j + 1 + 2) c f.3 (comes_kinds lo hi v h sc m) (omega (arith, w), omega (arith, w)) (front Stands (j + 1 + 2) nc _ z) (here _ _ _ y.0))
                        (slide_kept (j + 1 + 2 + size c) at v h (moved (with_value h) _ (j + 1 + 2 + size c + 1) (omega arith) out), tt)),
                  ),
                ),
              ),
        )
    kept_node lo hi h sc pc at (core.qlambda p ps c) f m w a out =
        let p1 = pc + size p in
        let np = noted x places h sc pc p in
        let r = back Stands pc np _ (size p) (len h sc pc p) a in
        let b = body (p1 + 1) in
        let sc' = body_scope x sc ps c in
        let h' = only b (kinds_of sc') in
        let n = noted x places h' sc' (p1 + 1) c in
        let u = back Stands (p1 + 1) n _ (size c) (len h' sc' (p1 + 1) c) r.1 in
        both IsKept pc np _ (size p) (len h sc pc p)
        (kept lo hi h sc pc p f.0 m (omega (arith, w), omega (arith, w)) (front Stands pc np _ a) (here _ _ _ r.0)) (
          kept_on (λ sh. value ∷ sh) h (qlambda (length ps) (mask x ps) (caught_slots (captured x sc ps c)) (p1 + 1 + size c + 1)) at p1
              (λ s sh e. let i : slots_in (value ∷ sh) ≡ kinds_of (None ∷ sc) = ap (λ z. value ∷ z) (m.slots s sh e) in
              leads s p1 (value ∷ sh) sh (instruction (qlambda (length ps) (mask x ps) (caught_slots (captured x sc ps c)) (p1 + 1 + size c + 1)) at) (makes_asks (None ∷ sc) ps c (value ∷ sh) i f.1) refl (
                moved (with_value h) _ (p1 + 1 + size c + 1) (omega arith) out s (value ∷ sh) (rw e),
                (subst (Has t b (p1 + 1)) (sym (body_slots (None ∷ sc) ps c (value ∷ sh) i)) (enters h' sc' (p1 + 1) c (front Stands (p1 + 1) n _ r.1) b (kinds_of sc') (only_itself b (kinds_of sc'))), tt),
              )),
          both IsKept (p1 + 1) n _ (size c) (len h' sc' (p1 + 1) c)
              (kept (p1 + 1) (p1 + 1 + size c) h' sc' (p1 + 1) c f.2 (comes_only (p1 + 1) (kinds_of sc') sc' (p1 + 1) (p1 + 1 + size c) refl) (omega arith, omega arith) (front Stands (p1 + 1) n _ r.1) (here _ _ _ u.0))
              (return_kept (p1 + 1 + size c) at (p1 + 1) (kinds_of sc') (kinds_slots sc'), tt),
        )
    kept_node lo hi h sc pc at (core.catch b c) f m w a out =
        let p1 = pc + size b in
        let nb = noted x places h sc pc b in
        let h' = on (λ sh. catching ∷ sh) h in
        let nc = noted x places h' sc (p1 + 1) c in
        let r = back Stands pc nb _ (size b) (len h sc pc b) a in
        let u = back Stands (p1 + 1) nc _ (size c) (len h' sc (p1 + 1) c) r.1 in
        let out' = moved (with_value h) _ (p1 + 1 + size c + 1) (omega arith) out in
        both IsKept pc nb _ (size b) (len h sc pc b)
        (kept lo hi h sc pc b f.0 m (omega (arith, w), omega (arith, w)) (front Stands pc nb _ a) (here _ _ _ r.0)) (
          kept_on (λ sh. value ∷ sh) h (catch (p1 + 1 + size c + 1)) at p1
              (λ s sh e. (enters h' sc (p1 + 1) c (front Stands (p1 + 1) nc _ r.1) s (catching ∷ sh) (rw e), (out' s (value ∷ sh) (rw e), tt))),
          both IsKept (p1 + 1) nc _ (size c) (len h' sc (p1 + 1) c)
              (kept lo hi h' sc (p1 + 1) c f.1 (comes_on (λ sh. catching ∷ sh) h sc sc lo hi (λ sh e. e) m) (omega (arith, w), omega (arith, w)) (front Stands (p1 + 1) nc _ r.1) (here _ _ _ u.0)) (
                kept_on (λ sh. value ∷ sh) h' exit at (p1 + 1 + size c) (λ s sh e. let i = mapped_is (λ sh. catching ∷ sh) (h s) sh e in
                    subst (λ z. Leads (Has t) (after k s (p1 + 1 + size c) (value ∷ z) (Some (instruction exit at)))) (sym i.2) (out' s (value ∷ i.0) (ap (option_map (λ sh. value ∷ sh)) i.1), tt)),
                tt,
              ),
        )
    kept_node lo hi h sc pc at (core.qcatch b c) f m w a out =
        let p1 = pc + size b in
        let nb = noted x places h sc pc b in
        let h' = on (λ sh. catching ∷ sh) h in
        let nc = noted x places h' sc (p1 + 1) c in
        let r = back Stands pc nb _ (size b) (len h sc pc b) a in
        let u = back Stands (p1 + 1) nc _ (size c) (len h' sc (p1 + 1) c) r.1 in
        let out' = moved (with_value h) _ (p1 + 1 + size c + 1) (omega arith) out in
        both IsKept pc nb _ (size b) (len h sc pc b)
        (kept lo hi h sc pc b f.0 m (omega (arith, w), omega (arith, w)) (front Stands pc nb _ a) (here _ _ _ r.0)) (
          kept_on (λ sh. value ∷ sh) h (qcatch (p1 + 1 + size c + 1)) at p1
              (λ s sh e. (enters h' sc (p1 + 1) c (front Stands (p1 + 1) nc _ r.1) s (catching ∷ sh) (rw e), (out' s (value ∷ sh) (rw e), tt))),
          both IsKept (p1 + 1) nc _ (size c) (len h' sc (p1 + 1) c)
              (kept lo hi h' sc (p1 + 1) c f.1 (comes_on (λ sh. catching ∷ sh) h sc sc lo hi (λ sh e. e) m) (omega (arith, w), omega (arith, w)) (front Stands (p1 + 1) nc _ r.1) (here _ _ _ u.0)) (
                kept_on (λ sh. value ∷ sh) h' exit at (p1 + 1 + size c) (λ s sh e. let i = mapped_is (λ sh. catching ∷ sh) (h s) sh e in
                    subst (λ z. Leads (Has t) (after k s (p1 + 1 + size c) (value ∷ z) (Some (instruction exit at)))) (sym i.2) (out' s (value ∷ i.0) (ap (option_map (λ sh. value ∷ sh)) i.1), tt)),
                tt,
              ),
        )
    kept_node lo hi h sc pc at (core.throw b c) f m w a out =
        let p1 = pc + size b in
        let nb = noted x places h sc pc b in
        let h' = with_value h in
        let nc = noted x places h' (None ∷ sc) p1 c in
        let r = back Stands pc nb _ (size b) (len h sc pc b) a in
        let u = back Stands p1 nc _ (size c) (len h' (None ∷ sc) p1 c) r in
        both IsKept pc nb _ (size b) (len h sc pc b)
        (kept lo hi h sc pc b f.0 m (omega (arith, w), omega (arith, w)) (front Stands pc nb _ a) (enters h' (None ∷ sc) p1 c (front Stands p1 nc _ r)))
        (both IsKept p1 nc _ (size c) (len h' (None ∷ sc) p1 c)
        (kept lo hi h' (None ∷ sc) p1 c f.1 (comes_value h sc lo hi m) (omega (arith, w), omega (arith, w)) (front Stands p1 nc _ r) (here _ _ _ u.0)) (
          kept_on (λ sh. value ∷ sh) h' throw at (p1 + size c) (λ s sh e. let i = mapped_is (λ sh. value ∷ sh) (h s) sh e in
              subst (λ z. Leads (Has t) (after k s (p1 + size c) (value ∷ z) (Some (instruction throw at)))) (sym i.2)
              (moved (with_value h) _ (p1 + size c + 1) (omega arith) out s (value ∷ i.0) (ap (option_map (λ sh. value ∷ sh)) i.1), tt)),
          tt,
        ))
    kept_node lo hi h sc pc at (core.protect b c) f m w a out =
        let p1 = pc + 1 in
        let p2 = p1 + size b + 1 in
        let h1 = on (λ sh. protecting ∷ sh) h in
        let h2 = on (λ sh. cleaning ∷ (value ∷ sh)) h in
        let nb = noted x places h1 sc p1 b in
        let nc = noted x places h2 (None ∷ sc) p2 c in
        let u = back Stands p1 nb _ (size b) (len h1 sc p1 b) a.1 in
        let v = back Stands p2 nc _ (size c) (len h2 (None ∷ sc) p2 c) u.1 in
        let ec = enters h2 (None ∷ sc) p2 c (front Stands p2 nc _ u.1) in (
          (λ s sh e. (enters h1 sc p1 b (front Stands p1 nb _ a.1) s (protecting ∷ sh) (rw e), (ec s (cleaning ∷ (value ∷ sh)) (rw e), tt))),
          both IsKept p1 nb _ (size b) (len h1 sc p1 b)
              (kept lo hi h1 sc p1 b f.0 (comes_on (λ sh. protecting ∷ sh) h sc sc lo hi (λ sh e. e) m) (omega (arith, w), omega (arith, w)) (front Stands p1 nb _ a.1) (here _ _ _ u.0)) (
                kept_on (λ sh. value ∷ sh) h1 leave at (p1 + size b) (λ s sh e. let i = mapped_is (λ sh. protecting ∷ sh) (h s) sh e in
                    subst (λ z. Leads (Has t) (after k s (p1 + size b) (value ∷ z) (Some (instruction leave at)))) (sym i.2) (ec s (cleaning ∷ (value ∷ i.0)) (ap (option_map (λ sh. cleaning ∷ (value ∷ sh))) i.1), tt)),
                both IsKept p2 nc _ (size c) (len h2 (None ∷ sc) p2 c)
                    (kept lo hi h2 (None ∷ sc) p2 c f.1 (comes_on (λ sh. cleaning ∷ (value ∷ sh)) h sc (None ∷ sc) lo hi (λ sh e. ap (λ z. value ∷ z) e) m) (omega (arith, w), omega (arith, w)) (front Stands p2 nc _ u.1) (here _ _ _ v.0)) (
                      kept_on (λ sh. value ∷ sh) h2 end_clean at (p2 + size c) (λ s sh e. let i = mapped_is (λ sh. cleaning ∷ (value ∷ sh)) (h s) sh e in
                          subst (λ z. Leads (Has t) (after k s (p2 + size c) (value ∷ z) (Some (instruction end_clean at)))) (sym i.2)
                          (moved (with_value h) _ (p2 + size c + 1) (omega arith) out s (value ∷ i.0) (ap (option_map (λ sh. value ∷ sh)) i.1), tt)),
                      tt,
                    ),
              ),
        )
    kept_node lo hi h sc pc at (defvar l o c) f m w a out =
        let n = noted x places h sc pc c in
        let r = back Stands pc n _ (size c) (len h sc pc c) a in
        both IsKept pc n _ (size c) (len h sc pc c)
        (kept lo hi h sc pc c f.1 m (omega (arith, w), omega (arith, w)) (front Stands pc n _ a) (here _ _ _ r.0)) (
          kept_on (λ sh. value ∷ sh) h (write_op x (find_in sc (named l)) (named l)) at (pc + size c)
              (λ s sh e. write_kept s (pc + size c) at sh sc (named l) (find_in sc (named l)) (m.slots s sh e) refl f.0 (moved (with_value h) _ (pc + size c + 1) (omega arith) out s (value ∷ sh) (rw e))),
          tt,
        )

    kept_cores : (lo hi : ℕ) (h : Here) (sc : Scope) (pc : ℕ) (cs : Cores) → FineCores k x places sc cs → Comes h sc lo hi → (lo ≤ pc) × (pc + size_of_cores cs ≤ hi)
        → Along Stands pc (noted_cores x places h sc pc cs) → Enters (with_values (count cs) h) (pc + size_of_cores cs) → Along IsKept pc (noted_cores x places h sc pc cs)
    kept_cores lo hi h sc pc no_cores f m w a out = tt
    kept_cores lo hi h sc pc (and_core c cs) f m w a out =
        let n = noted x places h sc pc c in
        let r = back Stands pc n _ (size c) (len h sc pc c) a in
        let out' = enters_shift_one (count cs) h (pc + size c + size_of_cores cs) (moved (with_values (1 + count cs) h) _ (pc + size c + size_of_cores cs) (omega arith) out) in
        both IsKept pc n _ (size c) (len h sc pc c)
        (kept lo hi h sc pc c f.0 m (omega (arith, w), omega (arith, w)) (front Stands pc n _ a) (enters_cores (with_value h) (None ∷ sc) (pc + size c) cs r out'))
        (kept_cores lo hi (with_value h) (None ∷ sc) (pc + size c) cs f.1 (comes_value h sc lo hi m) (omega (arith, w), omega (arith, w)) r out')

    kept_values : (lo hi : ℕ) (h : Here) (sc : Scope) (pc : ℕ) (bs : Bounds) → FineValues k x places sc bs → Comes h sc lo hi → (lo ≤ pc) × (pc + size_of_values bs ≤ hi)
        → Along Stands pc (noted_values x places h sc pc bs) → Enters (with_values (length (binders_in bs)) h) (pc + size_of_values bs) → Along IsKept pc (noted_values x places h sc pc bs)
    kept_values lo hi h sc pc no_bounds f m w a out = tt
    kept_values lo hi h sc pc (and_bound b c bs) f m w a out =
        let n = noted x places h sc pc c in
        let r = back Stands pc n _ (size c) (len h sc pc c) a in
        let k = length (binders_in bs) in
        let out' = enters_shift k h (pc + size c + size_of_values bs) (moved (with_values (suc k) h) _ (pc + size c + size_of_values bs) (omega arith) out) in
        both IsKept pc n _ (size c) (len h sc pc c)
        (kept lo hi h sc pc c f.0 m (omega (arith, w), omega (arith, w)) (front Stands pc n _ a) (enters_values (with_value h) (None ∷ sc) (pc + size c) bs r out'))
        (kept_values lo hi (with_value h) (None ∷ sc) (pc + size c) bs f.1 (comes_value h sc lo hi m) (omega (arith, w), omega (arith, w)) r out')

    kept_forms : (lo hi : ℕ) (h : Here) (sc : Scope) (pc at : ℕ) (cs : Cores) → FineForms k x places sc cs → Comes h sc lo hi → (lo ≤ pc) × (pc + size_of_forms cs ≤ hi)
        → Along Stands pc (noted_forms x places h sc pc at cs) → Enters (with_value h) (pc + size_of_forms cs) → Along IsKept pc (noted_forms x places h sc pc at cs)
    kept_forms lo hi h sc pc at no_cores f m w a out = ((λ s sh e. (out s (value ∷ sh) (rw e), tt)), tt)
    kept_forms lo hi h sc pc at (and_core c no_cores) f m w a out = kept lo hi h sc pc c f.0 m w a out
    kept_forms lo hi h sc pc at (and_core c (and_core d ds)) f m w a out =
        let n = noted x places h sc pc c in
        let r = back Stands pc n _ (size c) (len h sc pc c) a in
        both IsKept pc n _ (size c) (len h sc pc c)
        (kept lo hi h sc pc c f.0 m (omega (arith, w), omega (arith, w)) (front Stands pc n _ a) (here _ _ _ r.0)) (
          kept_on (λ sh. value ∷ sh) h drop (offset_of c) (pc + size c) (λ s sh e. (enters_forms h sc (pc + size c + 1) at (and_core d ds) r.1 s sh e, tt)),
          kept_forms lo hi h sc (pc + size c + 1) at (and_core d ds) f.1 m (omega (arith, w), omega (arith, w)) r.1 (moved (with_value h) _ (pc + size c + 1 + size_of_forms (and_core d ds)) (omega arith) out),
        )

    kept_joined : (lo hi : ℕ) (h : Here) (sc : Scope) (pc : ℕ) (bs : Bounds) → FineValues k x places sc bs → Comes h sc lo hi → (lo < pc) × (pc + size_of_joined bs ≤ hi)
        → Along Stands pc (noted_joined x places h sc pc bs) → Enters (with_values (length (binders_in bs)) h) (pc + size_of_joined bs) → Along IsKept pc (noted_joined x places h sc pc bs)
    kept_joined lo hi h sc pc no_bounds f m w a out = tt
    kept_joined lo hi h sc pc (and_bound b c bs) f m w a out =
        let q = pc + size c in
        let g = either h (only (child pc q) (kinds_of sc)) in
        let n = noted x places g sc pc c in
        let r = back Stands pc n _ (size c) (len g sc pc c) a in
        let i = length (binders_in bs) in
        let out' = enters_shift i h (q + 1 + size_of_joined bs) (moved (with_values (suc i) h) _ (q + 1 + size_of_joined bs) (omega arith) out) in
        both IsKept pc n _ (size c) (len g sc pc c)
        (kept pc q g sc pc c f.0 (comes_joined h sc lo hi pc q w.0 (omega (arith, w)) m) (omega arith, omega arith) (front Stands pc n _ a) (here _ _ _ r.0)) (
          join_kept lo hi h sc pc q (offset_of c) m (omega (arith, w)) (enters_joined (with_value h) (None ∷ sc) (q + 1) bs r.1 out'),
          kept_joined lo hi (with_value h) (None ∷ sc) (q + 1) bs f.1 (comes_value h sc lo hi m) (omega (arith, w), omega (arith, w)) r.1 out',
        )
