-- Compiled code, each instruction with the shapes of its place.
use Rattle.std.proofs.Common.{◌≡◌, ℕ, ◌+◌, ◌==◌, Bool, true, false, List, [], ◌∷◌, ◌++◌, length, map, Option, Some, None, refl}
use Rattle.std.specs.Prelude.{◌&&◌, if◌then◌else◌, option_map}
use Rattle.std.proofs.lemmas.List.{map-append}
use Rattle.ql_forms.specs.Form as form
use Rattle.ql_forms.specs.Form.{atom}
use Rattle.ql_expand.specs.Core as core
use Rattle.ql_expand.specs.Core.{Name, named, hidden, Binder, Core, Node, constant, variable, setq, conditional, progn, binding, primitive, lambda, defvar, Cores, no_cores, and_core, Bounds, no_bounds, and_bound, Function, function, Program}
use Rattle.ql_scope.specs.Scope.{binders_in}
use Rattle.ql_meaning.specs.Context.{Context, offset_of, constant_word, stored_among}
use Rattle.ql_code.specs.Code.{Instruction, instruction}
use Rattle.ql_code.specs.declared.code.Op.{Op}
use Rattle.ql_code.specs.declared.code.Op.TheVariants.{Lit as lit, Branch as branch, Jump as jump, Drop as drop, Slide as slide, Bind as bind, Return as return, Close as close, Funcall as funcall, FuncallDrop as funcall_drop, Touch as touch, Qlet as qlet, Join as join, Qlambda as qlambda, Catch as catch, Qcatch as qcatch, Exit as exit, Throw as throw, Protect as protect, Leave as leave, EndClean as end_clean, Print as print}
use Rattle.ql_compile.specs.Compile.{Scope, Places, find_in, with_variables, caught_slots, count, size, size_of_values, size_of_joined, starts_of, read_op, write_op, mask, call_op, primitive_op, captured, body_scope, place_called, code, code_of_node, code_of_cores, code_of_values, code_of_joined, code_of_forms, code_of_tops, code_of_function, code_of_functions}
use Rattle.ql_code.specs.Sound.{Part, value, catching, protecting, cleaning, Shape, Start, main, body, child, values, part_of, over}

-- what stands on the frames at a place, by their starts
abbrev pub Here : Type 0
Here = Start → Option Shape

abbrev pub on : (Shape → Shape) → Here → Here
on f h s = option_map f (h s)

abbrev pub with_value : Here → Here
with_value h = on (λ sh. value ∷ sh) h

abbrev pub with_values : ℕ → Here → Here
with_values n h = on (λ sh. values n ++ sh) h

abbrev pub same_start : Start → Start → Bool
same_start main main = true
same_start (body p) (body q) = p == q
same_start (child p i) (child q j) = p == q && i == j
same_start s t = false

-- of frames from one start alone
abbrev pub only : Start → Shape → Here
only s sh t = if same_start s t then Some sh else None

abbrev pub or_else : Option Shape → Option Shape → Option Shape
or_else (Some sh) o = Some sh
or_else None o = o

abbrev pub either : Here → Here → Here
either h k s = or_else (h s) (k s)

abbrev pub nothing : Here
nothing s = None

-- the kinds of a scope's slots
abbrev pub slot_kind : Option (Name × Bool) → Part
slot_kind None = value
slot_kind (Some v) = part_of v.1

abbrev pub kinds_of : Scope → Shape
kinds_of sc = map slot_kind sc

abbrev pub Note : Type 0
Note = Instruction × Here

abbrev pub note : Op → ℕ → Here → Note
note op at h = (instruction op at, h)

abbrev pub ops_of : List Note → List Instruction
ops_of ns = map (λ (n : Note). n.0) ns

module _ (x : Context) (places : Places) where
  abbrev pub kinds : List Binder → List Part
  kinds bs = map part_of (stored_among x bs)

  abbrev pub with_kinds : List Binder → Here → Here
  with_kinds bs h = on (over (kinds bs)) h

  abbrev pub inner_scope : List Binder → Scope → Scope
  inner_scope bs sc = with_variables bs (stored_among x bs) sc

  abbrev pub body_shape : Scope → List Binder → Core → Shape
  body_shape sc ps c = kinds_of (body_scope x sc ps c)

  abbrev mutual
    pub noted : Here → Scope → ℕ → Core → List Note
    noted h sc pc (core.core at n) = noted_node h sc pc at n

    pub noted_node : Here → Scope → ℕ → ℕ → Node → List Note
    noted_node h sc pc at (constant f) = note (lit (constant_word x f)) at h ∷ []
    noted_node h sc pc at (variable y) = note (read_op x (find_in sc y) y) at h ∷ []
    noted_node h sc pc at (setq y o c) = noted h sc pc c ++ note (write_op x (find_in sc y) y) at (with_value h) ∷ []
    noted_node h sc pc at (conditional a b c) =
        noted h sc pc a ++ note (branch (pc + size a + 1 + size b + 1)) at (with_value h)
        ∷ (noted h sc (pc + size a + 1) b ++ note (jump (pc + size a + 1 + size b + 1 + size c)) at (with_value h)
        ∷ noted h sc (pc + size a + 1 + size b + 1) c)
    noted_node h sc pc at (progn cs) = noted_forms h sc pc at cs
    noted_node h sc pc at (binding bs c) =
        noted_values h sc pc bs ++ note (bind (length (binders_in bs)) (mask x (binders_in bs))) at (with_values (length (binders_in bs)) h)
        ∷ (noted (with_kinds (binders_in bs) h) (inner_scope (binders_in bs) sc) (pc + size_of_values bs + 1) c
        ++ note (slide (length (binders_in bs))) at (with_value (with_kinds (binders_in bs) h)) ∷ [])
    noted_node h sc pc at (primitive o cs) =
        noted_cores h sc pc cs ++ note (primitive_op x o) at (with_values (count cs) h) ∷ []
    noted_node h sc pc at (core.print c) = noted h sc pc c ++ note print at (with_value h) ∷ []
    noted_node h sc pc at (core.call f o cs) = noted_cores h sc pc cs ++ note (call_op x (place_called places f) cs) at (with_values (count cs) h) ∷ []
    noted_node h sc pc at (core.funcall true c cs) =
        noted h sc pc c ++ (noted_cores (with_value h) (None ∷ sc) (pc + size c) cs ++ note (funcall_drop (count cs)) at (with_values (count cs) (with_value h)) ∷ [])
    noted_node h sc pc at (core.funcall false c cs) =
        noted h sc pc c ++ (noted_cores (with_value h) (None ∷ sc) (pc + size c) cs ++ note (funcall (count cs)) at (with_values (count cs) (with_value h)) ∷ (note (touch 1) at (with_value h) ∷ []))
    noted_node h sc pc at (lambda ps c) =
        note (close (length ps) (mask x ps) (caught_slots (captured x sc ps c)) (pc + 1 + size c + 1)) at h
        ∷ (noted (only (body (pc + 1)) (body_shape sc ps c)) (body_scope x sc ps c) (pc + 1) c ++ note return at (with_value (only (body (pc + 1)) (body_shape sc ps c))) ∷ [])
    noted_node h sc pc at (core.qlet p bs c) =
        let n = length (binders_in bs) in
        let t = pc + size p + 1 + size_of_joined bs + 1 in
        noted h sc pc p ++ note (qlet (starts_of (pc + size p + 1) bs) t (t + 1)) at (with_value h)
        ∷ (noted_joined h sc (pc + size p + 1) bs ++ note (jump (t + 1)) at (with_values n h) ∷ (note (touch n) at (with_values n h) ∷ (note (bind n (mask x (binders_in bs))) at (with_values n h)
        ∷ (noted (with_kinds (binders_in bs) h) (inner_scope (binders_in bs) sc) (t + 2) c ++ note (slide n) at (with_value (with_kinds (binders_in bs) h)) ∷ []))))
    noted_node h sc pc at (core.qlambda p ps c) =
        noted h sc pc p ++ note (qlambda (length ps) (mask x ps) (caught_slots (captured x sc ps c)) (pc + size p + 1 + size c + 1)) at (with_value h)
        ∷ (noted (only (body (pc + size p + 1)) (body_shape sc ps c)) (body_scope x sc ps c) (pc + size p + 1) c
        ++ note return at (with_value (only (body (pc + size p + 1)) (body_shape sc ps c))) ∷ [])
    noted_node h sc pc at (core.catch a b) =
        noted h sc pc a ++ note (catch (pc + size a + 1 + size b + 1)) at (with_value h)
        ∷ (noted (on (λ sh. catching ∷ sh) h) sc (pc + size a + 1) b ++ note exit at (with_value (on (λ sh. catching ∷ sh) h)) ∷ [])
    noted_node h sc pc at (core.qcatch a b) =
        noted h sc pc a ++ note (qcatch (pc + size a + 1 + size b + 1)) at (with_value h)
        ∷ (noted (on (λ sh. catching ∷ sh) h) sc (pc + size a + 1) b ++ note exit at (with_value (on (λ sh. catching ∷ sh) h)) ∷ [])
    noted_node h sc pc at (core.throw a b) =
        noted h sc pc a ++ (noted (with_value h) (None ∷ sc) (pc + size a) b ++ note throw at (with_value (with_value h)) ∷ [])
    noted_node h sc pc at (core.protect a b) =
        note (protect (pc + 1 + size a + 1)) at h
        ∷ (noted (on (λ sh. protecting ∷ sh) h) sc (pc + 1) a ++ note leave at (with_value (on (λ sh. protecting ∷ sh) h))
        ∷ (noted (on (λ sh. cleaning ∷ (value ∷ sh)) h) (None ∷ sc) (pc + 1 + size a + 1) b ++ note end_clean at (with_value (on (λ sh. cleaning ∷ (value ∷ sh)) h)) ∷ []))
    noted_node h sc pc at (defvar l o c) = noted h sc pc c ++ note (write_op x (find_in sc (named l)) (named l)) at (with_value h) ∷ []

    pub noted_cores : Here → Scope → ℕ → Cores → List Note
    noted_cores h sc pc no_cores = []
    noted_cores h sc pc (and_core c cs) = noted h sc pc c ++ noted_cores (with_value h) (None ∷ sc) (pc + size c) cs

    pub noted_values : Here → Scope → ℕ → Bounds → List Note
    noted_values h sc pc no_bounds = []
    noted_values h sc pc (and_bound b c bs) = noted h sc pc c ++ noted_values (with_value h) (None ∷ sc) (pc + size c) bs

    -- a value is also that of its child
    pub noted_joined : Here → Scope → ℕ → Bounds → List Note
    noted_joined h sc pc no_bounds = []
    noted_joined h sc pc (and_bound b c bs) =
        noted (either h (only (child pc (pc + size c)) (kinds_of sc))) sc pc c ++ note join (offset_of c) (with_value (either h (only (child pc (pc + size c)) (kinds_of sc))))
        ∷ noted_joined (with_value h) (None ∷ sc) (pc + size c + 1) bs

    pub noted_forms : Here → Scope → ℕ → ℕ → Cores → List Note
    noted_forms h sc pc at no_cores = note (lit (constant_word x (atom at form.nil))) at h ∷ []
    noted_forms h sc pc at (and_core c no_cores) = noted h sc pc c
    noted_forms h sc pc at (and_core c (and_core d ds)) =
        noted h sc pc c ++ note drop (offset_of c) (with_value h) ∷ noted_forms h sc (pc + size c + 1) at (and_core d ds)

  abbrev pub noted_tops : Here → ℕ → Cores → List Note
  noted_tops h pc no_cores = []
  noted_tops h pc (and_core c cs) = noted h [] pc c ++ note drop (offset_of c) (with_value h) ∷ noted_tops h (pc + size c + 1) cs

  abbrev pub function_shape : List Binder → Shape
  function_shape ps = kinds_of (with_variables ps (stored_among x ps) [])

  abbrev pub noted_function : ℕ → Function → List Note
  noted_function pc (function at l o ps c) =
      noted (only (body pc) (function_shape ps)) (with_variables ps (stored_among x ps) []) pc c ++ note return at (with_value (only (body pc) (function_shape ps))) ∷ []

  abbrev pub noted_functions : Places → List Note
  noted_functions [] = []
  noted_functions (f ∷ fs) = noted_function f.1 f.0 ++ noted_functions fs

  split : (a b : List Note) → ops_of (a ++ b) ≡ ops_of a ++ ops_of b
  split a b = map-append _ a b

  mutual
    pub same : (h : Here) (sc : Scope) (pc : ℕ) (c : Core) → ops_of (noted h sc pc c) ≡ code x places sc pc c
    same h sc pc (core.core at n) = same_node h sc pc at n

    same_node : (h : Here) (sc : Scope) (pc at : ℕ) (n : Node) → ops_of (noted_node h sc pc at n) ≡ code_of_node x places sc pc at n
    same_node h sc pc at (constant f) = refl
    same_node h sc pc at (variable y) = refl
    same_node h sc pc at (setq y o c) = simp (split, same h sc pc c)
    same_node h sc pc at (conditional a b c) = simp (split, same h sc pc a, same h sc (pc + size a + 1) b, same h sc (pc + size a + 1 + size b + 1) c)
    same_node h sc pc at (progn cs) = same_forms h sc pc at cs
    same_node h sc pc at (binding bs c) = simp (split, same_values h sc pc bs, same (with_kinds (binders_in bs) h) (inner_scope (binders_in bs) sc) (pc + size_of_values bs + 1) c)
    same_node h sc pc at (primitive o cs) = simp (split, same_cores h sc pc cs)
    same_node h sc pc at (core.print c) = simp (split, same h sc pc c)
    same_node h sc pc at (core.call f o cs) = simp (split, same_cores h sc pc cs)
    same_node h sc pc at (core.funcall true c cs) = simp (split, same h sc pc c, same_cores (with_value h) (None ∷ sc) (pc + size c) cs)
    same_node h sc pc at (core.funcall false c cs) = simp (split, same h sc pc c, same_cores (with_value h) (None ∷ sc) (pc + size c) cs)
    same_node h sc pc at (lambda ps c) = simp (split, same (only (body (pc + 1)) (body_shape sc ps c)) (body_scope x sc ps c) (pc + 1) c)
    same_node h sc pc at (core.qlet p bs c) =
        simp (split, same h sc pc p, same_joined h sc (pc + size p + 1) bs, same (with_kinds (binders_in bs) h) (inner_scope (binders_in bs) sc) (pc + size p + 1 + size_of_joined bs + 1 + 2) c)
    same_node h sc pc at (core.qlambda p ps c) =
        simp (split, same h sc pc p, same (only (body (pc + size p + 1)) (body_shape sc ps c)) (body_scope x sc ps c) (pc + size p + 1) c)
    same_node h sc pc at (core.catch a b) = simp (split, same h sc pc a, same (on (λ sh. catching ∷ sh) h) sc (pc + size a + 1) b)
    same_node h sc pc at (core.qcatch a b) = simp (split, same h sc pc a, same (on (λ sh. catching ∷ sh) h) sc (pc + size a + 1) b)
    same_node h sc pc at (core.throw a b) = simp (split, same h sc pc a, same (with_value h) (None ∷ sc) (pc + size a) b)
    same_node h sc pc at (core.protect a b) =
        simp (split, same (on (λ sh. protecting ∷ sh) h) sc (pc + 1) a, same (on (λ sh. cleaning ∷ (value ∷ sh)) h) (None ∷ sc) (pc + 1 + size a + 1) b)
    same_node h sc pc at (defvar l o c) = simp (split, same h sc pc c)

    pub same_cores : (h : Here) (sc : Scope) (pc : ℕ) (cs : Cores) → ops_of (noted_cores h sc pc cs) ≡ code_of_cores x places sc pc cs
    same_cores h sc pc no_cores = refl
    same_cores h sc pc (and_core c cs) = simp (split, same h sc pc c, same_cores (with_value h) (None ∷ sc) (pc + size c) cs)

    pub same_values : (h : Here) (sc : Scope) (pc : ℕ) (bs : Bounds) → ops_of (noted_values h sc pc bs) ≡ code_of_values x places sc pc bs
    same_values h sc pc no_bounds = refl
    same_values h sc pc (and_bound b c bs) = simp (split, same h sc pc c, same_values (with_value h) (None ∷ sc) (pc + size c) bs)

    pub same_joined : (h : Here) (sc : Scope) (pc : ℕ) (bs : Bounds) → ops_of (noted_joined h sc pc bs) ≡ code_of_joined x places sc pc bs
    same_joined h sc pc no_bounds = refl
    same_joined h sc pc (and_bound b c bs) =
        simp (split, same (either h (only (child pc (pc + size c)) (kinds_of sc))) sc pc c, same_joined (with_value h) (None ∷ sc) (pc + size c + 1) bs)

    pub same_forms : (h : Here) (sc : Scope) (pc at : ℕ) (cs : Cores) → ops_of (noted_forms h sc pc at cs) ≡ code_of_forms x places sc pc at cs
    same_forms h sc pc at no_cores = refl
    same_forms h sc pc at (and_core c no_cores) = same h sc pc c
    same_forms h sc pc at (and_core c (and_core d ds)) = simp (split, same h sc pc c, same_forms h sc (pc + size c + 1) at (and_core d ds))

  pub same_tops : (h : Here) (pc : ℕ) (cs : Cores) → ops_of (noted_tops h pc cs) ≡ code_of_tops x places pc cs
  same_tops h pc no_cores = refl
  same_tops h pc (and_core c cs) = simp (split, same h [] pc c, same_tops h (pc + size c + 1) cs)

  same_function : (pc : ℕ) (f : Function) → ops_of (noted_function pc f) ≡ code_of_function x places pc f
  same_function pc (function at l o ps c) = simp (split, same (only (body pc) (function_shape ps)) (with_variables ps (stored_among x ps) []) pc c)

  pub same_functions : (fs : Places) → ops_of (noted_functions fs) ≡ code_of_functions x places fs
  same_functions [] = refl
  same_functions (f ∷ fs) = simp (split, same_function f.1 f.0, same_functions fs)
