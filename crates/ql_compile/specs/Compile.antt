-- The code of a program.
use Rattle.std.specs.Prelude.{ℕ, ◌+◌, ◌==◌, Bool, true, false, ◌||◌, if◌then◌else◌, List, [], ◌∷◌, ◌++◌, map, reverse, length, Option, Some, None}
use Rattle.ql_forms.specs.Form as form
use Rattle.ql_forms.specs.Form.{atom}
use Rattle.ql_expand.specs.Core as core
use Rattle.ql_expand.specs.Core.{Name, named, hidden, Binder, Core, Node, constant, variable, setq, conditional, progn, binding, primitive, lambda, defvar, Cores, no_cores, and_core, Bounds, no_bounds, and_bound, Function, function, Program}
use Rattle.ql_scope.specs.Scope.{binders_in}
use Rattle.ql_meaning.specs.Context.{Context, place_of, context_of, quotes_of, functions_of, globals_of, tops_of, offset_of, same_name, name_of, is_called, parameters_of, or_zero, constant_word, stored_among}
use Rattle.ql_code.specs.Code.{Instruction, instruction, mask_of, Code}
use Rattle.ql_code.specs.declared.code.Op.{Op}
use Rattle.ql_code.specs.declared.code.Op.TheVariants.{Lit as lit, Local as local, BoxGet as box_get, GlobalGet as global_get, BoxSet as box_set, GlobalSet as global_set, Branch as branch, Jump as jump, Drop as drop, Slide as slide, Bind as bind, Call as call, Return as return, Close as close, Funcall as funcall, FuncallDrop as funcall_drop, Touch as touch, Qlet as qlet, Join as join, Qlambda as qlambda, Catch as catch, Qcatch as qcatch, Exit as exit, Throw as throw, Protect as protect, Leave as leave, EndClean as end_clean, Prim as prim, Cons as cons, Print as print, End as end}
use Rattle.ql_code.specs.declared.code.FunEntry.{FunEntry}

abbrev pub is_name_among : Name → List Name → Bool
is_name_among x [] = false
is_name_among x (y ∷ ys) = same_name x y || is_name_among x ys

abbrev pub without : Name → List Name → List Name
without x [] = []
without x (y ∷ ys) = if same_name x y then without x ys else y ∷ without x ys

abbrev pub without_all : List Binder → List Name → List Name
without_all [] xs = xs
without_all (b ∷ bs) xs = without_all bs (without (name_of b) xs)

abbrev mutual
  -- the variables that occur free
  pub free : Core → List Name
  free (core.core at n) = free_in_node n

  pub free_in_node : Node → List Name
  free_in_node (constant f) = []
  free_in_node (variable x) = x ∷ []
  free_in_node (setq x o c) = x ∷ free c
  free_in_node (conditional a b c) = free a ++ (free b ++ free c)
  free_in_node (progn cs) = free_in_cores cs
  free_in_node (binding bs c) = free_in_values bs ++ without_all (binders_in bs) (free c)
  free_in_node (primitive o cs) = free_in_cores cs
  free_in_node (core.print c) = free c
  free_in_node (core.call f o cs) = free_in_cores cs
  free_in_node (core.funcall i c cs) = free c ++ free_in_cores cs
  free_in_node (lambda ps c) = without_all ps (free c)
  free_in_node (core.qlet p bs c) = free p ++ (free_in_values bs ++ without_all (binders_in bs) (free c))
  free_in_node (core.qlambda p ps c) = free p ++ without_all ps (free c)
  free_in_node (core.catch a b) = free a ++ free b
  free_in_node (core.qcatch a b) = free a ++ free b
  free_in_node (core.throw a b) = free a ++ free b
  free_in_node (core.protect a b) = free a ++ free b
  free_in_node (defvar l o c) = named l ∷ free c

  pub free_in_cores : Cores → List Name
  free_in_cores no_cores = []
  free_in_cores (and_core c cs) = free c ++ free_in_cores cs

  pub free_in_values : Bounds → List Name
  free_in_values no_bounds = []
  free_in_values (and_bound b c bs) = free c ++ free_in_values bs

-- What each slot of a frame is, the last one first: a variable and whether it lives in a box, or an operand.
abbrev pub Scope : Type 0
Scope = List (Option (Name × Bool))

abbrev pub find_in : Scope → Name → Option (ℕ × Bool)
find_in [] x = None
find_in (None ∷ sc) x = find_in sc x
find_in (Some v ∷ sc) x = if same_name v.0 x then Some (length sc, v.1) else find_in sc x

-- the slots of the variables that are named, the last one first
abbrev pub caught : Scope → List Name → List (ℕ × (Name × Bool))
caught [] xs = []
caught (None ∷ sc) xs = caught sc xs
caught (Some v ∷ sc) xs = if is_name_among v.0 xs then (length sc, v) ∷ caught sc (without v.0 xs) else caught sc xs

abbrev pub with_variables : List Binder → List Bool → Scope → Scope
with_variables (b ∷ bs) (s ∷ ss) sc = with_variables bs ss (Some (name_of b, s) ∷ sc)
with_variables _ _ sc = sc

-- a closure's frame: its parameters, and what it has captured above them
abbrev pub scope_of : List (ℕ × (Name × Bool)) → List Binder → List Bool → Scope
scope_of cs ps ss = map (λ c. Some c.1) cs ++ with_variables ps ss []

abbrev pub caught_slots : List (ℕ × (Name × Bool)) → List ℕ
caught_slots cs = reverse (map (λ c. c.0) cs)

abbrev pub count : Cores → ℕ
count no_cores = 0
count (and_core c cs) = 1 + count cs

abbrev mutual
  -- how many instructions it has
  pub size : Core → ℕ
  size (core.core at n) = size_of_node n

  pub size_of_node : Node → ℕ
  size_of_node (constant f) = 1
  size_of_node (variable x) = 1
  size_of_node (setq x o c) = size c + 1
  size_of_node (conditional a b c) = size a + 1 + size b + 1 + size c
  size_of_node (progn cs) = size_of_forms cs
  size_of_node (binding bs c) = size_of_values bs + 1 + size c + 1
  size_of_node (primitive o cs) = size_of_cores cs + 1
  size_of_node (core.print c) = size c + 1
  size_of_node (core.call f o cs) = size_of_cores cs + 1
  size_of_node (core.funcall ignored c cs) = size c + size_of_cores cs + (if ignored then 1 else 2)
  size_of_node (lambda ps c) = 1 + size c + 1
  size_of_node (core.qlet p bs c) = size p + 1 + size_of_joined bs + 3 + size c + 1
  size_of_node (core.qlambda p ps c) = size p + 1 + size c + 1
  size_of_node (core.catch a b) = size a + 1 + size b + 1
  size_of_node (core.qcatch a b) = size a + 1 + size b + 1
  size_of_node (core.throw a b) = size a + size b + 1
  size_of_node (core.protect a b) = 1 + size a + 1 + size b + 1
  size_of_node (defvar l o c) = size c + 1

  pub size_of_cores : Cores → ℕ
  size_of_cores no_cores = 0
  size_of_cores (and_core c cs) = size c + size_of_cores cs

  -- with a drop between two forms; no form is nil
  pub size_of_forms : Cores → ℕ
  size_of_forms no_cores = 1
  size_of_forms (and_core c no_cores) = size c
  size_of_forms (and_core c (and_core d ds)) = size c + 1 + size_of_forms (and_core d ds)

  pub size_of_values : Bounds → ℕ
  size_of_values no_bounds = 0
  size_of_values (and_bound b c bs) = size c + size_of_values bs

  -- with a join after each value
  pub size_of_joined : Bounds → ℕ
  size_of_joined no_bounds = 0
  size_of_joined (and_bound b c bs) = size c + 1 + size_of_joined bs

-- where the values of a `qlet` begin
abbrev pub starts_of : ℕ → Bounds → List ℕ
starts_of pc no_bounds = []
starts_of pc (and_bound b c bs) = pc ∷ starts_of (pc + size c + 1) bs

-- a function's first place
abbrev pub Places : Type 0
Places = List (Function × ℕ)

abbrev pub place_called : Places → ℕ → Option (Function × ℕ)
place_called [] w = None
place_called (f ∷ fs) w = if is_called w f.0 then Some f else place_called fs w

abbrev pub read_op : Context → Option (ℕ × Bool) → Name → Op
read_op x (Some v) y = if v.1 then box_get v.0 else local v.0
read_op x None (named l) = global_get (or_zero (place_of x.globals l))
read_op x None (hidden n) = global_get 0

abbrev pub write_op : Context → Option (ℕ × Bool) → Name → Op
write_op x (Some v) y = box_set v.0
write_op x None (named l) = global_set (or_zero (place_of x.globals l))
write_op x None (hidden n) = global_set 0

module _ (x : Context) where
  abbrev pub mask : List Binder → ℕ
  mask bs = mask_of (stored_among x bs)

  abbrev pub call_op : Option (Function × ℕ) → Cores → Op
  call_op None cs = end
  call_op (Some f) cs = call f.1 (count cs) (mask (parameters_of f.0))

  abbrev pub primitive_op : ℕ → Op
  primitive_op s = if s == 19 then cons else prim s

  -- what a closure captures
  abbrev pub captured : Scope → List Binder → Core → List (ℕ × (Name × Bool))
  captured sc ps c = caught sc (without_all ps (free c))

  abbrev pub body_scope : Scope → List Binder → Core → Scope
  body_scope sc ps c = scope_of (captured sc ps c) ps (stored_among x ps)

  -- after the proposition: the values with their joins, and then the body
  abbrev pub qlet_code : Scope → ℕ → ℕ → Bounds → (Scope → ℕ → List Instruction) → List Instruction → List Instruction
  qlet_code sc pc at bs body values =
      let n = length (binders_in bs) in
      let t = pc + 1 + size_of_joined bs + 1 in
      instruction (qlet (starts_of (pc + 1) bs) t (t + 1)) at
      ∷ (values ++ instruction (jump (t + 1)) at ∷ (instruction (touch n) at ∷ (instruction (bind n (mask (binders_in bs))) at
      ∷ (body (with_variables (binders_in bs) (stored_among x (binders_in bs)) sc) (t + 2) ++ instruction (slide n) at ∷ []))))

module _ (x : Context) (places : Places) where
  abbrev mutual
    -- the code that stands from a place on
    pub code : Scope → ℕ → Core → List Instruction
    code sc pc (core.core at n) = code_of_node sc pc at n

    pub code_of_node : Scope → ℕ → ℕ → Node → List Instruction
    code_of_node sc pc at (constant f) = instruction (lit (constant_word x f)) at ∷ []
    code_of_node sc pc at (variable y) = instruction (read_op x (find_in sc y) y) at ∷ []
    code_of_node sc pc at (setq y o c) = code sc pc c ++ instruction (write_op x (find_in sc y) y) at ∷ []
    code_of_node sc pc at (conditional a b c) =
        code sc pc a ++ instruction (branch (pc + size a + 1 + size b + 1)) at
        ∷ (code sc (pc + size a + 1) b ++ instruction (jump (pc + size a + 1 + size b + 1 + size c)) at
        ∷ code sc (pc + size a + 1 + size b + 1) c)
    code_of_node sc pc at (progn cs) = code_of_forms sc pc at cs
    code_of_node sc pc at (binding bs c) =
        code_of_values sc pc bs ++ instruction (bind (length (binders_in bs)) (mask x (binders_in bs))) at
        ∷ (code (with_variables (binders_in bs) (stored_among x (binders_in bs)) sc) (pc + size_of_values bs + 1) c
        ++ instruction (slide (length (binders_in bs))) at ∷ [])
    code_of_node sc pc at (primitive o cs) =
        code_of_cores sc pc cs ++ instruction (primitive_op x o) at ∷ []
    code_of_node sc pc at (core.print c) = code sc pc c ++ instruction print at ∷ []
    code_of_node sc pc at (core.call f o cs) = code_of_cores sc pc cs ++ instruction (call_op x (place_called places f) cs) at ∷ []
    code_of_node sc pc at (core.funcall true c cs) =
        code sc pc c ++ (code_of_cores (None ∷ sc) (pc + size c) cs ++ instruction (funcall_drop (count cs)) at ∷ [])
    code_of_node sc pc at (core.funcall false c cs) =
        code sc pc c ++ (code_of_cores (None ∷ sc) (pc + size c) cs ++ instruction (funcall (count cs)) at ∷ (instruction (touch 1) at ∷ []))
    code_of_node sc pc at (lambda ps c) =
        instruction (close (length ps) (mask x ps) (caught_slots (captured x sc ps c)) (pc + 1 + size c + 1)) at
        ∷ (code (body_scope x sc ps c) (pc + 1) c ++ instruction return at ∷ [])
    code_of_node sc pc at (core.qlet p bs c) =
        code sc pc p ++ qlet_code x sc (pc + size p) at bs (λ sc pc. code sc pc c) (code_of_joined sc (pc + size p + 1) bs)
    code_of_node sc pc at (core.qlambda p ps c) =
        code sc pc p ++ instruction (qlambda (length ps) (mask x ps) (caught_slots (captured x sc ps c)) (pc + size p + 1 + size c + 1)) at
        ∷ (code (body_scope x sc ps c) (pc + size p + 1) c ++ instruction return at ∷ [])
    code_of_node sc pc at (core.catch a b) =
        code sc pc a ++ instruction (catch (pc + size a + 1 + size b + 1)) at ∷ (code sc (pc + size a + 1) b ++ instruction exit at ∷ [])
    code_of_node sc pc at (core.qcatch a b) =
        code sc pc a ++ instruction (qcatch (pc + size a + 1 + size b + 1)) at ∷ (code sc (pc + size a + 1) b ++ instruction exit at ∷ [])
    code_of_node sc pc at (core.throw a b) = code sc pc a ++ (code (None ∷ sc) (pc + size a) b ++ instruction throw at ∷ [])
    code_of_node sc pc at (core.protect a b) =
        instruction (protect (pc + 1 + size a + 1)) at
        ∷ (code sc (pc + 1) a ++ instruction leave at ∷ (code (None ∷ sc) (pc + 1 + size a + 1) b ++ instruction end_clean at ∷ []))
    code_of_node sc pc at (defvar l o c) = code sc pc c ++ instruction (write_op x (find_in sc (named l)) (named l)) at ∷ []

    -- operands, each of which stays on the stack
    pub code_of_cores : Scope → ℕ → Cores → List Instruction
    code_of_cores sc pc no_cores = []
    code_of_cores sc pc (and_core c cs) = code sc pc c ++ code_of_cores (None ∷ sc) (pc + size c) cs

    pub code_of_values : Scope → ℕ → Bounds → List Instruction
    code_of_values sc pc no_bounds = []
    code_of_values sc pc (and_bound b c bs) = code sc pc c ++ code_of_values (None ∷ sc) (pc + size c) bs

    -- values, each with its join
    pub code_of_joined : Scope → ℕ → Bounds → List Instruction
    code_of_joined sc pc no_bounds = []
    code_of_joined sc pc (and_bound b c bs) =
        code sc pc c ++ instruction join (offset_of c) ∷ code_of_joined (None ∷ sc) (pc + size c + 1) bs

    pub code_of_forms : Scope → ℕ → ℕ → Cores → List Instruction
    code_of_forms sc pc at no_cores = instruction (lit (constant_word x (atom at form.nil))) at ∷ []
    code_of_forms sc pc at (and_core c no_cores) = code sc pc c
    code_of_forms sc pc at (and_core c (and_core d ds)) =
        code sc pc c ++ instruction drop (offset_of c) ∷ code_of_forms sc (pc + size c + 1) at (and_core d ds)

  -- each top form and a drop of its value
  abbrev pub code_of_tops : ℕ → Cores → List Instruction
  code_of_tops pc no_cores = []
  code_of_tops pc (and_core c cs) = code [] pc c ++ instruction drop (offset_of c) ∷ code_of_tops (pc + size c + 1) cs

  abbrev pub code_of_function : ℕ → Function → List Instruction
  code_of_function pc (function at l o ps c) = code (with_variables ps (stored_among x ps) []) pc c ++ instruction return at ∷ []

  abbrev pub code_of_functions : Places → List Instruction
  code_of_functions [] = []
  code_of_functions (f ∷ fs) = code_of_function f.1 f.0 ++ code_of_functions fs

abbrev pub size_of_tops : Cores → ℕ
size_of_tops no_cores = 0
size_of_tops (and_core c cs) = size c + 1 + size_of_tops cs

abbrev pub size_of_function : Function → ℕ
size_of_function (function at l o ps c) = size c + 1

abbrev pub places_from : ℕ → List Function → Places
places_from pc [] = []
places_from pc (f ∷ fs) = (f, pc) ∷ places_from (pc + size_of_function f) fs

-- after the top forms and the end
abbrev pub places_of : Program → Places
places_of p = places_from (size_of_tops (tops_of p) + 1) (functions_of p)

abbrev pub instructions_of : Context → Places → Program → List Instruction
instructions_of x places p = code_of_tops x places 0 (tops_of p) ++ instruction end 0 ∷ code_of_functions x places places

abbrev pub entry_of : Context → Function × ℕ → FunEntry
entry_of x f = record { place = f.1; params = length (parameters_of f.0); mask = mask_of (stored_among x (parameters_of f.0)) }

-- the code of a program
abbrev pub compiled : Program → Code
compiled p = record {
  instructions = instructions_of (context_of p) (places_of p) p;
  quoted = (quotes_of p).0;
  entries = map (entry_of (context_of p)) (places_of p);
  globals = length (globals_of p);
}
