-- What is wrong with the names of a program.
use Rattle.std.specs.Prelude.{◌≡◌, ℕ, ◌+◌, Bool, false, ◌||◌, ◌==◌, if◌then◌else◌, List, [], ◌∷◌, ◌++◌, length, map, Option, Some, None}
use Rattle.ql_expand.specs.Core.{Name, named, hidden, Binder, binder, Core, core, Node, constant, variable, setq, conditional, progn, binding, primitive, print, call, funcall, lambda, qlet, qlambda, catch, qcatch, throw, protect, defvar, Cores, no_cores, and_core, Bounds, no_bounds, and_bound, Function, function, Program, program}
use Rattle.ql_expand.specs.Primitives.{count_of}
use Rattle.ql_base.specs.Refusal.{fault, least, told, unless, where_true}
use Rattle.ql_base.specs.declared.refusal.Fault.{Fault}
use Rattle.ql_base.specs.declared.refusal.FaultKind.TheVariants.{Unbound, NoFunction, Twice, WrongCount, Shadow, TooMany}

-- the most parameters or bindings of one list, and the most arguments of `funcall`
abbrev pub most : ℕ
most = 16

-- whether a name is among these
abbrev pub is_among : ℕ → List ℕ → Bool
is_among w [] = false
is_among w (n ∷ ns) = n == w || is_among w ns

-- a function as its callers see it
pub record Head : Type 0 where
  pub name : ℕ
  pub parameters : ℕ

abbrev pub head_of : Function → Head
head_of (function at w named_at bs body) = record { name = w; parameters = length bs }

-- what a place in a program sees
pub record Place : Type 0 where
  -- of the whole program
  pub functions : List Head
  pub globals : List ℕ
  -- the names of the binders above the place
  pub variables : List ℕ

-- how many parameters the first function of a name has
abbrev pub parameter_count : List Head → ℕ → Option ℕ
parameter_count [] w = None
parameter_count (f ∷ fs) w = if f.name == w then Some f.parameters else parameter_count fs w

-- what a binder is called; a hidden variable has no name
abbrev pub name_at : Binder → List ℕ
name_at (binder at (named w)) = w ∷ []
name_at (binder at (hidden n)) = []

abbrev pub names_at : List Binder → List ℕ
names_at [] = []
names_at (b ∷ bs) = name_at b ++ names_at bs

abbrev pub binders_in : Bounds → List Binder
binders_in no_bounds = []
binders_in (and_bound b c bs) = b ∷ binders_in bs

-- a place under these binders
abbrev pub under : List Binder → Place → Place
under bs p = record p { variables = p.variables ++ names_at bs }

-- a use of a variable: a binder above it or a global has its name
abbrev pub use_faults : Place → ℕ → Name → List Fault
use_faults p at (hidden n) = []
use_faults p at (named w) = unless (is_among w p.variables || is_among w p.globals) (fault Unbound at)

-- a call with so many arguments, of a function with so many parameters
abbrev pub count_faults : ℕ → ℕ → Option ℕ → List Fault
count_faults at arguments None = fault NoFunction at
count_faults at arguments (Some parameters) = unless (arguments == parameters) (fault WrongCount at)

-- a name at this offset, with these before it
abbrev pub twice_faults : List ℕ → (at name : ℕ) → List Fault
twice_faults before at w = where_true (is_among w before) (fault Twice at)

-- the one after so many others of its list
abbrev pub seventeenth_faults : ℕ → ℕ → List Fault
seventeenth_faults count at = where_true (count == most) (fault TooMany at)

-- what is wrong with the name of a binder, with these names before it in its list
abbrev pub called_faults : (globals before : List ℕ) → Binder → List Fault
called_faults globals before (binder at (hidden n)) = []
called_faults globals before (binder at (named w)) = twice_faults before at w ++ where_true (is_among w globals) (fault Shadow at)

abbrev pub offset_of : Binder → ℕ
offset_of (binder at v) = at

-- a binder with these names and so many binders before it in its list
abbrev pub binder_faults : (globals before : List ℕ) → ℕ → Binder → List Fault
binder_faults globals before count b = seventeenth_faults count (offset_of b) ++ called_faults globals before b

-- the binders of one list, with these names and so many binders before them
abbrev pub binders_faults : (globals before : List ℕ) → ℕ → List Binder → List Fault
binders_faults globals before count [] = []
binders_faults globals before count (b ∷ bs) =
    binder_faults globals before count b ++ binders_faults globals (before ++ name_at b) (count + 1) bs

-- the binders of one list
abbrev pub list_faults : Place → List Binder → List Fault
list_faults p bs = binders_faults p.globals [] 0 bs

-- the offset of a core
abbrev pub core_at : Core → ℕ
core_at (core at n) = at

abbrev mutual
  -- all that is wrong in a core at this place
  pub core_faults : Place → Core → List Fault
  core_faults p (core at n) = node_faults p at n

  pub node_faults : Place → ℕ → Node → List Fault
  node_faults p at (constant f) = []
  node_faults p at (variable v) = use_faults p at v
  node_faults p at (setq v named_at c) = use_faults p named_at v ++ core_faults p c
  node_faults p at (conditional a b c) = core_faults p a ++ (core_faults p b ++ core_faults p c)
  node_faults p at (progn cs) = cores_faults p cs
  node_faults p at (binding bs c) = values_faults p bs ++ (list_faults p (binders_in bs) ++ core_faults (under (binders_in bs) p) c)
  node_faults p at (primitive o cs) = cores_faults p cs
  node_faults p at (print c) = core_faults p c
  node_faults p at (call w named_at cs) = count_faults named_at (count_of cs) (parameter_count p.functions w) ++ cores_faults p cs
  node_faults p at (funcall ignored c cs) = core_faults p c ++ arguments_faults p 0 cs
  node_faults p at (lambda bs c) = list_faults p bs ++ core_faults (under bs p) c
  node_faults p at (qlet q bs c) = core_faults p q ++ (values_faults p bs ++ (list_faults p (binders_in bs) ++ core_faults (under (binders_in bs) p) c))
  node_faults p at (qlambda q bs c) = core_faults p q ++ (list_faults p bs ++ core_faults (under bs p) c)
  node_faults p at (catch a b) = core_faults p a ++ core_faults p b
  node_faults p at (qcatch a b) = core_faults p a ++ core_faults p b
  node_faults p at (throw a b) = core_faults p a ++ core_faults p b
  node_faults p at (protect a b) = core_faults p a ++ core_faults p b
  node_faults p at (defvar w named_at c) = core_faults p c

  pub cores_faults : Place → Cores → List Fault
  cores_faults p no_cores = []
  cores_faults p (and_core c cs) = core_faults p c ++ cores_faults p cs

  -- the arguments of `funcall`, with so many before them
  pub arguments_faults : Place → ℕ → Cores → List Fault
  arguments_faults p count no_cores = []
  arguments_faults p count (and_core c cs) = seventeenth_faults count (core_at c) ++ (core_faults p c ++ arguments_faults p (count + 1) cs)

  -- the values of bindings, which don't see the variables
  pub values_faults : Place → Bounds → List Fault
  values_faults p no_bounds = []
  values_faults p (and_bound b c bs) = core_faults p c ++ values_faults p bs

-- functions with the names of earlier ones
abbrev pub repeated_functions : (before : List ℕ) → List Function → List Fault
repeated_functions before [] = []
repeated_functions before (function at w named_at bs body ∷ fs) = twice_faults before named_at w ++ repeated_functions (before ++ w ∷ []) fs

-- the name of the global that a top form makes
abbrev pub global_at : Core → List ℕ
global_at (core at (defvar w named_at c)) = w ∷ []
global_at _ = []

abbrev pub repeated_global : List ℕ → Core → List Fault
repeated_global before (core at (defvar w named_at c)) = twice_faults before named_at w
repeated_global before _ = []

-- top forms that make globals with the names of earlier ones
abbrev pub repeated_globals : (before : List ℕ) → Cores → List Fault
repeated_globals before no_cores = []
repeated_globals before (and_core c cs) = repeated_global before c ++ repeated_globals (before ++ global_at c) cs

-- a function, which sees no variables but its parameters
abbrev pub function_faults : Place → Function → List Fault
function_faults p (function at w named_at bs body) = list_faults p bs ++ core_faults (under bs p) body

abbrev pub functions_faults : Place → List Function → List Fault
functions_faults p [] = []
functions_faults p (f ∷ fs) = function_faults p f ++ functions_faults p fs

-- what the top forms and the functions of a program see; the globals are the names of its `defvar` forms
abbrev pub top : List Function → List ℕ → Place
top fs globals = record { functions = map head_of fs; globals = globals; variables = [] }

-- all that is wrong with the names of a program
abbrev pub program_faults : Program → List Fault
program_faults (program fs globals cs) =
    repeated_functions [] fs ++ (repeated_globals [] cs ++ (functions_faults (top fs globals) fs ++ cores_faults (top fs globals) cs))

-- the first fault of a program: its offset and the number of its kind
abbrev pub scope_fault : Program → Option (ℕ × ℕ)
scope_fault p = told (least (program_faults p))

-- Nothing is wrong with the names of a program.
abbrev pub InScope : Program → Type 0
InScope p = program_faults p ≡ []
