-- The control of a process and the frames under it.
use Rattle.std.specs.Prelude.{ℕ, Bool, true, false, not, if◌then◌else◌, List, [], ◌∷◌, ◌++◌, map, Option, Some, None}
use Rattle.ql_forms.specs.Form as form
use Rattle.ql_forms.specs.Form.{Form, atom}
use Rattle.ql_expand.specs.Core.{Name, named, hidden, Binder, Core, core, Node, constant, variable, setq, conditional, progn, binding, primitive, print, call, funcall, lambda, qlet, qlambda, catch, qcatch, throw, protect, defvar, Cores, no_cores, and_core, Bounds, no_bounds, and_bound, Function}
use Rattle.ql_scope.specs.Scope.{binders_in}
use Rattle.ql_world.specs.Word.{nil, is_nil, first_future, with_value}
use Rattle.ql_world.specs.declared.word.Word.{Word}
use Rattle.ql_world.specs.declared.word.Word.TheVariants.{Fut as future}
use Rattle.ql_world.specs.declared.word.Slot.{Slot}
use Rattle.ql_world.specs.declared.word.Slot.TheVariants.{Val as plain, Cell as boxed}
use Rattle.ql_world.specs.Operator.{operator_of}
use Rattle.ql_world.specs.declared.world.Aim.{Aim}
use Rattle.ql_world.specs.declared.world.Aim.TheVariants.{Free as free}
use Rattle.ql_world.specs.Machine.{Place, held, box, global, last_form, with_word, unwound, Want, takes_literal, reads, stores, branches, prints, binds, calls, returns, closes, chooses, makes, takes_call, replies, opens, exits, throws, protects, begins, finishes, leaves, ends, rests, Answer, done, got, numbered, bound, entered, in_line, spawned, unwinds, aimed, Machine}
use Rattle.ql_world.specs.declared.world.Cleanup.{Cleanup}
use Rattle.ql_world.specs.Idle.{in_cleanup}
use Rattle.ql_world.specs.Touch.{await_or, await_word, touched_in_call, touched_by, compute_want, funcall_want}
use Rattle.ql_meaning.specs.Context.{Context, offset_of, same_name, name_of, function_called, parameters_of, body_of, constant_word, stored_among, place_of}

-- each variable with its word or its box, the innermost first
abbrev pub Bindings : Type 0
Bindings = List (Name × Slot)

abbrev pub lookup : Bindings → Name → Option Slot
lookup [] x = None
lookup (b ∷ bs) x = if same_name b.0 x then Some b.1 else lookup bs x

abbrev pub bind_all : List Binder → List Slot → Bindings → Bindings
bind_all (b ∷ bs) (s ∷ ss) env = bind_all bs ss ((name_of b, s) ∷ env)
bind_all _ _ env = env

-- a body with its parameters and the bindings round it, and the offset of its form
pub record Closure : Type 0 where
  pub at : ℕ
  pub parameters : List Binder
  pub body : Core
  pub env : Bindings

-- what is done with a word once it is there
pub data Frame : Type 0 where
  -- operands of a core are got, in order: those that are there, and those that follow
  operands : Core → List Word → Cores → Bindings → Frame
  -- the word is dropped, and these forms of a `progn` follow
  then_forms : Cores → Bindings → Frame
  -- the base of process 1: these top forms follow
  then_tops : Cores → Frame
  returning : Frame
  -- the reply to a call is touched
  replied : (at : ℕ) → Frame
  catching : (catch : ℕ) → Frame
  protecting : (protect : ℕ) → (cleanup : Core) → Bindings → Frame
  -- a running cleanup, with the protected value
  cleaning : (protect : ℕ) → Word → Cleanup → Frame
  -- the base of a child, and that of a process closure's process
  child_base : (at : ℕ) → Frame
  server_base : (at : ℕ) → Frame

pub data Control : Type 0 where
  -- these are evaluated next
  literal : Form → Control
  reading : (at : ℕ) → Name → Bindings → Control
  closing : Closure → Control
  guarding : (value cleanup : Core) → Bindings → Control
  -- all operands of a core are there
  acting : Core → Bindings → List Word → Control
  -- the futures of a `qlet` are touched, and then bound
  joining : (at : ℕ) → Bounds → (body : Core) → Bindings → List Word → Control
  -- a word is given to the frames
  given : Word → Control
  unwinding : Control
  -- all top forms have their values
  finished : Control
  at_rest : Control
  over : Control

pub record Thread : Type 0 where
  pub control : Control
  pub frames : List Frame

abbrev pub thread : Control → List Frame → Thread
thread c fs = record { control = c; frames = fs }

abbrev pub values_in : Bounds → Cores
values_in no_bounds = no_cores
values_in (and_bound b c bs) = and_core c (values_in bs)

abbrev mutual
  -- into the operands, from left to right, without counting
  pub descend : Core → Bindings → List Frame → Thread
  descend (core at n) env fs = descend_node at n env fs

  pub descend_node : ℕ → Node → Bindings → List Frame → Thread
  descend_node at (constant f) env fs = thread (literal f) fs
  descend_node at (variable x) env fs = thread (reading at x env) fs
  descend_node at (setq x o c) env fs = descend c env (operands (core at (setq x o c)) [] no_cores env ∷ fs)
  descend_node at (conditional a b c) env fs = descend a env (operands (core at (conditional a b c)) [] no_cores env ∷ fs)
  descend_node at (progn cs) env fs = descend_forms at cs env fs
  descend_node at (binding bs c) env fs = descend_values (core at (binding bs c)) bs env fs
  descend_node at (primitive o cs) env fs = descend_operands (core at (primitive o cs)) cs env fs
  descend_node at (print c) env fs = descend c env (operands (core at (print c)) [] no_cores env ∷ fs)
  descend_node at (call f o cs) env fs = descend_operands (core at (call f o cs)) cs env fs
  descend_node at (funcall i c cs) env fs = descend c env (operands (core at (funcall i c cs)) [] cs env ∷ fs)
  descend_node at (lambda ps c) env fs = thread (closing (record { at = at; parameters = ps; body = c; env = env })) fs
  descend_node at (qlet p bs c) env fs = descend p env (operands (core at (qlet p bs c)) [] no_cores env ∷ fs)
  descend_node at (qlambda p ps c) env fs = descend p env (operands (core at (qlambda p ps c)) [] no_cores env ∷ fs)
  descend_node at (catch a b) env fs = descend a env (operands (core at (catch a b)) [] no_cores env ∷ fs)
  descend_node at (qcatch a b) env fs = descend a env (operands (core at (qcatch a b)) [] no_cores env ∷ fs)
  descend_node at (throw a b) env fs = descend a env (operands (core at (throw a b)) [] (and_core b no_cores) env ∷ fs)
  descend_node at (protect a b) env fs = thread (guarding a b env) fs
  descend_node at (defvar l o c) env fs = descend c env (operands (core at (defvar l o c)) [] no_cores env ∷ fs)

  -- the first of a core's operands
  pub descend_operands : Core → Cores → Bindings → List Frame → Thread
  descend_operands whole no_cores env fs = thread (acting whole env []) fs
  descend_operands whole (and_core c cs) env fs = descend c env (operands whole [] cs env ∷ fs)

  pub descend_values : Core → Bounds → Bindings → List Frame → Thread
  descend_values whole no_bounds env fs = thread (acting whole env []) fs
  descend_values whole (and_bound b c bs) env fs = descend c env (operands whole [] (values_in bs) env ∷ fs)

  -- The last form of a `progn` stands in its place. An empty one is nil.
  pub descend_forms : ℕ → Cores → Bindings → List Frame → Thread
  descend_forms at no_cores env fs = thread (literal (atom at form.nil)) fs
  descend_forms at (and_core c no_cores) env fs = descend c env fs
  descend_forms at (and_core c (and_core d ds)) env fs = descend c env (then_forms (and_core d ds) env ∷ fs)

-- the top forms; process 1 sees no variables at them
abbrev pub begin : Cores → Thread
begin no_cores = thread finished (then_tops no_cores ∷ [])
begin (and_core c cs) = descend c [] (then_tops cs ∷ [])

-- the next operand, or all of them are there
abbrev pub next_operand : Core → List Word → Cores → Bindings → List Frame → Thread
next_operand whole ws no_cores env fs = thread (acting whole env ws) fs
next_operand whole ws (and_core c cs) env fs = descend c env (operands whole ws cs env ∷ fs)

-- A word for the frames, without counting. Of a reply only a future is touched.
abbrev pub give : Word → List Frame → Thread
give w (operands whole ws cs env ∷ fs) = next_operand whole (ws ++ w ∷ []) cs env fs
give w (then_forms cs env ∷ fs) = descend_forms 0 cs env fs
give w (then_tops cs ∷ fs) = begin cs
give (future f) (replied at ∷ fs) = thread (given (future f)) (replied at ∷ fs)
give w (replied at ∷ fs) = give w fs
give w fs = thread (given w) fs

-- past the frames that unwinding does not stop at
abbrev pub unwind : List Frame → List Frame
unwind (operands whole ws cs env ∷ fs) = unwind fs
unwind (then_forms cs env ∷ fs) = unwind fs
unwind (returning ∷ fs) = unwind fs
unwind (replied at ∷ fs) = unwind fs
unwind fs = fs

abbrev pub unwind_thread : List Frame → Thread
unwind_thread fs = thread unwinding (unwind fs)

abbrev pub cleanups_on : List Frame → List Cleanup
cleanups_on [] = []
cleanups_on (cleaning u w c ∷ fs) = c ∷ cleanups_on fs
cleanups_on (f ∷ fs) = cleanups_on fs

abbrev pub innermost_on : List Frame → Option ℕ
innermost_on [] = None
innermost_on (catching c ∷ fs) = Some c
innermost_on (f ∷ fs) = innermost_on fs

-- the innermost running cleanup gets this aim
abbrev pub aim_cleanup : Aim → List Frame → List Frame
aim_cleanup a [] = []
aim_cleanup a (cleaning u w c ∷ fs) = cleaning u w (record c { aim = a }) ∷ fs
aim_cleanup a (f ∷ fs) = f ∷ aim_cleanup a fs

-- the operands that a core touches, which are the first of its operands
abbrev pub touched : (cleans : Bool) → Node → Context → List Word → List Word
touched cleans (conditional a b c) x ws = ws
touched cleans (primitive o cs) x ws = touched_by (operator_of o) ws
touched cleans (print c) x ws = ws
touched cleans (funcall i c cs) x ws = touched_in_call cleans ws
touched cleans (qlet p bs c) x ws = ws
touched cleans (qlambda p ps c) x ws = ws
touched cleans (catch a b) x ws = ws
touched cleans (qcatch a b) x ws = ws
touched cleans (throw a b) x ws = ws
touched cleans _ x ws = []

abbrev pub global_place : Option ℕ → Place
global_place None = held
global_place (Some g) = global g

abbrev pub place_in : Context → Option Slot → Name → Place
place_in x (Some (plain w)) y = held
place_in x (Some (boxed n)) y = box n
place_in x None (named l) = global_place (place_of x.globals l)
place_in x None (hidden n) = held

module _ (x : Context) where
  abbrev pub place_of_name : Bindings → Name → Place
  place_of_name env y = place_in x (lookup env y) y

  abbrev pub call_want : Option Function → List Word → Want
  call_want None ws = rests
  call_want (Some f) ws = calls (stored_among x (parameters_of f)) ws

  -- once no operand is to be touched any more
  abbrev pub act_want : (cleans : Bool) → ℕ → Node → Bindings → List Word → Want
  act_want cleans at (setq y o c) env (w ∷ []) = stores (place_of_name env y) w
  act_want cleans at (conditional a b c) env (w ∷ []) = branches
  act_want cleans at (binding bs c) env ws = binds (stored_among x (binders_in bs)) ws
  act_want cleans at (primitive o cs) env ws = compute_want (operator_of o) ws at
  act_want cleans at (print c) env (w ∷ []) = prints w
  act_want cleans at (call f o cs) env ws = call_want (function_called x.functions f) ws
  act_want cleans at (funcall ignored c cs) env ws = funcall_want cleans (not ignored) ws at
  act_want cleans at (qlet p bs c) env (w ∷ []) = chooses w
  act_want cleans at (qlambda p ps c) env (w ∷ []) = makes w
  act_want cleans at (catch a b) env (w ∷ []) = opens w false
  act_want cleans at (qcatch a b) env (w ∷ []) = opens w true
  act_want cleans at (throw a b) env (tag ∷ (w ∷ [])) = throws tag w at
  act_want cleans at (defvar l o c) env (w ∷ []) = stores (place_of_name env (named l)) w
  act_want cleans at n env ws = rests

  abbrev pub core_want : (cleans : Bool) → Core → Bindings → List Word → Want
  core_want cleans (core at n) env ws = await_or (first_future (touched cleans n x ws)) at (act_want cleans at n env ws)

  abbrev pub given_want : Word → List Frame → Want
  given_want w (returning ∷ fs) = returns
  given_want w (replied at ∷ fs) = await_word w at rests
  given_want w (catching c ∷ fs) = exits c
  given_want w (protecting u c env ∷ fs) = begins u
  given_want w (cleaning u v c ∷ fs) = finishes u
  given_want w (child_base at ∷ fs) = await_word w at (ends (with_word w))
  given_want w (server_base at ∷ fs) = await_word w at (replies w)
  given_want w fs = rests

  abbrev pub unwinding_want : List Frame → Want
  unwinding_want (catching c ∷ fs) = leaves c
  unwinding_want (protecting u c env ∷ fs) = begins u
  unwinding_want (then_tops cs ∷ fs) = ends unwound
  unwinding_want (child_base at ∷ fs) = ends unwound
  unwinding_want (server_base at ∷ fs) = ends unwound
  unwinding_want fs = rests

  abbrev pub want_of : Control → List Frame → Want
  want_of (literal f) fs = takes_literal
  want_of (reading at y env) fs = reads (place_of_name env y) at
  want_of (closing k) fs = closes
  want_of (guarding a b env) fs = protects
  want_of (acting c env ws) fs = core_want (in_cleanup (cleanups_on fs)) c env ws
  want_of (joining at bs c env ws) fs = await_or (first_future ws) at (binds (stored_among x (binders_in bs)) ws)
  want_of (given w) fs = given_want w fs
  want_of unwinding fs = unwinding_want fs
  want_of finished fs = ends last_form
  want_of at_rest fs = takes_call
  want_of over fs = rests

  abbrev pub held_word : Option Slot → Word
  held_word (Some (plain w)) = w
  held_word _ = nil

  abbrev pub give_answer : Answer Closure → List Frame → Thread
  give_answer (got w) fs = give w fs
  give_answer a fs = thread over fs

  abbrev pub read_go : Option Slot → Answer Closure → List Frame → Thread
  read_go s done fs = give (held_word s) fs
  read_go s a fs = give_answer a fs

  abbrev pub guard_go : Core → Core → Bindings → Answer Closure → List Frame → Thread
  guard_go a b env (numbered u) fs = descend a env (protecting u b env ∷ fs)
  guard_go a b env _ fs = thread over fs

  abbrev pub bind_go : List Binder → Core → Bindings → Answer Closure → List Frame → Thread
  bind_go bs c env (bound ss) fs = descend c (bind_all bs ss env) fs
  bind_go bs c env _ fs = thread over fs

  abbrev pub call_go : Option Function → Answer Closure → List Frame → Thread
  call_go (Some f) a fs = bind_go (parameters_of f) (body_of f) [] a (returning ∷ fs)
  call_go None a fs = thread over fs

  -- into a closure, or a reply is touched
  abbrev pub funcall_go : ℕ → Answer Closure → List Frame → Thread
  funcall_go at (entered k ss) fs = descend k.body (bind_all k.parameters ss k.env) (returning ∷ fs)
  funcall_go at a fs = give_answer a (replied at ∷ fs)

  abbrev pub mode_go : ℕ → Bounds → Core → Bindings → Answer Closure → List Frame → Thread
  mode_go at bs c env in_line fs = descend (core at (binding bs c)) env fs
  mode_go at bs c env (spawned true states) fs = thread (acting (core at (binding bs c)) env (map future states)) fs
  mode_go at bs c env (spawned false states) fs = thread (joining at bs c env (map future states)) fs
  mode_go at bs c env _ fs = thread over fs

  abbrev pub catch_go : Core → Bindings → Answer Closure → List Frame → Thread
  catch_go c env (numbered n) fs = descend c env (catching n ∷ fs)
  catch_go c env _ fs = thread over fs

  abbrev pub throw_go : Answer Closure → List Frame → Thread
  throw_go (aimed a) fs = unwind_thread (aim_cleanup a fs)
  throw_go _ fs = thread over fs

  abbrev pub branch_go : Word → Core → Core → Bindings → List Frame → Thread
  branch_go w a b env fs = if is_nil w then descend b env fs else descend a env fs

  abbrev pub act_go : ℕ → Node → Bindings → List Word → Answer Closure → List Frame → Thread
  act_go at (setq y o c) env (w ∷ ws) a fs = give w fs
  act_go at (conditional t b c) env (w ∷ ws) a fs = branch_go w b c env fs
  act_go at (binding bs c) env ws a fs = bind_go (binders_in bs) c env a fs
  act_go at (primitive o cs) env ws a fs = give_answer a fs
  act_go at (print c) env (w ∷ ws) a fs = give w fs
  act_go at (call f o cs) env ws a fs = call_go (function_called x.functions f) a fs
  act_go at (funcall i c cs) env ws a fs = funcall_go at a fs
  act_go at (qlet p bs c) env ws a fs = mode_go at bs c env a fs
  act_go at (qlambda p ps c) env ws a fs = give_answer a fs
  act_go at (catch t c) env ws a fs = catch_go c env a fs
  act_go at (qcatch t c) env ws a fs = catch_go c env a fs
  act_go at (throw t c) env ws a fs = throw_go a fs
  act_go at (defvar l o c) env (w ∷ ws) a fs = give w fs
  act_go at n env ws a fs = thread over fs

  -- where a future was touched, its word takes its place
  abbrev pub touch_go : Option ℕ → (List Word → Control) → List Word → Answer Closure → Thread → List Frame → Thread
  touch_go (Some f) again ws (got v) next fs = thread (again (with_value v ws)) fs
  touch_go _ again ws a next fs = next

  abbrev pub core_go : (cleans : Bool) → Core → Bindings → List Word → Answer Closure → List Frame → Thread
  core_go cleans (core at n) env ws a fs =
      touch_go (first_future (touched cleans n x ws)) (acting (core at n) env) ws a (act_go at n env ws a fs) fs

  -- at the base the word of a future takes its place, or the process ends or waits for a call
  abbrev pub base_go : Answer Closure → List Frame → Thread
  base_go (got v) fs = thread (given v) fs
  base_go _ fs = thread over []

  abbrev pub begin_go : ℕ → Word → Core → Bindings → Answer Closure → List Frame → Thread
  begin_go u w c env (numbered floor) fs = descend c env (cleaning u w (record { aim = free; floor = floor }) ∷ fs)
  begin_go u w c env _ fs = thread over fs

  abbrev pub finish_go : Word → Answer Closure → List Frame → Thread
  finish_go w unwinds fs = unwind_thread fs
  finish_go w _ fs = give w fs

  abbrev pub given_go : Word → List Frame → Answer Closure → Thread
  given_go w (returning ∷ fs) a = give w fs
  given_go w (replied at ∷ fs) a = give_answer a (replied at ∷ fs)
  given_go w (catching c ∷ fs) a = give w fs
  given_go w (protecting u c env ∷ fs) a = begin_go u w c env a fs
  given_go w (cleaning u v c ∷ fs) a = finish_go v a fs
  given_go w fs a = base_go a fs

  abbrev pub leave_go : Answer Closure → List Frame → Thread
  leave_go (got w) fs = give w (aim_cleanup free fs)
  leave_go _ fs = unwind_thread fs

  abbrev pub unwinding_go : List Frame → Answer Closure → Thread
  unwinding_go (catching c ∷ fs) a = leave_go a fs
  unwinding_go (protecting u c env ∷ fs) a = begin_go u nil c env a fs
  unwinding_go fs a = thread over []

  abbrev pub go_on : Control → List Frame → Answer Closure → Thread
  go_on (literal f) fs a = give (constant_word x f) fs
  go_on (reading at y env) fs a = read_go (lookup env y) a fs
  go_on (closing k) fs a = give_answer a fs
  go_on (guarding b c env) fs a = guard_go b c env a fs
  go_on (acting c env ws) fs a = core_go (in_cleanup (cleanups_on fs)) c env ws a fs
  go_on (joining at bs c env ws) fs a = touch_go (first_future ws) (joining at bs c env) ws a (bind_go (binders_in bs) c env a fs) fs
  go_on (given w) fs a = given_go w fs a
  go_on unwinding fs a = unwinding_go fs a
  go_on finished fs a = thread over []
  go_on at_rest fs a = thread over fs
  go_on over fs a = thread over fs

  abbrev pub closure_at : Control → Option Closure
  closure_at (closing k) = Some k
  closure_at (acting (core at (qlambda p ps c)) env ws) = Some (record { at = at; parameters = ps; body = c; env = env })
  closure_at _ = None

  -- a child for each value, with the bindings round the `qlet`
  abbrev pub children_of : Bounds → Bindings → List Thread
  children_of no_bounds env = []
  children_of (and_bound b c bs) env = descend c env (child_base (offset_of c) ∷ []) ∷ children_of bs env

  abbrev pub children_at : Control → List Thread
  children_at (acting (core at (qlet p bs c)) env ws) = children_of bs env
  children_at _ = []

  -- the machine that works on the core of a program
  abbrev pub core_machine : Machine Thread Closure
  core_machine = record {
    want = λ t. want_of t.control t.frames;
    go = λ t a. go_on t.control t.frames a;
    cleanups = λ t. cleanups_on t.frames;
    innermost = λ t. innermost_on t.frames;
    unwound = λ t. unwind_thread t.frames;
    closure = λ t. closure_at t.control;
    children = λ t. children_at t.control;
    stored = λ k. stored_among x k.parameters;
    at_rest = λ k. thread at_rest (server_base k.at ∷ []);
    started = λ k ss. descend k.body (bind_all k.parameters ss k.env) (server_base k.at ∷ []);
  }
