-- A running cleanup stays while its process goes on, but at its own finish.
use Rattle.std.proofs.Common.{◌≡◌, ◌⊎◌, ℕ, ◌<◌, ◌≤◌, Bool, true, false, List, [], ◌∷◌, Option, Some, None, refl, sym, ap, ◌∙◌, subst, ⊎_elim, inr, arith, ◌++◌}
use Rattle.ql_expand.specs.Core.{Binder, Core, core, Node, constant, variable, setq, conditional, progn, binding, primitive, print, call, funcall, lambda, qlet, qlambda, catch, qcatch, throw, protect, defvar, Cores, no_cores, and_core, Bounds, no_bounds, and_bound, Function}
use Rattle.ql_world.specs.Word.{is_nil, first_future, nil}
use Rattle.ql_world.specs.declared.word.Word.{Word}
use Rattle.ql_world.specs.declared.word.Word.TheVariants.{Fut as future, Int as integer, Sym as symbol, Pair as pair, Fun as closure, Proc as process_closure}
use Rattle.ql_world.specs.declared.word.Slot.{Slot}
use Rattle.ql_world.specs.declared.world.Aim.{Aim}
use Rattle.ql_world.specs.declared.world.Aim.TheVariants.{Free as free}
use Rattle.ql_world.specs.declared.world.Kind.{Kind}
use Rattle.ql_world.specs.Machine.{Want, awaits, finishes, ends, rests, takes_call, replies, with_word, Answer, done, got, numbered, bound, entered, in_line, spawned, unwinds, aimed}
use Rattle.ql_world.specs.declared.world.Cleanup.{Cleanup}
use Rattle.ql_world.specs.Idle.{in_cleanup}
use Rattle.ql_world.specs.Touch.{await_word}
use Rattle.ql_meaning.specs.Context.{Context, function_called, parameters_of, body_of}
use Rattle.ql_meaning.specs.Control.{descend_node, descend_operands, descend_values, descend_forms, values_in, next_operand, Bindings, Closure, Frame, operands, then_forms, then_tops, returning, replied, catching, protecting, cleaning, child_base, server_base, Control, literal, reading, closing, guarding, acting, joining, given, unwinding, finished, at_rest, over, Thread, descend, bind_all, give, unwind, cleanups_on, aim_cleanup, lookup, touched, give_answer, read_go, guard_go, bind_go, call_go, funcall_go, mode_go, catch_go, throw_go, branch_go, act_go, touch_go, core_go, base_go, begin_go, finish_go, given_go, leave_go, unwinding_go, go_on, want_of}
use Rattle.ql_meaning.specs.Sane.{Mark, cleanup_mark, marks_on, marks_of, cleanups_of, Based}
use Rattle.ql_meaning.proofs.Marks.{aim_based}
use Rattle.ql_meaning.proofs.Threads as threads
use Rattle.ql_meaning.proofs.Threads.{unwind_marks, aim_same}
use Rattle.ql_meaning.proofs.Lists.{cases}
use Rattle.ql_meaning.proofs.LegalWants.{where_finish}

-- catch c is above the floor of a running cleanup
abbrev pub FloorUnder : ℕ → List Cleanup → Type 0
FloorUnder c [] = ⊥
FloorUnder c (k ∷ ks) = (k.floor < c) ⊎ FloorUnder c ks

abbrev pub Under : ℕ → List Frame → Type 0
Under c fs = FloorUnder c (cleanups_on fs)

-- a descent stops at no cleanup
mutual
  descend_cleans : (c : Core) (env : Bindings) (fs : List Frame) → cleanups_on (descend c env fs).frames ≡ cleanups_on fs
  descend_cleans (core at n) env fs = node_cleans n at env fs

  node_cleans : (n : Node) (at : ℕ) (env : Bindings) (fs : List Frame) → cleanups_on (descend_node at n env fs).frames ≡ cleanups_on fs
  node_cleans (constant f) at env fs = refl
  node_cleans (variable x) at env fs = refl
  node_cleans (setq x o c) at env fs = descend_cleans c env (operands (core at (setq x o c)) [] no_cores env ∷ fs)
  node_cleans (conditional a b c) at env fs = descend_cleans a env (operands (core at (conditional a b c)) [] no_cores env ∷ fs)
  node_cleans (progn cs) at env fs = forms_clean cs at env fs
  node_cleans (binding bs c) at env fs = values_clean bs (core at (binding bs c)) env fs
  node_cleans (primitive o cs) at env fs = operands_clean cs (core at (primitive o cs)) env fs
  node_cleans (print c) at env fs = descend_cleans c env (operands (core at (print c)) [] no_cores env ∷ fs)
  node_cleans (call f o cs) at env fs = operands_clean cs (core at (call f o cs)) env fs
  node_cleans (funcall i c cs) at env fs = descend_cleans c env (operands (core at (funcall i c cs)) [] cs env ∷ fs)
  node_cleans (lambda ps c) at env fs = refl
  node_cleans (qlet p bs c) at env fs = descend_cleans p env (operands (core at (qlet p bs c)) [] no_cores env ∷ fs)
  node_cleans (qlambda p ps c) at env fs = descend_cleans p env (operands (core at (qlambda p ps c)) [] no_cores env ∷ fs)
  node_cleans (catch a b) at env fs = descend_cleans a env (operands (core at (catch a b)) [] no_cores env ∷ fs)
  node_cleans (qcatch a b) at env fs = descend_cleans a env (operands (core at (qcatch a b)) [] no_cores env ∷ fs)
  node_cleans (throw a b) at env fs = descend_cleans a env (operands (core at (throw a b)) [] (and_core b no_cores) env ∷ fs)
  node_cleans (protect a b) at env fs = refl
  node_cleans (defvar l o c) at env fs = descend_cleans c env (operands (core at (defvar l o c)) [] no_cores env ∷ fs)

  operands_clean : (cs : Cores) (whole : Core) (env : Bindings) (fs : List Frame) → cleanups_on (descend_operands whole cs env fs).frames ≡ cleanups_on fs
  operands_clean no_cores whole env fs = refl
  operands_clean (and_core c cs) whole env fs = descend_cleans c env (operands whole [] cs env ∷ fs)

  values_clean : (bs : Bounds) (whole : Core) (env : Bindings) (fs : List Frame) → cleanups_on (descend_values whole bs env fs).frames ≡ cleanups_on fs
  values_clean no_bounds whole env fs = refl
  values_clean (and_bound b c bs) whole env fs = descend_cleans c env (operands whole [] (values_in bs) env ∷ fs)

  forms_clean : (cs : Cores) (at : ℕ) (env : Bindings) (fs : List Frame) → cleanups_on (descend_forms at cs env fs).frames ≡ cleanups_on fs
  forms_clean no_cores at env fs = refl
  forms_clean (and_core c cs) at env fs = last_or c cs at env fs (descend_cleans c)

  last_or : (c : Core) (cs : Cores) (at : ℕ) (env : Bindings) (fs : List Frame) → ((env : Bindings) (fs : List Frame) → cleanups_on (descend c env fs).frames ≡ cleanups_on fs) → cleanups_on (descend_forms at (and_core c cs) env fs).frames ≡ cleanups_on fs
  last_or c no_cores at env fs h = h env fs
  last_or c (and_core d ds) at env fs h = h env (then_forms (and_core d ds) env ∷ fs)

module _ (c : ℕ) where
  under_same : (fs gs : List Frame) → cleanups_on gs ≡ cleanups_on fs → Under c fs → Under c gs
  under_same fs gs e u = subst (FloorUnder c) (sym e) u

  descend_under : (d : Core) (env : Bindings) (fs : List Frame) → Under c fs → Under c (descend d env fs).frames
  descend_under d env fs u = under_same fs (descend d env fs).frames (descend_cleans d env fs) u

  next_under : (whole : Core) (ws : List Word) (cs : Cores) (env : Bindings) (fs : List Frame) → Under c fs → Under c (next_operand whole ws cs env fs).frames
  next_under whole ws no_cores env fs u = u
  next_under whole ws (and_core d ds) env fs u = descend_under d env (operands whole ws ds env ∷ fs) u

  nothing_under : (fs : List Frame) → marks_on fs ≡ [] → Under c fs → ⊥
  nothing_under fs e u = subst (FloorUnder c) (sym (threads.cleanups_same fs) ∙ ap cleanups_of e) u

  give_under : (kind : Kind) (w : Word) (fs : List Frame) → Based kind (marks_on fs) → Under c fs → Under c (give w fs).frames
  give_under kind w [] b u = absurd b
  give_under kind w (operands whole ws cs env ∷ fs) b u = next_under whole (ws ++ w ∷ []) cs env fs u
  give_under kind w (then_forms cs env ∷ fs) b u = under_same fs (descend_forms 0 cs env fs).frames (forms_clean cs 0 env fs) u
  give_under kind w (then_tops cs ∷ fs) b u = absurd (nothing_under fs b.1 u)
  give_under kind w (returning ∷ fs) b u = u
  give_under kind (integer z) (replied at ∷ fs) b u = give_under kind (integer z) fs b u
  give_under kind (symbol n) (replied at ∷ fs) b u = give_under kind (symbol n) fs b u
  give_under kind (pair n) (replied at ∷ fs) b u = give_under kind (pair n) fs b u
  give_under kind (closure n) (replied at ∷ fs) b u = give_under kind (closure n) fs b u
  give_under kind (process_closure n) (replied at ∷ fs) b u = give_under kind (process_closure n) fs b u
  give_under kind (future n) (replied at ∷ fs) b u = u
  give_under kind w (catching d ∷ fs) b u = u
  give_under kind w (protecting v d env ∷ fs) b u = u
  give_under kind w (cleaning v y k ∷ fs) b u = u
  give_under kind w (child_base at ∷ fs) b u = u
  give_under kind w (server_base at ∷ fs) b u = u

  unwind_under : (fs : List Frame) → Under c fs → Under c (unwind fs)
  unwind_under fs u = under_same fs (unwind fs) (sym (threads.cleanups_same (unwind fs)) ∙ ap cleanups_of (unwind_marks fs) ∙ threads.cleanups_same fs) u

  aim_under : (a : Aim) (fs : List Frame) → Under c fs → Under c (aim_cleanup a fs)
  aim_under a [] u = u
  aim_under a (operands d ws cs env ∷ fs) u = aim_under a fs u
  aim_under a (then_forms cs env ∷ fs) u = aim_under a fs u
  aim_under a (then_tops cs ∷ fs) u = aim_under a fs u
  aim_under a (returning ∷ fs) u = aim_under a fs u
  aim_under a (replied at ∷ fs) u = aim_under a fs u
  aim_under a (catching d ∷ fs) u = aim_under a fs u
  aim_under a (protecting v d env ∷ fs) u = aim_under a fs u
  aim_under a (cleaning v w k ∷ fs) u = u
  aim_under a (child_base at ∷ fs) u = aim_under a fs u
  aim_under a (server_base at ∷ fs) u = aim_under a fs u

-- the thread goes on otherwise after these
abbrev pub is_gone : Want → Bool
is_gone (finishes v) = true
is_gone (ends ending) = true
is_gone takes_call = true
is_gone (replies w) = true
is_gone rests = true
is_gone want = false

-- an awaited word is the only answer to an await
abbrev pub Fits : Want → Answer Closure → Type 0
Fits (awaits f at) (got w) = Unit {0}
Fits (awaits f at) a = ⊥
Fits want a = Unit {0}

module _ (x : Context) (n : ℕ) (kind : Kind) where
  answer_under : (a : Answer Closure) (fs : List Frame) → Based kind (marks_on fs) → Under n fs → Under n (give_answer x a fs).frames
  answer_under (got w) fs b u = give_under n kind w fs b u
  answer_under a fs b u = u

  read_under : (s : Option Slot) (a : Answer Closure) (fs : List Frame) → Based kind (marks_on fs) → Under n fs → Under n (read_go x s a fs).frames
  read_under s done fs b u = give_under n kind _ fs b u
  read_under s (got w) fs b u = give_under n kind w fs b u
  read_under s a fs b u = u

  guard_under : (d e : Core) (env : Bindings) (a : Answer Closure) (fs : List Frame) → Under n fs → Under n (guard_go x d e env a fs).frames
  guard_under d e env (numbered v) fs u = descend_under n d env (protecting v e env ∷ fs) u
  guard_under d e env a fs u = u

  bind_under : (bs : List Binder) (d : Core) (env : Bindings) (a : Answer Closure) (fs : List Frame) → Under n fs → Under n (bind_go x bs d env a fs).frames
  bind_under bs d env (bound ss) fs u = descend_under n d (bind_all bs ss env) fs u
  bind_under bs d env a fs u = u

  call_under : (f : Option Function) (a : Answer Closure) (fs : List Frame) → Under n fs → Under n (call_go x f a fs).frames
  call_under (Some f) a fs u = bind_under (parameters_of f) (body_of f) [] a (returning ∷ fs) u
  call_under None a fs u = u

  funcall_under : (at : ℕ) (a : Answer Closure) (fs : List Frame) → Based kind (marks_on fs) → Under n fs → Under n (funcall_go x at a fs).frames
  funcall_under at (entered k ss) fs b u = descend_under n k.body (bind_all k.parameters ss k.env) (returning ∷ fs) u
  funcall_under at (got w) fs b u = give_under n kind w (replied at ∷ fs) b u
  funcall_under at a fs b u = u

  mode_under : (at : ℕ) (bs : Bounds) (d : Core) (env : Bindings) (a : Answer Closure) (fs : List Frame) → Under n fs → Under n (mode_go x at bs d env a fs).frames
  mode_under at bs d env in_line fs u = descend_under n (core at (binding bs d)) env fs u
  mode_under at bs d env (spawned true states) fs u = u
  mode_under at bs d env (spawned false states) fs u = u
  mode_under at bs d env a fs u = u

  catch_under : (d : Core) (env : Bindings) (a : Answer Closure) (fs : List Frame) → Under n fs → Under n (catch_go x d env a fs).frames
  catch_under d env (numbered m) fs u = descend_under n d env (catching m ∷ fs) u
  catch_under d env a fs u = u

  throw_under : (a : Answer Closure) (fs : List Frame) → Under n fs → Under n (throw_go x a fs).frames
  throw_under (aimed a) fs u = unwind_under n (aim_cleanup a fs) (aim_under n a fs u)
  throw_under a fs u = u

  branch_under : (w : Word) (d e : Core) (env : Bindings) (fs : List Frame) → Under n fs → Under n (branch_go x w d e env fs).frames
  branch_under w d e env fs u = ⊎_elim (λ (t : is_nil w ≡ true). rw t (descend_under n e env fs u)) (λ (t : is_nil w ≡ false). rw t (descend_under n d env fs u)) (cases (is_nil w))

  act_under : (at : ℕ) (d : Node) (env : Bindings) (ws : List Word) (a : Answer Closure) (fs : List Frame) → Based kind (marks_on fs) → Under n fs → Under n (act_go x at d env ws a fs).frames
  act_under at (setq y o c) env (w ∷ ws) a fs b u = give_under n kind w fs b u
  act_under at (conditional t c d) env (w ∷ ws) a fs b u = branch_under w c d env fs u
  act_under at (binding bs c) env ws a fs b u = bind_under _ c env a fs u
  act_under at (primitive o cs) env ws a fs b u = answer_under a fs b u
  act_under at (print c) env (w ∷ ws) a fs b u = give_under n kind w fs b u
  act_under at (call f o cs) env ws a fs b u = call_under (function_called x.functions f) a fs u
  act_under at (funcall i c cs) env ws a fs b u = funcall_under at a fs b u
  act_under at (qlet p bs c) env ws a fs b u = mode_under at bs c env a fs u
  act_under at (qlambda p ps c) env ws a fs b u = answer_under a fs b u
  act_under at (catch t c) env ws a fs b u = catch_under c env a fs u
  act_under at (qcatch t c) env ws a fs b u = catch_under c env a fs u
  act_under at (throw t c) env ws a fs b u = throw_under a fs u
  act_under at (defvar l o c) env (w ∷ ws) a fs b u = give_under n kind w fs b u
  act_under at d env ws a fs b u = u

  touch_under : (o : Option ℕ) (again : List Word → Control) (ws : List Word) (a : Answer Closure) (next : Thread) (fs : List Frame) → Under n fs → Under n next.frames → Under n (touch_go x o again ws a next fs).frames
  touch_under (Some f) again ws (got v) next fs u h = u
  touch_under o again ws a next fs u h = h

  begin_under : (v : ℕ) (w : Word) (d : Core) (env : Bindings) (a : Answer Closure) (fs : List Frame) → Under n fs → Under n (begin_go x v w d env a fs).frames
  begin_under v w d env (numbered floor) fs u = descend_under n d env (cleaning v w (record { aim = free; floor = floor }) ∷ fs) (inr u)
  begin_under v w d env a fs u = u

  leave_under : (a : Answer Closure) (fs : List Frame) → Based kind (marks_on fs) → Under n fs → Under n (leave_go x a fs).frames
  leave_under (got w) fs b u = give_under n kind w (aim_cleanup free fs) (subst (Based kind) (sym (aim_same free fs)) (aim_based free kind (marks_on fs) b)) (aim_under n free fs u)
  leave_under a fs b u = unwind_under n fs u

  base_under : (w : Word) (at : ℕ) (want : Want) (a : Answer Closure) (fs : List Frame) → is_gone want ≡ true → is_gone (await_word w at want) ≡ false → Fits (await_word w at want) a → Under n fs → Under n (base_go x a fs).frames
  base_under (future f) at want (got v) fs g h t u = u
  base_under (future f) at want a fs g h t u = absurd t
  base_under w at want a fs g h t u = let bad : true ≡ false = sym g ∙ h in absurd cc

  core_under : (cleans : Bool) (d : Core) (env : Bindings) (ws : List Word) (a : Answer Closure) (fs : List Frame) → Based kind (marks_on fs) → Under n fs → Under n (core_go x cleans d env ws a fs).frames
  core_under cleans (core at m) env ws a fs b u = touch_under (first_future (touched cleans m x ws)) _ ws a (act_go x at m env ws a fs) fs u (act_under at m env ws a fs b u)

  given_under : (w : Word) (fs : List Frame) (a : Answer Closure) → Based kind (marks_on fs) → is_gone (want_of x (given w) fs) ≡ false → Fits (want_of x (given w) fs) a → Under n fs → Under n (given_go x w fs a).frames
  given_under w [] a b g t u = absurd cc
  given_under w (operands c ws cs env ∷ fs) a b g t u = absurd cc
  given_under w (then_forms cs env ∷ fs) a b g t u = absurd cc
  given_under w (then_tops cs ∷ fs) a b g t u = absurd cc
  given_under w (returning ∷ fs) a b g t u = give_under n kind w fs b u
  given_under w (replied at ∷ fs) a b g t u = answer_under a (replied at ∷ fs) b u
  given_under w (catching c ∷ fs) a b g t u = give_under n kind w fs b u
  given_under w (protecting v c env ∷ fs) a b g t u = begin_under v w c env a fs u
  given_under w (cleaning v y c ∷ fs) a b g t u = absurd cc
  given_under w (child_base at ∷ fs) a b g t u = base_under w at (ends (with_word w)) a (child_base at ∷ fs) refl g t u
  given_under w (server_base at ∷ fs) a b g t u = base_under w at (replies w) a (server_base at ∷ fs) refl g t u

  unwinding_under : (fs : List Frame) (a : Answer Closure) → Based kind (marks_on fs) → is_gone (want_of x unwinding fs) ≡ false → Under n fs → Under n (unwinding_go x fs a).frames
  unwinding_under [] a b g u = absurd cc
  unwinding_under (operands c ws cs env ∷ fs) a b g u = absurd cc
  unwinding_under (then_forms cs env ∷ fs) a b g u = absurd cc
  unwinding_under (then_tops cs ∷ fs) a b g u = absurd cc
  unwinding_under (returning ∷ fs) a b g u = absurd cc
  unwinding_under (replied at ∷ fs) a b g u = absurd cc
  unwinding_under (catching c ∷ fs) a b g u = leave_under a fs b u
  unwinding_under (protecting v c env ∷ fs) a b g u = begin_under v nil c env a fs u
  unwinding_under (cleaning v y c ∷ fs) a b g u = absurd cc
  unwinding_under (child_base at ∷ fs) a b g u = absurd cc
  unwinding_under (server_base at ∷ fs) a b g u = absurd cc

  pub go_under : (c : Control) (fs : List Frame) (a : Answer Closure) → Based kind (marks_of c fs) → is_gone (want_of x c fs) ≡ false → Fits (want_of x c fs) a → Under n fs → Under n (go_on x c fs a).frames
  go_under (literal f) fs a b g t u = give_under n kind _ fs b u
  go_under (reading at y env) fs a b g t u = read_under (lookup env y) a fs b u
  go_under (closing k) fs a b g t u = answer_under a fs b u
  go_under (guarding d e env) fs a b g t u = guard_under d e env a fs u
  go_under (acting d env ws) fs a b g t u = core_under (in_cleanup (cleanups_on fs)) d env ws a fs b u
  go_under (joining at bs d env ws) fs a b g t u = touch_under (first_future ws) _ ws a _ fs u (bind_under _ d env a fs u)
  go_under (given w) fs a b g t u = given_under w fs a b g t u
  go_under unwinding fs a b g t u = unwinding_under fs a b g u
  go_under finished fs a b g t u = absurd cc
  go_under at_rest fs a b g t u = absurd cc
  go_under over fs a b g t u = absurd cc

  -- at a finish the cleanups below stay
  pub finish_under : (w : Word) (a : Answer Closure) (fs : List Frame) → Based kind (marks_on fs) → Under n fs → Under n (finish_go x w a fs).frames
  finish_under w unwinds fs b u = unwind_under n fs u
  finish_under w a fs b u = give_under n kind w fs b u

  pub finish_goes : (c : Control) (fs : List Frame) (v : ℕ) (a : Answer Closure) → want_of x c fs ≡ finishes v → Based kind (marks_of c fs) → ((k : Cleanup) (ms : List Mark) → marks_of c fs ≡ cleanup_mark v k ∷ ms → n ≤ k.floor) → Under n fs → Under n (go_on x c fs a).frames
  finish_goes c fs v a e b h u =
      let w = where_finish x c fs v e in
      subst (λ (z : Control). Under n (go_on x z fs a).frames) (sym w.4)
      (subst (λ (z : List Frame). Under n (go_on x (given w.0) z a).frames) (sym w.5)
      (finished_over w.0 w.1 w.2 w.3 (subst (λ (z : List Frame). Based kind (marks_on z)) w.5 (subst (λ (z : Control). Based kind (marks_of z fs)) w.4 b)) (h w.2 (marks_on w.3) (ap (λ (z : Control). marks_of z fs) w.4 ∙ ap marks_on w.5)) (subst (Under n) w.5 u)))
    where
      finished_over : (w y : Word) (k : Cleanup) (gs : List Frame) → Based kind (marks_on gs) → n ≤ k.floor → (k.floor < n) ⊎ Under n gs → Under n (finish_go x y a gs).frames
      finished_over w y k gs b l u = ⊎_elim (λ t. absurd (omega (arith, l, t))) (λ t. finish_under y a gs b t) u
